-- What the wishes of a task cost with a resource, by two numbers of each monitor.
use Rattle.std.proofs.Common.{ℕ, ◌≡◌, ◌+◌, ◌≤◌, ◌<◌, Bool, true, false, cond, Option, Some, None}
use Rattle.std.proofs.Common.{List, [], ◌∷◌, length, get_or, slice_get, sum_by, refl, sym, ap, ◌∙◌, arith}
use Rattle.std.specs.Prelude.{All, not}
use Rattle.std.specs.List.{filter}
use Rattle.std.specs.Option.{option_map, option_map_or}
use Rattle.std.proofs.lemmas.Bool.{and_parts, le-ltb, true≢false}
use Rattle.std.proofs.lemmas.Option.{same_Some, slice_get_within}
use Rattle.khe_base.proofs.ListLemmas.{sum-mapped}
use Rattle.khe_base.specs.Costs.{cost_of}
use Rattle.khe_base.specs.declared.limits.TheConstants.{GREATEST_DEVIATION}
use Rattle.khe_base.specs.declared.numbers.ResourceId.{ResourceId}
use Rattle.khe_base.specs.declared.numbers.TaskId.{TaskId}
use Rattle.khe_engine.specs.States.{State}
use Rattle.khe_engine.specs.Values.{costs, deviations_in}
use Rattle.khe_instance.specs.Costs.{is_hard, is_hard_at, monitor_cost}
use Rattle.khe_instance.specs.Deviation.{deviation_at}
use Rattle.khe_instance.specs.WellMade.{AreWellMade}
use Rattle.khe_instance.specs.declared.parts.Parts.{Parts}
use Rattle.khe_instance.specs.declared.points.Monitor.{Monitor}
use Rattle.khe_instance.specs.declared.points.Point.{Point}
use Rattle.khe_instance.specs.declared.points.Point.TheVariants.{Event, EventResource, EventGroup, EventPair, Resource}
use Rattle.khe_instance.specs.declared.rules.Constraint.{Constraint}
use Rattle.khe_instance.specs.declared.rules.Rule.{Rule}
use Rattle.khe_instance.specs.declared.rules.Rule.TheVariants.{PreferResources}
use Rattle.khe_instance.proofs.MadeLemmas.{monitor_made}
use Rattle.khe_solution.specs.Refusing.{refusal}
use Rattle.khe_told.specs.Agreement.{deviation_in}
use Rattle.khe_told.specs.Fits.{AreTold}
use Rattle.khe_told.specs.Lists.{duties_in, meets_in}
use Rattle.khe_told.specs.Slots.{length_of, slot_at}
use Rattle.khe_told.specs.Valid.{AreValid}
use Rattle.khe_told.specs.declared.edits.Edit.TheVariants.{Give}
use Rattle.khe_told.specs.declared.slots.Slot.{Slot}
use Rattle.monitor_graph.specs.Edits.{is_attached}
use Rattle.time_match.specs.Alike.{IsBare, is_preference, prefers, prefers_at}
use Rattle.time_match.specs.Leaders.{IsLikeness, is_preference_at, preferences}
use Rattle.time_match.specs.Parted.{all_numbers, costs_given, prefers_number}
use Rattle.time_match.specs.Wishes.{AreWishes, capped, cost_more, is_in, is_preferred, off_in, prefers_place, wish_at}
use Rattle.time_match.specs.Wishes.{wish_cost}
use Rattle.time_match.specs.Wishes.{wished, wishes_among, wishes_in}
use Rattle.time_match.specs.declared.likenesses.Likeness.{Likeness}
use Rattle.time_match.specs.declared.wishes.Wish.{Wish}
use Rattle.time_match.proofs.AlikeLaws.{preferred, with_it}
use Rattle.time_match.proofs.FourLaws.{cost_is, sum_left}
use Rattle.time_match.proofs.TotalsLaws.{deviation_in_small, staffed_told}

-- a filter of a filter that leaves whatever it leaves
pub filter_within : {X : Type 0} (f g : X → Bool) → ((x : X) → f x ≡ true → g x ≡ true) → (xs : List X)
    → filter f (filter g xs) ≡ filter f xs
filter_within f g h [] = refl
filter_within f g h (x ∷ xs) = by (g x) refl (filter_within f g h xs)
  where
    off : (b : Bool) → f x ≡ b → g x ≡ false → f x ≡ false
    off true k e = absurd (true≢false (sym (h x k) ∙ e))
    off false k e = k

    by : (c : Bool) → g x ≡ c → filter f (filter g xs) ≡ filter f xs
        → filter f (cond c (x ∷ filter g xs) (filter g xs)) ≡ cond (f x) (x ∷ filter f xs) (filter f xs)
    by true e rest = ap (λ ys. cond (f x) (x ∷ ys) ys) rest
    by false e rest = rest ∙ sym (ap (λ c. cond c (x ∷ filter f xs) (filter f xs)) (off (f x) refl e))

-- sums over what passes a test, which agree there
sum_passed : (f g : ℕ → ℕ) (test : ℕ → Bool) (ns : List ℕ) → ((n : ℕ) → test n ≡ true → f n ≡ g n)
    → sum_by f (filter test ns) ≡ sum_by g (filter test ns)
sum_passed f g test ns h =
    sum_left f test ns ∙ (λ i. sum_by (λ n. same (test n) n refl i) ns) ∙ sym (sum_left g test ns)
  where
    same : (c : Bool) (n : ℕ) → test n ≡ c → cond c (f n) 0 ≡ cond c (g n) 0
    same true n e = h n e
    same false n e = refl

capped_small : (d : ℕ) → d ≤ GREATEST_DEVIATION → capped d ≡ d
capped_small d l = ap (λ c. cond c GREATEST_DEVIATION d) (le-ltb GREATEST_DEVIATION d l)

module _ (p : Parts) (b : State) (t : TaskId) (r : ResourceId) (bare : IsBare b.slots t) where
  abbrev s : List Slot
  s = b.slots

  abbrev then : List Slot
  then = with_it b.slots t r

  abbrev lasts : ℕ
  lasts = length_of (slot_at b.slots t.meet.0)

  abbrev event : ℕ
  event = (slot_at b.slots t.meet.0).event.0

  -- what a resource changes of a deviation
  at_rule : (rule : Rule) (point : Point) → prefers_at rule point event t.place ≡ true
      → deviation_at p (meets_in then) (duties_in then) rule point
      ≡ deviation_at p (meets_in s) (duties_in s) rule point + cond (is_in rule r) 0 lasts
  at_rule rule (Event e) h = absurd (true≢false (sym h))
  at_rule rule (EventGroup g) h = absurd (true≢false (sym h))
  at_rule rule (EventPair k) h = absurd (true≢false (sym h))
  at_rule rule (Resource y) h = absurd (true≢false (sym h))
  at_rule (PreferResources set role) (EventResource e place) h = preferred s t bare e.0 place set r h
  at_rule _ (EventResource e place) h = absurd (true≢false (sym h))

  deviates : (m : Monitor) → prefers p s t m ≡ true
      → deviation_in p then m ≡ deviation_in p s m + cond (is_preferred p m.constraint r) 0 lasts
  deviates m h = by (slice_get p.constraints m.constraint) h
    where
      by : (o : Option Constraint) → option_map_or (λ (c : Constraint). prefers_at c.rule m.point event t.place) o false
          ≡ true
          → option_map_or (λ (c : Constraint). deviation_at p (meets_in then) (duties_in then) c.rule m.point) o 0
          ≡ option_map_or (λ (c : Constraint). deviation_at p (meets_in s) (duties_in s) c.rule m.point) o 0
          + cond (option_map_or (λ (c : Constraint). is_in c.rule r) o false) 0 lasts
      by None h2 = absurd (true≢false (sym h2))
      by (Some c) h2 = at_rule c.rule m.point h2

  -- a cost by a deviation that grew or not
  by_growth : (f : ℕ → ℕ) (c : Bool) (x y : ℕ) → y ≡ x + cond c 0 lasts → y ≤ GREATEST_DEVIATION
      → f y ≡ cond c (f x) (f (capped (x + lasts)))
  by_growth f true x y e l = let z : y ≡ x = omega (arith, e) in ap f z
  by_growth f false x y e l =
      let z : x + lasts ≤ GREATEST_DEVIATION = omega (arith, e, l) in
      ap f (e ∙ sym (capped_small (x + lasts) z))

inside_is : (p : Parts) (b : State) (n : ℕ) → get_or (costs p b) n 0
    ≡ option_map_or (λ (m : Monitor). monitor_cost p (off_in b n) m (deviation_in p b.slots m)) (slice_get p.monitors n)
    0
unfolding deviations_in
inside_is p b n = cost_is p (off_in b) b.slots n

-- what a monitor that has preferences among a task's resources costs with one
wish_is : (p : Parts) (b : State) (t : TaskId) (r : ResourceId) (n : ℕ) → IsBare b.slots t → AreWellMade p
    → AreTold p (with_it b.slots t r) → prefers_number p b.slots t n ≡ true
    → wish_cost p r (wish_at p b (length_of (slot_at b.slots t.meet.0)) n)
    ≡ get_or (costs_given p (off_in b) b.slots t r) n 0
wish_is p b t r n bare made told h =
    ap (λ k. cond (is_preferred p (option_map_or (λ (m : Monitor). m.constraint) (slice_get p.monitors n) 0) r) k
    (option_map_or (λ (m : Monitor). monitor_cost p (off_in b n) m
    (capped (deviation_in p b.slots m + lasts p b t r bare)))
    (slice_get p.monitors n) 0)) (inside_is p b n)
    ∙ by (slice_get p.monitors n) refl h ∙ sym (cost_is p (off_in b) (with_it b.slots t r) n)
  where
    by : (o : Option Monitor) → slice_get p.monitors n ≡ o → option_map_or (prefers p b.slots t) o false ≡ true
        → cond (is_preferred p (option_map_or (λ (m : Monitor). m.constraint) o 0) r)
        (option_map_or (λ (m : Monitor). monitor_cost p (off_in b n) m (deviation_in p b.slots m)) o 0)
        (option_map_or (λ (m : Monitor). monitor_cost p (off_in b n) m
        (capped (deviation_in p b.slots m + lasts p b t r bare))) o 0)
        ≡ option_map_or (λ (m : Monitor). monitor_cost p (off_in b n) m (deviation_in p (with_it b.slots t r) m)) o 0
    by None e h2 = absurd (true≢false (sym h2))
    by (Some m) e h2 =
        sym (by_growth p b t r bare (monitor_cost p (off_in b n) m) (is_preferred p m.constraint r)
        (deviation_in p b.slots m)
        (deviation_in p (with_it b.slots t r) m) (deviates p b t r bare m h2)
        (deviation_in_small p (with_it b.slots t r) m made told (monitor_made p made n m e)))

-- what prefers some of its resources prefers some
is_one : (p : Parts) (e k n : ℕ) → prefers_place p e k n ≡ true → is_preference_at p n ≡ true
is_one p e k n h = at_monitor (slice_get p.monitors n) h
  where
    at_point : (rule : Rule) (point : Point) → prefers_at rule point e k ≡ true → is_preference rule ≡ true
    at_point rule (Event x) g = absurd (true≢false (sym g))
    at_point rule (EventGroup x) g = absurd (true≢false (sym g))
    at_point rule (EventPair x) g = absurd (true≢false (sym g))
    at_point rule (Resource x) g = absurd (true≢false (sym g))
    at_point rule (EventResource x place) g = (and_parts _ _ g).0

    at_constraint : (point : Point) (o : Option Constraint)
        → option_map_or (λ (c : Constraint). prefers_at c.rule point e k) o false ≡ true
        → option_map_or (λ (c : Constraint). is_preference c.rule) o false ≡ true
    at_constraint point None g = absurd (true≢false (sym g))
    at_constraint point (Some c) g = at_point c.rule point g

    at_monitor : (o : Option Monitor)
        → option_map_or (λ (m : Monitor). option_map_or (λ (c : Constraint). prefers_at c.rule m.point e k)
        (slice_get p.constraints m.constraint) false) o false ≡ true
        → option_map_or (λ (m : Monitor). option_map_or (λ (c : Constraint). is_preference c.rule)
        (slice_get p.constraints m.constraint) false) o false ≡ true
    at_monitor None g = absurd (true≢false (sym g))
    at_monitor (Some m) g = at_constraint m.point (slice_get p.constraints m.constraint) g

-- the wishes of a task, as they are read
wishes_with_one : (p : Parts) (b : State) (t : TaskId) (r : ResourceId) → IsBare b.slots t → AreWellMade p
    → AreTold p (with_it b.slots t r)
    → wished p (wishes_among p b (slot_at b.slots t.meet.0).event.0 t.place (length_of (slot_at b.slots t.meet.0))
    (preferences p)) r ≡ wishes_in p b t r
wishes_with_one p b t r bare made told =
    let at = wish_at p b (length_of (slot_at b.slots t.meet.0)) in
    let test = prefers_number p b.slots t in
    let among = filter_within test (is_preference_at p)
    (is_one p (slot_at b.slots t.meet.0).event.0 t.place) (all_numbers p) in
    let hard : Wish → ℕ = λ w. cond w.required (wish_cost p r w) 0 in
    let soft : Wish → ℕ = λ w. cond w.required 0 (wish_cost p r w) in
    let each = λ (n : ℕ) (h : test n ≡ true). wish_is p b t r n bare made told h in
    let x = sum-mapped hard at (filter test (preferences p)) ∙ ap (sum_by (λ n. hard (at n))) among
    ∙ sum_passed (λ n. hard (at n)) (λ n. cond (is_hard_at p n) (get_or (costs_given p (off_in b) b.slots t r) n 0) 0)
    test (all_numbers p) (λ n h. ap (λ k. cond (is_hard_at p n) k 0) (each n h)) in
    let y = sum-mapped soft at (filter test (preferences p)) ∙ ap (sum_by (λ n. soft (at n))) among
    ∙ sum_passed (λ n. soft (at n)) (λ n. cond (is_hard_at p n) 0 (get_or (costs_given p (off_in b) b.slots t r) n 0))
    test (all_numbers p) (λ n h. ap (λ k. cond (is_hard_at p n) 0 k) (each n h)) in
    λ i. record { hard = x i; soft = y i }

pub wishes_are : (p : Parts) (b : State) (x : Likeness) (rs : List ResourceId) (ns : List ℕ) (ws : List Wish)
    → IsLikeness p b.slots x → IsBare b.slots x.task → AreWellMade p → AreValid p b.slots
    → All (λ r. refusal p b.slots (Give x.task r) ≡ None) rs → ns ≡ preferences p
    → ws ≡ wishes_among p b x.event.0 x.task.place x.duration ns → AreWishes p b x.task rs ws
wishes_are p b x rs ns ws like bare made valid may all are k d l =
    let r = get_or rs k d in
    let own : ws ≡ wishes_among p b (slot_at b.slots x.task.meet.0).event.0 x.task.place
    (length_of (slot_at b.slots x.task.meet.0)) (preferences p) =
    are ∙ (λ i. wishes_among p b (sym like.event i).0 x.task.place (sym like.duration i) (all i)) in
    ap (λ xs. wished p xs r) own
    ∙ wishes_with_one p b x.task r bare made (staffed_told p b x.task r made valid (may k d l))

-- a wish as it is read, and the cost of a monitor that deviated by more
pub wish_read : (p : Parts) (b : State) (more n : ℕ) (m : Monitor) (required : Bool) (inside outside : ℕ)
    → slice_get p.monitors n ≡ Some m → required ≡ is_hard p m → inside ≡ get_or (costs p b) n 0
    → outside ≡ cost_more p b more n
    → (let w : Wish = record { constraint = m.constraint; required = required; inside = inside; outside = outside } in
    w)
    ≡ wish_at p b more n
wish_read p b more n m required inside outside at e f g = λ i. record {
  constraint = option_map_or (λ (x : Monitor). x.constraint) (sym at i) 0;
  required = (e ∙ ap (λ o. option_map_or (is_hard p) o false) (sym at)) i;
  inside = f i;
  outside = g i;
}

pub more_detached : (p : Parts) (b : State) (more n : ℕ) (m : Monitor) → slice_get p.monitors n ≡ Some m
    → is_attached b.grouping n ≡ false → 0 ≡ cost_more p b more n
more_detached p b more n m at h =
    sym (ap (λ o. option_map_or (λ (x : Monitor). monitor_cost p (off_in b n) x
    (capped (deviation_in p b.slots x + more))) o 0) at
    ∙ ap (λ a. monitor_cost p (not a) m (capped (deviation_in p b.slots m + more))) h)

pub more_attached : (p : Parts) (b : State) (more n : ℕ) (m : Monitor) (c : Constraint) (d e r : ℕ)
    → slice_get p.monitors n ≡ Some m → is_attached b.grouping n ≡ true
    → slice_get p.constraints m.constraint ≡ Some c
    → option_map (deviation_in p b.slots) (slice_get p.monitors n) ≡ Some d → e ≡ capped (d + more)
    → r ≡ cost_of c.cost c.weight e → r ≡ cost_more p b more n
more_attached p b more n m c d e r at h there own is cost =
    let same : deviation_in p b.slots m ≡ d =
    same_Some (deviation_in p b.slots m) d (sym (ap (option_map (deviation_in p b.slots)) at) ∙ own) in
    cost ∙ ap (cost_of c.cost c.weight) (is ∙ ap (λ k. capped (k + more)) (sym same))
    ∙ sym (ap (λ o. option_map_or (λ (x : Monitor). monitor_cost p (off_in b n) x
    (capped (deviation_in p b.slots x + more))) o 0) at
    ∙ ap (λ a. monitor_cost p (not a) m (capped (deviation_in p b.slots m + more))) h
    ∙ ap (λ o. option_map_or (λ (x : Constraint). cost_of x.cost x.weight (capped (deviation_in p b.slots m + more)))
    o 0) there)

-- a monitor that prefers some resources is there
pub prefers_there : (p : Parts) (e k n : ℕ) → prefers_place p e k n ≡ true → n < length p.monitors
prefers_there p e k n h = by (slice_get p.monitors n) refl h
  where
    by : (o : Option Monitor) → slice_get p.monitors n ≡ o
        → option_map_or (λ (m : Monitor). option_map_or (λ (c : Constraint). prefers_at c.rule m.point e k)
        (slice_get p.constraints m.constraint) false) o false ≡ true → n < length p.monitors
    by None at g = absurd (true≢false (sym g))
    by (Some m) at g = slice_get_within p.monitors n m at
