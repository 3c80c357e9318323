-- What effects make of what is measured at cells, and whom they let wait.
use Rattle.std.proofs.Common.{ℕ, ◌≡◌, ◌≤◌, ◌<◌, ◌+◌, ◌-◌, ◌*◌, ◌/◌, ◌%◌, ◌∙◌, ◌⊎◌, inl, inr, suc, Bool, true}
use Rattle.std.proofs.Common.{false, cond, Option, Some, None, List, [], ◌∷◌, take, get_or, length, slice_get, slice_index}
use Rattle.std.proofs.Common.{refl, sym, ap, subst, arith, nat_lt, sum_by}
use Rattle.std.specs.List.{range_with_len}
use Rattle.std.specs.Option.{option_map_or}
use Rattle.std.proofs.lemmas.Bool.{cases_lt, eq-eqb, eqb-true, true≢false, false≢true}
use Rattle.std.proofs.lemmas.List.{take_all}
use Rattle.std.proofs.lemmas.Option.{none-some, slice_get_within}
use Rattle.khe_base.proofs.BitsLemmas.{has_bit-zero, is_set-place}
use Rattle.khe_base.specs.Bits.{has_bit, is_set}
use Rattle.khe_base.specs.declared.limits.TheConstants.{GREATEST_DEVIATION}
use Rattle.khe_base.specs.declared.numbers.ResourceId.{ResourceId}
use Rattle.khe_instance.proofs.MadeLemmas.{constraint_made, monitor_made}
use Rattle.khe_instance.proofs.ResourceBounds.{measured-small}
use Rattle.khe_instance.specs.Deviation.{deviation_at, measured}
use Rattle.khe_instance.specs.Kinds.{kind_of}
use Rattle.khe_instance.specs.Running.{running_tasks}
use Rattle.khe_instance.specs.Watching.{is_at}
use Rattle.khe_instance.specs.WellMade.{AreWellMade, IsMonitor}
use Rattle.khe_instance.specs.declared.parts.Parts.{Parts}
use Rattle.khe_instance.specs.declared.points.Monitor.{Monitor}
use Rattle.khe_instance.specs.declared.points.Point.TheVariants.{Resource}
use Rattle.khe_instance.specs.declared.rules.Constraint.{Constraint}
use Rattle.khe_instance.specs.declared.rules.Kind.{Kind}
use Rattle.khe_instance.specs.declared.rules.Rule.{Rule}
use Rattle.khe_instance.specs.declared.rules.Rule.TheVariants.{AvoidClashes, AvoidUnavailableTimes, LimitIdleTimes}
use Rattle.khe_instance.specs.declared.rules.Rule.TheVariants.{ClusterBusyTimes, LimitBusyTimes}
use Rattle.khe_told.specs.Agreement.{deviation_in}
use Rattle.khe_told.specs.Effects.{AreTurns, effects_of, turned_all}
use Rattle.khe_told.specs.Fits.{AreTold}
use Rattle.khe_told.specs.Lists.{duties_in, meets_in}
use Rattle.khe_told.specs.Turns.{IsTurn, SlotTurn, turned}
use Rattle.khe_told.specs.Waits.{AreUnmoved, WaitOn}
use Rattle.khe_told.specs.declared.slots.Slot.{Slot}
use Rattle.resource_monitors.specs.Cells.{HasRows, given_to, in_run, is_at_cells, is_by_busy}
use Rattle.resource_monitors.specs.Effects.{AreCellsSettled, IsPlaceSettled, IsSettled, is_changed}
use Rattle.resource_monitors.specs.Posts.{AreAdded, post, posts_of}
use Rattle.resource_monitors.specs.Runs.{cells_of, run_of}
use Rattle.resource_monitors.specs.declared.posts.Post.{Post}
use Rattle.resource_monitors.specs.declared.runs.Run.{Run}
use Rattle.timetables.specs.Counts.{count_at, row_of}
use Rattle.resource_monitors.specs.Shifts.{AreShifts, CanShift, IsBelow, after_both}
use Rattle.resource_monitors.specs.declared.shifts.Shifts.{Shifts}
use Rattle.resource_monitors.proofs.ClashShiftLaws.{off_times, row_beyond}
use Rattle.resource_monitors.proofs.ShiftLaws.{can_shift}
use Rattle.resource_monitors.proofs.ExchangeLaws.{cells_more, cells_none}
use Rattle.resource_monitors.proofs.FamilyLaws.{given_or_not}
use Rattle.resource_monitors.proofs.FollowLaws.{exchanged}
use Rattle.resource_monitors.proofs.MeasureLaws.{at_resource, measured_busy, measured_same}
use Rattle.resource_monitors.proofs.StateLaws.{tasks_few}
use Rattle.resource_monitors.proofs.TurnLaws.{cell_in}
use Rattle.resource_monitors.proofs.WaitLaws.{posted}

-- a word as a row of bits
pub row_bits : (word : ℕ) (c : ℕ → ℕ) → ((i : ℕ) → i < 64 → has_bit word i ≡ nat_lt 0 (c i))
    → ((t : ℕ) → 64 ≤ t → c t ≡ 0) → (t : ℕ) → is_set (word ∷ []) t ≡ nat_lt 0 (c t)
row_bits word c bits beyond t = by (cases_lt t 64)
  where
    far : (k i : ℕ) → has_bit (slice_index (word ∷ []) (suc k)) i ≡ false
    far k i = has_bit-zero i

    by : (t < 64) ⊎ (64 ≤ t) → is_set (word ∷ []) t ≡ nat_lt 0 (c t)
    by (inl l) = ap (is_set (word ∷ [])) (let e : t ≡ 64 * 0 + t = omega arith in e) ∙ is_set-place (word ∷ []) 0 t l
        ∙ bits t l
    by (inr l) = ap (λ k. has_bit (slice_index (word ∷ []) k) (t % 64))
        (let e : t / 64 ≡ suc (t / 64 - 1) = omega (arith, l) in e) ∙ far (t / 64 - 1) (t % 64)
        ∙ sym (ap (nat_lt 0) (beyond t l))

-- the deviation is what is measured of the counts
pub deviation_is : (p : Parts) (s : List Slot) (m : Monitor) (k : Constraint) (r : ResourceId) (c : ℕ → ℕ)
    → IsMonitor p m → is_at_cells m.kind ≡ true → slice_get p.constraints m.constraint ≡ Some k
    → m.point ≡ Resource r → ((t : ℕ) → c t ≡ running_tasks (duties_in s) r.0 t)
    → deviation_in p s m ≡ measured p k.rule c 0
deviation_is p s m k r c (d, there, kind, point) served ruled at counts =
    ap (λ o. option_map_or (λ (x : Constraint). deviation_at p (meets_in s) (duties_in s) x.rule m.point) o 0) there
    ∙ ap (deviation_at p (meets_in s) (duties_in s) d.rule) at
    ∙ measured_same (running_tasks (duties_in s) r.0) c p _ 0 d.rule (ap is_at_cells (sym kind) ∙ served)
    (λ t _. sym (counts t))
    ∙ ap (λ o. option_map_or (λ (x : Constraint). measured p x.rule c 0) o 0) (sym there ∙ ruled)

pub deviation_small : (p : Parts) → AreWellMade p → (s : List Slot) → AreTold p s → (m : Monitor) → IsMonitor p m
    → is_at_cells m.kind ≡ true → deviation_in p s m ≤ GREATEST_DEVIATION
deviation_small p made s told m is served =
    let at = at_resource p m is served in
    subst (λ n. n ≤ GREATEST_DEVIATION)
    (sym (deviation_is p s m is.0 at.0 (running_tasks (duties_in s) at.0.0) is served is.1 at.1 (λ t. refl)))
    (measured-small p (running_tasks (duties_in s) at.0.0) 0 made.limits made.unit.positive
    (tasks_few p made s told at.0.0) (omega arith) is.0.rule (constraint_made p made m.constraint is.0 is.1).rule)

-- the state after turns is told
pub told_after : (p : Parts) (s : List Slot) (ts : List SlotTurn) → AreTurns p s ts → AreTold p (turned_all s ts)
told_after p s [] turns = turns
told_after p s (t ∷ ts) turns = told_after p (turned s t) ts turns.1

-- where neither busy times nor clashes are others, nor is the deviation
module _ (p : Parts) (made : AreWellMade p) (served : Kind → Bool)
    (cells : (k : Kind) → served k ≡ true → is_at_cells k ≡ true) (s s2 : List Slot) where
  pub settled_by : (q : ℕ) (c d : ℕ → ℕ) → ((t : ℕ) → c t ≡ running_tasks (duties_in s) q t)
      → ((t : ℕ) → d t ≡ running_tasks (duties_in s2) q t) → (busy clashes : Bool)
      → (busy ≡ false → (t : ℕ) → nat_lt 0 (d t) ≡ nat_lt 0 (c t))
      → (clashes ≡ false → sum_by (λ t. d t - 1) (range_with_len 0 (length p.times))
      ≡ sum_by (λ t. c t - 1) (range_with_len 0 (length p.times)))
      → (i : ℕ) (m : Monitor) → slice_get p.monitors i ≡ Some m → served m.kind ≡ true → is_at m.point q ≡ true
      → is_changed m.kind busy clashes ≡ false → deviation_in p s2 m ≡ deviation_in p s m
  settled_by q c d before after busy clashes same_busy same_clashes i m there serves own none =
      let is = monitor_made p made i m there in
      let kind = cells m.kind serves in
      let at = at_resource p m is kind in
      let e : at.0.0 ≡ q = eqb-true at.0.0 q (sym (ap (λ x. is_at x q) at.1) ∙ own) in
      deviation_is p s2 m is.0 at.0 d is kind is.1 at.1
      (λ t. after t ∙ ap (λ n. running_tasks (duties_in s2) n t) (sym e))
      ∙ by is.0.rule (ap is_at_cells (sym is.2) ∙ kind) (ap (λ k. is_changed k busy clashes) (sym is.2) ∙ none)
      ∙ sym (deviation_is p s m is.0 at.0 c is kind is.1 at.1
      (λ t. before t ∙ ap (λ n. running_tasks (duties_in s) n t) (sym e)))
    where
      by : (rule : Rule) → is_at_cells (kind_of rule) ≡ true → is_changed (kind_of rule) busy clashes ≡ false
          → measured p rule d 0 ≡ measured p rule c 0
      by AvoidClashes k n = same_clashes n
      by (AvoidUnavailableTimes times) k n =
          measured_busy d c p 0 0 (AvoidUnavailableTimes times) refl (λ t _. same_busy n t)
      by (LimitIdleTimes groups a b) k n =
          measured_busy d c p 0 0 (LimitIdleTimes groups a b) refl (λ t _. same_busy n t)
      by (ClusterBusyTimes groups a b) k n =
          measured_busy d c p 0 0 (ClusterBusyTimes groups a b) refl (λ t _. same_busy n t)
      by (LimitBusyTimes groups a b) k n =
          measured_busy d c p 0 0 (LimitBusyTimes groups a b) refl (λ t _. same_busy n t)
      by _ k n = absurd (false≢true k)

  -- who is not queued of a resource's list is settled
  pub list_settled : (r : ResourceId) (list : List Post) → list ≡ posts_of served p.monitors r.0
      → (c d : ℕ → ℕ) → ((t : ℕ) → c t ≡ running_tasks (duties_in s) r.0 t)
      → ((t : ℕ) → d t ≡ running_tasks (duties_in s2) r.0 t) → (busy clashes : Bool)
      → (busy ≡ false → (t : ℕ) → nat_lt 0 (d t) ≡ nat_lt 0 (c t))
      → (clashes ≡ false → sum_by (λ t. d t - 1) (range_with_len 0 (length p.times))
      ≡ sum_by (λ t. c t - 1) (range_with_len 0 (length p.times)))
      → (old new : ℕ → Bool) → AreAdded (λ m. is_changed m.kind busy clashes) list (length list) old new
      → IsSettled p served s s2 r.0 new
  list_settled r list is_list c d before after busy clashes same_busy same_clashes old new added i m there serves own
      idle = settled_by r.0 c d before after busy clashes same_busy same_clashes i m there serves own
      (by (is_changed m.kind busy clashes) refl)
    where
      by : (b : Bool) → is_changed m.kind busy clashes ≡ b → is_changed m.kind busy clashes ≡ false
      by false e = e
      by true e =
          let at = at_resource p m (monitor_made p made i m there) (cells m.kind serves) in
          let same : at.0.0 ≡ r.0 = eqb-true at.0.0 r.0 (sym (ap (λ x. is_at x r.0) at.1) ∙ own) in
          let f = posted p served r.0 at.0 i m there serves at.1 same in
          let g : slice_get list f.0 ≡ Some (post i m) = ap (λ xs. slice_get xs f.0) is_list ∙ f.1 in
          absurd (true≢false (sym (added.each f.0 (post i m) (slice_get_within list f.0 (post i m) g) g e) ∙ idle))

  settled_on : (q : ℕ) (old new : ℕ → Bool) → WaitOn old new → IsSettled p served s s2 q old
      → IsSettled p served s s2 q new
  settled_on q old new on h i m there serves own idle = h i m there serves own (by (old i) refl)
    where
      by : (b : Bool) → old i ≡ b → old i ≡ false
      by false e = e
      by true e = absurd (true≢false (sym (on i e) ∙ idle))

  settled_or_none : (o : Option ResourceId) (run : Option Run) (q : ℕ) (waits : ℕ → Bool)
      → IsPlaceSettled p served s s2 o waits
      → ((u : ℕ) → cells_of run (o ∷ []) q u ≡ 0) ⊎ IsSettled p served s s2 q waits
  settled_or_none o run q waits h = by (given_or_not o (record { 0 = q }))
    where
      none : (x : Option Run) (u : ℕ) → given_to q (o ∷ []) ≡ 0 → cells_of x (o ∷ []) q u ≡ 0
      none None u z = refl
      none (Some y) u z = ap (λ n. cond (in_run y.start y.end u) n 0) z ∙ zeros (in_run y.start y.end u)
        where
          zeros : (b : Bool) → cond {A = ℕ} b 0 0 ≡ 0
          zeros true = refl
          zeros false = refl

      by : (o ≡ Some (record { 0 = q })) ⊎ (given_to q (o ∷ []) ≡ 0)
          → ((u : ℕ) → cells_of run (o ∷ []) q u ≡ 0) ⊎ IsSettled p served s s2 q waits
      by (inl e) = inr (h (record { 0 = q }) e)
      by (inr z) = inl (λ u. none run u z)

  -- place by place
  module _ (emptied filled : Option Run) (before later : List (Option ResourceId)) where
    pub settled_none : (waits : ℕ → Bool)
        → AreCellsSettled p served s s2 emptied filled (take 0 before) (take 0 later) waits
    settled_none waits q = inl (λ u. cells_none emptied q u ∙ sym (cells_none filled q u))

    pub settled_more : (k : ℕ) → k < length before → k < length later → (old new : ℕ → Bool) → WaitOn old new
        → (o n : Option ResourceId) → o ≡ get_or before k None → n ≡ get_or later k None
        → ((emptied ≡ filled) × (o ≡ n))
        ⊎ (IsPlaceSettled p served s s2 o new × IsPlaceSettled p served s s2 n new)
        → AreCellsSettled p served s s2 emptied filled (take k before) (take k later) old
        → AreCellsSettled p served s s2 emptied filled (take (k + 1) before) (take (k + 1) later) new
    settled_more k l m old new on o n is_old is_new other h q = join (h q) (at other)
      where
        at : ((emptied ≡ filled) × (o ≡ n))
            ⊎ (IsPlaceSettled p served s s2 o new × IsPlaceSettled p served s s2 n new)
            → ((u : ℕ) → cells_of emptied (get_or before k None ∷ []) q u
            ≡ cells_of filled (get_or later k None ∷ []) q u) ⊎ IsSettled p served s s2 q new
        at (inl (e, same)) = inl (λ u i. cells_of (e i) ((sym is_old ∙ same ∙ is_new) i ∷ []) q u)
        at (inr (first, second)) = by
            (settled_or_none (get_or before k None) emptied q new (λ r is. first r (is_old ∙ is)))
            (settled_or_none (get_or later k None) filled q new (λ r is. second r (is_new ∙ is)))
          where
            by : ((u : ℕ) → cells_of emptied (get_or before k None ∷ []) q u ≡ 0) ⊎ IsSettled p served s s2 q new
                → ((u : ℕ) → cells_of filled (get_or later k None ∷ []) q u ≡ 0) ⊎ IsSettled p served s s2 q new
                → ((u : ℕ) → cells_of emptied (get_or before k None ∷ []) q u
                ≡ cells_of filled (get_or later k None ∷ []) q u) ⊎ IsSettled p served s s2 q new
            by (inr a) b = inr a
            by (inl a) (inr b) = inr b
            by (inl a) (inl b) = inl (λ u. a u ∙ sym (b u))

        join : ((u : ℕ) → cells_of emptied (take k before) q u ≡ cells_of filled (take k later) q u)
            ⊎ IsSettled p served s s2 q old
            → ((u : ℕ) → cells_of emptied (get_or before k None ∷ []) q u
            ≡ cells_of filled (get_or later k None ∷ []) q u) ⊎ IsSettled p served s s2 q new
            → ((u : ℕ) → cells_of emptied (take (k + 1) before) q u ≡ cells_of filled (take (k + 1) later) q u)
            ⊎ IsSettled p served s s2 q new
        join (inr a) b = inr (settled_on q old new on a)
        join (inl a) (inr b) = inr b
        join (inl a) (inl b) = inl (λ u. cells_more emptied before k q u l
            ∙ (λ i. a u i + b u i) ∙ sym (cells_more filled later k q u m))

    pub settled_last : (k : ℕ) → length before ≤ k → length later ≡ length before → (waits : ℕ → Bool)
        → AreCellsSettled p served s s2 emptied filled (take k before) (take k later) waits
        → AreCellsSettled p served s s2 emptied filled before later waits
    settled_last k l same waits h =
        subst (λ xs. AreCellsSettled p served s s2 emptied filled xs later waits) (take_all k before l)
        (subst (λ xs. AreCellsSettled p served s s2 emptied filled (take k before) xs waits)
        (take_all k later (omega (arith, l, same))) h)

  cells_settled_on : (emptied filled : Option Run) (before later : List (Option ResourceId)) (old new : ℕ → Bool)
      → WaitOn old new → AreCellsSettled p served s s2 emptied filled before later old
      → AreCellsSettled p served s s2 emptied filled before later new
  cells_settled_on emptied filled before later old new on h q = by (h q)
    where
      by : ((u : ℕ) → cells_of emptied before q u ≡ cells_of filled later q u) ⊎ IsSettled p served s s2 q old
          → ((u : ℕ) → cells_of emptied before q u ≡ cells_of filled later q u) ⊎ IsSettled p served s s2 q new
      by (inl a) = inl a
      by (inr a) = inr (settled_on q old new on a)

  -- the counts of a resource are the same, or its monitors are settled
  unmoved_or : (waits : ℕ → Bool)
      → ((q : ℕ) → ((u : ℕ) → running_tasks (duties_in s2) q u ≡ running_tasks (duties_in s) q u)
      ⊎ IsSettled p served s s2 q waits) → AreUnmoved p served waits s s2
  unmoved_or waits h i m there serves idle =
      let is = monitor_made p made i m there in
      let at = at_resource p m is (cells m.kind serves) in
      by at.0 at.1 (h at.0.0)
    where
      own : (r : ResourceId) → m.point ≡ Resource r → is_at m.point r.0 ≡ true
      own r e = ap (λ x. is_at x r.0) e ∙ eq-eqb r.0 r.0 refl

      never : (k : Kind) → is_changed k false false ≡ false
      never k = at (is_by_busy k)
        where
          at : (b : Bool) → cond b false false ≡ false
          at true = refl
          at false = refl

      by : (r : ResourceId) → m.point ≡ Resource r
          → ((u : ℕ) → running_tasks (duties_in s2) r.0 u ≡ running_tasks (duties_in s) r.0 u)
          ⊎ IsSettled p served s s2 r.0 waits → deviation_in p s2 m ≡ deviation_in p s m
      by r e (inr a) = a i m there serves (own r e) idle
      by r e (inl a) = settled_by r.0 (running_tasks (duties_in s) r.0) (running_tasks (duties_in s2) r.0)
          (λ t. refl) (λ t. refl) false false (λ _ t. ap (nat_lt 0) (a t))
          (λ _ i. sum_by (λ t. a t i - 1) (range_with_len 0 (length p.times)))
          i m there serves (own r e) (never m.kind)

  -- one effect or two
  turn_same : (x : List Slot) (t : SlotTurn) → IsTurn p x t → (q : ℕ)
      → ((u : ℕ) → cells_of (run_of t.before.span) t.before.given q u
      ≡ cells_of (run_of t.after.span) t.after.given q u) → (u : ℕ)
      → running_tasks (duties_in (turned x t)) q u ≡ running_tasks (duties_in x) q u
  turn_same x t turns q same u =
      let a = exchanged p made x t turns q u in
      let b : cell_in t.before q u ≡ cell_in t.after q u = same u in
      omega (arith, a, b)

  pub first_settled : (t : SlotTurn) (ts : List SlotTurn) → effects_of t None ≡ ts → s2 ≡ turned_all s ts
      → AreTurns p s ts → (waits : ℕ → Bool)
      → AreCellsSettled p served s s2 (run_of t.before.span) (run_of t.after.span) t.before.given t.after.given waits
      → AreUnmoved p served waits s s2
  first_settled t ts e then turns waits h = unmoved_or waits (λ q. by q (h q))
    where
      one : AreTurns p s (t ∷ [])
      one = subst (AreTurns p s) (sym e) turns

      is : s2 ≡ turned s t
      is = then ∙ ap (turned_all s) (sym e)

      by : (q : ℕ) → ((u : ℕ) → cells_of (run_of t.before.span) t.before.given q u
          ≡ cells_of (run_of t.after.span) t.after.given q u) ⊎ IsSettled p served s s2 q waits
          → ((u : ℕ) → running_tasks (duties_in s2) q u ≡ running_tasks (duties_in s) q u)
          ⊎ IsSettled p served s s2 q waits
      by q (inr a) = inr a
      by q (inl a) = inl (λ u. ap (λ x. running_tasks (duties_in x) q u) is ∙ turn_same s t one.0 q a u)

  pub both_settled : (t v : SlotTurn) (ts : List SlotTurn) → effects_of t (Some v) ≡ ts → s2 ≡ turned_all s ts
      → AreTurns p s ts → (mid waits : ℕ → Bool)
      → AreCellsSettled p served s s2 (run_of t.before.span) (run_of t.after.span) t.before.given t.after.given mid
      → WaitOn mid waits
      → AreCellsSettled p served s s2 (run_of v.before.span) (run_of v.after.span) v.before.given v.after.given waits
      → AreUnmoved p served waits s s2
  both_settled t v ts e then turns mid waits h on k = unmoved_or waits (λ q. by q
      (cells_settled_on (run_of t.before.span) (run_of t.after.span) t.before.given t.after.given mid waits on h q)
      (k q))
    where
      two : AreTurns p s (t ∷ v ∷ [])
      two = subst (AreTurns p s) (sym e) turns

      is : s2 ≡ turned (turned s t) v
      is = then ∙ ap (turned_all s) (sym e)

      by : (q : ℕ) → ((u : ℕ) → cells_of (run_of t.before.span) t.before.given q u
          ≡ cells_of (run_of t.after.span) t.after.given q u) ⊎ IsSettled p served s s2 q waits
          → ((u : ℕ) → cells_of (run_of v.before.span) v.before.given q u
          ≡ cells_of (run_of v.after.span) v.after.given q u) ⊎ IsSettled p served s s2 q waits
          → ((u : ℕ) → running_tasks (duties_in s2) q u ≡ running_tasks (duties_in s) q u)
          ⊎ IsSettled p served s s2 q waits
      by q (inr a) b = inr a
      by q (inl a) (inr b) = inr b
      by q (inl a) (inl b) = inl (λ u. ap (λ x. running_tasks (duties_in x) q u) is
          ∙ turn_same (turned s t) v two.1.0 q b u ∙ turn_same s t two.0 q a u)

-- from the last time on no count is above 0
pub beyond_row : (p : Parts) (rows : List (List ℕ)) (r : ℕ) (xs : Shifts) → HasRows p rows → r < length p.resources
    → length p.times ≤ 64 → CanShift xs (length p.times) (count_at rows r) → (t : ℕ) → 64 ≤ t
    → after_both xs (count_at rows r) t ≡ 0
beyond_row p rows r xs has l few can t far =
    off_times xs (length p.times) (count_at rows r) can t (omega (arith, few, far))
    ∙ row_beyond (row_of rows r) t (let e = has.times r l in omega (arith, e, few, far))

-- counts can be shifted, at the length of their row
pub can_here : (p : Parts) → AreWellMade p → (s : List Slot) (ts : List SlotTurn) (rows : List (List ℕ)) (r : ℕ)
    (xs : Shifts) → AreTurns p s ts → HasRows p rows → r < length p.resources
    → ((q t : ℕ) → count_at rows q t ≡ running_tasks (duties_in s) q t) → AreShifts ts r xs
    → IsBelow xs.first (length p.times) → IsBelow xs.second (length p.times)
    → CanShift xs (length p.times) (count_at rows r)
can_here p made s ts rows r xs turns has l counts is one two =
    can_shift p made r xs (count_at rows r) s ts turns is (counts r) (length p.times) one two

pub can_row : (p : Parts) (rows : List (List ℕ)) (r : ℕ) (xs : Shifts) → HasRows p rows → r < length p.resources
    → CanShift xs (length p.times) (count_at rows r) → CanShift xs (length (row_of rows r)) (count_at rows r)
can_row p rows r xs has l can = subst (λ n. CanShift xs n (count_at rows r)) (sym (has.times r l)) can

-- a place, or none
pub other_known : (o given : Option ResourceId) (n : ℕ) → (o ≡ None) ⊎ (o ≡ given)
    → ((r : ResourceId) → given ≡ Some r → r.0 < n) → (r : ResourceId) → o ≡ Some r → r.0 < n
other_known o given n (inl e) h r is = absurd (none-some r (sym e ∙ is))
other_known o given n (inr e) h r is = h r (sym e ∙ is)

pub places_settled : (p : Parts) → AreWellMade p → (served : Kind → Bool)
    → ((k : Kind) → served k ≡ true → is_at_cells k ≡ true) → (s s2 : List Slot) (emptied filled : Option Run)
    (o n from to : Option ResourceId) (mid new : ℕ → Bool) (moves : Bool) → (moves ≡ false → emptied ≡ filled)
    → ((moves ≡ false) × (o ≡ n)) ⊎ (from ≡ o) → ((moves ≡ false) × (o ≡ n)) ⊎ (to ≡ n)
    → IsPlaceSettled p served s s2 from mid → WaitOn mid new → IsPlaceSettled p served s s2 to new
    → ((emptied ≡ filled) × (o ≡ n))
    ⊎ (IsPlaceSettled p served s s2 o new × IsPlaceSettled p served s s2 n new)
places_settled p made served cells s s2 emptied filled o n from to mid new moves still (inl a) b first on second =
    inl (still a.0, a.1)
places_settled p made served cells s s2 emptied filled o n from to mid new moves still (inr a) (inl b) first on second =
    inl (still b.0, b.1)
places_settled p made served cells s s2 emptied filled o n from to mid new moves still (inr a) (inr b) first on second =
    inr (
      (λ r is. settled_on p made served cells s s2 r.0 mid new on (first r (a ∙ is))),
      (λ r is. second r (b ∙ is)),
    )

pub resource_known : (p : Parts) (m : Monitor) → IsMonitor p m → is_at_cells m.kind ≡ true → (r : ResourceId)
    → m.point ≡ Resource r → r.0 < length p.resources
resource_known p m is kind r h =
    let at = at_resource p m is kind in
    let e : at.0.0 ≡ r.0 = eqb-true at.0.0 r.0 (sym (ap (λ x. is_at x r.0) at.1) ∙ ap (λ x. is_at x r.0) h
    ∙ eq-eqb r.0 r.0 refl) in
    let l = at.2 in
    omega (arith, e, l)

-- the same word has the same busy times
pub word_same : (p : Parts) (rows : List (List ℕ)) (r : ℕ) (xs : Shifts) → HasRows p rows → r < length p.resources
    → length p.times ≤ 64 → CanShift xs (length p.times) (count_at rows r) → (before after : ℕ)
    → ((i : ℕ) → i < 64 → has_bit before i ≡ nat_lt 0 (count_at rows r i))
    → ((i : ℕ) → i < 64 → has_bit after i ≡ nat_lt 0 (after_both xs (count_at rows r) i)) → before ≡ after → (t : ℕ)
    → nat_lt 0 (after_both xs (count_at rows r) t) ≡ nat_lt 0 (count_at rows r t)
word_same p rows r xs has l few can before after bits bits_then same t =
    sym (row_bits after (after_both xs (count_at rows r)) bits_then (beyond_row p rows r xs has l few can) t)
    ∙ ap (λ w. is_set (w ∷ []) t) (sym same)
    ∙ row_bits before (count_at rows r) bits
    (λ u far. row_beyond (row_of rows r) u (let e = has.times r l in omega (arith, e, few, far))) t
