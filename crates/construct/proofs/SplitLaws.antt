-- The meets that an event is cut into keep all bounds of its Split Events constraints, where any durations do.
use Rattle.std.proofs.Common.{ℕ, zero, suc, ◌≡◌, ◌↔◌, ◌+◌, ◌-◌, ◌<◌, ◌≤◌, Bool, true, false, ◌||◌, cond, Option, Some, None, IfSome}
use Rattle.std.proofs.Common.{List, [], ◌∷◌, ◌++◌, length, map, set, slice_get, refl, sym, ap, subst, ◌∙◌, arith, inl, inr}
use Rattle.std.specs.Prelude.{All, sum, is_some, nat_lt, nat_eq}
use Rattle.std.specs.List.{cons_option, count_by, filter, filter_map, fold, range_with_len, sum_by}
use Rattle.std.specs.Option.{option_and_then, option_map, option_map_or}
use Rattle.std.proofs.Math.Seq.{map-set_same}
use Rattle.std.proofs.lemmas.Bool.{both_ways, cases_eq, cases_lt, eq-eqb, eqb-true, le-ltb, lt-ltb, ne_eqb, or_from}
use Rattle.std.proofs.lemmas.List.{length-map, map-append}
use Rattle.std.proofs.lemmas.List.Elements.{All-nil, All-cons, All-head, All-tail}
use Rattle.std.proofs.lemmas.List.Sums.{sum_by-cons}
use Rattle.std.proofs.lemmas.Option.{none-some, same_Some}
use Rattle.construct.proofs.BegunLaws.{amount_at, each_case}
use Rattle.construct.proofs.CutLaws.{IsAllowed, IsAmount, least_found}
use Rattle.construct.proofs.KeepLaws.{allowed_keeps, at_least_one, keeps_all, keeps_allowed, keeps_each, keeps_widest}
use Rattle.construct.proofs.LookLaws.{kept_if_lower, least_among}
use Rattle.construct.specs.Begun.{begun, begun_from, begun_of, begun_slot, begun_slots}
use Rattle.construct.specs.Choices.{assigns, gives, is_accepted, least, lowered, lowering}
use Rattle.construct.specs.Constructed.{constructed, staffed, timed}
use Rattle.construct.specs.Cuts.{Keeps, amount_of, bounds_in, bounds_of, is_event, least_amount, narrowed, part, parts}
use Rattle.construct.specs.Cuts.{set_by, widest}
use Rattle.construct.specs.Orders.{order, tasks_of}
use Rattle.construct.specs.declared.bounds.Bounds.{Bounds}
use Rattle.khe_base.specs.Bounds.{count_outside}
use Rattle.khe_base.specs.BoundsLaws.{count_outside_is}
use Rattle.khe_base.proofs.ListLemmas.{all-there}
use Rattle.khe_base.specs.declared.numbers.EventId.{EventId}
use Rattle.khe_base.specs.declared.numbers.TaskId.{TaskId}
use Rattle.khe_base.specs.declared.numbers.TimeId.{TimeId}
use Rattle.khe_engine.proofs.StateLaws.{edited_meets}
use Rattle.khe_engine.specs.Openings.{IsStateOf}
use Rattle.khe_engine.specs.States.{State, edited}
use Rattle.khe_instance.specs.Deviation.{deviation_at}
use Rattle.khe_instance.specs.EventDeviation.{is_unfit, split_events}
use Rattle.khe_instance.specs.Running.{meets_of}
use Rattle.khe_instance.specs.WellMade.{AreWellMade, IsEvent}
use Rattle.khe_instance.specs.declared.parts.EventInfo.{EventInfo}
use Rattle.khe_instance.specs.declared.parts.Parts.{Parts}
use Rattle.khe_instance.specs.declared.points.Monitor.{Monitor}
use Rattle.khe_instance.specs.declared.points.Point.{Point}
use Rattle.khe_instance.specs.declared.points.Point.TheVariants.{Event, EventResource, EventGroup, EventPair, Resource}
use Rattle.khe_instance.specs.declared.rules.Constraint.{Constraint}
use Rattle.khe_instance.specs.declared.rules.Rule.{Rule}
use Rattle.khe_instance.specs.declared.rules.Rule.TheVariants.{AssignTime, AssignResource, SplitEvents}
use Rattle.khe_instance.specs.declared.rules.Rule.TheVariants.{DistributeSplitEvents, PreferTimes, PreferResources}
use Rattle.khe_instance.specs.declared.rules.Rule.TheVariants.{AvoidSplitAssignments, SpreadEvents, LinkEvents}
use Rattle.khe_instance.specs.declared.rules.Rule.TheVariants.{OrderEvents, AvoidClashes, AvoidUnavailableTimes}
use Rattle.khe_instance.specs.declared.rules.Rule.TheVariants.{LimitIdleTimes, ClusterBusyTimes, LimitBusyTimes}
use Rattle.khe_instance.specs.declared.rules.Rule.TheVariants.{LimitWorkload}
use Rattle.khe_instance.specs.declared.states.Duty.{Duty}
use Rattle.khe_instance.specs.declared.states.Meet.{Meet}
use Rattle.khe_solution.specs.Editing as editing
use Rattle.khe_told.specs.Agreement.{deviation_in}
use Rattle.khe_told.specs.Lists.{duties_in, meets_in}
use Rattle.khe_told.specs.Slots.{no_slot, slot_at}
use Rattle.khe_told.specs.declared.edits.Edit.{Edit}
use Rattle.khe_told.specs.declared.edits.Edit.TheVariants.{Assign, Give}
use Rattle.khe_told.specs.declared.slots.Slot.{Slot}
use Rattle.khe_told.specs.declared.slots.Span.{Span}

-- the event of a slot's meet with how long it lasts
abbrev span_said : ℕ → Option Span → Option (ℕ × ℕ)
span_said e None = None
span_said e (Some y) = Some (e, y.duration)

abbrev said : Slot → Option (ℕ × ℕ)
said x = span_said x.event.0 x.span

-- how long the meets of an event last, by that
abbrev own : ℕ → List (Option (ℕ × ℕ)) → List ℕ
own e [] = []
own e (None ∷ rest) = own e rest
own e (Some x ∷ rest) = cond (nat_eq x.0 e) (x.1 ∷ own e rest) (own e rest)

abbrev durations : ℕ → List Meet → List ℕ
durations e ms = map (λ (m : Meet). m.duration) (meets_of e ms)

map_cond : (b : Bool) (m : Meet) (ms : List Meet)
    → map (λ (x : Meet). x.duration) (cond b (m ∷ ms) ms)
    ≡ cond b (m.duration ∷ map (λ (x : Meet). x.duration) ms) (map (λ (x : Meet). x.duration) ms)
map_cond true m ms = refl
map_cond false m ms = refl

slot_own : (e : ℕ) (x : Slot) (xs : List Slot) (o : Option Span) → durations e (meets_in xs) ≡ own e (map said xs)
    → durations e (meets_in (record x { span = o } ∷ xs)) ≡ own e (span_said x.event.0 o ∷ map said xs)
slot_own e x xs None h = h
slot_own e x xs (Some y) h =
    map_cond (nat_eq x.event.0 e) (record { meet = x.meet; event = x.event; duration = y.duration; start = y.start })
    (meets_of e (meets_in xs))
    ∙ ap (λ ds. cond (nat_eq x.event.0 e) (y.duration ∷ ds) ds) h

durations_said : (e : ℕ) (s : List Slot) → durations e (meets_in s) ≡ own e (map said s)
durations_said e [] = refl
durations_said e (x ∷ xs) = slot_own e x xs x.span (durations_said e xs)

-- edits of starts and resources leave that as it is
start_said : (e : ℕ) (o : Option Span) (t : Option TimeId)
    → span_said e (option_map (λ (y : Span). record y { start = t }) o) ≡ span_said e o
start_said e None t = refl
start_said e (Some y) t = refl

assign_said : (s : State) (m t : ℕ)
    → map said (edited s (Assign (record { 0 = m }) (record { 0 = t }))).slots ≡ map said s.slots
unfolding editing.edited
assign_said s m t =
    let x = slot_at s.slots m in
    ap (λ (u : State). map said u.slots) (edited_meets s (Assign (record { 0 = m }) (record { 0 = t })) refl)
    ∙ map-set_same said s.slots m (editing.with_start x (Some (record { 0 = t }))) no_slot
    (start_said x.event.0 x.span (Some (record { 0 = t })))

give_said : (s : State) (k : TaskId) (r : ℕ)
    → map said (edited s (Give k (record { 0 = r }))).slots ≡ map said s.slots
unfolding editing.edited
give_said s k r =
    let x = slot_at s.slots k.meet.0 in
    ap (λ (u : State). map said u.slots) (edited_meets s (Give k (record { 0 = r })) refl)
    ∙ map-set_same said s.slots k.meet.0 (editing.with_resource x k.place (Some (record { 0 = r }))) no_slot refl

abbrev IsQuiet : Edit → Type 0
IsQuiet e = (s : State) → map said (edited s e).slots ≡ map said s.slots

filter_quiet : (test : Edit → Bool) (es : List Edit) → All IsQuiet es → All IsQuiet (filter test es)
filter_quiet test [] h = All-nil IsQuiet
filter_quiet test (e ∷ es) h = by (test e) (filter_quiet test es (All-tail IsQuiet e es h))
  where
    by : (c : Bool) → All IsQuiet (filter test es) → All IsQuiet (cond c (e ∷ filter test es) (filter test es))
    by true r = All-cons IsQuiet e (filter test es) (All-head IsQuiet e es h) r
    by false r = r

made_said : (s : State) (o : Option Edit) → IfSome o IsQuiet
    → map said (option_map_or (edited s) o s).slots ≡ map said s.slots
made_said s None h = refl
made_said s (Some e) h = h s

lowered_said : (p : Parts) (s : State) (es : List Edit) → All IsQuiet es
    → map said (lowered p s es).slots ≡ map said s.slots
unfolding lowered lowering
lowered_said p s es h =
    made_said s (lowering p s es)
    (kept_if_lower IsQuiet p s (least p s (filter (is_accepted p s) es))
    (least_among IsQuiet p s (filter (is_accepted p s) es) (filter_quiet (is_accepted p s) es h)))

quiet_row : (f : ℕ → Edit) (a n : ℕ) → ((k : ℕ) → IsQuiet (f k)) → All IsQuiet (map f (range_with_len a n))
quiet_row f a zero h = All-nil IsQuiet
quiet_row f a (suc n) h =
    All-cons IsQuiet (f a) (map f (range_with_len (a + 1) n)) (h a) (quiet_row f (a + 1) n h)

assigns_quiet : (p : Parts) (m : ℕ) → All IsQuiet (assigns p m)
unfolding assigns
assigns_quiet p m = quiet_row (λ t. Assign (record { 0 = m }) (record { 0 = t })) 0 (length p.times)
    (λ t s. assign_said s m t)

gives_quiet : (p : Parts) (k : TaskId) → All IsQuiet (gives p k)
unfolding gives
gives_quiet p k = quiet_row (λ r. Give k (record { 0 = r })) 0 (length p.resources) (λ r s. give_said s k r)

timed_said : (p : Parts) (s : State) (ms : List ℕ) → map said (timed p s ms).slots ≡ map said s.slots
unfolding timed
timed_said p s [] = refl
timed_said p s (m ∷ ms) =
    timed_said p (lowered p s (assigns p m)) ms ∙ lowered_said p s (assigns p m) (assigns_quiet p m)

staffed_said : (p : Parts) (s : State) (ks : List TaskId) → map said (staffed p s ks).slots ≡ map said s.slots
unfolding staffed
staffed_said p s [] = refl
staffed_said p s (k ∷ ks) =
    staffed_said p (lowered p s (gives p k)) ks ∙ lowered_said p s (gives p k) (gives_quiet p k)

constructed_said : (p : Parts) (s : State) → map said (constructed p s).slots ≡ map said s.slots
unfolding constructed
constructed_said p s =
    staffed_said p (timed p s (order s.slots)) (tasks_of s.slots (order s.slots))
    ∙ timed_said p s (order s.slots)

-- how long the meets of an event last at first
own_both : (e : ℕ) (xs ys : List (Option (ℕ × ℕ))) → own e (xs ++ ys) ≡ own e xs ++ own e ys
own_both e [] ys = refl
own_both e (None ∷ xs) ys = own_both e xs ys
own_both e (Some x ∷ xs) ys = by (nat_eq x.0 e) (own_both e xs ys)
  where
    by : (c : Bool) → own e (xs ++ ys) ≡ own e xs ++ own e ys
        → cond c (x.1 ∷ own e (xs ++ ys)) (own e (xs ++ ys)) ≡ cond c (x.1 ∷ own e xs) (own e xs) ++ own e ys
    by true h = ap (λ ds. x.1 ∷ ds) h
    by false h = h

said_live : (e : ℕ) (event : EventInfo) (n k : ℕ) → k < n
    → said (begun_slot e event n k) ≡ Some (e, part event.duration n k)
said_live e event n k l =
    each_case (λ x. said x ≡ Some (e, part event.duration n k)) e event n k (λ b. refl) (λ b. absurd (omega (arith, b, l)))

said_free : (e : ℕ) (event : EventInfo) (n k : ℕ) → n ≤ k → said (begun_slot e event n k) ≡ None
said_free e event n k l =
    each_case (λ x. said x ≡ None) e event n k (λ b. absurd (omega (arith, b, l))) (λ b. refl)

own_free : (e other : ℕ) (event : EventInfo) (n k many : ℕ) → n ≤ k
    → own e (map said (map (begun_slot other event n) (range_with_len k many))) ≡ []
own_free e other event n k zero l = refl
own_free e other event n k (suc many) l =
    ap (λ o. own e (o ∷ map said (map (begun_slot other event n) (range_with_len (k + 1) many))))
    (said_free other event n k l) ∙ own_free e other event n (k + 1) many (omega arith)

own_live : (e : ℕ) (event : EventInfo) (n k a b : ℕ) → n ≡ k + a
    → own e (map said (map (begun_slot e event n) (range_with_len k (a + b))))
    ≡ map (part event.duration n) (range_with_len k a)
own_live e event n k zero b h =
    let z : 0 + b ≡ b = omega arith in
    ap (λ j. own e (map said (map (begun_slot e event n) (range_with_len k j)))) z
    ∙ own_free e e event n k b (omega (arith, h))
own_live e event n k (suc a) b h =
    let z : suc a + b ≡ suc (a + b) = omega arith in
    let rest = own e (map said (map (begun_slot e event n) (range_with_len (k + 1) (a + b)))) in
    ap (λ j. own e (map said (map (begun_slot e event n) (range_with_len k j)))) z
    ∙ ap (λ o. own e (o ∷ map said (map (begun_slot e event n) (range_with_len (k + 1) (a + b)))))
    (said_live e event n k (omega (arith, h)))
    ∙ ap (λ c. cond c (part event.duration n k ∷ rest) rest) (eq-eqb e e refl)
    ∙ ap (λ ds. part event.duration n k ∷ ds) (own_live e event n (k + 1) a b (omega (arith, h)))

own_event : (e : ℕ) (event : EventInfo) (n : ℕ) → n ≤ event.duration
    → own e (map said (begun_of e event n)) ≡ parts event.duration n
unfolding parts
own_event e event n l =
    let z : event.duration ≡ n + (event.duration - n) = omega (arith, l) in
    ap (λ j. own e (map said (map (begun_slot e event n) (range_with_len 0 j)))) z
    ∙ own_live e event n 0 n (event.duration - n) (omega arith)

own_other : (e other : ℕ) (event : EventInfo) (n k many : ℕ) → (other ≡ e → ⊥)
    → own e (map said (map (begun_slot other event n) (range_with_len k many))) ≡ []
own_other e other event n k zero h = refl
own_other e other event n k (suc many) h =
    each_case (λ x. own e (said x ∷ map said (map (begun_slot other event n) (range_with_len (k + 1) many))) ≡ [])
    other event n k
    (λ b. ap (λ c. cond c (part event.duration n k
    ∷ own e (map said (map (begun_slot other event n) (range_with_len (k + 1) many))))
    (own e (map said (map (begun_slot other event n) (range_with_len (k + 1) many))))) (ne_eqb other e h)
    ∙ own_other e other event n (k + 1) many h)
    (λ b. own_other e other event n (k + 1) many h)

own_before : (p : Parts) (e from : ℕ) (events : List EventInfo) → e < from
    → own e (map said (begun_from p from events)) ≡ []
own_before p e from [] l = refl
own_before p e from (event ∷ events) l =
    ap (own e) (map-append said (begun_of from event (amount_of p from event)) (begun_from p (from + 1) events))
    ∙ own_both e (map said (begun_of from event (amount_of p from event))) (map said (begun_from p (from + 1) events))
    ∙ (λ i. own_other e from event (amount_of p from event) 0 event.duration (λ h. omega (arith, h, l)) i
    ++ own_before p e (from + 1) events (omega (arith, l)) i)

append_none : (xs : List ℕ) → xs ++ [] ≡ xs
append_none [] = refl
append_none (x ∷ xs) = ap (λ ys. x ∷ ys) (append_none xs)

own_from : (p : Parts) (from j : ℕ) (event : EventInfo) (events : List EventInfo) → slice_get events j ≡ Some event
    → amount_of p (from + j) event ≤ event.duration
    → own (from + j) (map said (begun_from p from events)) ≡ parts event.duration (amount_of p (from + j) event)
own_from p from j event [] at l = absurd (none-some event at)
own_from p from zero event (x ∷ events) at l =
    let same : x ≡ event = same_Some x event at in
    let z : from + 0 ≡ from = omega arith in
    let few : amount_of p from event ≤ event.duration = subst (λ i. amount_of p i event ≤ event.duration) z l in
    ap (λ i. own i (map said (begun_from p from (x ∷ events)))) z
    ∙ ap (λ (y : EventInfo). own from (map said (begun_from p from (y ∷ events)))) same
    ∙ ap (own from) (map-append said (begun_of from event (amount_of p from event)) (begun_from p (from + 1) events))
    ∙ own_both from (map said (begun_of from event (amount_of p from event))) (map said (begun_from p (from + 1) events))
    ∙ (λ i. own_event from event (amount_of p from event) few i ++ own_before p from (from + 1) events (omega arith) i)
    ∙ append_none (parts event.duration (amount_of p from event))
    ∙ ap (λ i. parts event.duration (amount_of p i event)) (sym z)
own_from p from (suc j) event (x ∷ events) at l =
    let z : from + suc j ≡ from + 1 + j = omega arith in
    let e = from + 1 + j in
    let few : amount_of p e event ≤ event.duration = subst (λ i. amount_of p i event ≤ event.duration) z l in
    ap (λ i. own i (map said (begun_from p from (x ∷ events)))) z
    ∙ ap (own e) (map-append said (begun_of from x (amount_of p from x)) (begun_from p (from + 1) events))
    ∙ own_both e (map said (begun_of from x (amount_of p from x))) (map said (begun_from p (from + 1) events))
    ∙ ap (λ ds. ds ++ own e (map said (begun_from p (from + 1) events)))
    (own_other e from x (amount_of p from x) 0 x.duration (λ h. omega (arith, h)))
    ∙ own_from p (from + 1) j event events at few
    ∙ ap (λ i. parts event.duration (amount_of p i event)) (sym z)

begun_durations : (p : Parts) (e : ℕ) (event : EventInfo) → AreWellMade p → slice_get p.events e ≡ Some event
    → own e (map said (begun_slots p)) ≡ parts event.duration (amount_of p e event)
unfolding begun_slots
begun_durations p e event made at =
    let z : e ≡ 0 + e = omega arith in
    let few = (amount_at p e event made at).few in
    ap (λ i. own i (map said (begun_from p 0 p.events))) z
    ∙ own_from p 0 e event p.events at (subst (λ i. amount_of p i event ≤ event.duration) z few)
    ∙ ap (λ i. parts event.duration (amount_of p i event)) (sym z)

-- so long do they last in the end
pub last_durations : (p : Parts) (s : State) (e : ℕ) (event : EventInfo) → AreWellMade p → IsStateOf p (begun p) s
    → slice_get p.events e ≡ Some event
    → map (λ (m : Meet). m.duration) (meets_of e (meets_in (constructed p s).slots))
    ≡ parts event.duration (amount_of p e event)
unfolding begun
last_durations p s e event made begins at =
    durations_said e (constructed p s).slots ∙ ap (own e) (constructed_said p s)
    ∙ sym (durations_said e s.slots) ∙ ap (durations e) begins.meets
    ∙ durations_said e (begun_slots p) ∙ begun_durations p e event made at

-- the bounds are kept
set_keeps : (p : Parts) (e : ℕ) (ds : List ℕ) (ms : List Monitor)
    → All (λ m. IfSome (set_by p e m) (λ b. Keeps b ds)) ms → All (λ b. Keeps b ds) (filter_map (set_by p e) ms)
set_keeps p e ds [] h = All-nil (λ b. Keeps b ds)
set_keeps p e ds (m ∷ ms) h =
    by (set_by p e m) (All-head (λ x. IfSome (set_by p e x) (λ b. Keeps b ds)) m ms h)
    (set_keeps p e ds ms (All-tail (λ x. IfSome (set_by p e x) (λ b. Keeps b ds)) m ms h))
  where
    by : (o : Option Bounds) → IfSome o (λ b. Keeps b ds) → All (λ b. Keeps b ds) (filter_map (set_by p e) ms)
        → All (λ b. Keeps b ds) (cons_option o (filter_map (set_by p e) ms))
    by None k r = r
    by (Some b) k r = All-cons (λ c. Keeps c ds) b (filter_map (set_by p e) ms) k r

keeps_set : (p : Parts) (e : ℕ) (ds : List ℕ) (ms : List Monitor) (i : ℕ) (m : Monitor) (b : Bounds)
    → All (λ c. Keeps c ds) (filter_map (set_by p e) ms) → slice_get ms i ≡ Some m → set_by p e m ≡ Some b → Keeps b ds
keeps_set p e ds [] i m b h at is = absurd (none-some m at)
keeps_set p e ds (x ∷ ms) zero m b h at is =
    let e2 : set_by p e x ≡ Some b = ap (set_by p e) (same_Some x m at) ∙ is in
    All-head (λ c. Keeps c ds) b (filter_map (set_by p e) ms)
    (subst (λ o. All (λ c. Keeps c ds) (cons_option o (filter_map (set_by p e) ms))) e2 h)
keeps_set p e ds (x ∷ ms) (suc i) m b h at is = keeps_set p e ds ms i m b (by (set_by p e x) h) at is
  where
    by : (o : Option Bounds) → All (λ c. Keeps c ds) (cons_option o (filter_map (set_by p e) ms))
        → All (λ c. Keeps c ds) (filter_map (set_by p e) ms)
    by None k = k
    by (Some y) k = All-tail (λ c. Keeps c ds) y (filter_map (set_by p e) ms) k

amount_cut : (p : Parts) (e : ℕ) (event : EventInfo) → event.fixed ≡ None
    → amount_of p e event ≡ least_amount (bounds_of p e event.duration) event.duration
unfolding amount_of
amount_cut p e event h =
    ap (λ o. cond (is_some o) 1 (least_amount (bounds_of p e event.duration) event.duration)) h

parts_keep : (p : Parts) (e : ℕ) (event : EventInfo) (ds : List ℕ) → 1 ≤ event.duration → event.fixed ≡ None
    → sum ds ≡ event.duration → All (λ d. 1 ≤ d) ds
    → All (λ m. IfSome (set_by p e m) (λ b. Keeps b ds)) p.monitors
    → All (λ b. Keeps b (parts event.duration (amount_of p e event))) (filter_map (set_by p e) p.monitors)
unfolding bounds_of widest
parts_keep p e event ds l free whole some each =
    let d = event.duration in
    let bs = filter_map (set_by p e) p.monitors in
    let all = keeps_all (widest d) bs ds (keeps_widest d ds l whole some) (set_keeps p e ds p.monitors each) in
    let lo = at_least_one (widest d) bs (omega arith) in
    let found = least_found (fold narrowed (widest d) bs) d (length ds) l lo
    (keeps_allowed (fold narrowed (widest d) bs) d ds whole all) in
    subst (λ n. All (λ b. Keeps b (parts d n)) bs) (sym (amount_cut p e event free))
    (keeps_each (widest d) bs (parts d (least_amount (bounds_of p e d) d))
    (allowed_keeps (fold narrowed (widest d) bs) d (least_amount (bounds_of p e d) d) found.0))

-- meets that keep bounds have no deviation
none_unfit : (b : Bounds) (ms : List Meet)
    → All (λ d. (b.min_duration ≤ d) × (d ≤ b.max_duration)) (map (λ (m : Meet). m.duration) ms)
    → count_by (λ (m : Meet). is_unfit b.min_duration b.max_duration m.duration) ms ≡ 0
none_unfit b [] h = refl
none_unfit b (m ∷ ms) h =
    let P : ℕ → Type 0 = λ d. (b.min_duration ≤ d) × (d ≤ b.max_duration) in
    let own_is = All-head P m.duration (map (λ (x : Meet). x.duration) ms) h in
    let rest = none_unfit b ms (All-tail P m.duration (map (λ (x : Meet). x.duration) ms) h) in
    let fit : is_unfit b.min_duration b.max_duration m.duration ≡ false =
    or_from (nat_lt m.duration b.min_duration) (nat_lt b.max_duration m.duration)
    (le-ltb m.duration b.min_duration own_is.0) (le-ltb b.max_duration m.duration own_is.1) in
    let c = sum_by-cons (λ (x : Meet). cond (is_unfit b.min_duration b.max_duration x.duration) 1 0) m ms in
    let z : cond (is_unfit b.min_duration b.max_duration m.duration) 1 0 ≡ 0 = ap {B = ℕ} (λ t. cond t 1 0) fit in
    omega (arith, c, z, rest)

ones : (ms : List Meet) → sum_by (λ (m : Meet). 1) ms ≡ length ms
ones [] = refl
ones (m ∷ ms) = let a = sum_by-cons (λ (x : Meet). 1) m ms in let b = ones ms in omega (arith, a, b)

inside : (n least most : ℕ) → least ≤ n → n ≤ most → count_outside n least most ≡ 0
inside n least most a b =
    count_outside_is n least most ∙ ap (λ t. cond t (least - n) (n - most)) (le-ltb n least a)
    ∙ (let z : n - most ≡ 0 = omega (arith, b) in z)

kept_split : (e : ℕ) (ms : List Meet) (b : Bounds) → Keeps b (map (λ (m : Meet). m.duration) (meets_of e ms))
    → split_events ms e b.min_duration b.max_duration b.min_amount b.max_amount ≡ 0
kept_split e ms b h =
    let own_meets = meets_of e ms in
    let many = length-map own_meets (λ (m : Meet). m.duration) in
    let n = ones own_meets in
    let a = h.least in
    let z = h.most in
    let unfit = none_unfit b own_meets h.each in
    let out = inside (sum_by (λ (m : Meet). 1) own_meets) b.min_amount b.max_amount (omega (arith, a, many, n))
    (omega (arith, z, many, n)) in
    omega (arith, unfit, out)

-- what a monitor is that sets bounds
rule_is : (r : Rule) (b : Bounds) → bounds_in r ≡ Some b
    → r ≡ SplitEvents b.min_duration b.max_duration b.min_amount b.max_amount
unfolding bounds_in
rule_is (SplitEvents x y z w) b h =
    let same : record { min_duration = x; max_duration = y; min_amount = z; max_amount = w } ≡ b =
    same_Some (record { min_duration = x; max_duration = y; min_amount = z; max_amount = w }) b h in
    ap (λ (c : Bounds). SplitEvents c.min_duration c.max_duration c.min_amount c.max_amount) same
rule_is AssignTime b h = absurd (none-some b h)
rule_is (AssignResource role) b h = absurd (none-some b h)
rule_is (DistributeSplitEvents d x y) b h = absurd (none-some b h)
rule_is (PreferTimes t d) b h = absurd (none-some b h)
rule_is (PreferResources x r) b h = absurd (none-some b h)
rule_is (AvoidSplitAssignments r) b h = absurd (none-some b h)
rule_is (SpreadEvents x) b h = absurd (none-some b h)
rule_is LinkEvents b h = absurd (none-some b h)
rule_is (OrderEvents x) b h = absurd (none-some b h)
rule_is AvoidClashes b h = absurd (none-some b h)
rule_is (AvoidUnavailableTimes t) b h = absurd (none-some b h)
rule_is (LimitIdleTimes g x y) b h = absurd (none-some b h)
rule_is (ClusterBusyTimes g x y) b h = absurd (none-some b h)
rule_is (LimitBusyTimes g x y) b h = absurd (none-some b h)
rule_is (LimitWorkload x y) b h = absurd (none-some b h)

point_deviation : (p : Parts) (ms : List Meet) (ds : List Duty) (e : ℕ) (point : Point) (b : Bounds)
    → is_event e point ≡ true
    → deviation_at p ms ds (SplitEvents b.min_duration b.max_duration b.min_amount b.max_amount) point
    ≡ split_events ms e b.min_duration b.max_duration b.min_amount b.max_amount
point_deviation p ms ds e (Event x) b h =
    ap (λ j. split_events ms j b.min_duration b.max_duration b.min_amount b.max_amount) (eqb-true x.0 e h)
point_deviation p ms ds e (EventResource x k) b h = absurd (both_ways false refl h)
point_deviation p ms ds e (EventGroup x) b h = absurd (both_ways false refl h)
point_deviation p ms ds e (EventPair x) b h = absurd (both_ways false refl h)
point_deviation p ms ds e (Resource x) b h = absurd (both_ways false refl h)

rule_deviation : (p : Parts) (ms : List Meet) (ds : List Duty) (e : ℕ) (point : Point) (b : Bounds)
    (t : Bool) (o : Option Constraint) → is_event e point ≡ t
    → cond t (option_and_then (λ (c : Constraint). bounds_in c.rule) o) None ≡ Some b
    → option_map_or (λ (c : Constraint). deviation_at p ms ds c.rule point) o 0
    ≡ split_events ms e b.min_duration b.max_duration b.min_amount b.max_amount
rule_deviation p ms ds e point b false o h is = absurd (none-some b is)
rule_deviation p ms ds e point b true None h is = absurd (none-some b is)
rule_deviation p ms ds e point b true (Some c) h is =
    ap (λ r. deviation_at p ms ds r point) (rule_is c.rule b is) ∙ point_deviation p ms ds e point b h

set_deviation : (p : Parts) (s : List Slot) (e : ℕ) (m : Monitor) (b : Bounds) → set_by p e m ≡ Some b
    → deviation_in p s m ≡ split_events (meets_in s) e b.min_duration b.max_duration b.min_amount b.max_amount
unfolding set_by
set_deviation p s e m b is =
    rule_deviation p (meets_in s) (duties_in s) e m.point b (is_event e m.point)
    (slice_get p.constraints m.constraint) refl is

-- and meets without a deviation keep the bounds
neither : (a b : Bool) → (a || b) ≡ false → (a ≡ false) × (b ≡ false)
neither true b e = absurd (both_ways true e refl)
neither false b e = (refl, e)

not_below : (a b : ℕ) → nat_lt a b ≡ false → b ≤ a
not_below a b h = elim (cases_lt a b) [ inl l ↦ absurd (both_ways (nat_lt a b) h (lt-ltb a b l)) | inr l ↦ l ]

fitting : (b : Bounds) (d : ℕ) (t : Bool) → is_unfit b.min_duration b.max_duration d ≡ t → cond {A = ℕ} t 1 0 ≡ 0
    → (b.min_duration ≤ d) × (d ≤ b.max_duration)
fitting b d true e z = absurd (omega (arith, z))
fitting b d false e z =
    let apart = neither (nat_lt d b.min_duration) (nat_lt b.max_duration d) e in
    (not_below d b.min_duration apart.0, not_below b.max_duration d apart.1)

all_fit : (b : Bounds) (ms : List Meet)
    → count_by (λ (m : Meet). is_unfit b.min_duration b.max_duration m.duration) ms ≡ 0
    → All (λ d. (b.min_duration ≤ d) × (d ≤ b.max_duration)) (map (λ (m : Meet). m.duration) ms)
all_fit b [] h = All-nil (λ d. (b.min_duration ≤ d) × (d ≤ b.max_duration))
all_fit b (m ∷ ms) h =
    let c = sum_by-cons (λ (x : Meet). cond (is_unfit b.min_duration b.max_duration x.duration) 1 0) m ms in
    All-cons (λ d. (b.min_duration ≤ d) × (d ≤ b.max_duration)) m.duration (map (λ (x : Meet). x.duration) ms)
    (fitting b m.duration (is_unfit b.min_duration b.max_duration m.duration) refl (omega (arith, c, h)))
    (all_fit b ms (omega (arith, c, h)))

within : (n least most : ℕ) → count_outside n least most ≡ 0 → (least ≤ n) × (n ≤ most)
within n least most h = by (nat_lt n least) refl (sym (count_outside_is n least most) ∙ h)
  where
    by : (t : Bool) → nat_lt n least ≡ t → cond t (least - n) (n - most) ≡ 0 → (least ≤ n) × (n ≤ most)
    by true e z = absurd (both_ways (nat_lt n least) (le-ltb n least (omega (arith, z))) e)
    by false e z = (not_below n least e, omega (arith, z))

split_kept : (e : ℕ) (ms : List Meet) (b : Bounds)
    → split_events ms e b.min_duration b.max_duration b.min_amount b.max_amount ≡ 0
    → Keeps b (map (λ (m : Meet). m.duration) (meets_of e ms))
split_kept e ms b h =
    let own_meets = meets_of e ms in
    let many = length-map own_meets (λ (m : Meet). m.duration) in
    let n = ones own_meets in
    let out = within (sum_by (λ (m : Meet). 1) own_meets) b.min_amount b.max_amount (omega (arith, h)) in
    record {
      least = let a = out.0 in omega (arith, a, many, n);
      most = let a = out.1 in omega (arith, a, many, n);
      each = all_fit b own_meets (omega (arith, h));
    }

-- so no deviation and kept bounds are one
pub split_is_kept : (p : Parts) (s : List Slot) (e : ℕ) (m : Monitor) (b : Bounds) → set_by p e m ≡ Some b
    → (deviation_in p s m ≡ 0) ↔ Keeps b (map (λ (x : Meet). x.duration) (meets_of e (meets_in s)))
split_is_kept p s e m b is = (
  λ zero_is. split_kept e (meets_in s) b (sym (set_deviation p s e m b is) ∙ zero_is),
  λ keeps. set_deviation p s e m b is ∙ kept_split e (meets_in s) b keeps,
)

pub cut_well : (p : Parts) (s : State) (e i : ℕ) (event : EventInfo) (ds : List ℕ) (m : Monitor) (b : Bounds)
    → AreWellMade p → IsStateOf p (begun p) s → slice_get p.events e ≡ Some event → event.fixed ≡ None
    → sum ds ≡ event.duration → All (λ d. 1 ≤ d) ds
    → All (λ x. IfSome (set_by p e x) (λ y. Keeps y ds)) p.monitors → slice_get p.monitors i ≡ Some m
    → set_by p e m ≡ Some b → deviation_in p (constructed p s).slots m ≡ 0
cut_well p s e i event ds m b made begins at free whole some each there is =
    let long = (all-there (IsEvent p) p.events e event made.events at).duration.0 in
    let keeps = keeps_set p e (parts event.duration (amount_of p e event)) p.monitors i m b
    (parts_keep p e event ds long free whole some each) there is in
    set_deviation p (constructed p s).slots e m b is
    ∙ (kept_split e (meets_in (constructed p s).slots) b
    (subst (Keeps b) (sym (last_durations p s e event made begins at)) keeps))
