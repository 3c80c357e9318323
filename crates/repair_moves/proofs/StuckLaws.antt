-- Why a monitor has no move in any timetable.
use Rattle.std.proofs.Common.{ℕ, zero, suc, ◌≡◌, ◌+◌, ◌<◌, ◌≤◌, Bool, true, false, cond, Option, Some, None, List, []}
use Rattle.std.proofs.Common.{◌∷◌, ◌++◌, length, refl, ap, ◌∙◌, sym, arith, inl, inr, slice_get}
use Rattle.std.specs.Prelude.{◌==◌, ◌&&◌, is_some}
use Rattle.std.specs.List.{filter, flat_map, range_with_len}
use Rattle.std.specs.Option.{option_and_then, option_map_or}
use Rattle.std.proofs.lemmas.Bool.{cases_lt}
use Rattle.std.proofs.lemmas.Bool.Decides.{nat_tests}
use Rattle.std.proofs.lemmas.Option.{slice_get_within}
use Rattle.khe_base.proofs.ListLemmas.{all-there}
use Rattle.khe_instance.specs.ByType.{is_of_type, resources_of_type}
use Rattle.khe_instance.specs.Lookups.{place_at}
use Rattle.khe_instance.specs.WellMade.{AreWellMade, IsEvent, IsPlace}
use Rattle.khe_instance.specs.declared.parts.EventInfo.{EventInfo}
use Rattle.khe_instance.specs.declared.parts.Parts.{Parts}
use Rattle.khe_instance.specs.declared.parts.Place.{Place}
use Rattle.khe_instance.specs.declared.parts.ResourceInfo.{ResourceInfo}
use Rattle.khe_instance.specs.declared.points.Monitor.{Monitor}
use Rattle.khe_instance.specs.declared.points.Point.{Point}
use Rattle.khe_instance.specs.declared.points.Point.TheVariants.{Event, EventResource, EventGroup, EventPair as Pair}
use Rattle.khe_instance.specs.declared.points.Point.TheVariants.{Resource}
use Rattle.khe_instance.specs.declared.rules.Constraint.{Constraint}
use Rattle.khe_instance.specs.declared.rules.Kind.TheVariants.{AssignTime, PreferTimes, AssignResource, PreferResources}
use Rattle.khe_instance.specs.declared.rules.Rule.{Rule}
use Rattle.khe_base.specs.declared.numbers.EventId.{EventId}
use Rattle.khe_told.specs.Slots.{slot_at}
use Rattle.khe_told.specs.declared.slots.Slot.{Slot}
use Rattle.khe_solution.specs.Reading.{has_place, has_type, is_fixed_event, is_fixed_place}
use Rattle.khe_solution.proofs.Basics.{true-false}
use Rattle.repair_moves.specs.Items.{is_item, is_meet_at, is_task_at, task_at}
use Rattle.repair_moves.specs.Moves.{choices_from, is_choice, items_from, moves, moves_of, moves_under, part_from}
use Rattle.repair_moves.specs.Picked.{picked}
use Rattle.repair_moves.specs.Stuck.{HasFixedEvent, HasFixedPlace, IsFixedPlace, IsStuck}
use Rattle.repair_moves.specs.Table.{parts_of}
use Rattle.repair_moves.specs.declared.parts.Part.{Part}
use Rattle.repair_moves.specs.declared.parts.Part.TheVariants.{TimeMoves, SwapMoves, TaskMoves, TradeMoves}
use Rattle.repair_moves.proofs.ChoiceLaws.{resource_fixed, resource_typed, swap_fixed, time_fixed, trade_fixed, trade_typed}
use Rattle.repair_moves.proofs.ItemLaws.{same_true}
use Rattle.repair_moves.proofs.TaskLaws.{both_true}
use Rattle.repair_moves.proofs.WalkLaws.{choice_none}

-- no number of a range passes of which none is picked
pub none_of : (test : ℕ → Bool) (from n k : ℕ) → filter test (range_with_len from n) ≡ [] → from ≤ k → k < from + n
    → test k ≡ false
none_of test from zero k e a b = absurd (omega (arith, a, b))
none_of test from (suc n) k e a b = by (test from) refl (λ h l. none_of test (from + 1) n k h l (omega (arith, b))) e
  where
    by : (c : Bool) → test from ≡ c
        → (filter test (range_with_len (from + 1) n) ≡ [] → from + 1 ≤ k → test k ≡ false)
        → cond c (from ∷ filter test (range_with_len (from + 1) n)) (filter test (range_with_len (from + 1) n)) ≡ []
        → test k ≡ false
    by true h more e = absurd (let g : ⊥ = cc in g)
    by false h more e = elim (cases_lt from k) [
      | inl l ↦ more e (omega (arith, l))
      | inr g ↦ let same : k ≡ from = omega (arith, a, g) in ap test same ∙ h
    ]

-- nothing comes of numbers that give nothing
flat_none : {A : Type 0} (f : ℕ → List A) (test : ℕ → Bool) (xs : List ℕ) → ((n : ℕ) → test n ≡ true → f n ≡ [])
    → flat_map f (filter test xs) ≡ []
flat_none f test [] h = refl
flat_none f test (x ∷ xs) h = by (test x) refl (flat_none f test xs h)
  where
    by : (b : Bool) → test x ≡ b → flat_map f (filter test xs) ≡ []
        → flat_map f (cond b (x ∷ filter test xs) (filter test xs)) ≡ []
    by true e rest = ap (λ ys. ys ++ flat_map f (filter test xs)) (h x e) ∙ rest
    by false e rest = rest

-- a part of whose meets or tasks none has a choice
part_bare : (p : Parts) (s : List Slot) (rule : Rule) (point : Point) (part : Part)
    → ((n k : ℕ) → is_item p s rule point part n ≡ true → is_choice p s point part n k ≡ false)
    → part_from p s rule point part 0 ≡ []
unfolding part_from items_from picked
part_bare p s rule point part h = flat_none (λ n. choices_from p s point part n 0) (is_item p s rule point part) _
    (λ n i. choice_none p s point part n 0 (λ k a b. h n k i))

-- the meets of an event whose time is preassigned
fixed_at : (p : Parts) (s : List Slot) (rule : Rule) (e : EventId) (n : ℕ) → is_fixed_event p e.0 ≡ true
    → is_meet_at p s rule (Event e) n ≡ true → is_fixed_event p (slot_at s n).event.0 ≡ true
unfolding is_meet_at
fixed_at p s rule e n h i =
    let same = same_true e.0 (slot_at s n).event.0 (both_true _ _ i).1 in ap (is_fixed_event p) same ∙ h

times_bare : (p : Parts) (s : List Slot) (rule : Rule) (e : EventId) → is_fixed_event p e.0 ≡ true
    → part_from p s rule (Event e) TimeMoves 0 ≡ []
unfolding is_item
times_bare p s rule e h = part_bare p s rule (Event e) TimeMoves
    (λ n k i. time_fixed p s (Event e) n k (fixed_at p s rule e n h i))

swaps_bare : (p : Parts) (s : List Slot) (rule : Rule) (e : EventId) → is_fixed_event p e.0 ≡ true
    → part_from p s rule (Event e) SwapMoves 0 ≡ []
unfolding is_item
swaps_bare p s rule e h = part_bare p s rule (Event e) SwapMoves
    (λ n k i. swap_fixed p s (Event e) n k (fixed_at p s rule e n h i))

-- the tasks of a place that can be given nothing else
record IsPlaceOf (p : Parts) (s : List Slot) (e : EventId) (place n : ℕ) : Type 0 where
  event : (slot_at s (task_at p n).meet.0).event.0 ≡ e.0
  spot : (task_at p n).place ≡ place

place_of : (p : Parts) (s : List Slot) (rule : Rule) (e : EventId) (place n : ℕ)
    → is_task_at p s rule (EventResource e place) n ≡ true → IsPlaceOf p s e place n
unfolding is_task_at
place_of p s rule e place n i =
    let x = slot_at s (task_at p n).meet.0 in
    let k = (task_at p n).place in
    let own = (both_true (has_place x k) ((e.0 == x.event.0) && (place == k)) i).1 in
    let both = both_true (e.0 == x.event.0) (place == k) own in
    record {
      event = same_true e.0 (slot_at s (task_at p n).meet.0).event.0 both.0;
      spot = same_true place k both.1;
    }

fixed_place : (p : Parts) (s : List Slot) (e : EventId) (place n : ℕ) → IsPlaceOf p s e place n
    → is_fixed_place p e.0 place ≡ true
    → is_fixed_place p (slot_at s (task_at p n).meet.0).event.0 (task_at p n).place ≡ true
fixed_place p s e place n of h =
    ap (λ x. is_fixed_place p x (task_at p n).place) of.event ∙ ap (is_fixed_place p e.0) of.spot ∙ h

typed_place : (p : Parts) (s : List Slot) (e : EventId) (place n r : ℕ) → IsPlaceOf p s e place n
    → has_type p r (place_at p.events e.0 place) ≡ false
    → has_type p r (place_at p.events (slot_at s (task_at p n).meet.0).event.0 (task_at p n).place) ≡ false
typed_place p s e place n r of h =
    ap (λ x. has_type p r (place_at p.events x (task_at p n).place)) of.event
    ∙ ap (λ k. has_type p r (place_at p.events e.0 k)) of.spot ∙ h

gives_bare : (p : Parts) (s : List Slot) (rule : Rule) (e : EventId) (place : ℕ) → IsFixedPlace p e.0 place
    → part_from p s rule (EventResource e place) TaskMoves 0 ≡ []
unfolding is_item
gives_bare p s rule e place (inl h) = part_bare p s rule (EventResource e place) TaskMoves
    (λ n k i. resource_fixed p s (EventResource e place) n k
    (fixed_place p s e place n (place_of p s rule e place n i) h))
gives_bare p s rule e place (inr h) = part_bare p s rule (EventResource e place) TaskMoves
    (λ n k i. resource_typed p s (EventResource e place) n k
    (typed_place p s e place n k (place_of p s rule e place n i) (h k)))

trades_bare : (p : Parts) (s : List Slot) (rule : Rule) (e : EventId) (place : ℕ) → IsFixedPlace p e.0 place
    → part_from p s rule (EventResource e place) TradeMoves 0 ≡ []
unfolding is_item
trades_bare p s rule e place (inl h) = part_bare p s rule (EventResource e place) TradeMoves
    (λ n k i. trade_fixed p s (EventResource e place) n k
    (fixed_place p s e place n (place_of p s rule e place n i) h))
trades_bare p s rule e place (inr h) = part_bare p s rule (EventResource e place) TradeMoves
    (λ n k i. trade_typed p s (EventResource e place) n k
    (λ r. typed_place p s e place n r (place_of p s rule e place n i) (h r)))

-- the lists of kinds that want another time, and of those that want another resource
times_none : (p : Parts) (s : List Slot) (rule : Rule) (point : Point) → HasFixedEvent p point
    → flat_map (λ part. part_from p s rule point part 0) (TimeMoves ∷ SwapMoves ∷ []) ≡ []
times_none p s rule (Event e) h =
    ap (λ xs. xs ++ (part_from p s rule (Event e) SwapMoves 0 ++ [])) (times_bare p s rule e h)
    ∙ ap (λ xs. xs ++ []) (swaps_bare p s rule e h)
times_none p s rule (EventResource e k) h = absurd h
times_none p s rule (Resource r) h = absurd h
times_none p s rule (EventGroup g) h = absurd h
times_none p s rule (Pair k) h = absurd h

time_none : (p : Parts) (s : List Slot) (rule : Rule) (point : Point) → HasFixedEvent p point
    → flat_map (λ part. part_from p s rule point part 0) (TimeMoves ∷ []) ≡ []
time_none p s rule (Event e) h = ap (λ xs. xs ++ []) (times_bare p s rule e h)
time_none p s rule (EventResource e k) h = absurd h
time_none p s rule (Resource r) h = absurd h
time_none p s rule (EventGroup g) h = absurd h
time_none p s rule (Pair k) h = absurd h

trade_none : (p : Parts) (s : List Slot) (rule : Rule) (point : Point) → HasFixedPlace p point
    → flat_map (λ part. part_from p s rule point part 0) (TaskMoves ∷ TradeMoves ∷ []) ≡ []
trade_none p s rule (EventResource e k) h =
    ap (λ xs. xs ++ (part_from p s rule (EventResource e k) TradeMoves 0 ++ [])) (gives_bare p s rule e k h)
    ∙ ap (λ xs. xs ++ []) (trades_bare p s rule e k h)
trade_none p s rule (Event e) h = absurd h
trade_none p s rule (EventGroup g) h = absurd h
trade_none p s rule (Resource r) h = absurd h
trade_none p s rule (Pair k) h = absurd h

give_none : (p : Parts) (s : List Slot) (rule : Rule) (point : Point) → HasFixedPlace p point
    → flat_map (λ part. part_from p s rule point part 0) (TaskMoves ∷ []) ≡ []
give_none p s rule (EventResource e k) h = ap (λ xs. xs ++ []) (gives_bare p s rule e k h)
give_none p s rule (Event e) h = absurd h
give_none p s rule (EventGroup g) h = absurd h
give_none p s rule (Resource r) h = absurd h
give_none p s rule (Pair k) h = absurd h

-- a monitor whose parts all have nothing
stuck_by : (p : Parts) (n : ℕ) (m : Monitor) → slice_get p.monitors n ≡ Some m
    → ((s : List Slot) (rule : Rule) → flat_map (λ part. part_from p s rule m.point part 0) (parts_of m.kind) ≡ [])
    → IsStuck p n
unfolding moves moves_of moves_under
stuck_by p n m at h s = ap (λ o. option_map_or (moves_of p s) o []) at ∙ by (slice_get p.constraints m.constraint)
  where
    by : (o : Option Constraint) → option_map_or (moves_under p s m) o [] ≡ []
    by None = refl
    by (Some c) = h s c.rule

pub stuck_time : (p : Parts) (n : ℕ) (m : Monitor) → slice_get p.monitors n ≡ Some m
    → m.kind ≡ AssignTime → HasFixedEvent p m.point → IsStuck p n
unfolding parts_of
stuck_time p n m at kind h = stuck_by p n m at
    (λ s rule. ap (λ k. flat_map (λ part. part_from p s rule m.point part 0) (parts_of k)) kind
    ∙ time_none p s rule m.point h)

pub stuck_times : (p : Parts) (n : ℕ) (m : Monitor) → slice_get p.monitors n ≡ Some m
    → m.kind ≡ PreferTimes → HasFixedEvent p m.point → IsStuck p n
unfolding parts_of
stuck_times p n m at kind h = stuck_by p n m at
    (λ s rule. ap (λ k. flat_map (λ part. part_from p s rule m.point part 0) (parts_of k)) kind
    ∙ times_none p s rule m.point h)

pub stuck_resource : (p : Parts) (n : ℕ) (m : Monitor) → slice_get p.monitors n ≡ Some m
    → m.kind ≡ AssignResource → HasFixedPlace p m.point → IsStuck p n
unfolding parts_of
stuck_resource p n m at kind h = stuck_by p n m at
    (λ s rule. ap (λ k. flat_map (λ part. part_from p s rule m.point part 0) (parts_of k)) kind
    ∙ give_none p s rule m.point h)

pub stuck_resources : (p : Parts) (n : ℕ) (m : Monitor) → slice_get p.monitors n ≡ Some m
    → m.kind ≡ PreferResources → HasFixedPlace p m.point → IsStuck p n
unfolding parts_of
stuck_resources p n m at kind h = stuck_by p n m at
    (λ s rule. ap (λ k. flat_map (λ part. part_from p s rule m.point part 0) (parts_of k)) kind
    ∙ trade_none p s rule m.point h)

-- the type of a place is one of the instance
pub place_typed : (p : Parts) (e k : ℕ) (place : Place) → AreWellMade p → place_at p.events e k ≡ Some place
    → place.rtype < p.types
place_typed p e k place made h = by (slice_get p.events e) refl h
  where
    by : (o : Option EventInfo) → slice_get p.events e ≡ o
        → option_and_then (λ event. slice_get event.places k) o ≡ Some place → place.rtype < p.types
    by None at h = absurd (let g : ⊥ = cc in g)
    by (Some event) at h = let own = all-there (IsEvent p) p.events e event made.events at in
        (all-there (IsPlace p) event.places k place own.places h).typed

-- a place that is preassigned, and one of a type without resources
pub place_fixed : (p : Parts) (e k : ℕ) (place : Place) → place_at p.events e k ≡ Some place
    → is_some place.fixed ≡ true → IsFixedPlace p e k
place_fixed p e k place at h = inl (ap (λ o. option_map_or (λ (x : Place). is_some x.fixed) o false) at ∙ h)

pub place_bare : (p : Parts) (e k : ℕ) (place : Place) → place_at p.events e k ≡ Some place
    → resources_of_type p place.rtype ≡ [] → IsFixedPlace p e k
place_bare p e k place at h = inr (λ r. ap (λ o. has_type p r o) at ∙ elim (cases_lt r (length p.resources)) [
  | inl l ↦ none_of (is_of_type p.resources place.rtype) 0 (length p.resources) r h (omega arith) (omega (arith, l))
  | inr g ↦ past r g
])
  where
    past : (r : ℕ) → length p.resources ≤ r → is_of_type p.resources place.rtype r ≡ false
    past r g = by (slice_get p.resources r) refl
      where
        by : (o : Option ResourceInfo) → slice_get p.resources r ≡ o
            → option_map_or (λ x. x.rtype == place.rtype) o false ≡ false
        by None at = refl
        by (Some x) at = absurd (let l = slice_get_within p.resources r x at in omega (arith, l, g))

-- a list that is known to be empty
empty_is : (xs : List ℕ) → (length xs == 0) ≡ true → xs ≡ []
empty_is [] h = refl
empty_is (x ∷ xs) h = absurd (true-false (sym h ∙ (let e : (suc (length xs) == 0) ≡ false = grind (arith, nat_tests) in e)))

pub nothing_of : (xs ys : List ℕ) → (length xs == 0) ≡ true → xs ≡ ys → ys ≡ []
nothing_of xs ys h e = sym e ∙ empty_is xs h
