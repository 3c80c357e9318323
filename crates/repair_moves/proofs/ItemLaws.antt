-- The meets and tasks of a monitor, by their numbers.
use Rattle.std.proofs.Common.{ℕ, zero, suc, ◌≡◌, ◌+◌, ◌<◌, ◌≤◌, Bool, true, false, ◌&&◌, Option, Some, None, List, []}
use Rattle.std.proofs.Common.{◌∷◌, length, slice_get, refl, sym, ap, ◌∙◌, subst, arith, inl, inr, ◌⊎◌}
use Rattle.std.specs.Prelude.{◌==◌, ◌||◌, ◌^◌, IfSome, MatchOption, is_some}
use Rattle.std.specs.List.{sum_by}
use Rattle.std.proofs.lemmas.Bool.{and_from, cases_lt, lt-ltb}
use Rattle.std.proofs.lemmas.Bool.Decides.{nat_tests}
use Rattle.std.proofs.lemmas.List.Folds.{list_any_at}
use Rattle.std.proofs.lemmas.List.Sums.{sum_by-cons}
use Rattle.std.proofs.lemmas.Option.{same_Some, slice_get_within}
use Rattle.std.proofs.lemmas.List.{get_or_past}
use Rattle.khe_base.proofs.ListLemmas.{there}
use Rattle.khe_instance.specs.Lookups.{place_at}
use Rattle.khe_instance.specs.declared.parts.Place.{Place}
use Rattle.khe_base.specs.declared.numbers.EventId.{EventId}
use Rattle.khe_base.specs.declared.numbers.ResourceId.{ResourceId}
use Rattle.khe_base.specs.declared.numbers.TaskId.{TaskId}
use Rattle.khe_instance.specs.Slots.{HasSlot, first_task}
use Rattle.khe_instance.specs.Watching.{names_event, pair_names}
use Rattle.khe_instance.specs.WellMade.{AreFirstMeets, AreWellMade}
use Rattle.khe_instance.specs.declared.parts.EventInfo.{EventInfo}
use Rattle.khe_instance.specs.declared.parts.Parts.{Parts}
use Rattle.khe_instance.specs.declared.points.Point.{Point}
use Rattle.khe_instance.specs.declared.points.Point.TheVariants.{EventGroup, EventResource, Resource}
use Rattle.khe_instance.specs.declared.rules.EventPair.{EventPair}
use Rattle.khe_instance.specs.declared.rules.Rule.{Rule}
use Rattle.khe_instance.specs.declared.rules.Rule.TheVariants.{OrderEvents}
use Rattle.std.specs.Option.{option_and_then, option_map_or}
use Rattle.khe_told.proofs.FillingLaws.{slot_of}
use Rattle.khe_told.proofs.OpeningLaws.{few_places}
use Rattle.khe_told.specs.Fits.{AreTold}
use Rattle.khe_told.specs.Slots.{is_live, given_at, slot_at}
use Rattle.khe_told.specs.declared.slots.Slot.{Slot}
use Rattle.khe_solution.specs.NextTask.{IsFrom, has_task}
use Rattle.khe_instance.specs.declared.states.Meet.{Meet}
use Rattle.khe_solution.specs.Reading.{Shows, has_place, is_resource}
use Rattle.khe_solution.proofs.Basics.{there-none, true-false}
use Rattle.repair_moves.specs.Items.{is_meet_at, is_task_in, is_task_of, is_free_at, is_open_at, may_be_given}
use Rattle.repair_moves.specs.Items.{meet_slots, task_at, task_slots}
use Rattle.repair_moves.specs.Named.{AreSlotsOf, AreWithin, NamesItsTasks, is_named, pair_at}
use Rattle.repair_moves.specs.Picked.{IsFirst, NonePass}
use Rattle.repair_moves.specs.Tasks.{NoTask, NoTaskBefore}
use Rattle.repair_moves.proofs.PickedLaws.{false_unless}
use Rattle.repair_moves.proofs.SlotLaws.{live_event, live_owner, slot_below}
use Rattle.repair_moves.proofs.TaskLaws.{any_place, both_true, place_there, task_number, there_in}

-- the slots of an event end with all slots or before
pub event_within : (next k : ℕ) (events : List EventInfo) (e : EventInfo) → AreFirstMeets next events
    → slice_get events k ≡ Some e
    → e.first_meet + e.duration ≤ next + sum_by (λ (x : EventInfo). x.duration) events
event_within next k [] e h at = absurd (let g : ⊥ = cc in g)
event_within next zero (x ∷ xs) e h at =
    let same = same_Some x e at in
    let a = ap (λ (y : EventInfo). y.first_meet) same in
    let b = ap (λ (y : EventInfo). y.duration) same in
    let first = h.0 in
    let all = sum_by-cons (λ (z : EventInfo). z.duration) x xs in
    omega (arith, a, b, first, all)
event_within next (suc k) (x ∷ xs) e h at =
    let r = event_within (next + x.duration) k xs e h.1 at in
    let all = sum_by-cons (λ (z : EventInfo). z.duration) x xs in
    omega (arith, r, all)

-- the meets of the events that a point names

pub record IsNamed (p : Parts) (s : List Slot) (rule : Rule) (point : Point) (n : ℕ) : Type 0 where
  pub live : is_live (slot_at s n) ≡ true
  pub names : names_event p rule point (slot_at s n).event.0 ≡ true

pub named_is : (p : Parts) (s : List Slot) (rule : Rule) (point : Point) (n : ℕ) → is_named p s rule point n ≡ true
    → IsNamed p s rule point n
unfolding is_named
named_is p s rule point n h = let b = both_true _ _ h in record { live = b.0; names = b.1 }

pub named_may : (p : Parts) (s : List Slot) (rule : Rule) (point : Point) (n : ℕ) → IsNamed p s rule point n
    → is_named p s rule point n ≡ true
unfolding is_named
named_may p s rule point n h = ap (λ b. b && names_event p rule point (slot_at s n).event.0) h.live ∙ h.names

-- they are among the slots of the bounds
pub named_within : (p : Parts) (s : List Slot) (rule : Rule) (point : Point) (start end n : ℕ) → AreWellMade p
    → AreTold p s → AreWithin p rule point start end
    → is_named p s rule point n ≡ true → (start ≤ n) × (n < end)
named_within p s rule point start end n made told within h =
    let own = named_is p s rule point n h in
    let has = live_event p s n made told own.live in
    let b = within.each (slot_at s n).event.0 has.0 has.1 own.names in
    let low = b.0 in
    let high = b.1 in
    let from = has.2 in
    let to = has.3 in
    (omega (arith, low, from), omega (arith, high, to))

pub named_below : (p : Parts) (s : List Slot) (rule : Rule) (point : Point) (start end n : ℕ) → AreWellMade p
    → AreTold p s → AreWithin p rule point start end → n < start → is_named p s rule point n ≡ false
named_below p s rule point start end n made told within l =
    false_unless _ (λ h. let b = (named_within p s rule point start end n made told within h).0 in omega (arith, b, l))

pub named_beyond : (p : Parts) (s : List Slot) (rule : Rule) (point : Point) (start end n : ℕ) → AreWellMade p
    → AreTold p s → AreWithin p rule point start end → end ≤ n → is_named p s rule point n ≡ false
named_beyond p s rule point start end n made told within l =
    false_unless _ (λ h. let b = (named_within p s rule point start end n made told within h).1 in omega (arith, b, l))

pub named_dead : (p : Parts) (s : List Slot) (rule : Rule) (point : Point) (n : ℕ) → is_live (slot_at s n) ≡ false
    → is_named p s rule point n ≡ false
named_dead p s rule point n h = false_unless _ (λ t. true-false (sym (named_is p s rule point n t).live ∙ h))

-- a slot of an event that the point names, where it has a meet
pub named_event : (p : Parts) (s : List Slot) (rule : Rule) (point : Point) (e n : ℕ) → AreWellMade p → AreTold p s
    → HasSlot p.events e n → names_event p rule point e ≡ true
    → is_live (slot_at s n) ≡ true → is_named p s rule point n ≡ true
named_event p s rule point e n made told has h live =
    let is = (slot_of p s e n made.first_meets told.whose has).event in
    named_may p s rule point n (record { live = live; names = ap (names_event p rule point) is ∙ h })

-- none of an event's slots is, where the point does not name the event
pub unnamed : (p : Parts) (s : List Slot) (rule : Rule) (point : Point) (e n : ℕ) → AreWellMade p → AreTold p s
    → HasSlot p.events e n → names_event p rule point e ≡ false
    → is_named p s rule point n ≡ false
unnamed p s rule point e n made told has h = false_unless _ (λ t.
    (let own = named_is p s rule point n t in
    let is = (slot_of p s e n made.first_meets told.whose has).event in
    let no : true ≡ false = sym own.names ∙ ap (names_event p rule point) is ∙ h in
    true-false no))

-- the meets that have a task with a resource

from_first : (from k j : ℕ) → from ≤ k → IsFrom (record { meet = record { 0 = from }; place = 0 })
    (record { meet = record { 0 = k }; place = j })
from_first from k j l = elim (cases_lt from k) [
  | inl m ↦ inl m
  | inr g ↦ (let e : from ≡ k = omega (arith, l, g) in inr (e, omega arith))
]

with_task : (p : Parts) (s : List Slot) (rule : Rule) (r : ResourceId) (n : ℕ)
    → is_meet_at p s rule (Resource r) n ≡ true
    → (j : ℕ) × (has_task s (Some r) (record { meet = record { 0 = n }; place = j }) ≡ true)
unfolding is_meet_at
with_task p s rule r n h =
    let b = both_true _ _ h in
    let q = any_place (is_resource r.0) (slot_at s n).given None b.1 in
    (q.0, and_from _ _ (and_from _ _ b.0 (lt-ltb _ _ q.1)) q.2)

pub no_meet_with : (p : Parts) (s : List Slot) (rule : Rule) (r : ResourceId) (from to : ℕ)
    → NoTask (has_task s (Some r)) (record { meet = record { 0 = from }; place = 0 })
    → NonePass (is_meet_at p s rule (Resource r)) from to
no_meet_with p s rule r from to none k a b = false_unless _ (λ t.
    (let w = with_task p s rule r k t in
    true-false (sym w.1 ∙ none (record { meet = record { 0 = k }; place = w.0 }) (from_first from k w.0 a))))

pub first_meet_with : (p : Parts) (s : List Slot) (rule : Rule) (r : ResourceId) (from : ℕ) (t : TaskId) → AreWellMade p
    → AreTold p s
    → IsFrom (record { meet = record { 0 = from }; place = 0 }) t → has_task s (Some r) t ≡ true
    → NoTaskBefore (has_task s (Some r)) (record { meet = record { 0 = from }; place = 0 }) t
    → IsFirst (is_meet_at p s rule (Resource r)) from (meet_slots p) (Some t.meet.0)
unfolding is_meet_at
first_meet_with p s rule r from t made told onward has none =
    let b = both_true _ _ has in
    let there = place_there (slot_at s t.meet.0) t.place b.0 in
    let low : from ≤ t.meet.0 = elim onward [ inl l ↦ omega (arith, l) | inr q ↦ (let e = q.0 in omega (arith, e)) ] in (
      low,
      slot_below p s t.meet.0 made told there.0,
      and_from _ _ there.0 (list_any_at (is_resource r.0) (slot_at s t.meet.0).given t.place None there.1 b.1),
      λ k a l. false_unless _ (λ h.
          (let w = with_task p s rule r k h in
          true-false (sym w.1 ∙ none (record { meet = record { 0 = k }; place = w.0 }) (from_first from k w.0 a)
          (inl l)))),
    )

-- the bounds of one event's slots
pub within_one : (p : Parts) (rule : Rule) (point : Point) (own start end : ℕ) → end ≤ meet_slots p
    → AreSlotsOf p own start end
    → ((e : ℕ) → names_event p rule point e ≡ true → e ≡ own) → AreWithin p rule point start end
within_one p rule point own start end most are one = record {
  slots = most;
  each = λ e event at named. (let b = are event (ap (slice_get p.events) (sym (one e named)) ∙ at) in let x = b.0 in
      let y = b.1 in (omega (arith, x), omega (arith, y)));
}

-- the bounds of two events' slots
pub within_two : (p : Parts) (rule : Rule) (point : Point) (a b a_start a_end b_start b_end : ℕ) → a_end ≤ meet_slots p
    → b_end ≤ meet_slots p
    → AreSlotsOf p a a_start a_end → AreSlotsOf p b b_start b_end
    → ((e : ℕ) → names_event p rule point e ≡ true → (e ≡ a) ⊎ (e ≡ b))
    → (start end : ℕ) → start ≤ a_start → start ≤ b_start → a_end ≤ end → b_end ≤ end → end ≤ meet_slots p
    → AreWithin p rule point start end
within_two p rule point a b a_start a_end b_start b_end most_a most_b are_a are_b either start end la lb ma mb most =
    record {
      slots = most;
      each = λ e event at named. elim (either e named) [
        | inl q ↦ (let w = are_a event (ap (slice_get p.events) (sym q) ∙ at) in let x = w.0 in let y = w.1 in
            (omega (arith, x, la), omega (arith, y, ma)))
        | inr q ↦ (let w = are_b event (ap (slice_get p.events) (sym q) ∙ at) in let x = w.0 in let y = w.1 in
            (omega (arith, x, lb), omega (arith, y, mb)))
      ];
    }

-- bounds of events that are none
pub within_none : (p : Parts) (rule : Rule) (point : Point) (start end : ℕ) → end ≤ meet_slots p
    → ((e : ℕ) → names_event p rule point e ≡ false) → AreWithin p rule point start end
within_none p rule point start end most none = record {
  slots = most;
  each = λ e event at named. absurd (true-false (sym named ∙ none e));
}

-- the bounds of all slots
pub within_all : (p : Parts) (rule : Rule) (point : Point) (end : ℕ) → AreWellMade p → end ≡ meet_slots p
    → AreWithin p rule point 0 end
within_all p rule point end made e = record {
  slots = omega (arith, e);
  each = λ k event at named. (
    omega arith,
    let w = event_within 0 k p.events event made.first_meets at in
        omega (arith, w, e),
  );
}

-- a test at a point is one at the point that it is
pub at_point : (P : Point → Type 0) (x y : Point) → x ≡ y → P y → P x
at_point P x y e h = subst P (sym e) h

-- the tasks at the places of events

pub names_place : (p : Parts) (rule : Rule) (e : EventId) (k : ℕ) → NamesItsTasks p rule (EventResource e k)
names_place p rule e k ev place given h = (both_true _ _ h).0

pub names_group : (p : Parts) (rule : Rule) (g : ℕ) → NamesItsTasks p rule (EventGroup g)
names_group p rule g ev place given h = (both_true _ _ h).0

-- a place of a live meet has a task, and one beyond the meet's places has none
pub place_is : (p : Parts) (s : List Slot) (rule : Rule) (point : Point) (m k : ℕ) (b : Bool)
    → is_live (slot_at s m) ≡ true → k < length (slot_at s m).given
    → b ≡ is_task_of p rule point (slot_at s m).event.0 k (given_at (slot_at s m) k)
    → is_task_in p s rule point (record { meet = record { 0 = m }; place = k }) ≡ b
place_is p s rule point m k b live l e =
    ap (λ a. a && is_task_of p rule point (slot_at s m).event.0 k (given_at (slot_at s m) k))
    (and_from _ _ live (lt-ltb _ _ l)) ∙ sym e

pub place_past : (p : Parts) (s : List Slot) (rule : Rule) (point : Point) (m k : ℕ) → length (slot_at s m).given ≤ k
    → is_task_in p s rule point (record { meet = record { 0 = m }; place = k }) ≡ false
place_past p s rule point m k l = false_unless _
    (λ h. let w = (place_there (slot_at s m) k (both_true _ _ h).0).1 in omega (arith, w, l))

-- a task of a meet that the point does not name is not the monitor's
pub task_unnamed : (p : Parts) (s : List Slot) (rule : Rule) (point : Point) (u : TaskId) → NamesItsTasks p rule point
    → is_named p s rule point u.meet.0 ≡ false → is_task_in p s rule point u ≡ false
task_unnamed p s rule point u names h = false_unless _ (λ t.
    (let b = both_true _ _ t in
    let own = named_may p s rule point u.meet.0 (record {
      live = (place_there (slot_at s u.meet.0) u.place b.0).0;
      names =
          names (slot_at s u.meet.0).event.0 u.place (given_at (slot_at s u.meet.0) u.place) b.1;
    }) in
    true-false (sym own ∙ h)))

pub task_below : (p : Parts) (s : List Slot) (rule : Rule) (point : Point) (u : TaskId) → AreWellMade p → AreTold p s
    → is_task_in p s rule point u ≡ true → u.meet.0 < meet_slots p
task_below p s rule point u made told t = slot_below p s u.meet.0 made told
    (place_there (slot_at s u.meet.0) u.place (both_true _ _ t).0).0

pub live_some : (x : Slot) (r : Option Meet) (b : Bool) → MatchOption r (is_live x ≡ false) (Shows x) → b ≡ is_some r
    → b ≡ true → is_live x ≡ true
live_some x None b h e t = absurd (true-false (sym t ∙ e))
live_some x (Some m) b h e t = h.live

pub live_none : (x : Slot) (r : Option Meet) (b : Bool) → MatchOption r (is_live x ≡ false) (Shows x) → b ≡ is_some r
    → b ≡ false → is_live x ≡ false
live_none x None b h e t = h
live_none x (Some m) b h e t = absurd (true-false (sym e ∙ t))

-- the numbers of slots are small
pub meet_small : (p : Parts) (test : ℕ → Bool) (from : ℕ) (r : Option ℕ) → AreWellMade p
    → IsFirst test from (meet_slots p) r → IfSome r (λ n. n + 1 < 2 ^ 32)
meet_small p test from None made h = tt
meet_small p test from (Some n) made h = let l = h.1 in let d = made.limits.duration in omega (arith, l, d)

pub task_small : (p : Parts) (test : ℕ → Bool) (from : ℕ) (r : Option ℕ) → AreWellMade p
    → IsFirst test from (task_slots p) r → IfSome r (λ n. n + 1 < 2 ^ 32)
task_small p test from None made h = tt
task_small p test from (Some n) made h = let l = h.1 in let d = made.limits.tasks in omega (arith, l, d)

pub same_true : (a b : ℕ) → (a == b) ≡ true → b ≡ a
same_true a b h = grind (arith, nat_tests)

pub or_true : (a b : Bool) → (a || b) ≡ true → (a ≡ true) ⊎ (b ≡ true)
or_true true b h = inl refl
or_true false b h = inr h

pub meet_below : (p : Parts) (s : List Slot) (t : TaskId) → AreWellMade p → AreTold p s
    → (is_live (slot_at s t.meet.0) ≡ true) × (t.place < length (slot_at s t.meet.0).given) → t.meet.0 < meet_slots p
meet_below p s t made told h = slot_below p s t.meet.0 made told h.0

pub number_small : (p : Parts) (s : List Slot) (t : TaskId) → AreWellMade p → AreTold p s
    → (is_live (slot_at s t.meet.0) ≡ true) × (t.place < length (slot_at s t.meet.0).given)
    → first_task p.events t.meet.0 + t.place < 2 ^ 32
number_small p s t made told h = let l = (task_number p s t made told h.1).0 in let d = made.limits.tasks in
    omega (arith, l, d)

-- tasks without a resource

pub open_live : (p : Parts) (s : List Slot) (n : ℕ) (t : TaskId) → is_free_at p s n ≡ true → t ≡ task_at p n
    → is_live (slot_at s t.meet.0) ≡ true
unfolding is_free_at
open_live p s n t h e = subst (λ (u : TaskId). is_live (slot_at s u.meet.0) ≡ true) (sym e)
    (there_in s (task_at p n) _ h).0

pub open_may : (p : Parts) (s : List Slot) (point : Point) (n : ℕ) (t : TaskId) (b : Bool) → is_free_at p s n ≡ true
    → t ≡ task_at p n → b ≡ may_be_given p point (slot_at s t.meet.0) t.place → is_open_at p s point n ≡ b
unfolding is_open_at
open_may p s point n t b h e g =
    ap (λ a. a && may_be_given p point (slot_at s (task_at p n).meet.0) (task_at p n).place) h
    ∙ sym (ap (λ (u : TaskId). may_be_given p point (slot_at s u.meet.0) u.place) e) ∙ sym g

pub open_free : (p : Parts) (s : List Slot) (point : Point) (n : ℕ) → is_free_at p s n ≡ false
    → is_open_at p s point n ≡ false
unfolding is_open_at
open_free p s point n h = ap (λ a. a && may_be_given p point (slot_at s (task_at p n).meet.0) (task_at p n).place) h

-- the places of a live meet's event
owned : (p : Parts) (s : List Slot) (m : ℕ) (event : EventInfo) → AreTold p s → is_live (slot_at s m) ≡ true
    → slice_get p.events (slot_at s m).event.0 ≡ Some event → length event.places ≡ length (slot_at s m).given
owned p s m event told live at =
    let o = live_owner p s m told live in
    ap (λ (x : EventInfo). length x.places) (same_Some event o.event (sym at ∙ o.there)) ∙ o.places

pub places_are : (p : Parts) (s : List Slot) (m : ℕ) (e : EventId) (event : EventInfo) → AreTold p s
    → is_live (slot_at s m) ≡ true → (slot_at s m).event ≡ e → slice_get p.events e.0 ≡ Some event
    → length event.places ≡ length (slot_at s m).given
places_are p s m e event told live same at = owned p s m event told live
    (ap (λ (x : EventId). slice_get p.events x.0) same ∙ at)

pub place_has : (x : Slot) (k : ℕ) → is_live x ≡ true → k < length x.given → has_place x k ≡ true
place_has x k live l = and_from _ _ live (lt-ltb _ _ l)

pub places_few : (p : Parts) (s : List Slot) (m : ℕ) (e : EventId) (event : EventInfo) → AreWellMade p → AreTold p s
    → is_live (slot_at s m) ≡ true → (slot_at s m).event ≡ e → slice_get p.events e.0 ≡ Some event
    → length event.places < 2 ^ 32
places_few p s m e event made told live same at =
    let has = live_event p s m made told live in
    let l = few_places p m (slot_at s m).event.0 event made.first_meets has
    (ap (λ (x : EventId). slice_get p.events x.0) same ∙ at) in
    let d = made.limits.tasks in
    omega (arith, l, d)

pub place_told : (p : Parts) (s : List Slot) (rule : Rule) (point : Point) (u : TaskId) (m : ℕ) → u.meet.0 ≡ m
    → is_task_in p s rule point (record { meet = record { 0 = m }; place = u.place }) ≡ false
    → is_task_in p s rule point u ≡ false
place_told p s rule point u m e h = ap (λ j. is_task_in p s rule point
    (record { meet = record { 0 = j }; place = u.place })) e ∙ h

-- the pair that a point names

pair_named : (r : Rule) (k e : ℕ) → pair_names r k e
    ≡ option_map_or (λ (q : EventPair). (q.first.0 == e) || (q.second.0 == e)) (pair_at r k) false
pair_named (OrderEvents pairs) k e = refl
pair_named _ k e = refl

pub pair_none : (r : Rule) (k e : ℕ) → pair_at r k ≡ None → pair_names r k e ≡ false
pair_none r k e h = pair_named r k e ∙ ap (λ (o : Option EventPair). option_map_or
    (λ (q : EventPair). (q.first.0 == e) || (q.second.0 == e)) o false) h

pub pair_some : (r : Rule) (k e : ℕ) (q : EventPair) → pair_at r k ≡ Some q → pair_names r k e ≡ true
    → (e ≡ q.first.0) ⊎ (e ≡ q.second.0)
pair_some r k e q h t =
    elim (or_true (q.first.0 == e) (q.second.0 == e)
    (sym (pair_named r k e ∙ ap (λ (o : Option EventPair). option_map_or
    (λ (q : EventPair). (q.first.0 == e) || (q.second.0 == e)) o false) h) ∙ t)) [
      | inl a ↦ inl (same_true q.first.0 e a)
      | inr a ↦ inr (same_true q.second.0 e a)
    ]

-- a place of a live meet's event, and a place that the event doesn't have
at_owner : (p : Parts) (s : List Slot) (m k : ℕ) (e : EventId) → (told : AreTold p s)
    → (live : is_live (slot_at s m) ≡ true) → (slot_at s m).event ≡ e
    → place_at p.events e.0 k ≡ slice_get (live_owner p s m told live).event.places k
at_owner p s m k e told live same =
    ap (λ (x : EventId). place_at p.events x.0 k) (sym same)
    ∙ ap (λ (o : Option EventInfo). option_and_then (λ (event : EventInfo). slice_get event.places k) o)
    (live_owner p s m told live).there

pub place_some : (p : Parts) (s : List Slot) (m k : ℕ) (e : EventId) (q : Place) → AreTold p s
    → is_live (slot_at s m) ≡ true → (slot_at s m).event ≡ e → place_at p.events e.0 k ≡ Some q
    → has_place (slot_at s m) k ≡ true
place_some p s m k e q told live same h =
    let o = live_owner p s m told live in
    let l = slice_get_within o.event.places k q (sym (at_owner p s m k e told live same) ∙ h) in
    let n = o.places in
    place_has (slot_at s m) k live (omega (arith, l, n))

pub place_nothing : (p : Parts) (s : List Slot) (m k : ℕ) (e : EventId) → AreTold p s → is_live (slot_at s m) ≡ true
    → (slot_at s m).event ≡ e → place_at p.events e.0 k ≡ None → given_at (slot_at s m) k ≡ None
place_nothing p s m k e told live same h =
    let o = live_owner p s m told live in
    let n = o.places in
    elim (cases_lt k (length (slot_at s m).given)) [
      | inl l ↦ (let a = there o.event.places k (omega (arith, l, n)) in
          absurd (there-none a.value (sym a.found ∙ sym (at_owner p s m k e told live same) ∙ h)))
      | inr g ↦ get_or_past (slot_at s m).given k None g
    ]
