-- The lists of the timetable that a construction begins with, one more meet, task or event.
use Rattle.std.proofs.Common.{ℕ, zero, suc, ◌≡◌, ◌+◌, ◌-◌, ◌*◌, ◌^◌, ◌<◌, ◌≤◌, Bool, true, false, cond, Option, Some, None}
use Rattle.std.proofs.Common.{List, [], ◌∷◌, ◌++◌, length, map, drop, replicate, slice_get, get_or, refl, sym, ap, subst}
use Rattle.std.proofs.Common.{◌∙◌, arith}
use Rattle.std.specs.Prelude.{nat_lt}
use Rattle.std.specs.List.{cons_option, filter_map, flat_map, range_with_len, sum_by}
use Rattle.std.proofs.lemmas.Bool.{lt-ltb, le-ltb}
use Rattle.std.proofs.lemmas.List.{append-nil, append_assoc, length-map, at_drop_all, at_drop_more}
use Rattle.std.proofs.lemmas.List.Concat.{flat_map-append, flat_map-cons}
use Rattle.std.proofs.lemmas.List.Elements.{filter_map-append}
use Rattle.std.proofs.lemmas.List.Sums.{sum_by-cons}
use Rattle.std.proofs.lemmas.Option.{none-some, same_Some, slice_get-get_or}
use Rattle.construct.proofs.BegunLaws.{amount_at}
use Rattle.construct.proofs.CutLaws.{IsAmount}
use Rattle.construct.specs.Amounts.{AreAmounts}
use Rattle.construct.specs.Begun.{begun, begun_from, begun_of, begun_slot, begun_slots, cut_slot}
use Rattle.construct.specs.Cuts.{amount_of, part}
use Rattle.khe_base.proofs.ListLemmas.{all-there, drop-there}
use Rattle.khe_base.specs.declared.numbers.ResourceId.{ResourceId}
use Rattle.khe_instance.specs.Slots.{HasSlot}
use Rattle.khe_instance.specs.WellMade.{AreFirstMeets, AreWellMade, IsEvent}
use Rattle.khe_instance.specs.declared.parts.EventInfo.{EventInfo}
use Rattle.khe_instance.specs.declared.parts.Parts.{Parts}
use Rattle.khe_instance.specs.declared.parts.Place.{Place}
use Rattle.khe_instance.specs.declared.states.Meet.{Meet}
use Rattle.khe_instance.specs.declared.states.Plain.{Plain}
use Rattle.khe_instance.specs.declared.states.Task.{Task}
use Rattle.khe_told.proofs.OpeningLaws.{few_places}
use Rattle.khe_told.specs.Lists.{meet_in, meets_in, tasks_in, tasks_of, tasks_with}
use Rattle.khe_told.specs.Slots.{empty_slot}
use Rattle.khe_told.specs.declared.slots.Slot.{Slot}

-- numbers of an event fit
firsts : (from j : ℕ) (event : EventInfo) (events : List EventInfo) → AreFirstMeets from events
    → slice_get events j ≡ Some event
    → event.first_meet + event.duration ≤ from + sum_by (λ (x : EventInfo). x.duration) events
firsts from j event [] f at = absurd (none-some event at)
firsts from zero event (x ∷ events) f at =
    let same = same_Some x event at in
    let a = ap (λ (y : EventInfo). y.first_meet) same in
    let b = ap (λ (y : EventInfo). y.duration) same in
    let c = sum_by-cons (λ (y : EventInfo). y.duration) x events in
    let d = f.0 in
    omega (arith, a, b, c, d)
firsts from (suc j) event (x ∷ events) f at =
    let r = firsts (from + x.duration) j event events f.1 at in
    let c = sum_by-cons (λ (y : EventInfo). y.duration) x events in
    omega (arith, r, c)

pub event_room : (p : Parts) (e : ℕ) (event : EventInfo) → AreWellMade p → slice_get p.events e ≡ Some event
    → event.first_meet + event.duration + 1 < 2 ^ 32
event_room p e event made at =
    let a = firsts 0 e event p.events made.first_meets at in
    let b = made.limits.duration in
    omega (arith, a, b)

pub places_room : (p : Parts) (e : ℕ) (event : EventInfo) → AreWellMade p → slice_get p.events e ≡ Some event
    → length event.places < 2 ^ 32
places_room p e event made at =
    let d = (all-there (IsEvent p) p.events e event made.events at).duration.0 in
    let slot : HasSlot p.events e event.first_meet = (event, at, omega arith, omega (arith, d)) in
    let a = few_places p event.first_meet e event made.first_meets slot at in
    let b = made.limits.tasks in
    omega (arith, a, b)

-- how many meets the event at hand has
pub own_amount : (p : Parts) (e n : ℕ) (event : EventInfo) (amounts : List ℕ) → AreAmounts p n amounts
    → slice_get p.events e ≡ Some event → e < length amounts → get_or amounts e 0 ≡ amount_of p e event
own_amount p e n event amounts w at l = w.each e event (get_or amounts e 0) at (slice_get-get_or amounts e 0 l)

pub own_few : (p : Parts) (e n : ℕ) (event : EventInfo) (amounts : List ℕ) → AreWellMade p → AreAmounts p n amounts
    → slice_get p.events e ≡ Some event → e < length amounts → get_or amounts e 0 ≤ event.duration
own_few p e n event amounts made w at l =
    let a = own_amount p e n event amounts w at l in
    let b = (amount_at p e event made at).few in
    omega (arith, a, b)

-- a slot with a meet, and one without
slot_live : (e : ℕ) (event : EventInfo) (n k : ℕ) → k < n
    → begun_slot e event n k ≡ cut_slot (event.first_meet + k) e event (part event.duration n k)
unfolding begun_slot
slot_live e event n k l =
    ap (λ c. cond c (cut_slot (event.first_meet + k) e event (part event.duration n k))
    (empty_slot (event.first_meet + k) e event)) (lt-ltb k n l)

slot_free : (e : ℕ) (event : EventInfo) (n k : ℕ) → n ≤ k
    → begun_slot e event n k ≡ empty_slot (event.first_meet + k) e event
unfolding begun_slot
slot_free e event n k l =
    ap (λ c. cond c (cut_slot (event.first_meet + k) e event (part event.duration n k))
    (empty_slot (event.first_meet + k) e event)) (le-ltb k n l)

-- the slots of an event from one on
abbrev pub slots_on : ℕ → EventInfo → ℕ → ℕ → List Slot
slots_on e event n k = map (begun_slot e event n) (range_with_len k (event.duration - k))

on_next : (e : ℕ) (event : EventInfo) (n k : ℕ) → k < event.duration
    → slots_on e event n k ≡ begun_slot e event n k ∷ slots_on e event n (k + 1)
on_next e event n k l =
    let z : event.duration - k ≡ suc (event.duration - (k + 1)) = omega arith in
    ap (λ j. map (begun_slot e event n) (range_with_len k j)) z

-- one more meet
pub meets_next : (e : ℕ) (event : EventInfo) (n k : ℕ) (made more whole : List Meet) (m : Meet) → k < n
    → n ≤ event.duration
    → m ≡ record { meet = record { 0 = event.first_meet + k }; event = record { 0 = e }; duration = part event.duration n k; start = event.fixed }
    → more ≡ made ++ m ∷ [] → made ++ meets_in (slots_on e event n k) ≡ whole
    → more ++ meets_in (slots_on e event n (k + 1)) ≡ whole
meets_next e event n k made more whole m l few is a w =
    let rest = meets_in (slots_on e event n (k + 1)) in
    ap (λ ms. ms ++ rest) a ∙ append_assoc made (m ∷ []) rest
    ∙ ap (λ (x : Meet). made ++ x ∷ rest) is
    ∙ ap (λ x. made ++ meets_in (x ∷ slots_on e event n (k + 1))) (sym (slot_live e event n k l))
    ∙ ap (λ s. made ++ meets_in s) (sym (on_next e event n k (omega arith))) ∙ w

-- no meet is in the slots after the last
no_meets_on : (e : ℕ) (event : EventInfo) (n k many : ℕ) → n ≤ k
    → meets_in (map (begun_slot e event n) (range_with_len k many)) ≡ []
no_meets_on e event n k zero l = refl
no_meets_on e event n k (suc many) l =
    ap (λ x. meets_in (x ∷ map (begun_slot e event n) (range_with_len (k + 1) many))) (slot_free e event n k l)
    ∙ no_meets_on e event n (k + 1) many (omega arith)

pub meets_end : (e : ℕ) (event : EventInfo) (n k : ℕ) (made whole : List Meet) → n ≤ k
    → made ++ meets_in (slots_on e event n k) ≡ whole → made ≡ whole
meets_end e event n k made whole l w =
    sym (append-nil made)
    ∙ ap (λ ms. made ++ ms) (sym (no_meets_on e event n k (event.duration - k) l)) ∙ w

-- one more meet's tasks
abbrev spoken : ℕ → EventInfo → ℕ → ℕ → Meet
spoken e event n k = record {
  meet = record { 0 = event.first_meet + k };
  event = record { 0 = e };
  duration = part event.duration n k;
  start = event.fixed;
}

pub tasks_next : (e : ℕ) (event : EventInfo) (n k : ℕ) (made more whole : List Task) → k < n → n ≤ event.duration
    → ((m : Meet) → m.meet ≡ record { 0 = event.first_meet + k }
    → more ≡ made ++ tasks_with m 0 (map (λ (y : Place). y.fixed) event.places))
    → made ++ tasks_in (slots_on e event n k) ≡ whole → more ++ tasks_in (slots_on e event n (k + 1)) ≡ whole
tasks_next e event n k made more whole l few a w =
    let rest = tasks_in (slots_on e event n (k + 1)) in
    let own = tasks_with (spoken e event n k) 0 (map (λ (y : Place). y.fixed) event.places) in
    ap (λ ts. ts ++ rest) (a (spoken e event n k) refl) ∙ append_assoc made own rest
    ∙ ap (λ ts. made ++ ts) (sym (flat_map-cons tasks_of (cut_slot (event.first_meet + k) e event (part event.duration n k))
    (slots_on e event n (k + 1))))
    ∙ ap (λ x. made ++ tasks_in (x ∷ slots_on e event n (k + 1))) (sym (slot_live e event n k l))
    ∙ ap (λ s. made ++ tasks_in s) (sym (on_next e event n k (omega arith))) ∙ w

no_tasks_on : (e : ℕ) (event : EventInfo) (n k many : ℕ) → n ≤ k
    → tasks_in (map (begun_slot e event n) (range_with_len k many)) ≡ []
no_tasks_on e event n k zero l = refl
no_tasks_on e event n k (suc many) l =
    ap (λ x. tasks_in (x ∷ map (begun_slot e event n) (range_with_len (k + 1) many))) (slot_free e event n k l)
    ∙ flat_map-cons tasks_of (empty_slot (event.first_meet + k) e event)
    (map (begun_slot e event n) (range_with_len (k + 1) many))
    ∙ no_tasks_on e event n (k + 1) many (omega arith)

pub tasks_end : (e : ℕ) (event : EventInfo) (n k : ℕ) (made whole : List Task) → n ≤ k
    → made ++ tasks_in (slots_on e event n k) ≡ whole → made ≡ whole
tasks_end e event n k made whole l w =
    sym (append-nil made)
    ∙ ap (λ ts. made ++ ts) (sym (no_tasks_on e event n k (event.duration - k) l)) ∙ w

-- one more event
abbrev pub from_on : Parts → ℕ → List Slot
from_on p k = begun_from p k (drop k p.events)

from_next : (p : Parts) (k : ℕ) (event : EventInfo) → slice_get p.events k ≡ Some event
    → from_on p k ≡ begun_of k event (amount_of p k event) ++ from_on p (k + 1)
from_next p k event at = ap (begun_from p k) (drop-there p.events k event at)

pub event_meets : (p : Parts) (k n : ℕ) (event : EventInfo) (made more whole : List Meet)
    → slice_get p.events k ≡ Some event → n ≡ amount_of p k event → more ≡ made ++ meets_in (begun_of k event n)
    → made ++ meets_in (from_on p k) ≡ whole → more ++ meets_in (from_on p (k + 1)) ≡ whole
event_meets p k n event made more whole at is a w =
    let own = begun_of k event (amount_of p k event) in
    let rest = from_on p (k + 1) in
    ap (λ ms. ms ++ meets_in rest) (a ∙ ap (λ j. made ++ meets_in (begun_of k event j)) is)
    ∙ append_assoc made (meets_in own) (meets_in rest)
    ∙ ap (λ ms. made ++ ms) (sym (filter_map-append meet_in own rest))
    ∙ ap (λ s. made ++ meets_in s) (sym (from_next p k event at)) ∙ w

pub event_tasks : (p : Parts) (k n : ℕ) (event : EventInfo) (made more whole : List Task)
    → slice_get p.events k ≡ Some event → n ≡ amount_of p k event → more ≡ made ++ tasks_in (begun_of k event n)
    → made ++ tasks_in (from_on p k) ≡ whole → more ++ tasks_in (from_on p (k + 1)) ≡ whole
event_tasks p k n event made more whole at is a w =
    let own = begun_of k event (amount_of p k event) in
    let rest = from_on p (k + 1) in
    ap (λ ts. ts ++ tasks_in rest) (a ∙ ap (λ j. made ++ tasks_in (begun_of k event j)) is)
    ∙ append_assoc made (tasks_in own) (tasks_in rest)
    ∙ ap (λ ts. made ++ ts) (sym (flat_map-append tasks_of own rest))
    ∙ ap (λ s. made ++ tasks_in s) (sym (from_next p k event at)) ∙ w

drop_past : {A : Type 0} (xs : List A) (n : ℕ) → length xs ≤ n → drop n xs ≡ []
drop_past [] zero l = refl
drop_past [] (suc n) l = refl
drop_past (x ∷ xs) zero l = absurd (omega (arith, l))
drop_past (x ∷ xs) (suc n) l = drop_past xs n (omega (arith, l))

pub events_end : {A : Type 0} (p : Parts) (k : ℕ) (f : List Slot → List A) (made whole : List A) → f [] ≡ []
    → length p.events ≤ k → made ++ f (from_on p k) ≡ whole → made ≡ whole
events_end p k f made whole none l w =
    sym (append-nil made)
    ∙ ap (λ xs. made ++ xs) (sym (ap (λ es. f (begun_from p k es)) (drop_past p.events k l) ∙ none)) ∙ w

pub all_begun : {A : Type 0} (p : Parts) (f : List Slot → List A) → f (from_on p 0) ≡ f (begun_slots p)
unfolding begun_slots
all_begun p f = refl

-- one more place
pub place_next : (made more whole : List Task) (m : Meet) (k : ℕ) (given : List (Option ResourceId))
    (r : Option ResourceId) → k < length given → r ≡ get_or given k None
    → more ≡ made ++ record { task = record { meet = m.meet; place = k }; resource = r } ∷ []
    → made ++ tasks_with m k (drop k given) ≡ whole → more ++ tasks_with m (k + 1) (drop (k + 1) given) ≡ whole
place_next made more whole m k given r l is e w =
    let here : Option ResourceId → Task = λ o. record { task = record { meet = m.meet; place = k }; resource = o } in
    let rest = tasks_with m (k + 1) (drop (k + 1) given) in
    ap (λ ts. ts ++ rest) e ∙ append_assoc made (here r ∷ []) rest
    ∙ ap (λ ts. made ++ ts) (ap (λ o. here o ∷ rest) is ∙ sym (at_drop_more (tasks_with m k) given k None l))
    ∙ w

pub places_end : (made whole : List Task) (m : Meet) (k : ℕ) (given : List (Option ResourceId)) → length given ≤ k
    → made ++ tasks_with m k (drop k given) ≡ whole → made ≡ whole
places_end made whole m k given l w = sym (append-nil made)
    ∙ ap (λ xs. made ++ xs) (sym (at_drop_all (tasks_with m k) given k l)) ∙ w

-- what stands at a place is preassigned there
pub fixed_at : (places : List Place) (k : ℕ) (own : Place) → k < length places → own ≡ get_or places k own
    → own.fixed ≡ get_or (map (λ (y : Place). y.fixed) places) k None
fixed_at [] k own l is = absurd (omega arith)
fixed_at (x ∷ places) zero own l is = ap (λ (y : Place). y.fixed) is
fixed_at (x ∷ places) (suc k) own l is = fixed_at places k own (omega (arith, l)) is

pub on_all : (e : ℕ) (event : EventInfo) (n : ℕ) → slots_on e event n 0 ≡ begun_of e event n
on_all e event n =
    let z : event.duration - 0 ≡ event.duration = omega arith in
    ap (λ j. map (begun_slot e event n) (range_with_len 0 j)) z

pub begun_is : (p : Parts) (s : Plain) → s.meets ≡ meets_in (begun_slots p) → s.tasks ≡ tasks_in (begun_slots p)
    → s.detached ≡ [] → s.groups ≡ [] → s ≡ begun p
unfolding begun
begun_is p s a b c d = λ i. record { meets = a i; tasks = b i; detached = c i; groups = d i }
