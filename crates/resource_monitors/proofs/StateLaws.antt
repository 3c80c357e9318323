-- Told states: the one without meets, what the slots of others are given, and how many tasks run.
use Rattle.std.proofs.Common.{ℕ, ◌≡◌, ◌≤◌, ◌<◌, ◌+◌, ◌∙◌, zero, suc, Option, Some, None, List}
use Rattle.std.proofs.Common.{[], ◌∷◌, length, slice_get, refl, sym, ap, subst, arith}
use Rattle.std.proofs.Common.{length-append, set, sum_by}
use Rattle.std.specs.Prelude.{◌&&◌}
use Rattle.std.specs.Option.{option_map_or}
use Rattle.std.proofs.lemmas.List.Elements.{All-get_or}
use Rattle.std.proofs.lemmas.List.Sums.{sum_by-cons, sum_by-set, count_by-le-length}
use Rattle.std.proofs.lemmas.Option.{slice_get_within, none-some}
use Rattle.khe_base.specs.declared.limits.TheConstants.{TASKS}
use Rattle.khe_base.specs.declared.numbers.ResourceId.{ResourceId}
use Rattle.khe_instance.specs.Running.{is_resource, runs, running_tasks}
use Rattle.khe_instance.specs.States.{AreOfState}
use Rattle.khe_instance.specs.WellMade.{AreWellMade}
use Rattle.khe_instance.specs.declared.parts.EventInfo.{EventInfo}
use Rattle.khe_instance.specs.declared.parts.Parts.{Parts}
use Rattle.khe_instance.specs.declared.parts.Place.{Place}
use Rattle.khe_instance.specs.declared.states.Duty.{Duty}
use Rattle.khe_instance.specs.declared.states.Meet.{Meet}
use Rattle.khe_instance.proofs.DutiesLemmas.{are-duties, typed}
use Rattle.khe_told.specs.Fits.{AreTold, IsSlot}
use Rattle.khe_told.specs.Lists.{duties_in, duties_of, duties_with, meets_in, tasks_in}
use Rattle.khe_told.specs.Slots.{no_meets, slot_at, no_slot}
use Rattle.khe_told.specs.declared.slots.Slot.{Slot}
use Rattle.khe_told.specs.declared.slots.Span.{Span}
use Rattle.khe_told.proofs.DutyLaws.{duties_listed}
use Rattle.khe_told.proofs.FreeSlots.{AreFree, free_from}
use Rattle.khe_told.proofs.FrameLaws.{frames, told_from, IsFrame}
use Rattle.khe_told.proofs.ValidLaws.{listed_told}
use Rattle.resource_monitors.specs.Runs.{AreOf}
use Rattle.resource_monitors.proofs.TurnLaws.{cell_in, cell_is, cell_of, cells_are}

-- nothing runs in the state without meets
free_duties : (s : List Slot) → AreFree s → duties_in s ≡ []
free_duties [] h = refl
free_duties (x ∷ s) h = by x.span h.0.span (free_duties s h.1)
  where
    by : (o : Option Span) → o ≡ None → duties_in s ≡ [] → duties_in (record x { span = o } ∷ s) ≡ []
    by o n r = ap (λ q. duties_in (record x { span = q } ∷ s)) n ∙ r

pub no_duties : (p : Parts) → duties_in (no_meets p) ≡ []
no_duties p = free_duties (no_meets p) (free_from 0 p.events)

-- there are no more tasks than an instance may have
duties_few : (p : Parts) → AreWellMade p → (s : List Slot) → AreTold p s → length (duties_in s) ≤ TASKS
duties_few p made s told =
    let of : AreOfState p (meets_in s) (duties_in s) =
    record {
      tasks = tasks_in s;
      told = listed_told p s made.first_meets told;
      same =
          sym (duties_listed 0 s (told_from p s made.first_meets told.whose));
    } in
    (are-duties p (meets_in s) (duties_in s) made of).few

-- and no more run
pub tasks_few : (p : Parts) → AreWellMade p → (s : List Slot) → AreTold p s → (r t : ℕ)
    → running_tasks (duties_in s) r t ≤ TASKS
tasks_few p made s told r t =
    let few = duties_few p made s told in
    let l = count_by-le-length (λ (d : Duty). is_resource r d.resource && runs d.meet t) (duties_in s) in
    omega (arith, few, l)

-- beside those of all other slots there is room for one for each place of a slot with a meet
duties_listed_by : (m : Meet) (place : ℕ) (given : List (Option ResourceId))
    → length (duties_with m place given) ≡ length given
duties_listed_by m place [] = refl
duties_listed_by m place (o ∷ given) = ap suc (duties_listed_by m (place + 1) given)

duties_by : (s : List Slot) → length (duties_in s) ≡ sum_by (λ (x : Slot). length (duties_of x)) s
duties_by [] = refl
duties_by (x ∷ s) = length-append (duties_of x) (duties_in s) ∙ ap (λ n. length (duties_of x) + n) (duties_by s)
    ∙ sym (sum_by-cons (λ (y : Slot). length (duties_of y)) x s)

sum_less : {X : Type 0} (f g : X → ℕ) → ((x : X) → f x ≤ g x) → (xs : List X) → sum_by f xs ≤ sum_by g xs
sum_less f g e [] = omega arith
sum_less f g e (x ∷ xs) = let a = sum_by-cons f x xs in let b = sum_by-cons g x xs in let k = e x in let r =
    sum_less f g e xs in omega (arith, a, b, k, r)

pub others_few : (p : Parts) → AreWellMade p → (s : List Slot) → AreTold p s → (k : ℕ) → k < length s
    → (y : Span) → (slot_at s k).span ≡ Some y → (q t : ℕ)
    → running_tasks (duties_in s) q t + length (slot_at s k).given ≤ TASKS + cell_in (slot_at s k) q t
others_few p made s told k l y live q t =
    let a = cells_are s q t in
    let b : cell_of (set s k no_slot) q t + cell_in (slot_at s k) q t ≡ cell_of s q t + 0 =
    sum_by-set (λ (x : Slot). cell_in x q t) s k no_slot no_slot l in
    let c : sum_by size (set s k no_slot) + size (slot_at s k) ≡ sum_by size s + 0 =
    sum_by-set size s k no_slot no_slot l in
    let d : size (slot_at s k) ≡ length (slot_at s k).given = own (slot_at s k) live in
    let e : cell_of (set s k no_slot) q t ≤ sum_by size (set s k no_slot) =
    sum_less (λ (x : Slot). cell_in x q t) size each (set s k no_slot) in
    let f = duties_by s in
    let few = duties_few p made s told in
    omega (arith, a, b, c, d, e, f, few)
  where
    size : Slot → ℕ
    size x = length (duties_of x)

    each : (x : Slot) → cell_in x q t ≤ size x
    each x = subst (λ n. n ≤ size x) (cell_is x q t)
        (count_by-le-length (λ (d : Duty). is_resource q d.resource && runs d.meet t) (duties_of x))

    own : (x : Slot) → x.span ≡ Some y → size x ≡ length x.given
    own x e = ap (λ o. size (record x { span = o })) e
        ∙ duties_listed_by (record { meet = x.meet; event = x.event; duration = y.duration; start = y.start }) 0 x.given

slot_of : (p : Parts) (x : Slot) → IsFrame p.events x → IsSlot p x → AreOf x.given (length p.resources)
slot_of p x frame is j r h =
    let event = frame.slot.0 in
    let there = frame.slot.1 in
    let many : length x.given ≡ length event.places =
    frame.places ∙ ap (λ o. option_map_or (λ (y : EventInfo). length y.places) o 0) there in
    let l = slice_get_within x.given j (Some r) h in
    by event.places (slice_get event.places j) refl (omega (arith, many, l))
    (λ place e. typed p place.rtype r (is.given event j place r there e h))
  where
    by : (places : List Place) (o : Option Place) → slice_get places j ≡ o → j < length places
        → ((place : Place) → slice_get places j ≡ Some place → r.0 < length p.resources) → r.0 < length p.resources
    by places (Some place) e l f = f place e
    by places None e l f = absurd (no places j l e)
      where
        no : (xs : List Place) (i : ℕ) → i < length xs → slice_get xs i ≡ None → ⊥
        no [] i l e = omega (arith, l)
        no (y ∷ xs) zero l e = none-some y (sym e)
        no (y ∷ xs) (suc i) l e = no xs i (omega (arith, l)) e

pub at_slot : (p : Parts) → AreWellMade p → (s : List Slot) → AreTold p s → (m : ℕ) → m < length s
    → AreOf (slot_at s m).given (length p.resources)
at_slot p made s told m l = slot_of p (slot_at s m)
    (All-get_or (IsFrame p.events) s m no_slot l (frames p s made.first_meets told.whose))
    (All-get_or (IsSlot p) s m no_slot l told.slots)
