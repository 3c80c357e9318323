-- What follows for one event from parts that are well made.
use Rattle.std.proofs.Common.{ℕ, ◌≡◌, ◌∙◌, ◌+◌, ◌*◌, ◌≤◌, Some, List, [], ◌∷◌, length, get_or, slice_get, sym, ap}
use Rattle.std.proofs.Common.{subst, arith, zero, suc}
use Rattle.std.specs.List.{sum_by}
use Rattle.std.proofs.Math.Nat.{mul-le-mul_left}
use Rattle.std.proofs.lemmas.List.Sums.{sum_by-cons, get_or-le-sum_by}
use Rattle.std.proofs.lemmas.Option.{get_or_from_slice_get, slice_get_within, same_Some}
use Rattle.khe_base.specs.declared.limits.TheConstants.{DURATION, TASKS}
use Rattle.khe_instance.specs.WellMade.{AreWellMade, AreFirstMeets, IsEvent}
use Rattle.khe_instance.specs.declared.parts.EventInfo.{EventInfo}
use Rattle.khe_instance.specs.declared.parts.Parts.{Parts}

-- an event is well made
pub event-made : (p : Parts) (e : ℕ) (event : EventInfo) → AreWellMade p → slice_get p.events e ≡ Some event
    → IsEvent p event
event-made p e event made there = subst (IsEvent p) (get_or_from_slice_get p.events e event event there)
    (made.events e event (slice_get_within p.events e event there))

-- its places are in the limit on tasks
pub places-few : (p : Parts) (e : ℕ) (event : EventInfo) → AreWellMade p → slice_get p.events e ≡ Some event
    → length event.places ≤ TASKS
places-few p e event made there =
    let size : EventInfo → ℕ = λ x. x.duration * length x.places in
    let own : size (get_or p.events e event) ≤ sum_by size p.events =
    get_or-le-sum_by size p.events e event (slice_get_within p.events e event there) in
    let same : size (get_or p.events e event) ≡ size event =
    ap size (get_or_from_slice_get p.events e event event there) in
    let own_size : event.duration * length event.places ≤ sum_by size p.events =
    subst (λ k. k ≤ sum_by size p.events) same own in
    let all : sum_by size p.events ≤ TASKS = made.limits.tasks in
    let lasts : 1 ≤ event.duration = (event-made p e event made there).duration.0 in
    omega (arith, mul-le-mul_left (length event.places) lasts)

-- the first slots of events, counted on from a slot, come before the slots of all
pub slots-fit : (next : ℕ) (events : List EventInfo) (e : ℕ) (event : EventInfo) → AreFirstMeets next events
    → slice_get events e ≡ Some event
    → event.first_meet + event.duration ≤ next + sum_by (λ x. x.duration) events
slots-fit next [] e event h there = cc
slots-fit next (x ∷ xs) zero event h there =
    let same : x ≡ event = same_Some x event there in
    let first : event.first_meet ≡ next = ap (λ (y : EventInfo). y.first_meet) (sym same) ∙ h.0 in
    let long : event.duration ≡ x.duration = ap (λ (y : EventInfo). y.duration) (sym same) in
    omega (arith, sum_by-cons (λ (y : EventInfo). y.duration) x xs)
slots-fit next (x ∷ xs) (suc e) event h there =
    let rest = slots-fit (next + x.duration) xs e event h.1 there in
    omega (arith, rest, sum_by-cons (λ (y : EventInfo). y.duration) x xs)

-- no slot of an event is beyond the limit
pub slots-few : (p : Parts) (e : ℕ) (event : EventInfo) → AreWellMade p → slice_get p.events e ≡ Some event
    → event.first_meet + event.duration ≤ DURATION
slots-few p e event made there =
    let within = slots-fit 0 p.events e event made.first_meets there in
    let all : sum_by (λ x. x.duration) p.events ≤ DURATION = made.limits.duration in
    omega (arith, within)
