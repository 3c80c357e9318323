-- An instance with few tasks has few places in each event.
use Rattle.std.proofs.Common.{ℕ, ◌*◌, ◌≤◌, ◌<◌, ◌^◌, List, [], ◌∷◌, All, length, map, arith, length-append, sum_by}
use Rattle.std.proofs.Common.{flat_map}
use Rattle.std.proofs.lemmas.List.{length-map}
use Rattle.std.proofs.lemmas.List.Elements.{All-nil, All-cons, All-head, All-tail}
use Rattle.std.proofs.lemmas.List.Sums.{sum_by-cons}
use Rattle.khe_base.specs.declared.limits.TheConstants.{TASKS}
use Rattle.xhstt_resolve.specs.Limits.{task_count}
use Rattle.xhstt_resolve.specs.Parts.{group_places, place_of, places_of}
use Rattle.xhstt_resolve.specs.Tables.{HasFewPlaces}
use Rattle.xhstt_shape.specs.WellFormed as shape
use Rattle.xhstt_shape.specs.declared.records.RawEvent.{RawEvent}
use Rattle.xhstt_shape.specs.declared.records.RawInstance.{RawInstance}

-- a number is at most any multiple of it but 0
once-within : (d n most : ℕ) → 1 ≤ d → d * n ≤ most → n ≤ most
once-within d n most some h = grind arith

event-few : (i : RawInstance) (e : RawEvent) → shape.IsEvent e → e.duration * length (places_of i e) ≤ TASKS
    → length e.resources < 2 ^ 32
event-few i e formed h =
    let few : length (places_of i e) ≤ TASKS = once-within e.duration (length (places_of i e)) TASKS formed.duration.0
    h in
    omega (
      arith,
      few,
      length-append (map (place_of i e) e.resources) (flat_map (group_places i e) e.resource_groups),
      length-map e.resources (place_of i e),
    )

events-few : (i : RawInstance) (es : List RawEvent) → All shape.IsEvent es
    → sum_by (λ e. e.duration * length (places_of i e)) es ≤ TASKS → All (λ e. length e.resources < 2 ^ 32) es
events-few i [] formed h = All-nil (λ e. length e.resources < 2 ^ 32)
events-few i (e ∷ es) formed h =
    let split = sum_by-cons (λ x. x.duration * length (places_of i x)) e es in
    let first : e.duration * length (places_of i e) ≤ TASKS = omega (arith, h, split) in
    let rest : sum_by (λ x. x.duration * length (places_of i x)) es ≤ TASKS = omega (arith, h, split) in
    All-cons (λ x. length x.resources < 2 ^ 32) e es (event-few i e (All-head shape.IsEvent e es formed) first)
    (events-few i es (All-tail shape.IsEvent e es formed) rest)

pub few-places : (i : RawInstance) → shape.IsInstance i → task_count i ≤ TASKS → HasFewPlaces i
few-places i formed h = record { places = events-few i i.events formed.events h }
