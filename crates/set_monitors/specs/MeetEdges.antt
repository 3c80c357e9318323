-- When the meet of each slot of an event starts and ends, as keys whose least is the first start and the last end.
use Rattle.std.specs.Prelude.{ℕ, ◌≡◌, ◌≢◌, ◌⊎◌, ◌≤◌, ◌+◌, ◌-◌, ◌==◌, Option, Some, None, List, [], All, map, length}
use Rattle.std.specs.Prelude.{slice_get, slice_index_or, IfSome}
use Rattle.std.specs.List.{filter}
use Rattle.std.specs.Option.{option_map_or}
use Rattle.khe_base.specs.declared.limits.TheConstants.{TIMES}
use Rattle.khe_instance.specs.declared.parts.Parts.{Parts}
use Rattle.khe_told.specs.Turns.{SlotTurn}
use Rattle.khe_told.specs.declared.slots.Slot.{Slot}
use Rattle.khe_told.specs.declared.slots.Span.{Span}
use Rattle.set_monitors.specs.declared.meet_edges.Edges.{Edges}
use Rattle.set_monitors.specs.declared.least_trees.TheConstants.{NOTHING}

-- the start of a slot's meet, and how far before the greatest number it ends
abbrev pub start_key : Option Span → ℕ
start_key None = NOTHING
start_key (Some y) = option_map_or (λ t. t.0) y.start NOTHING

abbrev pub end_key : Option Span → ℕ
end_key None = NOTHING
end_key (Some y) = option_map_or (λ t. NOTHING - (t.0 + y.duration)) y.start NOTHING

-- the slots of an event
abbrev pub own_slots : ℕ → List Slot → List Slot
own_slots e s = filter (λ x. x.event.0 == e) s

pub record IsEdges (e : ℕ) (s : List Slot) (a : Edges) : Type 0 where
  pub starts : a.starts ≡ map (λ x. start_key x.span) (own_slots e s)
  pub ends : a.ends ≡ map (λ x. end_key x.span) (own_slots e s)

-- the list of an event has something
abbrev pub IsWatched : List (List ℕ) → ℕ → Type 0
IsWatched lists e = slice_index_or lists e [] ≢ []

-- a turn keeps its slot's meet, or is of an event without a list
abbrev pub LeavesEdges : List (List ℕ) → SlotTurn → Type 0
LeavesEdges lists t = (t.before.span ≡ t.after.span) ⊎ (slice_index_or lists t.before.event.0 [] ≡ [])

-- those of all events that have a list
pub record AreEdges (p : Parts) (lists : List (List ℕ)) (s : List Slot) (edges : List Edges) : Type 0 where
  pub rows : length edges ≡ length p.events
  pub each : (e : ℕ) (a : Edges) → slice_get edges e ≡ Some a → IsWatched lists e → IsEdges e s a

-- a meet with a start is no shorter than 1, and ends with the last time that an instance may have or
-- before
abbrev pub IsShort : Option Span → Type 0
IsShort span = IfSome span (λ y. (1 ≤ y.duration) × IfSome y.start (λ t. t.0 + y.duration ≤ TIMES))

abbrev pub AreShort : List Slot → Type 0
AreShort s = All (λ x. IsShort x.span) s
