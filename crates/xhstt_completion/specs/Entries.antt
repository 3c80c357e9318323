-- What an entry of a solution says: of which event, for how long, from when on, and which resource for which role.
use Rattle.std.specs.Prelude.{ℕ, ◌==◌, Bool, false, Option, Some, None, IsSome, IfSome, unwrap_or, List, All}
use Rattle.std.specs.List.{filter}
use Rattle.std.specs.Option.{option_map, option_or, option_and_then}
use Rattle.khe_base.specs.declared.numbers.EventId.{EventId}
use Rattle.khe_base.specs.declared.numbers.ResourceId.{ResourceId}
use Rattle.khe_base.specs.declared.numbers.TimeId.{TimeId}
use Rattle.khe_instance.specs.Named.{time_named, resource_named, event_named}
use Rattle.khe_instance.specs.WellMade.{IsDuration}
use Rattle.khe_instance.specs.declared.parts.EventInfo.{EventInfo}
use Rattle.khe_instance.specs.declared.parts.Parts.{Parts}
use Rattle.xhstt_shape.specs.declared.records.RawEntry.{RawEntry}
use Rattle.xhstt_shape.specs.declared.records.RawGiven.{RawGiven}
use Rattle.xhstt_shape.specs.declared.records.RawSolution.{RawSolution}

-- an entry names an event, a time if it gives one, and resources of the instance; and if it gives a
-- duration, one in range
pub record IsEntry (p : Parts) (entry : RawEntry) : Type 0 where
  pub event : IsSome (event_named p entry.reference.id)
  pub duration : IfSome entry.duration IsDuration
  pub time : IfSome entry.time (λ t. IsSome (time_named p t.id))
  pub resources : All (λ given. IsSome (resource_named p given.reference.id)) entry.resources

-- a solution is one of the instance: each of its entries is
abbrev pub IsSolution : Parts → RawSolution → Type 0
IsSolution p raw = All (IsEntry p) raw.events

-- whether an entry is one of the event with this number
abbrev pub is_event : ℕ → Option EventId → Bool
is_event e None = false
is_event e (Some x) = x.0 == e

-- the entries of an event
abbrev pub entries_of : Parts → ℕ → List RawEntry → List RawEntry
entries_of p e entries = filter (λ entry. is_event e (event_named p entry.reference.id)) entries

-- how long an entry lasts: as long as its event where it does not say
abbrev pub duration_of : EventInfo → RawEntry → ℕ
duration_of event entry = unwrap_or entry.duration event.duration

-- the time that an entry gives
abbrev pub time_of : Parts → RawEntry → Option TimeId
time_of p entry = option_and_then (λ t. time_named p t.id) entry.time

-- when an entry starts: at the preassigned time where it does not say
abbrev pub start_of : Parts → EventInfo → RawEntry → Option TimeId
start_of p event entry = option_or (time_of p entry) event.fixed

-- the resource that is given, and the role that it is given for
abbrev pub resource_of : Parts → RawGiven → Option ResourceId
resource_of p given = resource_named p given.reference.id

abbrev pub role_of : RawGiven → Option (List ℕ)
role_of given = option_map (λ name. name.text) given.role
