-- The event, the time and the resources that an entry names, once they were looked up.
use Rattle.std.specs.Prelude.{ℕ, ◌≡◌, ◌+◌, ◌≤◌, Some, List, map, length, take, drop, slice_get}
use Rattle.khe_base.specs.declared.numbers.ResourceId.{ResourceId}
use Rattle.khe_instance.specs.Named.{event_named}
use Rattle.khe_instance.specs.declared.parts.Parts.{Parts}
use Rattle.xhstt_completion.specs.Entries.{time_of, resource_of}
use Rattle.xhstt_references.specs.declared.following.Named.{Named}
use Rattle.xhstt_shape.specs.declared.records.RawEntry.{RawEntry}

-- the event, the time and the resources that an entry names, which stand from a place on
pub record IsFound (p : Parts) (given : List ResourceId) (entry : RawEntry) (n : Named) : Type 0 where
  pub event : event_named p entry.reference.id ≡ Some n.event
  pub time : time_of p entry ≡ n.time
  pub within : n.first + length entry.resources ≤ length given
  pub resources : map (resource_of p) entry.resources ≡ map Some (take (length entry.resources) (drop n.first given))

-- so for each entry for which it was looked up
abbrev pub AreFound : Parts → List RawEntry → List Named → List ResourceId → Type 0
AreFound p entries named given = (i : ℕ) (entry : RawEntry) (n : Named) → slice_get entries i ≡ Some entry
    → slice_get named i ≡ Some n → IsFound p given entry n

-- each names its event
abbrev pub NameEvents : Parts → List RawEntry → List Named → Type 0
NameEvents p entries named = (i : ℕ) (entry : RawEntry) (n : Named) → slice_get entries i ≡ Some entry
    → slice_get named i ≡ Some n → event_named p entry.reference.id ≡ Some n.event
