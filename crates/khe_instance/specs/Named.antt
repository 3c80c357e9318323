-- The time, the resource and the event that an Id names.
use Rattle.std.specs.Prelude.{ℕ, Option, List, map}
use Rattle.std.specs.Option.{option_map}
use Rattle.khe_base.specs.Names.{number_of}
use Rattle.khe_base.specs.declared.numbers.EventId.{EventId}
use Rattle.khe_base.specs.declared.numbers.ResourceId.{ResourceId}
use Rattle.khe_base.specs.declared.numbers.TimeId.{TimeId}
use Rattle.khe_instance.specs.declared.parts.Parts.{Parts}

abbrev pub time_named : Parts → List ℕ → Option TimeId
time_named p id = option_map (λ n. record { 0 = n }) (number_of id p.times)

abbrev pub resource_named : Parts → List ℕ → Option ResourceId
resource_named p id = option_map (λ n. record { 0 = n }) (number_of id (map (λ r. r.id) p.resources))

abbrev pub event_named : Parts → List ℕ → Option EventId
event_named p id = option_map (λ n. record { 0 = n }) (number_of id (map (λ e. e.id) p.events))
