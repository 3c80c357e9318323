-- What a monitor watches, as its line writes it.
use Rattle.std.specs.Prelude.{ℕ, ◌<◌, Option, Some, None, unwrap_or, List, [], ◌++◌, length, slice_get, codes}
use Rattle.std.specs.Option.{option_map, option_map_or}
use Rattle.khe_instance.specs.Lookups.{role_at}
use Rattle.khe_instance.specs.declared.parts.Parts.{Parts}
use Rattle.khe_instance.specs.declared.points.Point.{Point}
use Rattle.khe_instance.specs.declared.points.Point.TheVariants.{Event, EventResource, EventGroup, EventPair as Pair}
use Rattle.khe_instance.specs.declared.points.Point.TheVariants.{Resource}
use Rattle.khe_instance.specs.declared.rules.EventPair.{EventPair}
use Rattle.khe_instance.specs.declared.rules.Rule.{Rule}
use Rattle.khe_instance.specs.declared.rules.Rule.TheVariants.{OrderEvents}
use Rattle.evaluation_report.specs.Words.{quoted}

-- Ids by their numbers, and no text for a number beyond the last
abbrev pub event_id : Parts → ℕ → List ℕ
event_id parts e = unwrap_or (option_map (λ event. event.id) (slice_get parts.events e)) []

abbrev pub group_id : Parts → ℕ → List ℕ
group_id parts g = unwrap_or (option_map (λ group. group.id) (slice_get parts.groups g)) []

abbrev pub resource_id : Parts → ℕ → List ℕ
resource_id parts r = unwrap_or (option_map (λ resource. resource.id) (slice_get parts.resources r)) []

-- an event as a point
abbrev pub event_text : Parts → ℕ → List ℕ
event_text parts e = codes "event " ++ quoted (event_id parts e)

-- the role of a place, where it has one
abbrev pub role_text : Option (List ℕ) → List ℕ
role_text None = []
role_text (Some role) = codes " role " ++ quoted role

-- a place of an event as a point
abbrev pub place_text : Parts → ℕ → ℕ → List ℕ
place_text parts e place = event_text parts e ++ role_text (role_at parts.events e place)

-- two events as a point
abbrev pub pair_text : Parts → EventPair → List ℕ
pair_text parts pair = codes "events " ++ quoted (event_id parts pair.first.0) ++ codes " "
    ++ quoted (event_id parts pair.second.0)

-- the pairs that a rule lists
abbrev pub pairs_of : Rule → List EventPair
pairs_of (OrderEvents pairs) = pairs
pairs_of _ = []

-- a listed pair as a point
abbrev pub listed_pair_text : Parts → Rule → ℕ → List ℕ
listed_pair_text parts rule k = option_map_or (pair_text parts) (slice_get (pairs_of rule) k) []

-- a point of a constraint with this rule
abbrev pub point_text : Parts → Rule → Point → List ℕ
point_text parts rule (Event e) = event_text parts e.0
point_text parts rule (EventResource e place) = place_text parts e.0 place
point_text parts rule (EventGroup g) = codes "group " ++ quoted (group_id parts g)
point_text parts rule (Pair k) = listed_pair_text parts rule k
point_text parts rule (Resource r) = codes "resource " ++ quoted (resource_id parts r.0)

-- the event, the group or the resource of a point is there
abbrev pub IsNamed : Parts → Point → Type 0
IsNamed parts (Event e) = e.0 < length parts.events
IsNamed parts (EventResource e place) = e.0 < length parts.events
IsNamed parts (EventGroup g) = g < length parts.groups
IsNamed parts (Pair k) = Unit {0}
IsNamed parts (Resource r) = r.0 < length parts.resources
