-- What the strict constraints leave open: at which times a meet may start, which resources a place may be given, and
-- when a resource is to be free. A constraint is strict where it is required and has a weight above 0, whether or
-- not its monitors are detached.
use Rattle.std.specs.Prelude.{ℕ, Bool, true, false, ◌&&◌, ◌==◌, nat_lt, if◌then◌else◌, Option, None, Some, slice_get}
use Rattle.std.specs.List.{list_all, list_any}
use Rattle.std.specs.Option.{option_and_then, option_map_or}
use Rattle.khe_base.specs.IdSet.{has_member}
use Rattle.khe_instance.specs.declared.parts.Parts.{Parts}
use Rattle.khe_instance.specs.declared.points.Monitor.{Monitor}
use Rattle.khe_instance.specs.declared.points.Point.{Point}
use Rattle.khe_instance.specs.declared.points.Point.TheVariants.{Event, EventResource, Resource}
use Rattle.khe_instance.specs.declared.rules.Constraint.{Constraint}
use Rattle.khe_instance.specs.declared.rules.Rule.{Rule}
use Rattle.khe_instance.specs.declared.rules.Rule.TheVariants.{PreferTimes, PreferResources, AvoidUnavailableTimes}

abbrev pub is_strict : Constraint → Bool
is_strict c = c.required && nat_lt 0 c.weight

-- the rule of a monitor's constraint, where the constraint is strict
abbrev pub strict_rule : Parts → Monitor → Option Rule
strict_rule p m = option_and_then (λ c. if is_strict c then Some c.rule else None)
    (slice_get p.constraints m.constraint)

-- whether a point is an event, an event resource, or a resource
abbrev pub is_event : Point → ℕ → Bool
is_event (Event x) e = x.0 == e
is_event _ e = false

abbrev pub is_place : Point → ℕ → ℕ → Bool
is_place (EventResource x k) e place = (x.0 == e) && (k == place)
is_place _ e place = false

abbrev pub is_resource : Point → ℕ → Bool
is_resource (Resource x) r = x.0 == r
is_resource _ r = false

-- whether a rule lets a meet of a duration start at a time, as Prefer Times speaks of all
-- durations or of one
abbrev pub lets_start : Rule → ℕ → ℕ → Bool
lets_start (PreferTimes times duration) d t =
    if option_map_or (λ x. x == d) duration true then has_member times t else true
lets_start _ d t = true

-- whether it lets a task have a resource
abbrev pub lets_have : Rule → ℕ → Bool
lets_have (PreferResources resources role) r = has_member resources r
lets_have _ r = true

-- whether it wants a resource to be free at a time
abbrev pub wants_free : Rule → ℕ → Bool
wants_free (AvoidUnavailableTimes times) t = has_member times t
wants_free _ t = false

-- the same of a monitor, for the event, the event resource or the resource that is its point
abbrev pub monitor_lets_start : Parts → ℕ → ℕ → ℕ → Monitor → Bool
monitor_lets_start p e d t m = if is_event m.point e then option_map_or (λ rule. lets_start rule d t) (strict_rule p m)
    true else true

abbrev pub monitor_lets_have : Parts → ℕ → ℕ → ℕ → Monitor → Bool
monitor_lets_have p e k r m = if is_place m.point e k then option_map_or (λ rule. lets_have rule r) (strict_rule p m)
    true else true

abbrev pub monitor_wants_free : Parts → ℕ → ℕ → Monitor → Bool
monitor_wants_free p r t m = is_resource m.point r && option_map_or (λ rule. wants_free rule t) (strict_rule p m) false

-- whether all strict constraints let a meet of an event, of a duration, start at a time
abbrev pub may_start : Parts → ℕ → ℕ → ℕ → Bool
may_start p e d t = list_all (monitor_lets_start p e d t) p.monitors

-- whether they let an event resource have a resource
abbrev pub may_be_given : Parts → ℕ → ℕ → ℕ → Bool
may_be_given p e k r = list_all (monitor_lets_have p e k r) p.monitors

-- whether one of them wants a resource to be free at a time
abbrev pub is_unavailable : Parts → ℕ → ℕ → Bool
is_unavailable p r t = list_any (monitor_wants_free p r t) p.monitors
