-- The sets of times that a rule at a resource names, as masks.
use Rattle.std.specs.Prelude.{ℕ, ◌≡◌, Bool, List, [], ◌∷◌, map, nat_lt, count_by}
use Rattle.khe_base.specs.IdSet.{has_member}
use Rattle.khe_instance.specs.declared.parts.Parts.{Parts}
use Rattle.khe_instance.specs.declared.rules.Rule.{Rule}
use Rattle.khe_instance.specs.declared.rules.Rule.TheVariants.{AvoidUnavailableTimes, LimitIdleTimes, ClusterBusyTimes}
use Rattle.khe_instance.specs.declared.rules.Rule.TheVariants.{LimitBusyTimes}

-- in the order of its list, with repeats
abbrev pub sets_of : Rule → List (List Bool)
sets_of (AvoidUnavailableTimes times) = times ∷ []
sets_of (LimitIdleTimes groups least greatest) = groups
sets_of (ClusterBusyTimes groups least greatest) = groups
sets_of (LimitBusyTimes groups least greatest) = groups
sets_of _ = []

-- whether one of the sets has a time
abbrev pub has_time : List (List Bool) → ℕ → Bool
has_time sets t = nat_lt 0 (count_by (λ g. has_member g t) sets)

-- the set of the times that one of them has
abbrev pub IsUnion : List (List Bool) → List Bool → Type 0
IsUnion sets times = (t : ℕ) → has_member times t ≡ has_time sets t

-- those of each constraint of an instance
abbrev pub room_for : Parts → List (List (List Bool))
room_for p = map (λ c. sets_of c.rule) p.constraints
