-- The demands of a told state: one for each task and each time of its meet, by meet, place and offset, and then one
-- for each resource and each time at which it is to be free. A task's demand may have what is given to it, or else
-- all that the strict constraints leave open.
use Rattle.std.specs.Prelude.{ℕ, ◌-◌, ◌+◌, ◌==◌, ◌≡◌, Bool, false, ◌&&◌, nat_le, if◌then◌else◌, Option, Some, List, []}
use Rattle.std.specs.Prelude.{◌∷◌, ◌++◌, map, length, slice_get}
use Rattle.std.specs.List.{filter, flat_map, range_with_len}
use Rattle.std.specs.Option.{option_map_or}
use Rattle.khe_base.specs.declared.numbers.ResourceId.{ResourceId}
use Rattle.khe_base.specs.declared.numbers.TimeId.{TimeId}
use Rattle.khe_instance.specs.Lookups.{place_at}
use Rattle.khe_instance.specs.declared.parts.Parts.{Parts}
use Rattle.khe_instance.specs.declared.parts.Place.{Place}
use Rattle.khe_told.specs.Slots.{slot_at, given_at}
use Rattle.khe_told.specs.declared.slots.Slot.{Slot}
use Rattle.khe_told.specs.declared.slots.Span.{Span}
use Rattle.demand_matching.specs.Domains.{Domains}
use Rattle.demand_matching.specs.Excess.{IsDeficit, IsHallSet}
use Rattle.demand_matching.specs.declared.domains.Domain.{Domain}
use Rattle.demand_matching.specs.declared.domains.Pick.TheVariants.{«Set»}
use Rattle.hall_report.specs.Strict.{may_start, may_be_given, is_unavailable}
use Rattle.hall_report.specs.declared.demand.Demand.{Demand}
use Rattle.hall_report.specs.declared.demand.Demand.TheVariants.{Task, Unavailable}

-- the demands of one place of a slot's meet, one for each of its times
abbrev pub place_demands : Slot → Span → ℕ → List Demand
place_demands x y k = map (λ o. Task x.meet k o) (range_with_len 0 y.duration)

-- the demands of a slot: for its meet, place by place
abbrev pub slot_demands : Slot → List Demand
slot_demands x = option_map_or (λ y. flat_map (place_demands x y) (range_with_len 0 (length x.given))) x.span []

abbrev pub task_demands : List Slot → List Demand
task_demands s = flat_map slot_demands s

-- the demands for the times at which resources are wanted free, each once
abbrev pub times_demands : Parts → ℕ → List Demand
times_demands p r = map (λ t. Unavailable (record { 0 = r }) (record { 0 = t }))
    (filter (is_unavailable p r) (range_with_len 0 (length p.times)))

abbrev pub unavailable_demands : Parts → List Demand
unavailable_demands p = flat_map (times_demands p) (range_with_len 0 (length p.resources))

-- all demands: those of tasks by meet, place and offset, and then those for unavailable times by
-- resource and time
abbrev pub demands : Parts → List Slot → List Demand
demands p s = task_demands s ++ unavailable_demands p

-- whether a slot's meet may start at a time: at its start where it has one, else where it ends with
-- the last time or before and all strict constraints let it
abbrev pub span_starts : Parts → ℕ → Span → ℕ → Bool
span_starts p e y t = option_map_or (λ (u : TimeId). u.0 == t) y.start
    (nat_le (t + y.duration) (length p.times) && may_start p e y.duration t)

abbrev pub slot_starts : Parts → Slot → ℕ → Bool
slot_starts p x t = option_map_or (λ y. span_starts p x.event.0 y t) x.span false

-- whether a resource has a type
abbrev pub has_type : Parts → Option Place → ℕ → Bool
has_type p place r = option_map_or (λ x. option_map_or (λ (w : Place). w.rtype == x.rtype) place false)
    (slice_get p.resources r) false

-- whether a place of a slot's meet may have a resource: the one that it is given, else each of its
-- type that all strict constraints let it have
abbrev pub slot_takes : Parts → Slot → ℕ → ℕ → Bool
slot_takes p x k r = option_map_or (λ (g : ResourceId). g.0 == r) (given_at x k)
    (has_type p (place_at p.events x.event.0 k) r && may_be_given p x.event.0 k r)

-- the times at which a demand may have its supply, and the resources that may be in it
abbrev pub runs_at : Parts → List Slot → Demand → ℕ → Bool
runs_at p s (Task m k o) t = nat_le o t && slot_starts p (slot_at s m.0) (t - o)
runs_at p s (Unavailable r u) t = u.0 == t

abbrev pub takes : Parts → List Slot → Demand → ℕ → Bool
takes p s (Task m k o) r = slot_takes p (slot_at s m.0) k r
takes p s (Unavailable x u) r = x.0 == r

-- a test as a set of the numbers below a size
abbrev pub set_where : ℕ → (ℕ → Bool) → List Bool
set_where size test = map test (range_with_len 0 size)

-- the domain of the demand with this number: the sets with the same number
abbrev pub own_domain : ℕ → Option Domain
own_domain n = Some (record { times = «Set» n; shift = 0; resources = «Set» n })

-- the demands with their admissible supplies, by their numbers in the order
abbrev pub domains : Parts → List Slot → Domains
domains p s = record {
  times = map (λ d. set_where (length p.times) (runs_at p s d)) (demands p s);
  resources = map (λ d. set_where (length p.resources) (takes p s d)) (demands p s);
  last = length p.times;
  width = length p.resources;
  demands = map own_domain (range_with_len 0 (length (demands p s)));
}

-- the deficit of a told state
abbrev pub IsDeficitOf : Parts → List Slot → ℕ → Type 0
IsDeficitOf p s deficit = IsDeficit (domains p s) deficit

-- the demands of a list, numbered on from a number, whose numbers pass a test
abbrev pub chosen : (ℕ → Bool) → ℕ → List Demand → List Demand
chosen test n [] = []
chosen test n (d ∷ ds) = if test n then d ∷ chosen test (n + 1) ds else chosen test (n + 1) ds

-- the list has the demands of the Hall set of a told state, in their order
abbrev pub IsHallOf : Parts → List Slot → List Demand → Type 0
IsHallOf p s hall = (test : ℕ → Bool) × IsHallSet (domains p s) test × (hall ≡ chosen test 0 (demands p s))
