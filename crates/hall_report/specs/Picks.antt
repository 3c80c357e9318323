-- The sets of starts and of resources that domains name.
use Rattle.std.specs.Prelude.{ℕ, ◌+◌, ◌-◌, ◌/◌, ◌%◌, ◌≡◌, ◌<◌, ◌≤◌, Bool, ◌&&◌, nat_le, Option, Some, List, length}
use Rattle.std.specs.Prelude.{slice_get, slice_index_or}
use Rattle.std.specs.Option.{option_map, option_map_or}
use Rattle.khe_base.specs.IdSet.{has_member}
use Rattle.khe_base.specs.declared.numbers.ResourceId.{ResourceId}
use Rattle.khe_base.specs.declared.numbers.TimeId.{TimeId}
use Rattle.khe_instance.specs.Lookups.{place_at}
use Rattle.khe_instance.specs.Slots.{first_task}
use Rattle.khe_instance.specs.declared.parts.EventInfo.{EventInfo}
use Rattle.khe_instance.specs.declared.parts.Parts.{Parts}
use Rattle.khe_instance.specs.declared.parts.Place.{Place}
use Rattle.khe_told.specs.Slots.{given_at}
use Rattle.khe_told.specs.declared.slots.Slot.{Slot}
use Rattle.khe_told.specs.declared.slots.Span.{Span}
use Rattle.demand_matching.specs.declared.domains.Domain.{Domain}
use Rattle.demand_matching.specs.declared.domains.Pick.{Pick}
use Rattle.demand_matching.specs.declared.domains.Pick.TheVariants.{One, «Set»}
use Rattle.hall_report.specs.Demands.{has_type}
use Rattle.hall_report.specs.Sets.{set_at}
use Rattle.hall_report.specs.Strict.{may_start, may_be_given}

-- the first meet slot of an event
abbrev pub first_meet_at : List EventInfo → ℕ → ℕ
first_meet_at events e = option_map_or (λ event. event.first_meet) (slice_get events e) 0

-- where the set of an event's duration stands, and that of an event resource
abbrev pub start_entry : List EventInfo → ℕ → ℕ → ℕ
start_entry events e d = first_meet_at events e + d - 1

abbrev pub resource_entry : List EventInfo → ℕ → ℕ → ℕ
resource_entry events e k = first_task events (first_meet_at events e) + k

-- the sets of starts are those of the meets without a start
pub record AreStartSets (p : Parts) (sets : List (List Bool)) (entries : List ℕ) : Type 0 where
  pub amount : (e d : ℕ) (event : EventInfo) → slice_get p.events e ≡ Some event → 1 ≤ d → d ≤ event.duration
      → start_entry p.events e d < length entries
  pub given : (i : ℕ) → i < length entries → slice_index_or entries i 0 < length sets
  pub members : (e d t : ℕ) (event : EventInfo) → slice_get p.events e ≡ Some event → 1 ≤ d → d ≤ event.duration
      → has_member (set_at sets entries (start_entry p.events e d)) t
      ≡ nat_le (t + d) (length p.times) && may_start p e d t

-- the sets of resources are those of the tasks to which none is given
pub record AreResourceSets (p : Parts) (sets : List (List Bool)) (entries : List ℕ) : Type 0 where
  pub amount : (e k : ℕ) (place : Place) → place_at p.events e k ≡ Some place
      → resource_entry p.events e k < length entries
  pub given : (i : ℕ) → i < length entries → slice_index_or entries i 0 < length sets
  pub members : (e k r : ℕ) (place : Place) → place_at p.events e k ≡ Some place
      → has_member (set_at sets entries (resource_entry p.events e k)) r
      ≡ has_type p (Some place) r && may_be_given p e k r

-- the picks of a meet's starts and of a place's resources
abbrev pub pick_starts : List EventInfo → List ℕ → ℕ → Span → Pick
pick_starts events starts e y = option_map_or (λ (t : TimeId). One t.0) y.start
    («Set» (slice_index_or starts (start_entry events e y.duration) 0))

abbrev pub pick_resources : List EventInfo → List ℕ → Slot → ℕ → Pick
pick_resources events resources x k = option_map_or (λ (r : ResourceId). One r.0) (given_at x k)
    («Set» (slice_index_or resources (resource_entry events x.event.0 k) 0))

-- the domain of a demand of a slot, at a place and an offset
abbrev pub domain_in : List EventInfo → List ℕ → List ℕ → Slot → ℕ → ℕ → Option Domain
domain_in events starts resources x k o =
    option_map (λ y. record {
      times = pick_starts events starts x.event.0 y;
      shift = o;
      resources =
          pick_resources events resources x k;
    }) x.span

-- the domain of a cell, by its number
abbrev pub cell_domain : ℕ → ℕ → Domain
cell_domain last cell = record { times = One (cell % last); shift = 0; resources = One (cell / last) }
