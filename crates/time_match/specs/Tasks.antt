-- The tasks that run at a time at places for a type, none preassigned, and the resources of that type.
use Rattle.std.specs.Prelude.{ℕ, ◌==◌, ◌&&◌, Bool, false, is_none, List, map, length, slice_get}
use Rattle.std.specs.List.{filter, range_with_len}
use Rattle.std.specs.Option.{option_map_or}
use Rattle.khe_base.specs.declared.numbers.ResourceId.{ResourceId}
use Rattle.khe_base.specs.declared.numbers.TaskId.{TaskId}
use Rattle.khe_instance.specs.Lookups.{place_at}
use Rattle.khe_instance.specs.Running.{covers}
use Rattle.khe_instance.specs.Slots.{all_tasks}
use Rattle.khe_instance.specs.declared.parts.Parts.{Parts}
use Rattle.khe_instance.specs.declared.parts.Place.{Place}
use Rattle.khe_instance.specs.declared.parts.ResourceInfo.{ResourceInfo}
use Rattle.khe_told.specs.Slots.{length_of, slot_at, start_of}
use Rattle.khe_told.specs.declared.slots.Slot.{Slot}

-- whether the meet of a slot runs at a time
abbrev pub runs_at : ℕ → Slot → Bool
runs_at time x = covers (length_of x) (start_of x) time

-- whether a place is for a resource of this type that is still to be chosen
abbrev pub wants : ℕ → Place → Bool
wants rtype place = (place.rtype == rtype) && is_none place.fixed

abbrev pub is_matched : Parts → List Slot → ℕ → ℕ → TaskId → Bool
is_matched p s time rtype t = let x = slot_at s t.meet.0 in
    runs_at time x && option_map_or (wants rtype) (place_at p.events x.event.0 t.place) false

-- the tasks whose meets run at a time and whose places are such, in the order of their numbers
unfoldable pub matched : Parts → List Slot → ℕ → ℕ → List TaskId
matched p s time rtype = filter (is_matched p s time rtype) (all_tasks p.events)

-- the resources of a type, in the order of their numbers
abbrev pub is_of_type : Parts → ℕ → ℕ → Bool
is_of_type p rtype n = option_map_or (λ (r : ResourceInfo). r.rtype == rtype) (slice_get p.resources n) false

unfoldable pub resources_of : Parts → ℕ → List ResourceId
resources_of p rtype = map (λ n. record { 0 = n }) (filter (is_of_type p rtype) (range_with_len 0 (length p.resources)))
