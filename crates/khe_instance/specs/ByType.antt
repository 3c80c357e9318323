-- The resources of a type, and what stands in memory for them.
use Rattle.std.specs.Prelude.{ℕ, ◌==◌, Bool, false, List, length, slice_get}
use Rattle.std.specs.List.{filter, range_with_len}
use Rattle.std.specs.Option.{option_map_or}
use Rattle.khe_instance.specs.Listing.{AreListed}
use Rattle.khe_instance.specs.declared.parts.Parts.{Parts}
use Rattle.khe_instance.specs.declared.parts.ResourceInfo.{ResourceInfo}

-- whether the resource with a number has a type
abbrev pub is_of_type : List ResourceInfo → ℕ → ℕ → Bool
is_of_type resources rtype r = option_map_or (λ x. x.rtype == rtype) (slice_get resources r) false

-- the resources of a type, ascending
abbrev pub resources_of_type : Parts → ℕ → List ℕ
resources_of_type p rtype = filter (is_of_type p.resources rtype) (range_with_len 0 (length p.resources))

-- for each type its resources
abbrev pub AreByType : Parts → List (List ℕ) → Type 0
AreByType p lists = AreListed (is_of_type p.resources) p.types (length p.resources) lists
