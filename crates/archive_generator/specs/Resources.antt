-- The resources of a job: teachers, classes and rooms, in a group for each of these types.
use Rattle.std.specs.Prelude.{ℕ, List, [], ◌∷◌, ◌++◌, codes, map}
use Rattle.xhstt_shape.specs.declared.records.RawResource.{RawResource}
use Rattle.xhstt_shape.specs.declared.records.ResourceGroup.{ResourceGroup}
use Rattle.xhstt_shape.specs.declared.records.ResourceType.{ResourceType}
use Rattle.archive_generator.specs.declared.resources.Sort.{Sort}
use Rattle.archive_generator.specs.declared.resources.Sort.TheVariants as sort
use Rattle.archive_generator.specs.Job.{teachers, classes, rooms}
use Rattle.archive_generator.specs.Names.{name, to, numbered, below}

abbrev pub resource_type : List ℕ → ResourceType
resource_type id = record { id = name id; name = [] }

unfoldable pub resource_types : List ResourceType
resource_types = resource_type (codes "Teacher") ∷ (resource_type (codes "Class") ∷ (resource_type
    (codes "Room") ∷ []))

-- a group of resources of a type
abbrev pub resource_group : List ℕ → List ℕ → ResourceGroup
resource_group id type_id = record { id = name id; name = []; resource_type = to type_id }

unfoldable pub resource_groups : List ResourceGroup
resource_groups =
    resource_group (codes "gp") (codes "Teacher") ∷ (resource_group (codes "gc")
    (codes "Class") ∷ (resource_group (codes "gq") (codes "Room") ∷ []))

-- what the Ids of a sort begin with, its type and its group
abbrev pub word : Sort → List ℕ
word sort.Teacher = codes "p"
word sort.Class = codes "c"
word sort.Room = codes "q"

abbrev pub type_id : Sort → List ℕ
type_id sort.Teacher = codes "Teacher"
type_id sort.Class = codes "Class"
type_id sort.Room = codes "Room"

abbrev pub group : Sort → List ℕ
group sort.Teacher = codes "gp"
group sort.Class = codes "gc"
group sort.Room = codes "gq"

-- a resource of a sort
abbrev pub resource : Sort → ℕ → RawResource
resource s n = record {
  id = name (numbered (word s) n);
  name = [];
  resource_type = to (type_id s);
  resource_groups = to (group s) ∷ [];
}

abbrev pub so_many : Sort → ℕ → List RawResource
so_many s count = map (resource s) (below count)

unfoldable pub resources : ℕ → List RawResource
resources size =
    (so_many sort.Teacher (teachers size) ++ so_many sort.Class (classes size)) ++ so_many sort.Room (rooms size)
