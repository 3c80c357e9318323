-- The canonical spelling of an archive: the declaration, the elements of its instances and its solutions, each on a
-- line. And what it is for bytes to be read as an archive.
use Rattle.std.specs.Prelude.{ℕ, ◌≡◌, List, [], ◌∷◌, Ok}
use Rattle.std.specs.Option.{option_map}
use Rattle.xhstt_text.specs.Document.{Spelled}
use Rattle.xhstt_text.specs.Forest.{Forest}
use Rattle.xhstt_shape.specs.declared.records.Archive.{Archive}
use Rattle.xhstt_shape.specs.declared.records.EventGroup.{EventGroup}
use Rattle.xhstt_shape.specs.declared.records.GroupSort.{GroupSort}
use Rattle.xhstt_shape.specs.declared.records.GroupSort.TheVariants as group_sort
use Rattle.xhstt_shape.specs.declared.records.Name.{Name}
use Rattle.xhstt_shape.specs.declared.records.RawEntry.{RawEntry}
use Rattle.xhstt_shape.specs.declared.records.RawGiven.{RawGiven}
use Rattle.xhstt_shape.specs.declared.records.RawInstance.{RawInstance}
use Rattle.xhstt_shape.specs.declared.records.RawResource.{RawResource}
use Rattle.xhstt_shape.specs.declared.records.RawSolution.{RawSolution}
use Rattle.xhstt_shape.specs.declared.records.ResourceGroup.{ResourceGroup}
use Rattle.xhstt_shape.specs.declared.records.ResourceType.{ResourceType}
use Rattle.xhstt_shape.specs.declared.records.SolutionGroup.{SolutionGroup}
use Rattle.xhstt_shape.specs.declared.records.Time.{Time}
use Rattle.xhstt_shape.specs.declared.records.TimeGroup.{TimeGroup}
use Rattle.xhstt_shape.specs.declared.records.TimeSort.{TimeSort}
use Rattle.xhstt_shape.specs.declared.records.TimeSort.TheVariants as time_sort
use Rattle.xhstt_shape.specs.declared.words.Label.TheVariants as label
use Rattle.xhstt_shape.specs.declared.words.Tag.{Tag}
use Rattle.xhstt_shape.specs.declared.words.Tag.TheVariants as tag
use Rattle.xhstt_shape.specs.Places.{IsSame}
use Rattle.xhstt_shape.specs.Shape.{shape_of}
use Rattle.xhstt_writer.specs.Trees.{Labelled, document}
use Rattle.xhstt_writer.specs.Parts.{Body, text, element, Part, row, each, one, if_some, many, list_of, name_part}
use Rattle.xhstt_writer.specs.Parts.{number, role, labelled, label_if, identified, reference, references}
use Rattle.xhstt_writer.specs.Canonical.{meta_data, event, constraint_tag, constraint}

-- an element that has an Id, and a name where that is not empty
abbrev pub named_parts : List ℕ → List Part
named_parts name = name_part name ∷ []

abbrev pub named : Name → List ℕ → Body
named id name = element (identified id []) (row (named_parts name))

-- times and their groups

abbrev pub time_sort_tag : TimeSort → Tag
time_sort_tag time_sort.Week = tag.Week
time_sort_tag time_sort.Day = tag.Day
time_sort_tag time_sort.Group = tag.TimeGroup

abbrev pub time_group_tag : TimeGroup → Tag
time_group_tag g = time_sort_tag g.sort

abbrev pub time_group : TimeGroup → Body
time_group g = named g.id g.name

abbrev pub time_parts : Time → List Part
time_parts t = name_part t.name ∷ (if_some tag.Week reference
    t.week ∷ (if_some tag.Day reference t.day ∷ (references tag.TimeGroups tag.TimeGroup t.time_groups ∷ [])))

abbrev pub time : Time → Body
time t = element (identified t.id []) (row (time_parts t))

abbrev pub times_parts : RawInstance → List Part
times_parts i = list_of tag.TimeGroups (each time_group_tag time_group i.time_groups) ∷ (many tag.Time time
    i.times ∷ [])

-- resources, their types and their groups

abbrev pub resource_type : ResourceType → Body
resource_type t = named t.id t.name

abbrev pub resource_group_parts : ResourceGroup → List Part
resource_group_parts g = name_part g.name ∷ (one tag.ResourceType (reference g.resource_type) ∷ [])

abbrev pub resource_group : ResourceGroup → Body
resource_group g = element (identified g.id []) (row (resource_group_parts g))

abbrev pub resource_parts : RawResource → List Part
resource_parts r = name_part r.name ∷ (one tag.ResourceType
    (reference r.resource_type) ∷ (references tag.ResourceGroups tag.ResourceGroup r.resource_groups ∷ []))

abbrev pub resource : RawResource → Body
resource r = element (identified r.id []) (row (resource_parts r))

abbrev pub resources_parts : RawInstance → List Part
resources_parts i =
    list_of tag.ResourceTypes (each (λ _. tag.ResourceType) resource_type i.resource_types) ∷ (list_of
    tag.ResourceGroups (each (λ _. tag.ResourceGroup) resource_group i.resource_groups) ∷ (many tag.Resource
    resource i.resources ∷ []))

-- events and their groups

abbrev pub group_sort_tag : GroupSort → Tag
group_sort_tag group_sort.Course = tag.Course
group_sort_tag group_sort.Group = tag.EventGroup

abbrev pub event_group_tag : EventGroup → Tag
event_group_tag g = group_sort_tag g.sort

abbrev pub event_group : EventGroup → Body
event_group g = named g.id g.name

abbrev pub events_parts : RawInstance → List Part
events_parts i = list_of tag.EventGroups (each event_group_tag event_group i.event_groups) ∷ (many tag.Event event
    i.events ∷ [])

-- an instance
abbrev pub instance_parts : RawInstance → List Part
instance_parts i =
    if_some tag.MetaData meta_data i.meta_data ∷ (list_of tag.Times
    (row (times_parts i)) ∷ (list_of tag.Resources
    (row (resources_parts i)) ∷ (list_of tag.Events
    (row (events_parts i)) ∷ (list_of tag.Constraints (each constraint_tag constraint i.constraints) ∷ []))))

abbrev pub instance : RawInstance → Body
instance i = element (identified i.id []) (row (instance_parts i))

-- solutions and what they give

abbrev pub given_parts : RawGiven → List Part
given_parts g = if_some tag.Role role g.role ∷ []

abbrev pub given : RawGiven → Body
given g = element (labelled label.Reference g.reference.id ∷ []) (row (given_parts g))

abbrev pub entry_parts : RawEntry → List Part
entry_parts e =
    if_some tag.Duration number e.duration ∷ (if_some tag.Time reference
    e.time ∷ (list_of tag.Resources (each (λ _. tag.Resource) given e.resources) ∷ []))

abbrev pub entry : RawEntry → Body
entry e = element (labelled label.Reference e.reference.id ∷ []) (row (entry_parts e))

abbrev pub solution_parts : RawSolution → List Part
solution_parts s =
    if_some tag.Description text s.description ∷ (if_some tag.RunningTime text
    s.running_time ∷ (list_of tag.Events (each (λ _. tag.Event) entry s.events) ∷ []))

abbrev pub solution : RawSolution → Body
solution s = element (labelled label.Reference s.reference.id ∷ []) (row (solution_parts s))

abbrev pub solution_group_parts : SolutionGroup → List Part
solution_group_parts g = if_some tag.MetaData meta_data g.meta_data ∷ (many tag.Solution solution g.solutions ∷ [])

abbrev pub solution_group : SolutionGroup → Body
solution_group g = element (identified g.id []) (row (solution_group_parts g))

-- an archive
abbrev pub archive_labels : Archive → List Labelled
archive_labels a = label_if label.Id (option_map (λ (n : Name). n.text) a.id)

abbrev pub archive_parts : Archive → List Part
archive_parts a =
    if_some tag.MetaData meta_data a.meta_data ∷ (list_of tag.Instances
    (each (λ _. tag.Instance) instance a.instances) ∷ (list_of tag.SolutionGroups
    (each (λ _. tag.SolutionGroup) solution_group a.solution_groups) ∷ []))

-- the bytes of an archive
unfoldable pub canonical : Archive → List ℕ
canonical a = document tag.HighSchoolTimetableArchive (archive_labels a) (row (archive_parts a))

-- bytes spell an archive, but for its places
abbrev pub IsReadAs : List ℕ → Archive → Type 0
IsReadAs bytes a = (f : Forest) × (b : Archive) × Spelled bytes f × (shape_of f ≡ Ok b) × IsSame a b
