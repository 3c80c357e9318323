-- What an element says, for each sort of element, as total functions: where an element lacks what it
-- must have, or that is not in form, a value stands in. In an element without a fault none does, as
-- `Present` says.
use Rattle.std.specs.Prelude.{ℕ, Bool, false, if◌then◌else◌, Option, Some, None, unwrap_or, List, [], ◌∷◌, map, find}
use Rattle.std.specs.List.{filter_map}
use Rattle.std.specs.Option.{option_map, option_and_then}
use Rattle.std.specs.Str.{bytes_eq}
use Rattle.khe_base.specs.declared.costs.CostFn.{CostFn}
use Rattle.khe_base.specs.declared.costs.CostFn.TheVariants.{Linear}
use Rattle.khe_base.specs.declared.limits.TheConstants.{NUMBER, GREATEST_BOUND}
use Rattle.xhstt_text.specs.Forest.{AttributeInfo, Forest, empty, node}
use Rattle.xhstt_text.specs.Handles.{Standing}
use Rattle.xhstt_text.specs.Unescape.{unescaped}
use Rattle.xhstt_shape.specs.declared.constraints.RawApplies.{RawApplies}
use Rattle.xhstt_shape.specs.declared.constraints.RawApplies.TheVariants as applied
use Rattle.xhstt_shape.specs.declared.constraints.RawConstraint.{RawConstraint}
use Rattle.xhstt_shape.specs.declared.constraints.RawPair.{RawPair}
use Rattle.xhstt_shape.specs.declared.constraints.RawRule.{RawRule}
use Rattle.xhstt_shape.specs.declared.constraints.RawRule.TheVariants as ruled
use Rattle.xhstt_shape.specs.declared.constraints.RawSpread.{RawSpread}
use Rattle.xhstt_shape.specs.declared.records.Archive.{Archive}
use Rattle.xhstt_shape.specs.declared.records.EventGroup.{EventGroup}
use Rattle.xhstt_shape.specs.declared.records.GroupSort.{GroupSort}
use Rattle.xhstt_shape.specs.declared.records.GroupSort.TheVariants as group_sort
use Rattle.xhstt_shape.specs.declared.records.MetaData.{MetaData}
use Rattle.xhstt_shape.specs.declared.records.Name.{Name}
use Rattle.xhstt_shape.specs.declared.records.RawEntry.{RawEntry}
use Rattle.xhstt_shape.specs.declared.records.RawEvent.{RawEvent}
use Rattle.xhstt_shape.specs.declared.records.RawEventResource.{RawEventResource}
use Rattle.xhstt_shape.specs.declared.records.RawGiven.{RawGiven}
use Rattle.xhstt_shape.specs.declared.records.RawInstance.{RawInstance}
use Rattle.xhstt_shape.specs.declared.records.RawResource.{RawResource}
use Rattle.xhstt_shape.specs.declared.records.RawSolution.{RawSolution}
use Rattle.xhstt_shape.specs.declared.records.Ref.{Ref}
use Rattle.xhstt_shape.specs.declared.records.ResourceGroup.{ResourceGroup}
use Rattle.xhstt_shape.specs.declared.records.ResourceType.{ResourceType}
use Rattle.xhstt_shape.specs.declared.records.SolutionGroup.{SolutionGroup}
use Rattle.xhstt_shape.specs.declared.records.Time.{Time}
use Rattle.xhstt_shape.specs.declared.records.TimeGroup.{TimeGroup}
use Rattle.xhstt_shape.specs.declared.records.TimeSort.{TimeSort}
use Rattle.xhstt_shape.specs.declared.records.TimeSort.TheVariants as time_sort
use Rattle.khe_instance.specs.declared.rules.Kind.{Kind}
use Rattle.khe_instance.specs.declared.rules.Kind.TheVariants as kind
use Rattle.xhstt_shape.specs.declared.words.Label.{Label}
use Rattle.xhstt_shape.specs.declared.words.Label.TheVariants as label
use Rattle.xhstt_shape.specs.declared.words.Tag.{Tag}
use Rattle.xhstt_shape.specs.declared.words.Tag.TheVariants as tag
use Rattle.xhstt_shape.specs.Contents.{trimmed_text, number_between, truth_of, function_of, role_text}
use Rattle.xhstt_shape.specs.Walk.{attribute, child}
use Rattle.xhstt_shape.specs.Words.{kind_word, word}

-- the elements of a row
abbrev pub elements : Forest → List Standing
elements empty = []
elements (node i kids others) = record { info = i; kids = kids } ∷ elements others

-- an element before others, where it has a name
abbrev pub if_named : Tag → Standing → List Standing → List Standing
if_named t e others = if bytes_eq (word t) e.info.name then e ∷ others else others

-- the elements of a row that have a name
abbrev pub named : Tag → Forest → List Standing
named t empty = []
named t (node i kids others) = if_named t (record { info = i; kids = kids }) (named t others)

-- the children of an element that may be missing
abbrev pub kids_of : Option Standing → Forest
kids_of None = empty
kids_of (Some e) = e.kids

-- the child of a name in the child of another
abbrev pub grandchild : Tag → Tag → Standing → Option Standing
grandchild outer inner e = child inner (kids_of (child outer e.kids))

-- the elements of a child
unfoldable pub every : Tag → Standing → List Standing
every t e = elements (kids_of (child t e.kids))

-- the elements of a child's child
unfoldable pub every_inside : Tag → Tag → Standing → List Standing
every_inside outer inner e = elements (kids_of (grandchild outer inner e))

-- the children of a name
unfoldable pub all : Tag → Standing → List Standing
all t e = named t e.kids

-- the children of a name of a child
unfoldable pub all_inside : Tag → Tag → Standing → List Standing
all_inside outer t e = named t (kids_of (child outer e.kids))

-- the text of an element
unfoldable pub text : Standing → List ℕ
text e = unescaped e.info.value

-- a role
unfoldable pub role : Standing → Name
role e = record { text = role_text e.info.value; at = e.info.value_at }

-- the text of an attribute, with its place
abbrev pub attribute_name : AttributeInfo → Name
attribute_name a = record { text = unescaped a.value; at = a.value_at }

-- the name that stands in where one is missing
abbrev pub no_name : Name
no_name = record { text = []; at = 0 }

-- an attribute as a name, where it stands
unfoldable pub optional_name : Label → Standing → Option Name
optional_name l e = option_map attribute_name (attribute l e.info.attributes)

-- the Id of an element
unfoldable pub id : Standing → Name
id e = unwrap_or (optional_name label.Id e) no_name

abbrev pub as_reference : Name → Ref
as_reference n = record { id = n.text; at = n.at }

-- the reference of an element, where it has one
unfoldable pub optional_reference : Standing → Option Ref
optional_reference e = option_map as_reference (optional_name label.Reference e)

-- the reference of an element
unfoldable pub reference : Standing → Ref
reference e = unwrap_or (optional_reference e) (as_reference no_name)

-- the text of an attribute, where it stands
unfoldable pub attribute_text : Label → Standing → Option (List ℕ)
attribute_text l e = option_map (λ n. n.text) (optional_name l e)

-- a child as a text, a reference or a role, where it stands
abbrev pub optional : {A : Type 0} → (Standing → A) → Tag → Standing → Option A
optional value t e = option_map value (child t e.kids)

-- the name of an element
unfoldable pub name : Standing → List ℕ
name e = unwrap_or (optional text tag.Name e) []

-- the reference of a child
unfoldable pub the_reference : Tag → Standing → Ref
the_reference t e = unwrap_or (optional reference t e) (as_reference no_name)

-- the role that a child gives
unfoldable pub the_role : Standing → Name
the_role e = unwrap_or (optional role tag.Role e) no_name

-- the number of an element, where it is in a range
unfoldable pub number : ℕ → ℕ → Standing → Option ℕ
number least greatest e = number_between least greatest (trimmed_text e.info.value)

-- the number of a child, where it stands
unfoldable pub optional_number : ℕ → ℕ → Tag → Standing → Option ℕ
optional_number least greatest t e = option_and_then (number least greatest) (child t e.kids)

-- a number up to 1,000,000, or 0
unfoldable pub lower : Tag → Standing → ℕ
lower t e = unwrap_or (optional_number 0 NUMBER t e) 0

-- a number up to the greatest bound, or that bound
unfoldable pub upper : Tag → Standing → ℕ
upper t e = unwrap_or (optional_number 0 GREATEST_BOUND t e) GREATEST_BOUND

-- a duration, where it stands
unfoldable pub optional_duration : Standing → Option ℕ
optional_duration e = optional_number 1 NUMBER tag.Duration e

-- a duration
unfoldable pub duration : Standing → ℕ
duration e = unwrap_or (optional_duration e) 1

-- a workload, where it stands
unfoldable pub workload : Standing → Option ℕ
workload e = optional_number 0 NUMBER tag.Workload e

-- whether the cost of a constraint is hard
unfoldable pub required : Standing → Bool
required e = unwrap_or (option_and_then (λ c. truth_of (trimmed_text c.info.value)) (child tag.Required e.kids)) false

-- the cost function of a constraint
unfoldable pub cost_function : Standing → CostFn
cost_function e = unwrap_or (option_and_then (λ c. function_of (trimmed_text c.info.value))
    (child tag.CostFunction e.kids)) Linear

unfoldable pub meta_data : Standing → MetaData
meta_data e = record {
  name = name e;
  contributor = optional text tag.Contributor e;
  date = optional text tag.Date e;
  country = optional text tag.Country e;
  description = optional text tag.Description e;
  publication = optional text tag.Publication e;
  remarks = optional text tag.Remarks e;
}

-- by which element a time group is given
unfoldable pub time_sort_of : List ℕ → TimeSort
time_sort_of name =
    if bytes_eq (word tag.Week) name then time_sort.Week
    else if bytes_eq (word tag.Day) name then time_sort.Day
    else time_sort.Group

unfoldable pub time_group : Standing → TimeGroup
time_group e = record { sort = time_sort_of e.info.name; id = id e; name = name e }

unfoldable pub time : Standing → Time
time e = record {
  id = id e;
  name = name e;
  week = optional reference tag.Week e;
  day = optional reference tag.Day e;
  time_groups = map reference (every tag.TimeGroups e);
}

unfoldable pub resource_type : Standing → ResourceType
resource_type e = record { id = id e; name = name e }

unfoldable pub resource_group : Standing → ResourceGroup
resource_group e = record { id = id e; name = name e; resource_type = the_reference tag.ResourceType e }

unfoldable pub resource : Standing → RawResource
resource e = record {
  id = id e;
  name = name e;
  resource_type = the_reference tag.ResourceType e;
  resource_groups = map reference (every tag.ResourceGroups e);
}

-- by which element an event group is given
unfoldable pub group_sort_of : List ℕ → GroupSort
group_sort_of name = if bytes_eq (word tag.Course) name then group_sort.Course else group_sort.Group

unfoldable pub event_group : Standing → EventGroup
event_group e = record { sort = group_sort_of e.info.name; id = id e; name = name e }

unfoldable pub event_resource : Standing → RawEventResource
event_resource e = record {
  reference = optional_reference e;
  role = optional role tag.Role e;
  resource_type = optional reference tag.ResourceType e;
  workload = workload e;
}

unfoldable pub event : Standing → RawEvent
event e = record {
  id = id e;
  color = attribute_text label.Color e;
  name = name e;
  duration = duration e;
  workload = workload e;
  course = optional reference tag.Course e;
  time = optional reference tag.Time e;
  resources = map event_resource (every tag.Resources e);
  resource_groups = map reference (every tag.ResourceGroups e);
  event_groups = map reference (every tag.EventGroups e);
}

unfoldable pub pair : Standing → RawPair
pair e = record {
  first = the_reference tag.FirstEvent e;
  second = the_reference tag.SecondEvent e;
  min = lower tag.MinSeparation e;
  max = upper tag.MaxSeparation e;
}

unfoldable pub spread : Standing → RawSpread
spread e = record { reference = reference e; min = lower tag.Minimum e; max = upper tag.Maximum e }

-- the references of a list of a child
abbrev pub references : Tag → Standing → List Ref
references t e = map reference (every t e)

-- the references of a list of what a constraint applies to
abbrev pub applied_references : Tag → Standing → List Ref
applied_references t e = map reference (every_inside tag.AppliesTo t e)

-- what a constraint applies to, in each of the four forms
abbrev pub events_applied : Standing → RawApplies
events_applied e = applied.Events (applied_references tag.EventGroups e) (applied_references tag.Events e)

abbrev pub groups_applied : Standing → RawApplies
groups_applied e = applied.Groups (applied_references tag.EventGroups e)

abbrev pub pairs_applied : Standing → RawApplies
pairs_applied e = applied.Pairs (map pair (every_inside tag.AppliesTo tag.EventPairs e))

abbrev pub resources_applied : Standing → RawApplies
resources_applied e = applied.Resources (applied_references tag.ResourceGroups e) (applied_references tag.Resources e)

-- what a constraint of a kind applies to
unfoldable pub applies : Kind → Standing → RawApplies
applies kind.AssignTime e = events_applied e
applies kind.AssignResource e = events_applied e
applies kind.SplitEvents e = events_applied e
applies kind.DistributeSplitEvents e = events_applied e
applies kind.PreferTimes e = events_applied e
applies kind.PreferResources e = events_applied e
applies kind.AvoidSplitAssignments e = groups_applied e
applies kind.SpreadEvents e = groups_applied e
applies kind.LinkEvents e = groups_applied e
applies kind.OrderEvents e = pairs_applied e
applies kind.AvoidClashes e = resources_applied e
applies kind.AvoidUnavailableTimes e = resources_applied e
applies kind.LimitIdleTimes e = resources_applied e
applies kind.ClusterBusyTimes e = resources_applied e
applies kind.LimitBusyTimes e = resources_applied e
applies kind.LimitWorkload e = resources_applied e

-- what a constraint of a kind asks for
unfoldable pub rule : Kind → Standing → RawRule
rule kind.AssignTime e = ruled.AssignTime
rule kind.AssignResource e = ruled.AssignResource (the_role e)
rule kind.SplitEvents e =
    ruled.SplitEvents (lower tag.MinimumDuration e) (upper tag.MaximumDuration e) (lower tag.MinimumAmount e)
    (upper tag.MaximumAmount e)
rule kind.DistributeSplitEvents e = ruled.DistributeSplitEvents (duration e) (lower tag.Minimum e) (upper tag.Maximum e)
rule kind.PreferTimes e = ruled.PreferTimes (references tag.TimeGroups e) (references tag.Times e) (optional_duration e)
rule kind.PreferResources e = ruled.PreferResources (references tag.ResourceGroups e) (references tag.Resources e)
    (the_role e)
rule kind.AvoidSplitAssignments e = ruled.AvoidSplitAssignments (the_role e)
rule kind.SpreadEvents e = ruled.SpreadEvents (map spread (every tag.TimeGroups e))
rule kind.LinkEvents e = ruled.LinkEvents
rule kind.OrderEvents e = ruled.OrderEvents
rule kind.AvoidClashes e = ruled.AvoidClashes
rule kind.AvoidUnavailableTimes e = ruled.AvoidUnavailableTimes (references tag.TimeGroups e) (references tag.Times e)
rule kind.LimitIdleTimes e = ruled.LimitIdleTimes (references tag.TimeGroups e) (lower tag.Minimum e)
    (upper tag.Maximum e)
rule kind.ClusterBusyTimes e = ruled.ClusterBusyTimes (references tag.TimeGroups e) (lower tag.Minimum e)
    (upper tag.Maximum e)
rule kind.LimitBusyTimes e = ruled.LimitBusyTimes (references tag.TimeGroups e) (lower tag.Minimum e)
    (upper tag.Maximum e)
rule kind.LimitWorkload e = ruled.LimitWorkload (lower tag.Minimum e) (upper tag.Maximum e)

-- the kinds in the order of the table
abbrev pub kinds : List Kind
kinds = kind.AssignTime ∷ (kind.AssignResource ∷ (kind.SplitEvents ∷ (kind.DistributeSplitEvents ∷ (kind.PreferTimes ∷ (kind.PreferResources ∷ (kind.AvoidSplitAssignments ∷ (kind.SpreadEvents ∷ (kind.LinkEvents ∷ (kind.OrderEvents ∷ (kind.AvoidClashes ∷ (kind.AvoidUnavailableTimes ∷ (kind.LimitIdleTimes ∷ (kind.ClusterBusyTimes ∷ (kind.LimitBusyTimes ∷ (kind.LimitWorkload ∷ [])))))))))))))))

-- the kind among these whose constraint has this name
abbrev pub kind_among : List Kind → List ℕ → Option Kind
kind_among kinds name = find (λ k. bytes_eq (kind_word k) name) kinds

-- the kind of a constraint, by its element's name; another name has none
abbrev pub kind_of : List ℕ → Option Kind
kind_of name = kind_among kinds name

-- a constraint of a kind
unfoldable pub constraint_of : Kind → Standing → RawConstraint
constraint_of k e = record {
  id = id e;
  name = name e;
  required = required e;
  weight = lower tag.Weight e;
  cost = cost_function e;
  applies = applies k e;
  rule = rule k e;
}

-- the constraint of an element; where no kind has its name, it is none
unfoldable pub constraint : Standing → Option RawConstraint
constraint e = option_map (λ k. constraint_of k e) (kind_of e.info.name)

unfoldable pub instance : Standing → RawInstance
instance e = record {
  id = id e;
  meta_data = optional meta_data tag.MetaData e;
  time_groups = map time_group (every_inside tag.Times tag.TimeGroups e);
  times = map time (all_inside tag.Times tag.Time e);
  resource_types = map resource_type (every_inside tag.Resources tag.ResourceTypes e);
  resource_groups = map resource_group (every_inside tag.Resources tag.ResourceGroups e);
  resources = map resource (all_inside tag.Resources tag.Resource e);
  event_groups = map event_group (every_inside tag.Events tag.EventGroups e);
  events = map event (all_inside tag.Events tag.Event e);
  constraints = filter_map constraint (every tag.Constraints e);
}

unfoldable pub given : Standing → RawGiven
given e = record { reference = reference e; role = optional role tag.Role e }

unfoldable pub entry : Standing → RawEntry
entry e = record {
  reference = reference e;
  duration = optional_duration e;
  time = optional reference tag.Time e;
  resources = map given (every tag.Resources e);
}

unfoldable pub solution : Standing → RawSolution
solution e = record {
  reference = reference e;
  description = optional text tag.Description e;
  running_time = optional text tag.RunningTime e;
  events = map entry (every tag.Events e);
}

unfoldable pub solution_group : Standing → SolutionGroup
solution_group e = record {
  id = id e;
  meta_data = optional meta_data tag.MetaData e;
  solutions = map solution (all tag.Solution e);
}

unfoldable pub archive : Standing → Archive
archive e = record {
  id = optional_name label.Id e;
  meta_data = optional meta_data tag.MetaData e;
  instances = map instance (every tag.Instances e);
  solution_groups = map solution_group (every tag.SolutionGroups e);
}
