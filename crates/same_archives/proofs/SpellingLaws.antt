-- The canonical spelling of an archive does not depend on the places of its references and names.
use Rattle.std.proofs.Common.{◌≡◌, ◌∙◌, ap, refl, sym, Option, Some, None, List, [], ◌∷◌, map, option_map}
use Rattle.xhstt_shape.specs.Places as place
use Rattle.xhstt_shape.specs.Places.{IsSame, unplaced}
use Rattle.xhstt_shape.specs.declared.constraints.RawApplies.{RawApplies}
use Rattle.xhstt_shape.specs.declared.constraints.RawApplies.TheVariants as applied
use Rattle.xhstt_shape.specs.declared.constraints.RawConstraint.{RawConstraint}
use Rattle.xhstt_shape.specs.declared.constraints.RawRule.{RawRule}
use Rattle.xhstt_shape.specs.declared.constraints.RawRule.TheVariants as ruled
use Rattle.xhstt_shape.specs.declared.records.Archive.{Archive}
use Rattle.xhstt_shape.specs.declared.records.Name.{Name}
use Rattle.xhstt_shape.specs.declared.records.RawEntry.{RawEntry}
use Rattle.xhstt_shape.specs.declared.records.RawEvent.{RawEvent}
use Rattle.xhstt_shape.specs.declared.records.RawEventResource.{RawEventResource}
use Rattle.xhstt_shape.specs.declared.records.RawGiven.{RawGiven}
use Rattle.xhstt_shape.specs.declared.records.RawInstance.{RawInstance}
use Rattle.xhstt_shape.specs.declared.records.RawResource.{RawResource}
use Rattle.xhstt_shape.specs.declared.records.RawSolution.{RawSolution}
use Rattle.xhstt_shape.specs.declared.records.Ref.{Ref}
use Rattle.xhstt_shape.specs.declared.records.SolutionGroup.{SolutionGroup}
use Rattle.xhstt_shape.specs.declared.records.Time.{Time}
use Rattle.xhstt_shape.specs.declared.words.Label.TheVariants as label
use Rattle.xhstt_shape.specs.declared.words.Tag.{Tag}
use Rattle.xhstt_shape.specs.declared.words.Tag.TheVariants as tag
use Rattle.xhstt_writer.specs.Archives.{canonical}
use Rattle.xhstt_writer.specs.Archives as written
use Rattle.xhstt_writer.specs.Canonical as written_part
use Rattle.xhstt_writer.specs.Parts.{Body, each, element, identified, if_some, label_if, labelled}
use Rattle.xhstt_writer.specs.Parts.{list_of, name_part, number, one, put, reference, references, role, row, text}
use Rattle.xhstt_writer.specs.Trees.{document}
use Rattle.same_archives.proofs.ListLaws.{map_alike}

-- rows of elements, and an element that may be there
each_alike : {A B : Type 0} (named : A → Tag) (tagged : B → Tag) (body : A → Body) (own : B → Body) (g : A → B)
    → ((x : A) → tagged (g x) ≡ named x) → ((x : A) → own (g x) ≡ body x) → (xs : List A)
    → each tagged own (map g xs) ≡ each named body xs
each_alike named tagged body own g t e [] = refl
each_alike named tagged body own g t e (x ∷ xs) =
    λ j. put (t x j) (e x j) (each_alike named tagged body own g t e xs j)

if_alike : {A B : Type 0} (t : Tag) (body : A → Body) (own : B → Body) (g : A → B) → ((x : A) → own (g x) ≡ body x)
    → (o : Option A) → if_some t own (option_map g o) ≡ if_some t body o
if_alike t body own g e None = refl
if_alike t body own g e (Some x) = ap (λ b. record { tag = t; bodies = b ∷ [] }) (e x)

refs : (outer inner : Tag) (rs : List Ref)
    → references outer inner (place.references rs) ≡ references outer inner rs
refs outer inner rs =
    ap (list_of outer) (each_alike (λ _. inner) (λ _. inner) reference reference place.reference (λ r. refl) (λ r. refl) rs)

ref_if : (t : Tag) (o : Option Ref) → if_some t reference (option_map place.reference o) ≡ if_some t reference o
ref_if t o = if_alike t reference reference place.reference (λ r. refl) o

role_if : (t : Tag) (o : Option Name) → if_some t role (option_map place.name o) ≡ if_some t role o
role_if t o = if_alike t role role place.name (λ n. refl) o

-- times, resources and their groups
time : (t : Time) → written.time (place.time t) ≡ written.time t
time t = λ j. element (identified t.id [])
    (row (name_part t.name ∷ (ref_if tag.Week t.week j ∷ (ref_if tag.Day t.day j
    ∷ (refs tag.TimeGroups tag.TimeGroup t.time_groups j ∷ [])))))

resource : (r : RawResource) → written.resource (place.resource r) ≡ written.resource r
resource r = λ j. element (identified r.id [])
    (row (name_part r.name ∷ (one tag.ResourceType (reference r.resource_type)
    ∷ (refs tag.ResourceGroups tag.ResourceGroup r.resource_groups j ∷ []))))

-- events
event_resource : (r : RawEventResource)
    → written_part.event_resource (place.event_resource r) ≡ written_part.event_resource r
event_resource r = λ j. element (labels r.reference j)
    (row (role_if tag.Role r.role j ∷ (ref_if tag.ResourceType r.resource_type j
    ∷ (if_some tag.Workload number r.workload ∷ []))))
  where
    labels : (o : Option Ref)
        → label_if label.Reference (option_map (λ (x : Ref). x.id) (option_map place.reference o))
        ≡ label_if label.Reference (option_map (λ (x : Ref). x.id) o)
    labels None = refl
    labels (Some r) = refl

event : (e : RawEvent) → written_part.event (place.event e) ≡ written_part.event e
event e = λ j. element (identified e.id (label_if label.Color e.color))
    (row (name_part e.name ∷ (one tag.Duration (number e.duration) ∷ (if_some tag.Workload number e.workload
    ∷ (ref_if tag.Course e.course j ∷ (ref_if tag.Time e.time j
    ∷ (list_of tag.Resources (each_alike (λ _. tag.Resource) (λ _. tag.Resource) written_part.event_resource
    written_part.event_resource place.event_resource (λ r. refl) event_resource e.resources j)
    ∷ (refs tag.ResourceGroups tag.ResourceGroup e.resource_groups j
    ∷ (refs tag.EventGroups tag.EventGroup e.event_groups j ∷ [])))))))))

-- constraints
applies_parts : (a : RawApplies) → written_part.applies_parts (place.applies a) ≡ written_part.applies_parts a
applies_parts (applied.Events groups events) =
    λ j. refs tag.EventGroups tag.EventGroup groups j ∷ (refs tag.Events tag.Event events j ∷ [])
applies_parts (applied.Groups groups) = λ j. refs tag.EventGroups tag.EventGroup groups j ∷ []
applies_parts (applied.Pairs pairs) =
    λ j. list_of tag.EventPairs (each_alike (λ _. tag.EventPair) (λ _. tag.EventPair) written_part.pair written_part.pair
    place.pair (λ p. refl) (λ p. refl) pairs j) ∷ []
applies_parts (applied.Resources groups resources) =
    λ j. refs tag.ResourceGroups tag.ResourceGroup groups j ∷ (refs tag.Resources tag.Resource resources j ∷ [])

rule_parts : (r : RawRule) → written_part.rule_parts (place.rule r) ≡ written_part.rule_parts r
rule_parts ruled.AssignTime = refl
rule_parts (ruled.AssignResource n) = refl
rule_parts (ruled.SplitEvents a b c d) = refl
rule_parts (ruled.DistributeSplitEvents d least greatest) = refl
rule_parts (ruled.PreferTimes groups times duration) =
    λ j. refs tag.TimeGroups tag.TimeGroup groups j ∷ (refs tag.Times tag.Time times j
    ∷ (if_some tag.Duration number duration ∷ []))
rule_parts (ruled.PreferResources groups resources n) =
    λ j. refs tag.ResourceGroups tag.ResourceGroup groups j ∷ (refs tag.Resources tag.Resource resources j
    ∷ (one tag.Role (role n) ∷ []))
rule_parts (ruled.AvoidSplitAssignments n) = refl
rule_parts (ruled.SpreadEvents groups) =
    λ j. list_of tag.TimeGroups (each_alike (λ _. tag.TimeGroup) (λ _. tag.TimeGroup) written_part.spread
    written_part.spread place.spread (λ s. refl) (λ s. refl) groups j) ∷ []
rule_parts ruled.LinkEvents = refl
rule_parts ruled.OrderEvents = refl
rule_parts ruled.AvoidClashes = refl
rule_parts (ruled.AvoidUnavailableTimes groups times) =
    λ j. refs tag.TimeGroups tag.TimeGroup groups j ∷ (refs tag.Times tag.Time times j ∷ [])
rule_parts (ruled.LimitIdleTimes groups least greatest) =
    λ j. refs tag.TimeGroups tag.TimeGroup groups j ∷ (one tag.Minimum (number least)
    ∷ (one tag.Maximum (number greatest) ∷ []))
rule_parts (ruled.ClusterBusyTimes groups least greatest) =
    λ j. refs tag.TimeGroups tag.TimeGroup groups j ∷ (one tag.Minimum (number least)
    ∷ (one tag.Maximum (number greatest) ∷ []))
rule_parts (ruled.LimitBusyTimes groups least greatest) =
    λ j. refs tag.TimeGroups tag.TimeGroup groups j ∷ (one tag.Minimum (number least)
    ∷ (one tag.Maximum (number greatest) ∷ []))
rule_parts (ruled.LimitWorkload least greatest) = refl

kind_of : (r : RawRule) → written_part.kind_of (place.rule r) ≡ written_part.kind_of r
kind_of ruled.AssignTime = refl
kind_of (ruled.AssignResource n) = refl
kind_of (ruled.SplitEvents a b c d) = refl
kind_of (ruled.DistributeSplitEvents d least greatest) = refl
kind_of (ruled.PreferTimes groups times duration) = refl
kind_of (ruled.PreferResources groups resources n) = refl
kind_of (ruled.AvoidSplitAssignments n) = refl
kind_of (ruled.SpreadEvents groups) = refl
kind_of ruled.LinkEvents = refl
kind_of ruled.OrderEvents = refl
kind_of ruled.AvoidClashes = refl
kind_of (ruled.AvoidUnavailableTimes groups times) = refl
kind_of (ruled.LimitIdleTimes groups least greatest) = refl
kind_of (ruled.ClusterBusyTimes groups least greatest) = refl
kind_of (ruled.LimitBusyTimes groups least greatest) = refl
kind_of (ruled.LimitWorkload least greatest) = refl

constraint : (c : RawConstraint) → written_part.constraint (place.constraint c) ≡ written_part.constraint c
constraint c = λ j. element (identified c.id [])
    (row (name_part c.name ∷ (one tag.Required (text (written_part.truth_word c.required))
    ∷ (one tag.Weight (number c.weight) ∷ (one tag.CostFunction (text (written_part.function_word c.cost))
    ∷ (one tag.AppliesTo (element [] (row (applies_parts c.applies j))) ∷ rule_parts c.rule j))))))

constraint_tag : (c : RawConstraint)
    → written_part.constraint_tag (place.constraint c) ≡ written_part.constraint_tag c
constraint_tag c = ap tag.Constraint (kind_of c.rule)

-- instances
times_parts : (i : RawInstance) → written.times_parts (place.instance i) ≡ written.times_parts i
times_parts i = λ j.
    list_of tag.TimeGroups (each_alike written.time_group_tag written.time_group_tag written.time_group
    written.time_group place.time_group (λ g. refl) (λ g. refl) i.time_groups j)
    ∷ (record { tag = tag.Time; bodies = map_alike written.time written.time place.time time i.times j } ∷ [])

resources_parts : (i : RawInstance) → written.resources_parts (place.instance i) ≡ written.resources_parts i
resources_parts i = λ j.
    list_of tag.ResourceTypes (each_alike (λ _. tag.ResourceType) (λ _. tag.ResourceType) written.resource_type
    written.resource_type place.resource_type (λ t. refl) (λ t. refl) i.resource_types j)
    ∷ (list_of tag.ResourceGroups (each_alike (λ _. tag.ResourceGroup) (λ _. tag.ResourceGroup) written.resource_group
    written.resource_group place.resource_group (λ g. refl) (λ g. refl) i.resource_groups j)
    ∷ (record { tag = tag.Resource; bodies = map_alike written.resource written.resource place.resource resource i.resources j }
    ∷ []))

events_parts : (i : RawInstance) → written.events_parts (place.instance i) ≡ written.events_parts i
events_parts i = λ j.
    list_of tag.EventGroups (each_alike written.event_group_tag written.event_group_tag written.event_group
    written.event_group place.event_group (λ g. refl) (λ g. refl) i.event_groups j)
    ∷ (record { tag = tag.Event; bodies = map_alike written_part.event written_part.event place.event event i.events j } ∷ [])

instance : (i : RawInstance) → written.instance (place.instance i) ≡ written.instance i
instance i = λ j. element (identified i.id [])
    (row (if_some tag.MetaData written_part.meta_data i.meta_data ∷ (list_of tag.Times (row (times_parts i j))
    ∷ (list_of tag.Resources (row (resources_parts i j)) ∷ (list_of tag.Events (row (events_parts i j))
    ∷ (list_of tag.Constraints (each_alike written_part.constraint_tag written_part.constraint_tag
    written_part.constraint written_part.constraint place.constraint constraint_tag constraint i.constraints j) ∷ []))))))

-- solutions
given : (g : RawGiven) → written.given (place.given g) ≡ written.given g
given g = λ j. element (labelled label.Reference g.reference.id ∷ []) (row (role_if tag.Role g.role j ∷ []))

entry : (e : RawEntry) → written.entry (place.entry e) ≡ written.entry e
entry e = λ j. element (labelled label.Reference e.reference.id ∷ [])
    (row (if_some tag.Duration number e.duration ∷ (ref_if tag.Time e.time j
    ∷ (list_of tag.Resources (each_alike (λ _. tag.Resource) (λ _. tag.Resource) written.given written.given place.given
    (λ g. refl) given e.resources j) ∷ []))))

solution : (s : RawSolution) → written.solution (place.solution s) ≡ written.solution s
solution s = λ j. element (labelled label.Reference s.reference.id ∷ [])
    (row (if_some tag.Description text s.description ∷ (if_some tag.RunningTime text s.running_time
    ∷ (list_of tag.Events (each_alike (λ _. tag.Event) (λ _. tag.Event) written.entry written.entry place.entry
    (λ e. refl) entry s.events j) ∷ []))))

solution_group : (g : SolutionGroup) → written.solution_group (place.solution_group g) ≡ written.solution_group g
solution_group g = λ j. element (identified g.id [])
    (row (if_some tag.MetaData written_part.meta_data g.meta_data
    ∷ (record { tag = tag.Solution; bodies = map_alike written.solution written.solution place.solution solution g.solutions j }
    ∷ [])))

-- archives
archive_labels : (a : Archive) → written.archive_labels (unplaced a) ≡ written.archive_labels a
unfolding unplaced
archive_labels a = by a.id
  where
    by : (o : Option Name)
        → label_if label.Id (option_map (λ (n : Name). n.text) (option_map place.name o))
        ≡ label_if label.Id (option_map (λ (n : Name). n.text) o)
    by None = refl
    by (Some n) = refl

archive_parts : (a : Archive) → written.archive_parts (unplaced a) ≡ written.archive_parts a
unfolding unplaced
archive_parts a = λ j. if_some tag.MetaData written_part.meta_data a.meta_data
    ∷ (list_of tag.Instances (each_alike (λ _. tag.Instance) (λ _. tag.Instance) written.instance written.instance
    place.instance (λ i. refl) instance a.instances j)
    ∷ (list_of tag.SolutionGroups (each_alike (λ _. tag.SolutionGroup) (λ _. tag.SolutionGroup) written.solution_group
    written.solution_group place.solution_group (λ g. refl) solution_group a.solution_groups j) ∷ []))

canonical_alike : (a : Archive) → canonical (unplaced a) ≡ canonical a
unfolding canonical
canonical_alike a =
    λ j. document tag.HighSchoolTimetableArchive (archive_labels a j) (row (archive_parts a j))

pub same_spelling : (a b : Archive) → IsSame a b → canonical a ≡ canonical b
same_spelling a b e = sym (canonical_alike a) ∙ ap canonical e ∙ canonical_alike b
