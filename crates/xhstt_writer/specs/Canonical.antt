-- The elements that each record of an archive is written as, children in the order of the format's table. A number
-- with a default is written, an empty name is not.
use Rattle.std.specs.Prelude.{ℕ, Bool, if◌then◌else◌, List, [], ◌∷◌, codes}
use Rattle.std.specs.Option.{option_map}
use Rattle.khe_base.specs.declared.costs.CostFn.{CostFn}
use Rattle.khe_base.specs.declared.costs.CostFn.TheVariants.{Linear, Quadratic, Step}
use Rattle.xhstt_shape.specs.declared.constraints.RawApplies.{RawApplies}
use Rattle.xhstt_shape.specs.declared.constraints.RawApplies.TheVariants as applied
use Rattle.xhstt_shape.specs.declared.constraints.RawConstraint.{RawConstraint}
use Rattle.xhstt_shape.specs.declared.constraints.RawPair.{RawPair}
use Rattle.xhstt_shape.specs.declared.constraints.RawRule.{RawRule}
use Rattle.xhstt_shape.specs.declared.constraints.RawRule.TheVariants as ruled
use Rattle.xhstt_shape.specs.declared.constraints.RawSpread.{RawSpread}
use Rattle.xhstt_shape.specs.declared.records.MetaData.{MetaData}
use Rattle.xhstt_shape.specs.declared.records.RawEvent.{RawEvent}
use Rattle.xhstt_shape.specs.declared.records.RawEventResource.{RawEventResource}
use Rattle.khe_instance.specs.declared.rules.Kind.{Kind}
use Rattle.khe_instance.specs.declared.rules.Kind.TheVariants as kind
use Rattle.xhstt_shape.specs.declared.words.Label.TheVariants as label
use Rattle.xhstt_shape.specs.declared.words.Tag.{Tag}
use Rattle.xhstt_shape.specs.declared.words.Tag.TheVariants as tag
use Rattle.xhstt_writer.specs.Parts.{Body, text, element, Part, row, each, one, if_some, list_of, name_part, number}
use Rattle.xhstt_writer.specs.Parts.{role, labelled, label_if, identified, reference, references}

-- what is said of an archive, an instance or a solution group as a whole
abbrev pub meta_data_parts : MetaData → List Part
meta_data_parts m =
    name_part m.name ∷ (if_some tag.Contributor text
    m.contributor ∷ (if_some tag.Date text m.date ∷ (if_some tag.Country text
    m.country ∷ (if_some tag.Description text m.description ∷ (if_some tag.Publication text
    m.publication ∷ (if_some tag.Remarks text m.remarks ∷ []))))))

abbrev pub meta_data : MetaData → Body
meta_data m = element [] (row (meta_data_parts m))

abbrev pub event_resource_parts : RawEventResource → List Part
event_resource_parts r = if_some tag.Role role
    r.role ∷ (if_some tag.ResourceType reference r.resource_type ∷ (if_some tag.Workload number r.workload ∷ []))

abbrev pub event_resource : RawEventResource → Body
event_resource r = element (label_if label.Reference (option_map (λ x. x.id) r.reference))
    (row (event_resource_parts r))

abbrev pub event_parts : RawEvent → List Part
event_parts e =
    name_part e.name ∷ (one tag.Duration (number e.duration) ∷ (if_some tag.Workload number
    e.workload ∷ (if_some tag.Course reference e.course ∷ (if_some tag.Time reference
    e.time ∷ (list_of tag.Resources (each (λ _. tag.Resource) event_resource e.resources) ∷ (references
    tag.ResourceGroups tag.ResourceGroup e.resource_groups ∷ (references tag.EventGroups tag.EventGroup
    e.event_groups ∷ [])))))))

abbrev pub event : RawEvent → Body
event e = element (identified e.id (label_if label.Color e.color)) (row (event_parts e))

abbrev pub pair_parts : RawPair → List Part
pair_parts p = one tag.FirstEvent (reference p.first) ∷ (one tag.SecondEvent
    (reference p.second) ∷ (one tag.MinSeparation (number p.min) ∷ (one tag.MaxSeparation (number p.max) ∷ [])))

abbrev pub pair : RawPair → Body
pair p = element [] (row (pair_parts p))

abbrev pub spread_parts : RawSpread → List Part
spread_parts s = one tag.Minimum (number s.min) ∷ (one tag.Maximum (number s.max) ∷ [])

abbrev pub spread : RawSpread → Body
spread s = element (labelled label.Reference s.reference.id ∷ []) (row (spread_parts s))

abbrev pub applies_parts : RawApplies → List Part
applies_parts (applied.Events groups events) =
    references tag.EventGroups tag.EventGroup groups ∷ (references tag.Events tag.Event events ∷ [])
applies_parts (applied.Groups groups) = references tag.EventGroups tag.EventGroup groups ∷ []
applies_parts (applied.Pairs pairs) = list_of tag.EventPairs (each (λ _. tag.EventPair) pair pairs) ∷ []
applies_parts (applied.Resources groups resources) =
    references tag.ResourceGroups tag.ResourceGroup groups ∷ (references tag.Resources tag.Resource resources ∷ [])

-- the children of a constraint after the children that each constraint has
abbrev pub rule_parts : RawRule → List Part
rule_parts ruled.AssignTime = []
rule_parts (ruled.AssignResource r) = one tag.Role (role r) ∷ []
rule_parts (ruled.SplitEvents a b c d) = one tag.MinimumDuration
    (number a) ∷ (one tag.MaximumDuration (number b) ∷ (one tag.MinimumAmount
    (number c) ∷ (one tag.MaximumAmount (number d) ∷ [])))
rule_parts (ruled.DistributeSplitEvents duration min max) =
    one tag.Duration (number duration) ∷ (one tag.Minimum (number min) ∷ (one tag.Maximum (number max) ∷ []))
rule_parts (ruled.PreferTimes groups times duration) =
    references tag.TimeGroups tag.TimeGroup groups ∷ (references tag.Times tag.Time
    times ∷ (if_some tag.Duration number duration ∷ []))
rule_parts (ruled.PreferResources groups resources r) =
    references tag.ResourceGroups tag.ResourceGroup
    groups ∷ (references tag.Resources tag.Resource resources ∷ (one tag.Role (role r) ∷ []))
rule_parts (ruled.AvoidSplitAssignments r) = one tag.Role (role r) ∷ []
rule_parts (ruled.SpreadEvents groups) = list_of tag.TimeGroups (each (λ _. tag.TimeGroup) spread groups) ∷ []
rule_parts ruled.LinkEvents = []
rule_parts ruled.OrderEvents = []
rule_parts ruled.AvoidClashes = []
rule_parts (ruled.AvoidUnavailableTimes groups times) =
    references tag.TimeGroups tag.TimeGroup groups ∷ (references tag.Times tag.Time times ∷ [])
rule_parts (ruled.LimitIdleTimes groups min max) =
    references tag.TimeGroups tag.TimeGroup groups ∷ (one tag.Minimum
    (number min) ∷ (one tag.Maximum (number max) ∷ []))
rule_parts (ruled.ClusterBusyTimes groups min max) =
    references tag.TimeGroups tag.TimeGroup groups ∷ (one tag.Minimum
    (number min) ∷ (one tag.Maximum (number max) ∷ []))
rule_parts (ruled.LimitBusyTimes groups min max) =
    references tag.TimeGroups tag.TimeGroup groups ∷ (one tag.Minimum
    (number min) ∷ (one tag.Maximum (number max) ∷ []))
rule_parts (ruled.LimitWorkload min max) = one tag.Minimum (number min) ∷ (one tag.Maximum (number max) ∷ [])

abbrev pub kind_of : RawRule → Kind
kind_of ruled.AssignTime = kind.AssignTime
kind_of (ruled.AssignResource role) = kind.AssignResource
kind_of (ruled.SplitEvents a b c d) = kind.SplitEvents
kind_of (ruled.DistributeSplitEvents duration min max) = kind.DistributeSplitEvents
kind_of (ruled.PreferTimes groups times duration) = kind.PreferTimes
kind_of (ruled.PreferResources groups resources role) = kind.PreferResources
kind_of (ruled.AvoidSplitAssignments role) = kind.AvoidSplitAssignments
kind_of (ruled.SpreadEvents groups) = kind.SpreadEvents
kind_of ruled.LinkEvents = kind.LinkEvents
kind_of ruled.OrderEvents = kind.OrderEvents
kind_of ruled.AvoidClashes = kind.AvoidClashes
kind_of (ruled.AvoidUnavailableTimes groups times) = kind.AvoidUnavailableTimes
kind_of (ruled.LimitIdleTimes groups min max) = kind.LimitIdleTimes
kind_of (ruled.ClusterBusyTimes groups min max) = kind.ClusterBusyTimes
kind_of (ruled.LimitBusyTimes groups min max) = kind.LimitBusyTimes
kind_of (ruled.LimitWorkload min max) = kind.LimitWorkload

abbrev pub truth_word : Bool → List ℕ
truth_word b = if b then codes "true" else codes "false"

abbrev pub function_word : CostFn → List ℕ
function_word Linear = codes "Linear"
function_word Quadratic = codes "Quadratic"
function_word Step = codes "Step"

-- the children that each constraint has, before those of its rule
abbrev pub constraint_parts : RawConstraint → List Part → List Part
constraint_parts c further =
    name_part c.name ∷ (one tag.Required (text (truth_word c.required)) ∷ (one tag.Weight
    (number c.weight) ∷ (one tag.CostFunction (text (function_word c.cost)) ∷ (one tag.AppliesTo
    (element [] (row (applies_parts c.applies))) ∷ further))))

abbrev pub constraint : RawConstraint → Body
constraint c = element (identified c.id []) (row (constraint_parts c (rule_parts c.rule)))

-- the name of a constraint's element is that of its kind
abbrev pub constraint_tag : RawConstraint → Tag
constraint_tag c = tag.Constraint (kind_of c.rule)
