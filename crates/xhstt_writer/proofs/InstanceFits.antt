-- Written instances fit their rows of the table.
use Rattle.std.proofs.Common.{ℕ, ◌≤◌, List, [], All, refl, arith}
use Rattle.xhstt_shape.specs.declared.constraints.RawConstraint.{RawConstraint}
use Rattle.xhstt_shape.specs.declared.records.EventGroup.{EventGroup}
use Rattle.xhstt_shape.specs.declared.records.GroupSort.{GroupSort}
use Rattle.xhstt_shape.specs.declared.records.GroupSort.TheVariants as group_sort
use Rattle.xhstt_shape.specs.declared.records.Name.{Name}
use Rattle.xhstt_shape.specs.declared.records.RawInstance.{RawInstance}
use Rattle.xhstt_shape.specs.declared.records.RawResource.{RawResource}
use Rattle.xhstt_shape.specs.declared.records.ResourceGroup.{ResourceGroup}
use Rattle.xhstt_shape.specs.declared.records.ResourceType.{ResourceType}
use Rattle.xhstt_shape.specs.declared.records.Time.{Time}
use Rattle.xhstt_shape.specs.declared.records.TimeGroup.{TimeGroup}
use Rattle.xhstt_shape.specs.declared.records.TimeSort.{TimeSort}
use Rattle.xhstt_shape.specs.declared.records.TimeSort.TheVariants as time_sort
use Rattle.xhstt_shape.specs.declared.schema.Mark.TheVariants.{Once, AtMostOnce, Many}
use Rattle.xhstt_shape.specs.declared.schema.Row.TheVariants as row_of
use Rattle.khe_instance.specs.declared.rules.Kind.{Kind}
use Rattle.khe_instance.specs.declared.rules.Kind.TheVariants as kind
use Rattle.xhstt_shape.specs.declared.words.Tag.TheVariants as tag
use Rattle.xhstt_shape.specs.Characters.{IsSpellable, IsSpellableName, IsSpellableRef, IsSpellableMetaData}
use Rattle.xhstt_shape.specs.Characters.{IsSpellableTimeGroup, IsSpellableTime, IsSpellableResourceType}
use Rattle.xhstt_shape.specs.Characters.{IsSpellableResourceGroup, IsSpellableResource, IsSpellableEventGroup}
use Rattle.xhstt_shape.specs.Schema.{attributes, children, content}
use Rattle.xhstt_shape.specs.Walk.{settled}
use Rattle.xhstt_shape.specs.Words.{word, kind_word, label_word}
use Rattle.xhstt_writer.specs.Parts.{element, row, each, reference, identified}
use Rattle.xhstt_writer.specs.Canonical.{meta_data, event, kind_of, constraint_tag, constraint}
use Rattle.xhstt_writer.specs.Archives.{named_parts, named, time_sort_tag, time_group_tag, time_group, time_parts, time}
use Rattle.xhstt_writer.specs.Archives.{times_parts, resource_type, resource_group_parts, resource_group}
use Rattle.xhstt_writer.specs.Archives.{resource_parts, resource, resources_parts, group_sort_tag, event_group_tag}
use Rattle.xhstt_writer.specs.Archives.{event_group, events_parts, instance_parts, instance}
use Rattle.xhstt_writer.proofs.Fits.{FitsBody, element_fits, IsListRow, list_fits}
use Rattle.xhstt_writer.proofs.LeafFits.{reference_fits}
use Rattle.xhstt_writer.proofs.RecordFits.{Leads, one_part, if_part, many_part, list_part, name_fits, reference_list}
use Rattle.xhstt_writer.proofs.RecordFits.{resource_groups, meta_data_fits, event_fits}
use Rattle.xhstt_writer.proofs.ConstraintFits.{time_groups, well_formed_fits}
use Rattle.xhstt_writer.proofs.InstanceLaw.{IsGoodEvent, good_events, IsGoodConstraint, good_constraints}
use Rattle.xhstt_writer.proofs.InstanceLaw.{IsGoodInstance}

-- an element with an Id and a name
named_fits : (height : ℕ) (id : Name) (v : List ℕ) → 1 ≤ height → IsSpellableName id → IsSpellable v
    → FitsBody height row_of.Named (named id v)
unfolding content attributes children settled word label_word
named_fits height id v l s n = element_fits 0 height row_of.Named (identified id []) (named_parts v) l (λ i. refl)
    (record {
      elements = refl;
      labels = (refl, s, tt);
      known = (refl, tt);
      needed = refl;
      apart = refl;
      there = refl;
      parts = (name_fits 0 row_of.Named AtMostOnce v refl n, tt);
    })

-- lists of one row, and of several
time_group_row : IsListRow row_of.TimeGroups
unfolding content attributes children settled
time_group_row = record { settles = λ i. refl; elements = refl; attributes = refl; optional = λ f. refl }

resource_type_row : IsListRow row_of.ResourceTypes
unfolding content attributes children settled
resource_type_row = record { settles = λ i. refl; elements = refl; attributes = refl; optional = λ f. refl }

resource_group_row : IsListRow row_of.ResourceGroups
unfolding content attributes children settled
resource_group_row = record { settles = λ i. refl; elements = refl; attributes = refl; optional = λ f. refl }

event_group_row : IsListRow row_of.EventGroups
unfolding content attributes children settled
event_group_row = record { settles = λ i. refl; elements = refl; attributes = refl; optional = λ f. refl }

constraint_row : IsListRow row_of.Constraints
unfolding content attributes children settled
constraint_row = record { settles = λ i. refl; elements = refl; attributes = refl; optional = λ f. refl }

time_sort_leads : (s : TimeSort) → Leads row_of.TimeGroups (time_sort_tag s) Many row_of.Named
unfolding children word
time_sort_leads time_sort.Week = refl
time_sort_leads time_sort.Day = refl
time_sort_leads time_sort.Group = refl

group_sort_leads : (s : GroupSort) → Leads row_of.EventGroups (group_sort_tag s) Many row_of.Named
unfolding children word
group_sort_leads group_sort.Course = refl
group_sort_leads group_sort.Group = refl

kind_leads : (k : Kind) → Leads row_of.Constraints (tag.Constraint k) Many (row_of.Constraint k)
unfolding children word kind_word
kind_leads kind.AssignTime = refl
kind_leads _ = refl

-- times and their groups
time_groups_fit : (gs : List TimeGroup) → All IsSpellableTimeGroup gs
    → FitsBody 4 row_of.TimeGroups (element [] (each time_group_tag time_group gs))
time_groups_fit gs s = list_fits 1 4 row_of.TimeGroups time_group_tag time_group IsSpellableTimeGroup (omega arith)
    time_group_row
    (λ g p. (
      record { tag = time_group_tag g; mark = Many; row = row_of.Named },
      time_sort_leads g.sort,
      refl,
      named_fits 1 g.id g.name (omega arith) p.0 p.1,
    )) gs s

time_fits : (height : ℕ) (x : Time) → 4 ≤ height → IsSpellableTime x → FitsBody height row_of.Time (time x)
unfolding content attributes children settled word label_word
time_fits height x l s = element_fits 3 height row_of.Time (identified x.id []) (time_parts x) l (λ i. refl) (record {
  elements = refl;
  labels = (refl, s.id, tt);
  known = (refl, tt);
  needed = refl;
  apart = refl;
  there = refl;
  parts = (
    name_fits 3 row_of.Time AtMostOnce x.name refl s.name,
    (
      if_part 3 row_of.Time tag.Week AtMostOnce row_of.Reference reference IsSpellableRef x.week refl
          (λ r p. reference_fits 3 r (omega arith) p) s.week,
      (
        if_part 3 row_of.Time tag.Day AtMostOnce row_of.Reference reference IsSpellableRef x.day refl
            (λ r p. reference_fits 3 r (omega arith) p) s.day,
        (
          reference_list 3 row_of.Time tag.TimeGroups tag.TimeGroup row_of.TimeGroupReferences x.time_groups
              (omega arith) refl time_groups refl s.time_groups,
          tt,
        ),
      ),
    ),
  );
})

times_fit : (x : RawInstance) → All IsSpellableTimeGroup x.time_groups → All IsSpellableTime x.times
    → FitsBody 7 row_of.Times (element [] (row (times_parts x)))
unfolding content attributes children settled word
times_fit x gs ts = element_fits 4 7 row_of.Times [] (times_parts x) (omega arith) (λ i. refl) (record {
  elements = refl;
  labels = tt;
  known = tt;
  needed = refl;
  apart = refl;
  there = refl;
  parts = (
    list_part 4 row_of.Times tag.TimeGroups AtMostOnce row_of.TimeGroups (each time_group_tag time_group x.time_groups)
        refl (time_groups_fit x.time_groups gs),
    (
      many_part 4 row_of.Times tag.Time row_of.Time time IsSpellableTime x.times refl
          (λ t p. time_fits 4 t (omega arith) p) ts,
      tt,
    ),
  );
})

-- resources, their types and their groups
resource_types_fit : (xs : List ResourceType) → All IsSpellableResourceType xs
    → FitsBody 4 row_of.ResourceTypes (element [] (each (λ _. tag.ResourceType) resource_type xs))
unfolding children word
resource_types_fit xs s = list_fits 1 4 row_of.ResourceTypes (λ _. tag.ResourceType) resource_type
    IsSpellableResourceType (omega arith) resource_type_row
    (λ x p. (
      record { tag = tag.ResourceType; mark = Many; row = row_of.Named },
      refl,
      refl,
      named_fits 1 x.id x.name
          (omega arith) p.0 p.1,
    )) xs s

resource_group_fits : (height : ℕ) (x : ResourceGroup) → 2 ≤ height → IsSpellableResourceGroup x
    → FitsBody height row_of.ResourceGroup (resource_group x)
unfolding content attributes children settled word label_word
resource_group_fits height x l s = element_fits 1 height row_of.ResourceGroup (identified x.id [])
    (resource_group_parts x) l (λ i. refl) (record {
      elements = refl;
      labels = (refl, s.0, tt);
      known = (refl, tt);
      needed = refl;
      apart = refl;
      there = refl;
      parts = (
        name_fits 1 row_of.ResourceGroup AtMostOnce x.name refl s.1,
        (
          one_part 1 row_of.ResourceGroup tag.ResourceType Once row_of.Reference (reference x.resource_type) refl
              (reference_fits 1 x.resource_type (omega arith) s.2),
          tt,
        ),
      );
    })

resource_groups_fit : (xs : List ResourceGroup) → All IsSpellableResourceGroup xs
    → FitsBody 4 row_of.ResourceGroups (element [] (each (λ _. tag.ResourceGroup) resource_group xs))
unfolding children word
resource_groups_fit xs s = list_fits 2 4 row_of.ResourceGroups (λ _. tag.ResourceGroup) resource_group
    IsSpellableResourceGroup (omega arith) resource_group_row
    (λ x p. (
      record { tag = tag.ResourceGroup; mark = Many; row = row_of.ResourceGroup },
      refl,
      refl,
      resource_group_fits 2 x (omega arith) p,
    )) xs s

resource_fits : (height : ℕ) (x : RawResource) → 4 ≤ height → IsSpellableResource x
    → FitsBody height row_of.Resource (resource x)
unfolding content attributes children settled word label_word
resource_fits height x l s = element_fits 3 height row_of.Resource (identified x.id []) (resource_parts x) l (λ i. refl)
    (record {
      elements = refl;
      labels = (refl, s.id, tt);
      known = (refl, tt);
      needed = refl;
      apart = refl;
      there = refl;
      parts = (
        name_fits 3 row_of.Resource AtMostOnce x.name refl s.name,
        (
          one_part 3 row_of.Resource tag.ResourceType Once row_of.Reference (reference x.resource_type) refl
              (reference_fits 3 x.resource_type (omega arith) s.resource_type),
          (
            reference_list 3 row_of.Resource tag.ResourceGroups tag.ResourceGroup row_of.ResourceGroupReferences
                x.resource_groups (omega arith) refl resource_groups refl s.resource_groups,
            tt,
          ),
        ),
      );
    })

resources_fit : (x : RawInstance) → All IsSpellableResourceType x.resource_types
    → All IsSpellableResourceGroup x.resource_groups → All IsSpellableResource x.resources
    → FitsBody 7 row_of.Resources (element [] (row (resources_parts x)))
unfolding content attributes children settled word
resources_fit x ts gs rs = element_fits 4 7 row_of.Resources [] (resources_parts x) (omega arith) (λ i. refl) (record {
  elements = refl;
  labels = tt;
  known = tt;
  needed = refl;
  apart = refl;
  there = refl;
  parts = (
    list_part 4 row_of.Resources tag.ResourceTypes AtMostOnce row_of.ResourceTypes
        (each (λ _. tag.ResourceType) resource_type x.resource_types) refl (resource_types_fit x.resource_types ts),
    (
      list_part 4 row_of.Resources tag.ResourceGroups AtMostOnce row_of.ResourceGroups
          (each (λ _. tag.ResourceGroup) resource_group x.resource_groups) refl
          (resource_groups_fit x.resource_groups gs),
      (
        many_part 4 row_of.Resources tag.Resource row_of.Resource resource IsSpellableResource x.resources refl
            (λ r p. resource_fits 4 r (omega arith) p) rs,
        tt,
      ),
    ),
  );
})

-- events and their groups
event_groups_fit : (gs : List EventGroup) → All IsSpellableEventGroup gs
    → FitsBody 4 row_of.EventGroups (element [] (each event_group_tag event_group gs))
event_groups_fit gs s = list_fits 1 4 row_of.EventGroups event_group_tag event_group IsSpellableEventGroup (omega arith)
    event_group_row
    (λ g p. (
      record { tag = event_group_tag g; mark = Many; row = row_of.Named },
      group_sort_leads g.sort,
      refl,
      named_fits 1 g.id g.name (omega arith) p.0 p.1,
    )) gs s

events_fit : (x : RawInstance) → All IsSpellableEventGroup x.event_groups → All IsGoodEvent x.events
    → FitsBody 7 row_of.Events (element [] (row (events_parts x)))
unfolding content attributes children settled word
events_fit x gs es = element_fits 4 7 row_of.Events [] (events_parts x) (omega arith) (λ i. refl) (record {
  elements = refl;
  labels = tt;
  known = tt;
  needed = refl;
  apart = refl;
  there = refl;
  parts = (
    list_part 4 row_of.Events tag.EventGroups AtMostOnce row_of.EventGroups
        (each event_group_tag event_group x.event_groups) refl (event_groups_fit x.event_groups gs),
    (
      many_part 4 row_of.Events tag.Event row_of.Event event IsGoodEvent x.events refl
          (λ e p. event_fits 4 e (omega arith) p.in_form p.spellable p.resources) es,
      tt,
    ),
  );
})

-- constraints
constraints_fit : (cs : List RawConstraint) → All IsGoodConstraint cs
    → FitsBody 7 row_of.Constraints (element [] (each constraint_tag constraint cs))
constraints_fit cs g = list_fits 6 7 row_of.Constraints constraint_tag constraint IsGoodConstraint (omega arith)
    constraint_row
    (λ c p. (
      record { tag = constraint_tag c; mark = Many; row = row_of.Constraint (kind_of c.rule) },
      kind_leads
          (kind_of c.rule),
      refl,
      well_formed_fits 6 c (omega arith) p.in_form p.spellable,
    )) cs g

-- an instance
pub instance_fits : (height : ℕ) (x : RawInstance) → 8 ≤ height → IsGoodInstance x
    → FitsBody height row_of.Instance (instance x)
unfolding content attributes children settled word label_word
instance_fits height x l g =
    let s = g.spellable in
    element_fits 7 height row_of.Instance (identified x.id []) (instance_parts x) l (λ i. refl) (record {
      elements = refl;
      labels = (refl, s.id, tt);
      known = (refl, tt);
      needed = refl;
      apart = refl;
      there = refl;
      parts = (
        if_part 7 row_of.Instance tag.MetaData AtMostOnce row_of.MetaData meta_data IsSpellableMetaData x.meta_data refl
            (λ m p. meta_data_fits 7 m (omega arith) p) s.meta_data,
        (
          list_part 7 row_of.Instance tag.Times AtMostOnce row_of.Times (row (times_parts x)) refl
              (times_fit x s.time_groups s.times),
          (
            list_part 7 row_of.Instance tag.Resources AtMostOnce row_of.Resources (row (resources_parts x)) refl
                (resources_fit x s.resource_types s.resource_groups s.resources),
            (
              list_part 7 row_of.Instance tag.Events AtMostOnce row_of.Events (row (events_parts x)) refl
                  (events_fit x s.event_groups (good_events x g.in_form s)),
              (
                list_part 7 row_of.Instance tag.Constraints AtMostOnce row_of.Constraints
                    (each constraint_tag constraint x.constraints) refl
                    (constraints_fit x.constraints (good_constraints x g.in_form s)),
                tt,
              ),
            ),
          ),
        ),
      );
    })
