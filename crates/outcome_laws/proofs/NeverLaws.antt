-- No definition answers that memory ran out: a tree has an archive or a fault that is bad, and an archive has instances,
-- or a fault that is bad or a limit.
use Rattle.std.proofs.Common.{ℕ, ◌≡◌, ◌*◌, length, refl, ap, Bool, true, false, cond, Option, Some, None, Result, Ok, Err}
use Rattle.std.proofs.Common.{List, [], ◌∷◌, map, option_map, nat_lt}
use Rattle.std.specs.Prelude.{find}
use Rattle.std.specs.Option.{option_and_then, option_map_or, option_or}
use Rattle.fault_tables.specs.Limits.{greatest_of}
use Rattle.fault_tables.specs.declared.faults.TheConstants.{DUPLICATE_ID, DUPLICATE_ROLE, EVENT_OFF_END, REPEATED_CHILD}
use Rattle.fault_tables.specs.declared.faults.TheConstants.{UNKNOWN_ELEMENT, UNKNOWN_REFERENCE}
use Rattle.fault_tables.specs.declared.limits.TheConstants.{TOO_GREAT_UNIT, TOO_LONG_DURATION, TOO_MANY_CELLS}
use Rattle.fault_tables.specs.declared.limits.TheConstants.{TOO_MANY_CONSTRAINTS, TOO_MANY_EVENTS, TOO_MANY_EVENT_GROUPS}
use Rattle.fault_tables.specs.declared.limits.TheConstants.{TOO_MANY_LISTED, TOO_MANY_MONITORS, TOO_MANY_RESOURCES}
use Rattle.fault_tables.specs.declared.limits.TheConstants.{TOO_MANY_RESOURCE_GROUPS, TOO_MANY_RESOURCE_TYPES}
use Rattle.fault_tables.specs.declared.limits.TheConstants.{TOO_MANY_SOLUTIONS, TOO_MANY_TASKS, TOO_MANY_TIMES}
use Rattle.fault_tables.specs.declared.limits.TheConstants.{TOO_MANY_TIME_GROUPS, TOO_MANY_WATCHES}
use Rattle.xhstt_references.specs.Faults.{at_first, fault_of_ids, fault_of_instance, fault_of_solutions}
use Rattle.xhstt_references.specs.declared.faults.ReferenceFault.{ReferenceFault}
use Rattle.xhstt_references.specs.declared.faults.ReferenceFault.TheVariants as wrong
use Rattle.xhstt_references.specs.Followed.{followed_of}
use Rattle.xhstt_resolve.specs.Faults.{as_fault}
use Rattle.xhstt_resolve.specs.Limits.{above, beyond, earliest, first_above, first_beyond, limit_fault}
use Rattle.xhstt_resolve.specs.Limits.{listings, task_count, total_duration, units, watch_count}
use Rattle.xhstt_resolve.specs.Resolved.{archive_fault, instance_fault, instances_of, resolved, solutions_fault}
use Rattle.xhstt_resolve.specs.Parts.{parts_of}
use Rattle.xhstt_resolve.specs.Points.{monitors_of}
use Rattle.xhstt_references.specs.References.{events_off_end, repeated, repeated_ids, repeated_roles, solutions_of}
use Rattle.xhstt_references.specs.References.{unknown_in_solutions, unknown_references}
use Rattle.xhstt_resolve.specs.declared.faults.ResolveFault.{ResolveFault}
use Rattle.xhstt_resolve.specs.declared.faults.ResolveFault.TheVariants as resolve
use Rattle.xhstt_resolve.specs.declared.resolving.Resolved.{Resolved}
use Rattle.xhstt_shape.specs.Faults.{Outcome, bad, followed_by, unless}
use Rattle.xhstt_shape.specs.Schema.{attributes, children, content}
use Rattle.xhstt_shape.specs.Shape.{judged, shape_of}
use Rattle.xhstt_shape.specs.Walk.{all_attributes_fault, around_children, attributes_fault, by_rule, children_fault}
use Rattle.xhstt_shape.specs.Walk.{fault_of, has_attributes, has_children, is_among, loose_fault, rule_for, rule_or_fault}
use Rattle.xhstt_shape.specs.Walk.{settled, value_fault, with_seen}
use Rattle.xhstt_shape.specs.declared.faults.ShapeFault.{ShapeFault}
use Rattle.xhstt_shape.specs.declared.faults.ShapeFault.TheVariants as shaped
use Rattle.xhstt_shape.specs.declared.records.Archive.{Archive}
use Rattle.xhstt_shape.specs.declared.records.RawInstance.{RawInstance}
use Rattle.xhstt_shape.specs.declared.records.SolutionGroup.{SolutionGroup}
use Rattle.xhstt_shape.specs.declared.schema.AllowedAttribute.{AllowedAttribute}
use Rattle.xhstt_shape.specs.declared.schema.Child.{Child}
use Rattle.xhstt_shape.specs.declared.schema.Content.{Content}
use Rattle.xhstt_shape.specs.declared.schema.Content.TheVariants as content_of
use Rattle.xhstt_shape.specs.declared.schema.Row.{Row}
use Rattle.xhstt_shape.specs.declared.schema.Row.TheVariants as row
use Rattle.xhstt_shape.specs.declared.words.Tag.{Tag}
use Rattle.xhstt_shape.specs.declared.words.Tag.TheVariants as tag
use Rattle.xhstt_shape.specs.Words.{word}
use Rattle.std.specs.Str.{bytes_eq}
use Rattle.xhstt_text.specs.Forest.{AttributeInfo, Forest, Info, empty, node}
use Rattle.xhstt_text.specs.Handles.{Standing}

-- the walk over a tree
abbrev Lost : {A : Type 0} → Result A ShapeFault → Type 0
Lost r = r ≡ Err shaped.NoMemory

followed : (x y : Outcome) → (Lost x → ⊥) → (Lost y → ⊥) → Lost (followed_by x y) → ⊥
followed (Ok u) y f g e = g e
followed (Err fault) y f g e = f e

checked : (b : Bool) (kind at : ℕ) → Lost (unless b (bad kind at)) → ⊥
checked true kind at e = cc
checked false kind at e = cc

given : (allowed : List AllowedAttribute) (found : List AttributeInfo) → Lost (attributes_fault allowed found) → ⊥
given allowed [] e = cc
given allowed (a ∷ more) e = followed _ _ (checked _ _ _) (given allowed more) e

all_given : (allowed : List AllowedAttribute) (i : Info) → Lost (all_attributes_fault allowed i) → ⊥
all_given allowed i e = followed _ _ (given allowed i.attributes) (checked (has_attributes allowed i.attributes) _ _) e

loose : (c : Content) (o : Option ℕ) → Lost (loose_fault c o) → ⊥
loose content_of.Elements (Some at) e = cc
loose _ _ e = cc

value : (c : Content) (i : Info) → Lost (value_fault c i) → ⊥
value (content_of.Number least greatest) i e = checked _ _ _ e
value content_of.Truth i e = checked _ _ _ e
value content_of.Function i e = checked _ _ _ e
value content_of.Role i e = checked _ _ _ e
value _ i e = cc

around : (r : Row) (c : Content) (i : Info) (kids : Forest) (inner : Outcome) → (Lost inner → ⊥)
    → Lost (around_children r c i kids inner) → ⊥
around r content_of.Anything i kids inner h e = cc
around r c i kids inner h e =
    followed _ _ (all_given (attributes r) i)
    (followed _ _ (loose c i.loose)
    (followed _ _ h (followed _ _ (checked (has_children (children r) kids) _ _) (value c i)))) e

ruled : (o : Option Child) (seen : List Tag) (i : Info) → Lost (rule_or_fault o seen i) → ⊥
ruled None seen i e = cc
ruled (Some c) seen i e = by (is_among i.name seen) e
  where
    by : (b : Bool) → Lost {A = Child} (cond b (Err (shaped.Bad REPEATED_CHILD i.at)) (Ok c)) → ⊥
    by true e = cc
    by false e = cc

by_each : (c : Result Child ShapeFault) (seen : List Tag) (i : Info) (kids : Forest) (inner : Row → Outcome)
    (others : List Tag → Outcome) → (Lost c → ⊥) → ((own : Row) → Lost (inner own) → ⊥)
    → ((now : List Tag) → Lost (others now) → ⊥) → Lost (by_rule c seen i kids inner others) → ⊥
by_each (Err fault) seen i kids inner others h f g e = let same : fault ≡ shaped.NoMemory = cc in h (ap Err same)
by_each (Ok c) seen i kids inner others h f g e =
    let own = settled c.row i in
    followed _ _ (around own (content own) i kids (inner own) (f own)) (g (with_seen c seen)) e

walked : (r : Row) (seen : List Tag) (f : Forest) → Lost (children_fault r seen f) → ⊥
walked r seen empty e = cc
walked r seen (node i kids others) e =
    by_each (rule_or_fault (rule_for (children r) i.name) seen i) seen i kids (λ own. children_fault own [] kids)
    (λ now. children_fault r now others) (ruled (rule_for (children r) i.name) seen i) (λ own. walked own [] kids)
    (λ now. walked r now others) e

judging : (o : Outcome) (s : Standing) → (Lost o → ⊥) → Lost (judged o s) → ⊥
judging (Ok u) s h e = cc
judging (Err fault) s h e = let same : fault ≡ shaped.NoMemory = cc in h (ap Err same)

pub shape_never : (f : Forest) → shape_of f ≡ Err shaped.NoMemory → ⊥
shape_never empty e = cc
shape_never (node i kids others) e = by (bytes_eq (word tag.HighSchoolTimetableArchive) i.name) e
  where
    own : Standing
    own = record { info = i; kids = kids }

    by : (b : Bool) → Lost (cond b (judged (fault_of row.Archive own) own) (Err (shaped.Bad UNKNOWN_ELEMENT i.at))) → ⊥
    by true e =
        judging (fault_of row.Archive own) own
        (around row.Archive (content row.Archive) i kids (children_fault row.Archive [] kids)
        (walked row.Archive [] kids)) e
    by false e = cc

-- references and limits
abbrev Never : Option ResolveFault → Type 0
Never o = o ≡ Some resolve.NoMemory → ⊥

either : (x y : Option ResolveFault) → Never x → Never y → Never (option_or x y)
either None y f g e = g e
either (Some x) y f g e = f e

at_place : (kind : ℕ) (xs : List ℕ) (o : Option ReferenceFault) → (o ≡ Some wrong.NoMemory → ⊥)
    → at_first kind xs o ≡ Some wrong.NoMemory → ⊥
at_place kind [] o h e = h e
at_place kind (x ∷ xs) o h e = cc

no_reference : {A : Type 0} → ◌≡◌ {A = Option ReferenceFault} None (Some wrong.NoMemory) → A
no_reference e = absurd (let g : ⊥ = cc in g)

reference : (o : Option ReferenceFault) → (o ≡ Some wrong.NoMemory → ⊥) → Never (option_map as_fault o)
reference None h e = cc
reference (Some (wrong.Bad kind at)) h e = cc
reference (Some wrong.NoMemory) h e = h refl

of_instance : (i : RawInstance) → fault_of_instance i ≡ Some wrong.NoMemory → ⊥
of_instance i e =
    let off = at_place EVENT_OFF_END (events_off_end i) None no_reference in
    let roles = at_place DUPLICATE_ROLE (repeated_roles i) (at_first EVENT_OFF_END (events_off_end i) None) off in
    let unknown = at_place UNKNOWN_REFERENCE (unknown_references i)
    (at_first DUPLICATE_ROLE (repeated_roles i) (at_first EVENT_OFF_END (events_off_end i) None)) roles in
    at_place DUPLICATE_ID (repeated_ids i)
    (at_first UNKNOWN_REFERENCE (unknown_references i)
    (at_first DUPLICATE_ROLE (repeated_roles i) (at_first EVENT_OFF_END (events_off_end i) None))) unknown e

of_ids : (a : Archive) → fault_of_ids a ≡ Some wrong.NoMemory → ⊥
of_ids a e =
    let groups = repeated (map (λ (g : SolutionGroup). g.id) a.solution_groups) in
    at_place DUPLICATE_ID (repeated (map (λ (i : RawInstance). i.id) a.instances)) (at_first DUPLICATE_ID groups None)
    (at_place DUPLICATE_ID groups None no_reference) e

of_solutions : (a : Archive) → fault_of_solutions a ≡ Some wrong.NoMemory → ⊥
of_solutions a e = at_place UNKNOWN_REFERENCE (unknown_in_solutions a) None no_reference e

above_never : (which n : ℕ) → Never (above which n)
above_never which n e = by (greatest_of which) e
  where
    one : (b : Bool) → Never (cond b (Some (resolve.Limit which n)) None)
    one true e = cc
    one false e = cc

    by : (o : Option ℕ) → Never (option_and_then (λ greatest. beyond which greatest n) o)
    by None e = cc
    by (Some greatest) e = one (nat_lt greatest n) e

first_never : (which : ℕ) (ns : List ℕ) → Never (first_above which ns)
first_never which ns e = by (greatest_of which) e
  where
    one : (o : Option ℕ) → Never (option_map (resolve.Limit which) o)
    one None e = cc
    one (Some n) e = cc

    by : (o : Option ℕ) → Never (option_and_then (λ greatest. first_beyond which greatest ns) o)
    by None e = cc
    by (Some greatest) e = one (find (nat_lt greatest) ns) e

-- looks for a fault, none of which finds that memory ran out
abbrev AllNever : List (Option ResolveFault) → Type 0
AllNever [] = Unit {0}
AllNever (o ∷ os) = Never o × AllNever os

none_never : (os : List (Option ResolveFault)) → AllNever os → Never (earliest os)
none_never [] h e = cc
none_never (o ∷ os) h e = either o (earliest os) h.0 (none_never os h.1) e

later_limits : (i : RawInstance) → AllNever
    (above TOO_MANY_CONSTRAINTS (length i.constraints)
    ∷ above TOO_LONG_DURATION (total_duration i)
    ∷ above TOO_MANY_TASKS (task_count i)
    ∷ above TOO_MANY_CELLS (length i.resources * length i.times)
    ∷ first_above TOO_MANY_LISTED (listings i)
    ∷ above TOO_MANY_MONITORS (length (monitors_of i))
    ∷ above TOO_MANY_WATCHES (watch_count i)
    ∷ first_above TOO_GREAT_UNIT (units i)
    ∷ [])
later_limits i = (
  above_never TOO_MANY_CONSTRAINTS (length i.constraints),
  (
    above_never TOO_LONG_DURATION (total_duration i),
    (
      above_never TOO_MANY_TASKS (task_count i),
      (
        above_never TOO_MANY_CELLS (length i.resources * length i.times),
        (
          first_never TOO_MANY_LISTED (listings i),
          (
            above_never TOO_MANY_MONITORS (length (monitors_of i)),
            (above_never TOO_MANY_WATCHES (watch_count i), (first_never TOO_GREAT_UNIT (units i), tt)),
          ),
        ),
      ),
    ),
  ),
)

of_limits : (i : RawInstance) → Never (limit_fault i)
of_limits i = none_never
    (above TOO_MANY_TIMES (length i.times)
    ∷ above TOO_MANY_TIME_GROUPS (length i.time_groups)
    ∷ above TOO_MANY_RESOURCE_TYPES (length i.resource_types)
    ∷ above TOO_MANY_RESOURCES (length i.resources)
    ∷ above TOO_MANY_RESOURCE_GROUPS (length i.resource_groups)
    ∷ above TOO_MANY_EVENTS (length i.events)
    ∷ above TOO_MANY_EVENT_GROUPS (length i.event_groups)
    ∷ above TOO_MANY_CONSTRAINTS (length i.constraints)
    ∷ above TOO_LONG_DURATION (total_duration i)
    ∷ above TOO_MANY_TASKS (task_count i)
    ∷ above TOO_MANY_CELLS (length i.resources * length i.times)
    ∷ first_above TOO_MANY_LISTED (listings i)
    ∷ above TOO_MANY_MONITORS (length (monitors_of i))
    ∷ above TOO_MANY_WATCHES (watch_count i)
    ∷ first_above TOO_GREAT_UNIT (units i)
    ∷ []) (
      above_never TOO_MANY_TIMES (length i.times),
      (
        above_never TOO_MANY_TIME_GROUPS (length i.time_groups),
        (
          above_never TOO_MANY_RESOURCE_TYPES (length i.resource_types),
          (
            above_never TOO_MANY_RESOURCES (length i.resources),
            (
              above_never TOO_MANY_RESOURCE_GROUPS (length i.resource_groups),
              (
                above_never TOO_MANY_EVENTS (length i.events),
                (above_never TOO_MANY_EVENT_GROUPS (length i.event_groups), later_limits i),
              ),
            ),
          ),
        ),
      ),
    )

of_instances : (is : List RawInstance) → Never (earliest (map instance_fault is))
of_instances [] e = cc
of_instances (i ∷ is) e =
    either (instance_fault i) (earliest (map instance_fault is))
    (either (option_map as_fault (fault_of_instance i)) (limit_fault i)
    (reference (fault_of_instance i) (of_instance i)) (of_limits i)) (of_instances is) e

of_all_solutions : (a : Archive) → Never (solutions_fault a)
of_all_solutions a = none_never
    (above TOO_MANY_SOLUTIONS (length (solutions_of a)) ∷ option_map as_fault (fault_of_solutions a) ∷ []) (
      above_never TOO_MANY_SOLUTIONS (length (solutions_of a)),
      (reference (fault_of_solutions a) (of_solutions a), tt),
    )

of_archive : (a : Archive) → Never (archive_fault a)
of_archive a = none_never
    (option_map as_fault (fault_of_ids a) ∷ earliest (map instance_fault a.instances) ∷ solutions_fault a ∷ [])
    (reference (fault_of_ids a) (of_ids a), (of_instances a.instances, (of_all_solutions a, tt)))

pub resolved_never : (a : Archive) → resolved a ≡ Err resolve.NoMemory → ⊥
resolved_never a e =
    by (archive_fault a) (of_archive a) (record { instances = map parts_of a.instances; of = instances_of a; followed = followed_of a }) e
  where
    by : (o : Option ResolveFault) → Never o → (r : Resolved) → option_map_or Err o (Ok r) ≡ Err resolve.NoMemory → ⊥
    by None h r e = cc
    by (Some fault) h r e = let same : fault ≡ resolve.NoMemory = cc in h (ap Some same)
