-- The first fault of an archive but for its place, and what it resolves to, do not depend on the places of its
-- references and names.
use Rattle.std.proofs.Common.{◌≡◌, ◌∙◌, ap, ap₂, refl, sym, ℕ, ◌+◌, Bool, true, false, not, Option, Some, None, List, []}
use Rattle.std.proofs.Common.{◌∷◌, ◌++◌, map, length, flat_map, option_map, slice_get, Result, Ok, Err}
use Rattle.std.specs.Prelude.{unwrap_or, if◌then◌else◌, nat_lt}
use Rattle.std.specs.List.{filter}
use Rattle.std.specs.Option.{option_and_then, option_map_or, option_or}
use Rattle.std.proofs.lemmas.List.{length-map}
use Rattle.fault_tables.specs.declared.faults.TheConstants.{DUPLICATE_ID, UNKNOWN_REFERENCE, DUPLICATE_ROLE}
use Rattle.fault_tables.specs.declared.faults.TheConstants.{EVENT_OFF_END}
use Rattle.fault_tables.specs.declared.limits.TheConstants.{TOO_MANY_SOLUTIONS}
use Rattle.khe_base.specs.Names.{is_among_names, number_of}
use Rattle.xhstt_references.specs.Directories.{directory_of}
use Rattle.xhstt_references.specs.Faults.{at_first}
use Rattle.xhstt_references.specs.Faults as fault
use Rattle.xhstt_references.specs.Followed as follow
use Rattle.xhstt_references.specs.Ids as ids
use Rattle.xhstt_references.specs.References as named
use Rattle.xhstt_references.specs.declared.directories.Directory.{Directory}
use Rattle.xhstt_references.specs.declared.faults.ReferenceFault.{ReferenceFault}
use Rattle.xhstt_references.specs.declared.faults.ReferenceFault.TheVariants as wrong
use Rattle.xhstt_resolve.specs.Faults.{as_fault}
use Rattle.xhstt_resolve.specs.Limits.{above, earliest, limit_fault}
use Rattle.xhstt_resolve.specs.Parts.{parts_of}
use Rattle.xhstt_resolve.specs.Resolved as solved
use Rattle.xhstt_resolve.specs.declared.faults.ResolveFault.{ResolveFault}
use Rattle.xhstt_resolve.specs.declared.resolving.Resolved.{Resolved}
use Rattle.xhstt_shape.specs.Places.{IsSame, applies, constraint, entry, event, event_group, event_resource, given}
use Rattle.xhstt_shape.specs.Places.{instance, name, pair, reference, references, resource, resource_group}
use Rattle.xhstt_shape.specs.Places.{resource_type, rule, solution, solution_group, spread, time, time_group, unplaced}
use Rattle.xhstt_shape.specs.declared.constraints.RawApplies.{RawApplies}
use Rattle.xhstt_shape.specs.declared.constraints.RawApplies.TheVariants as applied
use Rattle.xhstt_shape.specs.declared.constraints.RawConstraint.{RawConstraint}
use Rattle.xhstt_shape.specs.declared.constraints.RawPair.{RawPair}
use Rattle.xhstt_shape.specs.declared.constraints.RawRule.{RawRule}
use Rattle.xhstt_shape.specs.declared.constraints.RawRule.TheVariants as ruled
use Rattle.xhstt_shape.specs.declared.constraints.RawSpread.{RawSpread}
use Rattle.xhstt_shape.specs.declared.records.Archive.{Archive}
use Rattle.xhstt_shape.specs.declared.records.EventGroup.{EventGroup}
use Rattle.xhstt_shape.specs.declared.records.Name.{Name}
use Rattle.xhstt_shape.specs.declared.records.RawEntry.{RawEntry}
use Rattle.xhstt_shape.specs.declared.records.RawEvent.{RawEvent}
use Rattle.xhstt_shape.specs.declared.records.RawEventResource.{RawEventResource}
use Rattle.xhstt_shape.specs.declared.records.RawGiven.{RawGiven}
use Rattle.xhstt_shape.specs.declared.records.RawInstance.{RawInstance}
use Rattle.xhstt_shape.specs.declared.records.RawResource.{RawResource}
use Rattle.xhstt_shape.specs.declared.records.RawSolution.{RawSolution}
use Rattle.xhstt_shape.specs.declared.records.Ref.{Ref}
use Rattle.xhstt_shape.specs.declared.records.ResourceGroup.{ResourceGroup}
use Rattle.xhstt_shape.specs.declared.records.ResourceType.{ResourceType}
use Rattle.xhstt_shape.specs.declared.records.SolutionGroup.{SolutionGroup}
use Rattle.xhstt_shape.specs.declared.records.Time.{Time}
use Rattle.xhstt_shape.specs.declared.records.TimeGroup.{TimeGroup}
use Rattle.same_archives.specs.Alike.{placeless, without_place}
use Rattle.same_archives.proofs.FollowedLaws.{followed_of, instance_ids, solutions_alike}
use Rattle.same_archives.proofs.LimitLaws as limits
use Rattle.same_archives.proofs.ListLaws.{chosen_parts, filter_mapped, flat_parts, joined_parts, map_alike, parts_alike}
use Rattle.same_archives.proofs.PartsLaws as parts

-- a place as 0
abbrev zeroed : ℕ → ℕ
zeroed at = 0

-- names that came before
repeated_after : (seen : List (List ℕ)) (ns : List Name)
    → named.repeated_after seen (map name ns) ≡ map zeroed (named.repeated_after seen ns)
repeated_after seen [] = refl
repeated_after seen (n ∷ ns) =
    joined_parts zeroed (if is_among_names n.text seen then n.at ∷ [] else [])
    (named.repeated_after (seen ++ n.text ∷ []) ns)
    (if is_among_names n.text seen then 0 ∷ [] else [])
    (named.repeated_after (seen ++ n.text ∷ []) (map name ns))
    (by (is_among_names n.text seen))
    (repeated_after (seen ++ n.text ∷ []) ns)
  where
    by : (b : Bool) → (if b then 0 ∷ [] else []) ≡ map zeroed (if b then n.at ∷ [] else [])
    by true = refl
    by false = refl

repeated : {A : Type 0} (id : A → Name) (g : A → A) → ((x : A) → id (g x) ≡ name (id x)) → (xs : List A)
    → named.repeated (map id (map g xs)) ≡ map zeroed (named.repeated (map id xs))
repeated id g e xs = ap named.repeated (parts_alike id id g name e xs) ∙ repeated_after [] (map id xs)

repeated_ids : (i : RawInstance) → named.repeated_ids (instance i) ≡ map zeroed (named.repeated_ids i)
repeated_ids i =
    let tg = repeated (λ (g : TimeGroup). g.id) time_group (λ g. refl) i.time_groups in
    let t = repeated (λ (x : Time). x.id) time (λ x. refl) i.times in
    let rt = repeated (λ (x : ResourceType). x.id) resource_type (λ x. refl) i.resource_types in
    let rg = repeated (λ (x : ResourceGroup). x.id) resource_group (λ x. refl) i.resource_groups in
    let r = repeated (λ (x : RawResource). x.id) resource (λ x. refl) i.resources in
    let eg = repeated (λ (x : EventGroup). x.id) event_group (λ x. refl) i.event_groups in
    let e = repeated (λ (x : RawEvent). x.id) event (λ x. refl) i.events in
    let c = repeated (λ (x : RawConstraint). x.id) constraint (λ x. refl) i.constraints in
    joined_parts zeroed _ _ _ _ tg
    (joined_parts zeroed _ _ _ _ t
    (joined_parts zeroed _ _ _ _ rt
    (joined_parts zeroed _ _ _ _ rg
    (joined_parts zeroed _ _ _ _ r
    (joined_parts zeroed _ _ _ _ eg
    (joined_parts zeroed _ _ _ _ e c))))))

roles_of : (e : RawEvent) → named.roles_of (event e) ≡ map name (named.roles_of e)
roles_of e =
    chosen_parts (λ (r : RawEventResource). r.role) (λ (r : RawEventResource). r.role) event_resource name (λ r. refl)
    e.resources

repeated_roles : (i : RawInstance) → named.repeated_roles (instance i) ≡ map zeroed (named.repeated_roles i)
repeated_roles i =
    flat_parts (λ (e : RawEvent). named.repeated (named.roles_of e))
    (λ (e : RawEvent). named.repeated (named.roles_of e)) event zeroed
    (λ e. ap named.repeated (roles_of e) ∙ repeated_after [] (named.roles_of e)) i.events

-- references that name nothing
unknown : (ids : List (List ℕ)) (rs : List Ref) → named.unknown ids (references rs) ≡ map zeroed (named.unknown ids rs)
unknown ids rs =
    ap (map (λ (r : Ref). r.at))
    (filter_mapped reference (λ (r : Ref). not (is_among_names r.id ids)) (λ (r : Ref). not (is_among_names r.id ids))
    (λ r. refl) rs)
    ∙ parts_alike (λ (r : Ref). r.at) (λ (r : Ref). r.at) reference zeroed (λ r. refl)
    (filter (λ (r : Ref). not (is_among_names r.id ids)) rs)

unknown_one : (ids : List (List ℕ)) (o : Option Ref)
    → named.unknown_one ids (option_map reference o) ≡ map zeroed (named.unknown_one ids o)
unknown_one ids None = refl
unknown_one ids (Some r) = unknown ids (r ∷ [])

unknown_in_time : (d : Directory) (t : Time)
    → named.unknown_in_time d (time t) ≡ map zeroed (named.unknown_in_time d t)
unknown_in_time d t =
    joined_parts zeroed _ _ _ _ (unknown_one d.weeks t.week)
    (joined_parts zeroed _ _ _ _ (unknown_one d.days t.day) (unknown d.time_groups t.time_groups))

unknown_in_resource : (d : Directory) (r : RawResource)
    → named.unknown_in_resource d (resource r) ≡ map zeroed (named.unknown_in_resource d r)
unknown_in_resource d r =
    joined_parts zeroed _ _ _ _ (unknown d.resource_types (r.resource_type ∷ []))
    (unknown d.resource_groups r.resource_groups)

unknown_in_place : (d : Directory) (r : RawEventResource)
    → named.unknown_in_place d (event_resource r) ≡ map zeroed (named.unknown_in_place d r)
unknown_in_place d r =
    joined_parts zeroed _ _ _ _ (unknown_one d.resources r.reference) (unknown_one d.resource_types r.resource_type)

unknown_in_event : (d : Directory) (e : RawEvent)
    → named.unknown_in_event d (event e) ≡ map zeroed (named.unknown_in_event d e)
unknown_in_event d e =
    joined_parts zeroed _ _ _ _ (unknown_one d.courses e.course)
    (joined_parts zeroed _ _ _ _ (unknown_one d.times e.time)
    (joined_parts zeroed _ _ _ _
    (flat_parts (named.unknown_in_place d) (named.unknown_in_place d) event_resource zeroed (unknown_in_place d)
    e.resources)
    (joined_parts zeroed _ _ _ _ (unknown d.resource_groups e.resource_groups)
    (unknown d.event_groups e.event_groups))))

unknown_in_pair : (d : Directory) (p : RawPair)
    → named.unknown_in_pair d (pair p) ≡ map zeroed (named.unknown_in_pair d p)
unknown_in_pair d p =
    joined_parts zeroed _ _ _ _ (unknown d.events (p.first ∷ [])) (unknown d.events (p.second ∷ []))

unknown_in_applies : (d : Directory) (a : RawApplies)
    → named.unknown_in_applies d (applies a) ≡ map zeroed (named.unknown_in_applies d a)
unknown_in_applies d (applied.Events groups events) =
    joined_parts zeroed _ _ _ _ (unknown d.event_groups groups) (unknown d.events events)
unknown_in_applies d (applied.Groups groups) = unknown d.event_groups groups
unknown_in_applies d (applied.Pairs pairs) =
    flat_parts (named.unknown_in_pair d) (named.unknown_in_pair d) pair zeroed (unknown_in_pair d) pairs
unknown_in_applies d (applied.Resources groups resources) =
    joined_parts zeroed _ _ _ _ (unknown d.resource_groups groups) (unknown d.resources resources)

unknown_in_rule : (d : Directory) (r : RawRule)
    → named.unknown_in_rule d (rule r) ≡ map zeroed (named.unknown_in_rule d r)
unknown_in_rule d ruled.AssignTime = refl
unknown_in_rule d (ruled.AssignResource role) = refl
unknown_in_rule d (ruled.SplitEvents b c e f) = refl
unknown_in_rule d (ruled.DistributeSplitEvents e least greatest) = refl
unknown_in_rule d (ruled.PreferTimes groups times duration) =
    joined_parts zeroed _ _ _ _ (unknown d.time_groups groups) (unknown d.times times)
unknown_in_rule d (ruled.PreferResources groups resources role) =
    joined_parts zeroed _ _ _ _ (unknown d.resource_groups groups) (unknown d.resources resources)
unknown_in_rule d (ruled.AvoidSplitAssignments role) = refl
unknown_in_rule d (ruled.SpreadEvents groups) =
    flat_parts (named.unknown_in_spread d) (named.unknown_in_spread d) spread zeroed
    (λ (s : RawSpread). unknown d.time_groups (s.reference ∷ [])) groups
unknown_in_rule d ruled.LinkEvents = refl
unknown_in_rule d ruled.OrderEvents = refl
unknown_in_rule d ruled.AvoidClashes = refl
unknown_in_rule d (ruled.AvoidUnavailableTimes groups times) =
    joined_parts zeroed _ _ _ _ (unknown d.time_groups groups) (unknown d.times times)
unknown_in_rule d (ruled.LimitIdleTimes groups least greatest) = unknown d.time_groups groups
unknown_in_rule d (ruled.ClusterBusyTimes groups least greatest) = unknown d.time_groups groups
unknown_in_rule d (ruled.LimitBusyTimes groups least greatest) = unknown d.time_groups groups
unknown_in_rule d (ruled.LimitWorkload least greatest) = refl

unknown_in_constraint : (d : Directory) (c : RawConstraint)
    → named.unknown_in_constraint d (constraint c) ≡ map zeroed (named.unknown_in_constraint d c)
unknown_in_constraint d c =
    joined_parts zeroed _ _ _ _ (unknown_in_applies d c.applies) (unknown_in_rule d c.rule)

unknown_in : (d : Directory) (i : RawInstance) → named.unknown_in d (instance i) ≡ map zeroed (named.unknown_in d i)
unknown_in d i =
    joined_parts zeroed _ _ _ _
    (flat_parts (named.unknown_in_time d) (named.unknown_in_time d) time zeroed (unknown_in_time d) i.times)
    (joined_parts zeroed _ _ _ _
    (flat_parts (named.unknown_in_group d) (named.unknown_in_group d) resource_group zeroed
    (λ (g : ResourceGroup). unknown d.resource_types (g.resource_type ∷ [])) i.resource_groups)
    (joined_parts zeroed _ _ _ _
    (flat_parts (named.unknown_in_resource d) (named.unknown_in_resource d) resource zeroed (unknown_in_resource d)
    i.resources)
    (joined_parts zeroed _ _ _ _
    (flat_parts (named.unknown_in_event d) (named.unknown_in_event d) event zeroed (unknown_in_event d) i.events)
    (flat_parts (named.unknown_in_constraint d) (named.unknown_in_constraint d) constraint zeroed
    (unknown_in_constraint d) i.constraints))))

-- the directory of an instance
sorted_groups : (test : TimeGroup → Bool) → ((g : TimeGroup) → test (time_group g) ≡ test g) → (gs : List TimeGroup)
    → map (λ (g : TimeGroup). g.id.text) (filter test (map time_group gs))
    ≡ map (λ (g : TimeGroup). g.id.text) (filter test gs)
sorted_groups test e gs =
    ap (map (λ (g : TimeGroup). g.id.text)) (filter_mapped time_group test test e gs)
    ∙ map_alike (λ (g : TimeGroup). g.id.text) (λ (g : TimeGroup). g.id.text) time_group (λ g. refl) (filter test gs)

course_ids : (i : RawInstance) → ids.course_ids (instance i) ≡ ids.course_ids i
course_ids i =
    ap (map (λ (g : EventGroup). g.id.text))
    (filter_mapped event_group (λ (g : EventGroup). ids.is_course g.sort) (λ (g : EventGroup). ids.is_course g.sort)
    (λ g. refl) i.event_groups)
    ∙ map_alike (λ (g : EventGroup). g.id.text) (λ (g : EventGroup). g.id.text) event_group (λ g. refl)
    (filter (λ (g : EventGroup). ids.is_course g.sort) i.event_groups)

pub directory_alike : (i : RawInstance) → directory_of (instance i) ≡ directory_of i
directory_alike i = λ j. record {
  time_groups = parts.time_group_ids i j;
  weeks = sorted_groups (λ (g : TimeGroup). ids.is_week g.sort) (λ g. refl) i.time_groups j;
  days = sorted_groups (λ (g : TimeGroup). ids.is_day g.sort) (λ g. refl) i.time_groups j;
  times = parts.time_ids i j;
  resource_types = parts.resource_type_ids i j;
  resource_groups = parts.resource_group_ids i j;
  resources = parts.resource_ids i j;
  event_groups = parts.event_group_ids i j;
  courses = course_ids i j;
  events = parts.event_ids i j;
}

unknown_references : (i : RawInstance)
    → named.unknown_references (instance i) ≡ map zeroed (named.unknown_references i)
unknown_references i =
    ap (λ d. named.unknown_in d (instance i)) (directory_alike i) ∙ unknown_in (directory_of i) i

-- events that go on beyond the last time
off_end_from : (d : Directory) (duration : ℕ) (r : Ref)
    → named.off_end_from d duration (reference r) ≡ map zeroed (named.off_end_from d duration r)
off_end_from d duration r = by (number_of r.id d.times)
  where
    late : (b : Bool) → (if b then 0 ∷ [] else []) ≡ map zeroed (if b then r.at ∷ [] else [])
    late true = refl
    late false = refl

    by : (o : Option ℕ)
        → option_map_or (λ (t : ℕ). if nat_lt (length d.times) (t + duration) then 0 ∷ [] else []) o []
        ≡ map zeroed (option_map_or (λ (t : ℕ). if nat_lt (length d.times) (t + duration) then r.at ∷ [] else []) o [])
    by None = refl
    by (Some t) = late (nat_lt (length d.times) (t + duration))

off_end : (d : Directory) (e : RawEvent) → named.off_end d (event e) ≡ map zeroed (named.off_end d e)
off_end d e = by e.time
  where
    by : (o : Option Ref) → option_map_or (named.off_end_from d e.duration) (option_map reference o) []
        ≡ map zeroed (option_map_or (named.off_end_from d e.duration) o [])
    by None = refl
    by (Some r) = off_end_from d e.duration r

events_off_end : (i : RawInstance) → named.events_off_end (instance i) ≡ map zeroed (named.events_off_end i)
events_off_end i =
    ap (λ (d : Directory). flat_map (named.off_end d) (map event i.events)) (directory_alike i)
    ∙ flat_parts (named.off_end (directory_of i)) (named.off_end (directory_of i)) event zeroed
    (off_end (directory_of i)) i.events

-- the references of solutions
unknown_in_entry : (d : Directory) (e : RawEntry)
    → named.unknown_in_entry d (entry e) ≡ map zeroed (named.unknown_in_entry d e)
unknown_in_entry d e =
    joined_parts zeroed _ _ _ _ (unknown d.events (e.reference ∷ []))
    (joined_parts zeroed _ _ _ _ (unknown_one d.times e.time)
    (flat_parts (named.unknown_in_given d) (named.unknown_in_given d) given zeroed
    (λ (g : RawGiven). unknown d.resources (g.reference ∷ [])) e.resources))

unknown_in_solution : (ids : List (List ℕ)) (ds : List Directory) (s : RawSolution)
    → named.unknown_in_solution ids ds (solution s) ≡ map zeroed (named.unknown_in_solution ids ds s)
unknown_in_solution ids ds s =
    joined_parts zeroed _ _ _ _ (unknown ids (s.reference ∷ []))
    (by (option_and_then (λ k. slice_get ds k) (number_of s.reference.id ids)))
  where
    by : (o : Option Directory)
        → option_map_or (λ (d : Directory). flat_map (named.unknown_in_entry d) (map entry s.events)) o []
        ≡ map zeroed (option_map_or (λ (d : Directory). flat_map (named.unknown_in_entry d) s.events) o [])
    by None = refl
    by (Some d) = flat_parts (named.unknown_in_entry d) (named.unknown_in_entry d) entry zeroed (unknown_in_entry d)
        s.events

directories : (a : Archive) → map directory_of (unplaced a).instances ≡ map directory_of a.instances
unfolding unplaced
directories a = map_alike directory_of directory_of instance directory_alike a.instances

unknown_in_solutions : (a : Archive)
    → named.unknown_in_solutions (unplaced a) ≡ map zeroed (named.unknown_in_solutions a)
unknown_in_solutions a =
    (λ j. flat_map (named.unknown_in_solution (instance_ids a j) (directories a j)) (solutions_alike a j))
    ∙ flat_parts (named.unknown_in_solution (ids.instance_ids a) (map directory_of a.instances))
    (named.unknown_in_solution (ids.instance_ids a) (map directory_of a.instances)) solution zeroed
    (unknown_in_solution (ids.instance_ids a) (map directory_of a.instances)) (named.solutions_of a)

-- faults but for their places
abbrev bare : ReferenceFault → ReferenceFault
bare (wrong.Bad kind at) = wrong.Bad kind 0
bare wrong.NoMemory = wrong.NoMemory

at_first_alike : (kind : ℕ) (xs ys : List ℕ) (f g : Option ReferenceFault) → ys ≡ map zeroed xs
    → option_map bare g ≡ option_map bare f
    → option_map bare (at_first kind ys g) ≡ option_map bare (at_first kind xs f)
at_first_alike kind xs ys f g e more = ap (λ zs. option_map bare (at_first kind zs g)) e ∙ by xs
  where
    by : (zs : List ℕ) → option_map bare (at_first kind (map zeroed zs) g) ≡ option_map bare (at_first kind zs f)
    by [] = more
    by (z ∷ zs) = refl

fault_of_instance : (i : RawInstance)
    → option_map bare (fault.fault_of_instance (instance i)) ≡ option_map bare (fault.fault_of_instance i)
fault_of_instance i =
    at_first_alike DUPLICATE_ID (named.repeated_ids i) (named.repeated_ids (instance i)) _ _ (repeated_ids i)
    (at_first_alike UNKNOWN_REFERENCE (named.unknown_references i) (named.unknown_references (instance i)) _ _
    (unknown_references i)
    (at_first_alike DUPLICATE_ROLE (named.repeated_roles i) (named.repeated_roles (instance i)) _ _ (repeated_roles i)
    (at_first_alike EVENT_OFF_END (named.events_off_end i) (named.events_off_end (instance i)) None None
    (events_off_end i) refl)))

fault_of_ids : (a : Archive) → option_map bare (fault.fault_of_ids (unplaced a)) ≡ option_map bare (fault.fault_of_ids a)
unfolding unplaced
fault_of_ids a =
    at_first_alike DUPLICATE_ID (named.repeated (map (λ (i : RawInstance). i.id) a.instances))
    (named.repeated (map (λ (i : RawInstance). i.id) (map instance a.instances))) _ _
    (repeated (λ (i : RawInstance). i.id) instance (λ i. refl) a.instances)
    (at_first_alike DUPLICATE_ID (named.repeated (map (λ (g : SolutionGroup). g.id) a.solution_groups))
    (named.repeated (map (λ (g : SolutionGroup). g.id) (map solution_group a.solution_groups))) None None
    (repeated (λ (g : SolutionGroup). g.id) solution_group (λ g. refl) a.solution_groups) refl)

fault_of_solutions : (a : Archive)
    → option_map bare (fault.fault_of_solutions (unplaced a)) ≡ option_map bare (fault.fault_of_solutions a)
fault_of_solutions a =
    at_first_alike UNKNOWN_REFERENCE (named.unknown_in_solutions a) (named.unknown_in_solutions (unplaced a)) None None
    (unknown_in_solutions a) refl

-- and as faults of resolving
abbrev cut : Option ResolveFault → Option ResolveFault
cut o = option_map placeless o

cut_fault : (o : Option ReferenceFault) → cut (option_map as_fault o) ≡ option_map as_fault (option_map bare o)
cut_fault None = refl
cut_fault (Some (wrong.Bad kind at)) = refl
cut_fault (Some wrong.NoMemory) = refl

reference_cut : (x y : Option ReferenceFault) → option_map bare x ≡ option_map bare y
    → cut (option_map as_fault x) ≡ cut (option_map as_fault y)
reference_cut x y e = cut_fault x ∙ ap (option_map as_fault) e ∙ sym (cut_fault y)

cut_or : (x y : Option ResolveFault) → cut (option_or x y) ≡ option_or (cut x) (cut y)
cut_or None y = refl
cut_or (Some f) y = refl

either_cut : (x y u v : Option ResolveFault) → cut x ≡ cut u → cut y ≡ cut v → cut (option_or x y) ≡ cut (option_or u v)
either_cut x y u v e d = cut_or x y ∙ ap₂ option_or e d ∙ sym (cut_or u v)

instance_fault : (i : RawInstance) → cut (solved.instance_fault (instance i)) ≡ cut (solved.instance_fault i)
instance_fault i =
    either_cut (option_map as_fault (fault.fault_of_instance (instance i))) (limit_fault (instance i))
    (option_map as_fault (fault.fault_of_instance i)) (limit_fault i)
    (reference_cut (fault.fault_of_instance (instance i)) (fault.fault_of_instance i) (fault_of_instance i))
    (ap cut (limits.limit_fault i))

instances_fault : (is : List RawInstance)
    → cut (earliest (map solved.instance_fault (map instance is))) ≡ cut (earliest (map solved.instance_fault is))
instances_fault [] = refl
instances_fault (i ∷ is) =
    either_cut (solved.instance_fault (instance i)) (earliest (map solved.instance_fault (map instance is)))
    (solved.instance_fault i) (earliest (map solved.instance_fault is)) (instance_fault i) (instances_fault is)

solutions_many : (a : Archive) → length (named.solutions_of (unplaced a)) ≡ length (named.solutions_of a)
solutions_many a = ap length (solutions_alike a) ∙ length-map (named.solutions_of a) solution

solutions_fault : (a : Archive) → cut (solved.solutions_fault (unplaced a)) ≡ cut (solved.solutions_fault a)
solutions_fault a =
    either_cut _ _ _ _ (ap (λ n. cut (above TOO_MANY_SOLUTIONS n)) (solutions_many a))
    (either_cut _ _ _ _
    (reference_cut (fault.fault_of_solutions (unplaced a)) (fault.fault_of_solutions a) (fault_of_solutions a)) refl)

archive_fault : (a : Archive) → cut (solved.archive_fault (unplaced a)) ≡ cut (solved.archive_fault a)
unfolding unplaced
archive_fault a =
    either_cut _ _ _ _ (reference_cut (fault.fault_of_ids (unplaced a)) (fault.fault_of_ids a) (fault_of_ids a))
    (either_cut _ _ _ _ (instances_fault a.instances) (either_cut _ _ _ _ (solutions_fault a) refl))

-- what an archive resolves to
instances_of : (a : Archive) → solved.instances_of (unplaced a) ≡ solved.instances_of a
instances_of a =
    (λ j. map (λ (s : RawSolution). unwrap_or (number_of s.reference.id (instance_ids a j)) 0) (solutions_alike a j))
    ∙ map_alike (λ (s : RawSolution). unwrap_or (number_of s.reference.id (ids.instance_ids a)) 0)
    (λ (s : RawSolution). unwrap_or (number_of s.reference.id (ids.instance_ids a)) 0) solution (λ s. refl)
    (named.solutions_of a)

instance_parts : (a : Archive) → map parts_of (unplaced a).instances ≡ map parts_of a.instances
unfolding unplaced
instance_parts a = map_alike parts_of parts_of instance parts.parts_of a.instances

cut_answer : (o : Option ResolveFault) (r : Resolved)
    → without_place (option_map_or Err o (Ok r)) ≡ option_map_or Err (cut o) (Ok r)
cut_answer None r = refl
cut_answer (Some fault) r = refl

resolved_alike : (a : Archive) → without_place (solved.resolved (unplaced a)) ≡ without_place (solved.resolved a)
resolved_alike a =
    cut_answer (solved.archive_fault (unplaced a))
    (record {
      instances = map parts_of (unplaced a).instances;
      of = solved.instances_of (unplaced a);
      followed = follow.followed_of (unplaced a);
    })
    ∙ (λ j. option_map_or Err (archive_fault a j)
    (Ok (record { instances = instance_parts a j; of = instances_of a j; followed = followed_of a j })))
    ∙ sym (cut_answer (solved.archive_fault a)
    (record {
      instances = map parts_of a.instances;
      of = solved.instances_of a;
      followed = follow.followed_of a;
    }))

pub same_resolve : (a b : Archive) → IsSame a b → without_place (solved.resolved a) ≡ without_place (solved.resolved b)
same_resolve a b e =
    sym (resolved_alike a) ∙ ap (λ x. without_place (solved.resolved x)) e ∙ resolved_alike b

-- what resolves, resolves to the same
ok_only : (x : Result Resolved ResolveFault) (r : Resolved) → without_place x ≡ Ok r → x ≡ Ok r
ok_only (Ok q) r e = e
ok_only (Err fault) r e = absurd (cc)

pub same_resolved : (a b : Archive) (r : Resolved) → IsSame a b → solved.resolved a ≡ Ok r → solved.resolved b ≡ Ok r
same_resolved a b r e is =
    ok_only (solved.resolved b) r (sym (same_resolve a b e) ∙ ap without_place is)
