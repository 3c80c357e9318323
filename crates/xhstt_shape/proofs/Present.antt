-- Nothing is missing in an element without a fault.
use Rattle.std.proofs.Common.{◌≡◌, ℕ, Bool, true, false, Option, Some, None, Ok, List, [], ◌∷◌, map, All, IfSome, IsSome}
use Rattle.std.proofs.Common.{IsSomeAnd, is_some, if◌then◌else◌, ◌⊎◌, refl, inl, inr, sym, ap, subst, ◌∙◌}
use Rattle.std.specs.Prelude.{unwrap_or}
use Rattle.std.specs.Option.{option_map, option_and_then}
use Rattle.std.specs.Str.{bytes_eq}
use Rattle.std.proofs.lemmas.Bool.{and_parts, cases_Bool}
use Rattle.std.proofs.lemmas.List.Elements.{All-weaker}
use Rattle.khe_base.proofs.ResultLemmas.{some-mapped}
use Rattle.khe_base.specs.Text.{text_of}
use Rattle.khe_base.specs.declared.limits.TheConstants.{NUMBER, GREATEST_BOUND}
use Rattle.xhstt_text.specs.Forest.{Info, Forest, empty, node}
use Rattle.xhstt_text.specs.Handles.{Standing}
use Rattle.fault_tables.specs.declared.faults.TheConstants.{MISSING_CHILD, BAD_NUMBER, BAD_WORD}
use Rattle.xhstt_shape.specs.declared.schema.Child.{Child}
use Rattle.xhstt_shape.specs.declared.schema.Content.{Content}
use Rattle.xhstt_shape.specs.declared.schema.Content.TheVariants as content_of
use Rattle.xhstt_shape.specs.declared.schema.AllowedAttribute.{AllowedAttribute}
use Rattle.xhstt_shape.specs.declared.schema.Mark.{Mark}
use Rattle.xhstt_shape.specs.declared.schema.Mark.TheVariants.{Once, AtMostOnce}
use Rattle.xhstt_shape.specs.declared.schema.Row.{Row}
use Rattle.xhstt_shape.specs.declared.schema.Row.TheVariants as row
use Rattle.khe_instance.specs.declared.rules.Kind.{Kind}
use Rattle.khe_instance.specs.declared.rules.Kind.TheVariants as kind
use Rattle.xhstt_shape.specs.declared.words.Label.{Label}
use Rattle.xhstt_shape.specs.declared.words.Label.TheVariants as label
use Rattle.xhstt_shape.specs.declared.words.Tag.{Tag}
use Rattle.xhstt_shape.specs.declared.words.Tag.TheVariants as tag
use Rattle.xhstt_shape.specs.Contents.{trimmed_text, number_between, truth_of, function_of, role_text, is_blank}
use Rattle.xhstt_shape.specs.Faults.{Outcome, bad, unless, followed_by}
use Rattle.xhstt_shape.specs.Present.{HasId, HasReference, Refers, MayRefer, IsRoleThere, HasRole, MayHaveRole}
use Rattle.xhstt_shape.specs.Present.{HasNumber, MayHaveNumber, HasBounds, HasRule}
use Rattle.xhstt_shape.specs.Present.{AreNamed, IsConstraintPresent, IsPresent, ArePresent, IsWhole}
use Rattle.xhstt_shape.specs.Schema.{attributes, children, constraint_children, content, required, optional}
use Rattle.xhstt_shape.specs.Values.{elements, optional_name, optional_reference, number, optional_number, kinds, kind_of}
use Rattle.xhstt_shape.specs.Values.{attribute_name, as_reference}
use Rattle.xhstt_shape.specs.Walk.{attribute, child, has_attributes, attributes_fault, all_attributes_fault, loose_fault}
use Rattle.xhstt_shape.specs.Walk.{has_children, value_fault, around_children, with_seen, children_fault, rule_for}
use Rattle.xhstt_shape.specs.Walk.{settled, is_among, fault_of}
use Rattle.xhstt_shape.specs.Words.{word}
use Rattle.xhstt_shape.proofs.Fine.{IsFine, fine_both, fine_unless, fine_role, by_found, FineChild}
use Rattle.xhstt_shape.proofs.Fine.{FineInside-from, FineNamed, child_fine, elements_fine, named_own, has_found}
use Rattle.xhstt_shape.proofs.InForm.{kind_rule, rule_for-kinds, rules_of_kinds, weaker}

-- options

there : {X : Type 0} (o : Option X) (P : X → Type 0) → IsSome o → IfSome o P → IsSomeAnd o P
there None P some h = absurd (let g : ⊥ = cc in g)
there (Some x) P some h = h

some_then : {X Y : Type 0} (o : Option X) (f : X → Option Y) → IsSome o → IfSome o (λ x. IsSome (f x))
    → IsSome (option_and_then f o)
some_then None f some h = absurd (let g : ⊥ = cc in g)
some_then (Some x) f some h = h

-- the parts of the outcome of a walk over an element

record Parts (r : Row) (c : Content) (i : Info) (kids : Forest) (inner : Outcome) : Type 0 where
  given : has_attributes (attributes r) i.attributes ≡ true
  inside : IsFine inner
  value : IsFine (value_fault c i)

parts : (r : Row) (c : Content) (i : Info) (kids : Forest) (inner : Outcome)
    → IsFine (followed_by (all_attributes_fault (attributes r) i) (followed_by (loose_fault c i.loose)
    (followed_by inner (followed_by (unless (has_children (children r) kids) (bad MISSING_CHILD i.at))
    (value_fault c i))))) → Parts r c i kids inner
parts r c i kids inner h =
    let missing : Outcome = unless (has_children (children r) kids) (bad MISSING_CHILD i.at) in
    let last : Outcome = value_fault c i in
    let later : Outcome = followed_by inner (followed_by missing last) in
    let first = fine_both (all_attributes_fault (attributes r) i) (followed_by (loose_fault c i.loose) later) h in
    let within = fine_both (loose_fault c i.loose) later first.1 in
    let own = fine_both inner (followed_by missing last) within.1 in
    let stands : Bool = has_attributes (attributes r) i.attributes in
    record {
      given = fine_unless stands MISSING_CHILD i.at
          (fine_both (attributes_fault (attributes r) i.attributes) (unless stands (bad MISSING_CHILD i.at)) first.0).1;
      inside = own.0;
      value = (fine_both missing last own.1).1;
    }

-- what is between the tags of an element is in form
value_fine : (r : Row) (c : Content) (i : Info) (kids : Forest) (inner : Outcome)
    → IsFine (around_children r c i kids inner) → IsFine (value_fault c i)
value_fine r content_of.Anything i kids inner h = tt
value_fine r content_of.Elements i kids inner h = tt
value_fine r content_of.Text i kids inner h = tt
value_fine r (content_of.Number least greatest) i kids inner h =
    (parts r (content_of.Number least greatest) i kids inner h).value
value_fine r content_of.Truth i kids inner h = (parts r content_of.Truth i kids inner h).value
value_fine r content_of.Function i kids inner h = (parts r content_of.Function i kids inner h).value
value_fine r content_of.Role i kids inner h = (parts r content_of.Role i kids inner h).value

value_there : (r : Row) (c : Content) (e : Standing) → content r ≡ c → IsFine (fault_of r e)
    → IsFine (value_fault c e.info)
value_there r c e is h =
    let P : Content → Type 0 = λ x. IsFine (value_fault x e.info) in
    subst P is (value_fine r (content r) e.info e.kids (children_fault r [] e.kids) h)

number_there : (r : Row) (least greatest : ℕ) (e : Standing) → content r ≡ content_of.Number least greatest
    → IsFine (fault_of r e) → IsSome (number least greatest e)
unfolding number
number_there r least greatest e is h =
    fine_unless (is_some (number_between least greatest (trimmed_text e.info.value))) BAD_NUMBER e.info.value_at
    (value_there r (content_of.Number least greatest) e is h)

text_there : (o : Option (List ℕ)) → is_blank (unwrap_or o []) ≡ false → IsSome o
text_there None h = absurd (let g : ⊥ = cc in g)
text_there (Some t) h = refl

role_there : (e : Standing) → IsFine (fault_of row.Role e) → IsRoleThere e
unfolding role_text
role_there e h = text_there (text_of (trimmed_text e.info.value)) (fine_role e h)

truth_there : (e : Standing) → IsFine (fault_of row.Truth e) → IsSome (truth_of (trimmed_text e.info.value))
unfolding content
truth_there e h = fine_unless (is_some (truth_of (trimmed_text e.info.value))) BAD_WORD e.info.value_at
    (value_there row.Truth content_of.Truth e refl h)

function_there : (e : Standing) → IsFine (fault_of row.Function e) → IsSome (function_of (trimmed_text e.info.value))
unfolding content
function_there e h = fine_unless (is_some (function_of (trimmed_text e.info.value))) BAD_WORD e.info.value_at
    (value_there row.Function content_of.Function e refl h)

-- attributes

record Needs (r : Row) (l : Label) : Type 0 where
  rest : List AllowedAttribute
  first : attributes r ≡ required l ∷ rest
  elements : content r ≡ content_of.Elements

attribute_there : (r : Row) (l : Label) (e : Standing) → Needs r l → IsFine (fault_of r e)
    → IsSome (attribute l e.info.attributes)
attribute_there r l e needs h =
    let P : Content → Type 0 = λ c. IsFine (around_children r c e.info e.kids (children_fault r [] e.kids)) in
    let own = parts r content_of.Elements e.info e.kids (children_fault r [] e.kids) (subst P needs.elements h) in
    let given : has_attributes (required l ∷ needs.rest) e.info.attributes ≡ true =
    subst (λ (gs : List AllowedAttribute). has_attributes gs e.info.attributes ≡ true) needs.first own.given in
    (and_parts (is_some (attribute l e.info.attributes)) (has_attributes needs.rest e.info.attributes) given).0

id_there : (r : Row) (e : Standing) → Needs r label.Id → IsFine (fault_of r e) → HasId e
unfolding optional_name
id_there r e needs h =
    some-mapped attribute_name (attribute label.Id e.info.attributes) (attribute_there r label.Id e needs h)

reference_there : (r : Row) (e : Standing) → Needs r label.Reference → IsFine (fault_of r e) → HasReference e
unfolding optional_reference optional_name
reference_there r e needs h =
    let a = attribute label.Reference e.info.attributes in
    some-mapped as_reference (option_map attribute_name a)
    (some-mapped attribute_name a (attribute_there r label.Reference e needs h))

refers_of : Needs row.Reference label.Reference
unfolding attributes content
refers_of = record { rest = []; first = refl; elements = refl }

-- children

-- the table has a child of this name in a row of elements, once or at most once, of another row
record Has (r : Row) (t : Tag) (m : Mark) (to : Row) : Type 0 where
  found : rule_for (children r) (word t) ≡ Some (record { tag = t; mark = m; row = to })
  settles : (i : Info) → settled to i ≡ to
  elements : content r ≡ content_of.Elements

child_where : (r : Row) (t : Tag) (m : Mark) (to : Row) (e : Standing) → Has r t m to → IsFine (fault_of r e)
    → IfSome (child t e.kids) (λ x. IsFine (fault_of to x))
child_where r t m to e has h =
    let c : Child = record { tag = t; mark = m; row = to } in
    weaker (child t e.kids) (FineNamed r t) (λ x. IsFine (fault_of to x))
    (λ x f. subst (λ (own : Row). IsFine (fault_of own x)) (has.settles x.info) (named_own r t c x has.found f))
    (child_fine r t e.kids (FineInside-from r e has.elements h).kids)

child_there : (r : Row) (t : Tag) (to : Row) (e : Standing) → Has r t Once to → IsFine (fault_of r e)
    → IsSome (child t e.kids)
child_there r t to e has h =
    has_found (children r) (word t) (record { tag = t; mark = Once; row = to }) e.kids has.found
    (FineInside-from r e has.elements h).has

child_referring : (r : Row) (t : Tag) (m : Mark) (e : Standing) → Has r t m row.Reference → IsFine (fault_of r e)
    → MayRefer t e
child_referring r t m e has h =
    weaker (child t e.kids) (λ x. IsFine (fault_of row.Reference x)) HasReference
    (λ x f. reference_there row.Reference x refers_of f) (child_where r t m row.Reference e has h)

refers_there : (r : Row) (t : Tag) (e : Standing) → Has r t Once row.Reference → IsFine (fault_of r e) → Refers t e
refers_there r t e has h =
    there (child t e.kids) HasReference (child_there r t row.Reference e has h) (child_referring r t Once e has h)

child_role : (r : Row) (m : Mark) (e : Standing) → Has r tag.Role m row.Role → IsFine (fault_of r e) → MayHaveRole e
child_role r m e has h =
    weaker (child tag.Role e.kids) (λ x. IsFine (fault_of row.Role x)) IsRoleThere role_there
    (child_where r tag.Role m row.Role e has h)

the_role_there : (r : Row) (e : Standing) → Has r tag.Role Once row.Role → IsFine (fault_of r e) → HasRole e
the_role_there r e has h =
    there (child tag.Role e.kids) IsRoleThere (child_there r tag.Role row.Role e has h) (child_role r Once e has h)

child_number : (r : Row) (t : Tag) (m : Mark) (to : Row) (least greatest : ℕ) (e : Standing) → Has r t m to
    → content to ≡ content_of.Number least greatest → IsFine (fault_of r e) → MayHaveNumber least greatest t e
unfolding optional_number
child_number r t m to least greatest e has is h =
    λ some. some_then (child t e.kids) (number least greatest) some
    (weaker (child t e.kids) (λ x. IsFine (fault_of to x)) (λ x. IsSome (number least greatest x))
    (λ x f. number_there to least greatest x is f) (child_where r t m to e has h))

the_number_there : (r : Row) (t : Tag) (to : Row) (least greatest : ℕ) (e : Standing) → Has r t Once to
    → content to ≡ content_of.Number least greatest → IsFine (fault_of r e) → HasNumber least greatest t e
the_number_there r t to least greatest e has is h =
    child_number r t Once to least greatest e has is h (child_there r t to e has h)

number_form : content row.Number ≡ content_of.Number 0 NUMBER
unfolding content
number_form = refl

duration_form : content row.Duration ≡ content_of.Number 1 NUMBER
unfolding content
duration_form = refl

bound_form : content row.Bound ≡ content_of.Number 0 GREATEST_BOUND
unfolding content
bound_form = refl

bounds_there : (r : Row) (low high : Tag) (e : Standing) → Has r low AtMostOnce row.Number
    → Has r high AtMostOnce row.Bound → IsFine (fault_of r e) → HasBounds low high e
bounds_there r low high e has_low has_high h = (
  child_number r low AtMostOnce row.Number 0 NUMBER e has_low number_form h,
  child_number r high AtMostOnce row.Bound 0 GREATEST_BOUND e has_high bound_form h,
)

-- constraints

constraint_id : (k : Kind) → Needs (row.Constraint k) label.Id
unfolding attributes content
constraint_id k = record { rest = []; first = refl; elements = refl }

constraint_truth : (k : Kind) → Has (row.Constraint k) tag.Required Once row.Truth
unfolding children constraint_children word settled content
constraint_truth kind.AssignTime = record { found = refl; settles = λ i. refl; elements = refl }
constraint_truth _ = record { found = refl; settles = λ i. refl; elements = refl }

constraint_weight : (k : Kind) → Has (row.Constraint k) tag.Weight Once row.Number
unfolding children constraint_children word settled content
constraint_weight kind.AssignTime = record { found = refl; settles = λ i. refl; elements = refl }
constraint_weight _ = record { found = refl; settles = λ i. refl; elements = refl }

constraint_function : (k : Kind) → Has (row.Constraint k) tag.CostFunction Once row.Function
unfolding children constraint_children word settled content
constraint_function kind.AssignTime = record { found = refl; settles = λ i. refl; elements = refl }
constraint_function _ = record { found = refl; settles = λ i. refl; elements = refl }

rule_bounds : (k : Kind) (low high : Tag) (e : Standing)
    → rule_for (children (row.Constraint k)) (word low) ≡ Some (record { tag = low; mark = AtMostOnce; row = row.Number })
    → rule_for (children (row.Constraint k)) (word high) ≡ Some (record { tag = high; mark = AtMostOnce; row = row.Bound })
    → IsFine (fault_of (row.Constraint k) e) → HasBounds low high e
unfolding settled content
rule_bounds k low high e l u h =
    bounds_there (row.Constraint k) low high e (record { found = l; settles = λ i. refl; elements = refl })
    (record { found = u; settles = λ i. refl; elements = refl }) h

rule_role : (k : Kind) (e : Standing)
    → rule_for (children (row.Constraint k)) (word tag.Role) ≡ Some (record { tag = tag.Role; mark = Once; row = row.Role })
    → IsFine (fault_of (row.Constraint k) e) → HasRole e
unfolding settled content
rule_role k e found h =
    the_role_there (row.Constraint k) e (record { found = found; settles = λ i. refl; elements = refl }) h

rule_there : (k : Kind) (e : Standing) → IsFine (fault_of (row.Constraint k) e) → HasRule k e
unfolding HasRule children constraint_children word settled content
rule_there kind.AssignTime e h = tt
rule_there kind.AssignResource e h = rule_role kind.AssignResource e refl h
rule_there kind.SplitEvents e h = (
  rule_bounds kind.SplitEvents tag.MinimumDuration tag.MaximumDuration e refl refl h,
  rule_bounds kind.SplitEvents tag.MinimumAmount tag.MaximumAmount e refl refl h,
)
rule_there kind.DistributeSplitEvents e h = (
  the_number_there (row.Constraint kind.DistributeSplitEvents) tag.Duration row.Duration 1 NUMBER e
      (record { found = refl; settles = λ i. refl; elements = refl }) duration_form h,
  rule_bounds kind.DistributeSplitEvents tag.Minimum tag.Maximum e refl refl h,
)
rule_there kind.PreferTimes e h =
    child_number (row.Constraint kind.PreferTimes) tag.Duration AtMostOnce row.Duration 1 NUMBER e
    (record { found = refl; settles = λ i. refl; elements = refl }) duration_form h
rule_there kind.PreferResources e h = rule_role kind.PreferResources e refl h
rule_there kind.AvoidSplitAssignments e h = rule_role kind.AvoidSplitAssignments e refl h
rule_there kind.SpreadEvents e h = tt
rule_there kind.LinkEvents e h = tt
rule_there kind.OrderEvents e h = tt
rule_there kind.AvoidClashes e h = tt
rule_there kind.AvoidUnavailableTimes e h = tt
rule_there kind.LimitIdleTimes e h = rule_bounds kind.LimitIdleTimes tag.Minimum tag.Maximum e refl refl h
rule_there kind.ClusterBusyTimes e h = rule_bounds kind.ClusterBusyTimes tag.Minimum tag.Maximum e refl refl h
rule_there kind.LimitBusyTimes e h = rule_bounds kind.LimitBusyTimes tag.Minimum tag.Maximum e refl refl h
rule_there kind.LimitWorkload e h = rule_bounds kind.LimitWorkload tag.Minimum tag.Maximum e refl refl h

constraint_there : (k : Kind) (e : Standing) → IsFine (fault_of (row.Constraint k) e) → IsConstraintPresent k e
constraint_there k e h =
    let r : Row = row.Constraint k in
    let needed : IsSome (child tag.Required e.kids) = child_there r tag.Required row.Truth e (constraint_truth k) h in
    let costs : IsSome (child tag.CostFunction e.kids) =
    child_there r tag.CostFunction row.Function e (constraint_function k) h in
    record {
      id = id_there r e (constraint_id k) h;
      required = some_then (child tag.Required e.kids) (λ c. truth_of (trimmed_text c.info.value)) needed
          (weaker (child tag.Required e.kids) (λ x. IsFine (fault_of row.Truth x))
          (λ x. IsSome (truth_of (trimmed_text x.info.value))) truth_there
          (child_where r tag.Required Once row.Truth e (constraint_truth k) h));
      weight = the_number_there r tag.Weight row.Number 0 NUMBER e (constraint_weight k) number_form h;
      cost = some_then (child tag.CostFunction e.kids) (λ c. function_of (trimmed_text c.info.value)) costs
          (weaker (child tag.CostFunction e.kids) (λ x. IsFine (fault_of row.Function x))
          (λ x. IsSome (function_of (trimmed_text x.info.value))) function_there
          (child_where r tag.CostFunction Once row.Function e (constraint_function k) h));
      rule = rule_there k e h;
    }

-- a child of the table for constraints has a kind
kind_there : (o : Option Kind) (c : Child) → option_map kind_rule o ≡ Some c → IsSome o
kind_there None c h = absurd (let g : ⊥ = cc in g)
kind_there (Some k) c h = refl

known : (e : Standing) → FineChild row.Constraints e → IsSome (kind_of e.info.name)
known e h =
    kind_there (kind_of e.info.name) h.rule
    (sym (rule_for-kinds kinds e.info.name) ∙ sym (ap (λ rules. rule_for rules e.info.name) rules_of_kinds) ∙ h.found)

constraints_there : (e : Standing) → IsFine (fault_of row.Constraints e)
    → All (λ c. IsSome (kind_of c.info.name)) (elements e.kids)
unfolding content
constraints_there e h =
    All-weaker (FineChild row.Constraints) (λ c. IsSome (kind_of c.info.name)) known (elements e.kids)
    (elements_fine row.Constraints e.kids (FineInside-from row.Constraints e refl h).kids)

-- a child of the table has one of its names
listed : (rules : List Child) (name : List ℕ) (c : Child) → rule_for rules name ≡ Some c
    → is_among name (map (λ d. d.tag) rules) ≡ true
listed [] name c found = absurd (let g : ⊥ = cc in g)
listed (d ∷ ds) name c found =
    elim (cases_Bool (bytes_eq (word d.tag) name)) [
      | inl is ↦ rw is refl
      | inr none ↦
          let later : rule_for ds name ≡ Some c = sym (ap (λ b. if b then Some d else rule_for ds name) none) ∙ found in
          rw none (listed ds name c later)
    ]

names_there : (r : Row) (e : Standing) → content r ≡ content_of.Elements → IsFine (fault_of r e)
    → AreNamed (map (λ c. c.tag) (children r)) e
names_there r e is h =
    All-weaker (FineChild r) (λ c. is_among c.info.name (map (λ d. d.tag) (children r)) ≡ true)
    (λ c f. listed (children r) c.info.name f.rule f.found) (elements e.kids)
    (elements_fine r e.kids (FineInside-from r e is h).kids)

-- rows

own_there : (r : Row) (e : Standing) → IsFine (fault_of r e) → IsPresent r e
unfolding IsPresent attributes children word settled content
own_there row.Instance e h = id_there row.Instance e (record { rest = []; first = refl; elements = refl }) h
own_there row.TimeGroups e h = names_there row.TimeGroups e refl h
own_there row.EventGroups e h = names_there row.EventGroups e refl h
own_there row.Named e h = id_there row.Named e (record { rest = []; first = refl; elements = refl }) h
own_there row.Time e h = (
  id_there row.Time e (record { rest = []; first = refl; elements = refl }) h,
  child_referring row.Time tag.Week AtMostOnce e (record { found = refl; settles = λ i. refl; elements = refl }) h,
  child_referring row.Time tag.Day AtMostOnce e (record { found = refl; settles = λ i. refl; elements = refl }) h,
)
own_there row.ResourceGroup e h = (
  id_there row.ResourceGroup e (record { rest = []; first = refl; elements = refl }) h,
  refers_there row.ResourceGroup tag.ResourceType e (record { found = refl; settles = λ i. refl; elements = refl }) h,
)
own_there row.Resource e h = (
  id_there row.Resource e (record { rest = []; first = refl; elements = refl }) h,
  refers_there row.Resource tag.ResourceType e (record { found = refl; settles = λ i. refl; elements = refl }) h,
)
own_there row.Event e h = (
  id_there row.Event e (record { rest = optional label.Color ∷ []; first = refl; elements = refl }) h,
  the_number_there row.Event tag.Duration row.Duration 1 NUMBER e
      (record { found = refl; settles = λ i. refl; elements = refl }) duration_form h,
  child_number row.Event tag.Workload AtMostOnce row.Number 0 NUMBER e
      (record { found = refl; settles = λ i. refl; elements = refl }) number_form h,
  child_referring row.Event tag.Course AtMostOnce e (record { found = refl; settles = λ i. refl; elements = refl }) h,
  child_referring row.Event tag.Time AtMostOnce e (record { found = refl; settles = λ i. refl; elements = refl }) h,
)
own_there row.EventResource e h = (
  child_role row.EventResource AtMostOnce e (record { found = refl; settles = λ i. refl; elements = refl }) h,
  child_referring row.EventResource tag.ResourceType AtMostOnce e
      (record { found = refl; settles = λ i. refl; elements = refl }) h,
  child_number row.EventResource tag.Workload AtMostOnce row.Number 0 NUMBER e
      (record { found = refl; settles = λ i. refl; elements = refl }) number_form h,
)
own_there row.OpenResource e h = (
  the_role_there row.OpenResource e (record { found = refl; settles = λ i. refl; elements = refl }) h,
  refers_there row.OpenResource tag.ResourceType e (record { found = refl; settles = λ i. refl; elements = refl }) h,
  child_number row.OpenResource tag.Workload AtMostOnce row.Number 0 NUMBER e
      (record { found = refl; settles = λ i. refl; elements = refl }) number_form h,
)
own_there row.Constraints e h = constraints_there e h
own_there (row.Constraint k) e h = constraint_there k e h
own_there row.EventPair e h = (
  refers_there row.EventPair tag.FirstEvent e (record { found = refl; settles = λ i. refl; elements = refl }) h,
  refers_there row.EventPair tag.SecondEvent e (record { found = refl; settles = λ i. refl; elements = refl }) h,
  bounds_there row.EventPair tag.MinSeparation tag.MaxSeparation e
      (record { found = refl; settles = λ i. refl; elements = refl })
      (record { found = refl; settles = λ i. refl; elements = refl }) h,
)
own_there row.Spread e h = (
  reference_there row.Spread e (record { rest = []; first = refl; elements = refl }) h,
  bounds_there row.Spread tag.Minimum tag.Maximum e (record { found = refl; settles = λ i. refl; elements = refl })
      (record { found = refl; settles = λ i. refl; elements = refl }) h,
)
own_there row.SolutionGroup e h = id_there row.SolutionGroup e (record { rest = []; first = refl; elements = refl }) h
own_there row.Solution e h = reference_there row.Solution e (record { rest = []; first = refl; elements = refl }) h
own_there row.Entry e h = (
  reference_there row.Entry e (record { rest = []; first = refl; elements = refl }) h,
  child_number row.Entry tag.Duration AtMostOnce row.Duration 1 NUMBER e
      (record { found = refl; settles = λ i. refl; elements = refl }) duration_form h,
  child_referring row.Entry tag.Time AtMostOnce e (record { found = refl; settles = λ i. refl; elements = refl }) h,
)
own_there row.Given e h = (
  reference_there row.Given e (record { rest = []; first = refl; elements = refl }) h,
  child_role row.Given AtMostOnce e (record { found = refl; settles = λ i. refl; elements = refl }) h,
)
own_there row.Reference e h = reference_there row.Reference e refers_of h
own_there _ e h = tt

-- trees

-- where anything may stand, the table has no children
childless : (r : Row) → content r ≡ content_of.Anything → children r ≡ []
unfolding content children
childless row.Anything is = refl
childless _ is = absurd (let g : ⊥ = cc in g)

none_there : (r : Row) (kids : Forest) → children r ≡ [] → ArePresent r kids
none_there r empty none = tt
none_there r (node i kids others) none = (
  subst (λ (cs : List Child). IfSome (rule_for cs i.name) (λ c.
      IsPresent (settled c.row i) (record { info = i; kids = kids }) × ArePresent (settled c.row i) kids)) (sym none) tt,
  none_there r others none,
)

-- what the walk found of the children of an element, where it looked at them
inner_fine : (r : Row) (c : Content) (i : Info) (kids : Forest) (inner : Outcome)
    → IsFine (around_children r c i kids inner) → (c ≡ content_of.Anything) ⊎ IsFine inner
inner_fine r content_of.Anything i kids inner h = inl refl
inner_fine r content_of.Elements i kids inner h = inr (parts r content_of.Elements i kids inner h).inside
inner_fine r content_of.Text i kids inner h = inr (parts r content_of.Text i kids inner h).inside
inner_fine r (content_of.Number least greatest) i kids inner h =
    inr (parts r (content_of.Number least greatest) i kids inner h).inside
inner_fine r content_of.Truth i kids inner h = inr (parts r content_of.Truth i kids inner h).inside
inner_fine r content_of.Function i kids inner h = inr (parts r content_of.Function i kids inner h).inside
inner_fine r content_of.Role i kids inner h = inr (parts r content_of.Role i kids inner h).inside

inside_there : (r : Row) (seen : List Tag) (kids : Forest) → IsFine (children_fault r seen kids) → ArePresent r kids
inside_there r seen empty h = tt
inside_there r seen (node i kids others) h =
    let found = by_found (rule_for (children r) i.name) seen i kids (λ now. children_fault r now others) h in
    let e : Standing = record { info = i; kids = kids } in
    let own : Row = settled found.0.row i in
    let P : Child → Type 0 = λ c. IsPresent (settled c.row i) e × ArePresent (settled c.row i) kids in
    let deep : ArePresent own kids =
    elim (inner_fine own (content own) i kids (children_fault own [] kids) found.2) [
      | inl anything ↦ none_there own kids (childless own anything)
      | inr fine ↦ inside_there own [] kids fine
    ] in (
      subst (λ (o : Option Child). IfSome o P) (sym found.1) (own_there own e found.2, deep),
      inside_there r (with_seen found.0 seen) others found.3,
    )

pub whole : (r : Row) (e : Standing) → fault_of r e ≡ Ok tt → IsWhole r e
whole r e none =
    let h : IsFine (fault_of r e) = subst IsFine (sym none) tt in
    let deep : ArePresent r e.kids =
    elim (inner_fine r (content r) e.info e.kids (children_fault r [] e.kids) h) [
      | inl anything ↦ none_there r e.kids (childless r anything)
      | inr fine ↦ inside_there r [] e.kids fine
    ] in (own_there r e h, deep)
