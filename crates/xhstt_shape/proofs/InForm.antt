-- What the walk let through is in form.
use Rattle.std.proofs.Common.{◌≡◌, ℕ, ◌≤◌, Bool, true, false, ◌&&◌, ltb, leb, if◌then◌else◌, Option, Some, None, Result}
use Rattle.std.proofs.Common.{Ok, Err, List, [], ◌∷◌, map, All, IfSome, IfOk, IsSome, is_some, length, refl, inl, inr}
use Rattle.std.proofs.Common.{sym, ap, subst, ◌∙◌, arith, encode_utf8_all}
use Rattle.std.specs.Prelude.{unwrap_or}
use Rattle.std.specs.Option.{option_map, option_and_then}
use Rattle.std.specs.List.{list_all, filter_map, cons_option}
use Rattle.std.specs.Str.{bytes_eq, is_utf8}
use Rattle.std.proofs.lemmas.Bool.{and_parts, cases_Bool, cond_both, leb-true}
use Rattle.std.proofs.lemmas.List.Elements.{All-nil, All-cons, All-head, All-tail, All-map, All-weaker}
use Rattle.std.proofs.lemmas.Str.{IsUtf8-from_is_utf8, encodes-chars}
use Rattle.khe_base.specs.Text.{text_of, characters}
use Rattle.khe_base.specs.declared.limits.TheConstants.{NUMBER, GREATEST_BOUND}
use Rattle.xhstt_text.specs.Bytes.{is_white}
use Rattle.xhstt_text.specs.Unescape.{unescaped}
use Rattle.xhstt_text.specs.Forest.{AttributeInfo, Info, Forest}
use Rattle.xhstt_text.specs.Handles.{Standing}
use Rattle.fault_tables.specs.declared.faults.TheConstants.{UNKNOWN_ELEMENT}
use Rattle.xhstt_shape.specs.declared.faults.ShapeFault.{ShapeFault}
use Rattle.xhstt_shape.specs.declared.faults.ShapeFault.TheVariants.{Bad}
use Rattle.xhstt_shape.specs.declared.records.Archive.{Archive}
use Rattle.xhstt_shape.specs.declared.schema.Content.TheVariants as content_of
use Rattle.xhstt_shape.specs.declared.schema.Child.{Child}
use Rattle.xhstt_shape.specs.declared.schema.Row.{Row}
use Rattle.xhstt_shape.specs.declared.schema.Row.TheVariants as row
use Rattle.khe_instance.specs.declared.rules.Kind.{Kind}
use Rattle.khe_instance.specs.declared.rules.Kind.TheVariants as kind
use Rattle.xhstt_shape.specs.declared.words.Label.TheVariants as label
use Rattle.xhstt_shape.specs.declared.words.Tag.{Tag}
use Rattle.xhstt_shape.specs.declared.words.Tag.TheVariants as tag
use Rattle.xhstt_shape.specs.Contents.{without_front, before_rest, without_back, trimmed, trimmed_text, role_text}
use Rattle.xhstt_shape.specs.Contents.{is_digit, value_after, number_between}
use Rattle.xhstt_shape.specs.Faults.{Outcome, IsTold}
use Rattle.xhstt_shape.specs.Shape.{judged, shape}
use Rattle.xhstt_shape.specs.Schema.{once, at_most_once, many, children, constraint_children, content}
use Rattle.xhstt_shape.specs.Values.{kids_of, elements, named, every, every_inside, all, all_inside, role, no_name}
use Rattle.xhstt_shape.specs.Values.{optional_name, optional_reference, optional, reference, the_role, number}
use Rattle.xhstt_shape.specs.Values.{optional_number, lower, upper, optional_duration, duration, workload}
use Rattle.xhstt_shape.specs.Values.{event_resource, event, pair, spread, applies, rule, kinds, kind_among, kind_of}
use Rattle.xhstt_shape.specs.Values.{constraint_of, constraint, instance, given, entry, solution, solution_group}
use Rattle.xhstt_shape.specs.Values.{archive, attribute_name, as_reference}
use Rattle.xhstt_shape.specs.Walk.{attribute, child, fault_of, settled, rule_for}
use Rattle.xhstt_shape.specs.WellFormed.{IsRole, IsNumber, IsDuration, AreBounds, IsEventResource, IsEvent, IsPair}
use Rattle.xhstt_shape.specs.WellFormed.{IsSpread, IsRule, FitsRule, IsConstraint, IsInstance, IsGiven, IsEntry}
use Rattle.xhstt_shape.specs.WellFormed.{IsSolution, IsSolutionGroup, IsInForm}
use Rattle.xhstt_shape.specs.Words.{word, kind_word}
use Rattle.xhstt_shape.proofs.Fine.{IsFine, FineChild, AreFine, FineInside, FineInside-from, fine_role, FineNamed}
use Rattle.xhstt_shape.proofs.Fine.{child_fine, elements_fine, named_fine, named_own, has_found, Leads, named_inside}
use Rattle.xhstt_shape.proofs.Fine.{kids_fine, only_own}
use Rattle.khe_base.proofs.ResultLemmas.{some-mapped}

-- each element of a list that is made of another
all_made : {X Y : Type 0} (P : Y → Type 0) (Q : X → Type 0) (f : X → Y) → ((x : X) → Q x → P (f x)) → (xs : List X)
    → All Q xs → All P (map f xs)
all_made P Q f go xs h = All-map P f xs (All-weaker Q (λ x. P (f x)) go xs h)

each_made : {X Y : Type 0} (P : Y → Type 0) (f : X → Y) → ((x : X) → P (f x)) → (xs : List X) → All P (map f xs)
each_made P f go [] = All-nil P
each_made P f go (x ∷ xs) = All-cons P (f x) (map f xs) (go x) (each_made P f go xs)

-- each element of a list that is made of some of another
with_found : {Y : Type 0} (P : Y → Type 0) (o : Option Y) (ys : List Y) → IfSome o P → All P ys
    → All P (cons_option o ys)
with_found P None ys h k = k
with_found P (Some y) ys h k = All-cons P y ys h k

pub all_found : {X Y : Type 0} (P : Y → Type 0) (Q : X → Type 0) (f : X → Option Y) → ((x : X) → Q x → IfSome (f x) P)
    → (xs : List X) → All Q xs → All P (filter_map f xs)
all_found P Q f go [] h = All-nil P
all_found P Q f go (x ∷ xs) h =
    with_found P (f x) (filter_map f xs) (go x (All-head Q x xs h)) (all_found P Q f go xs (All-tail Q x xs h))

-- numbers

abbrev IsWithin : ℕ → ℕ → ℕ → Type 0
IsWithin least greatest n = (least ≤ n) × (n ≤ greatest)

between : (least greatest : ℕ) (bytes : List ℕ) → IfSome (number_between least greatest bytes) (IsWithin least greatest)
unfolding number_between
between least greatest bytes =
    let v : ℕ = value_after 0 bytes in
    let digits : Bool = list_all is_digit bytes in
    let some : Bool = ltb 0 (length bytes) in
    let short : Bool = leb (length bytes) 10 in
    let P : Option ℕ → Type 0 = λ o. IfSome o (IsWithin least greatest) in
    cond_both ((((digits && some) && short) && leb least v) && leb v greatest) (Some v) None P
    (λ e.
    let high = and_parts (((digits && some) && short) && leb least v) (leb v greatest) e in
    let low = and_parts ((digits && some) && short) (leb least v) high.0 in
    (leb-true least v low.1, leb-true v greatest high.1))
    (λ _. tt)

number_in : (least greatest : ℕ) (t : Tag) (e : Standing)
    → IfSome (optional_number least greatest t e) (IsWithin least greatest)
unfolding optional_number number
number_in least greatest t e =
    let go : (o : Option Standing) → IfSome (option_and_then (number least greatest) o) (IsWithin least greatest) =
    λ o. elim o as (λ x. IfSome (option_and_then (number least greatest) x) (IsWithin least greatest))
    [ None ↦ tt | Some c ↦ between least greatest (trimmed_text c.info.value) ] in
    go (child t e.kids)

-- a value that has one property has another
pub weaker : {X : Type 0} (o : Option X) (P Q : X → Type 0) → ((x : X) → P x → Q x) → IfSome o P → IfSome o Q
weaker None P Q f h = tt
weaker (Some x) P Q f h = f x h

or_else : {X : Type 0} (o : Option X) (d : X) (P : X → Type 0) → IfSome o P → P d → P (unwrap_or o d)
or_else None d P h k = k
or_else (Some x) d P h k = h

lower_in : (t : Tag) (e : Standing) → IsNumber (lower t e)
unfolding lower
lower_in t e = or_else (optional_number 0 NUMBER t e) 0 IsNumber
    (weaker (optional_number 0 NUMBER t e) (IsWithin 0 NUMBER) IsNumber (λ n h. h.1) (number_in 0 NUMBER t e))
    (omega arith)

upper_in : (t : Tag) (e : Standing) → upper t e ≤ GREATEST_BOUND
unfolding upper
upper_in t e = or_else (optional_number 0 GREATEST_BOUND t e) GREATEST_BOUND (λ n. n ≤ GREATEST_BOUND)
    (weaker (optional_number 0 GREATEST_BOUND t e) (IsWithin 0 GREATEST_BOUND) (λ n. n ≤ GREATEST_BOUND) (λ n h. h.1) (number_in 0 GREATEST_BOUND t e))
    (omega arith)

optional_duration_in : (e : Standing) → IfSome (optional_duration e) IsDuration
unfolding optional_duration
optional_duration_in e = number_in 1 NUMBER tag.Duration e

duration_in : (e : Standing) → IsDuration (duration e)
unfolding duration
duration_in e = or_else (optional_duration e) 1 IsDuration (optional_duration_in e) (omega arith, omega arith)

workload_in : (e : Standing) → IfSome (workload e) IsNumber
unfolding workload
workload_in e = weaker (optional_number 0 NUMBER tag.Workload e) (IsWithin 0 NUMBER) IsNumber (λ n h. h.1)
    (number_in 0 NUMBER tag.Workload e)

pair_in : (e : Standing) → IsPair (pair e)
unfolding pair
pair_in e = (lower_in tag.MinSeparation e, upper_in tag.MaxSeparation e)

spread_in : (e : Standing) → IsSpread (spread e)
unfolding spread
spread_in e = (lower_in tag.Minimum e, upper_in tag.Maximum e)

-- roles

front_kept : (b : ℕ) (bs : List ℕ) → is_white b ≡ false → without_front (before_rest b bs) ≡ before_rest b bs
front_kept b [] e = rw (e, e) refl
front_kept b (c ∷ cs) e = rw e refl

without_front-back : (bs : List ℕ) → without_front (without_back (without_front bs)) ≡ without_back (without_front bs)
without_front-back [] = refl
without_front-back (b ∷ bs) =
    let P : List ℕ → Type 0 = λ x. without_front (without_back x) ≡ without_back x in
    cond_both (is_white b) (without_front bs) (b ∷ bs) P (λ _. without_front-back bs)
    (λ e. front_kept b (without_back bs) e)

before_kept : (b : ℕ) (bs : List ℕ) → without_back bs ≡ bs → without_back (before_rest b bs) ≡ before_rest b bs
before_kept b [] h = elim (cases_Bool (is_white b)) [ inl e ↦ rw e refl | inr e ↦ rw (e, e) refl ]
before_kept b (c ∷ cs) h = ap (before_rest b) h

without_back-again : (bs : List ℕ) → without_back (without_back bs) ≡ without_back bs
without_back-again [] = refl
without_back-again (b ∷ bs) = before_kept b (without_back bs) (without_back-again bs)

trimmed-again : (bs : List ℕ) → trimmed (trimmed bs) ≡ trimmed bs
trimmed-again bs = ap without_back (without_front-back bs) ∙ without_back-again (without_front bs)

-- the text of bytes without white at their ends has none
whole_text : (bs : List ℕ) → trimmed bs ≡ bs → trimmed (encode_utf8_all (unwrap_or (text_of bs) []))
    ≡ encode_utf8_all (unwrap_or (text_of bs) [])
whole_text bs h =
    let P : Bool → Type 0 = λ b. trimmed (encode_utf8_all (unwrap_or (if b then Some (characters bs) else None) []))
    ≡ encode_utf8_all (unwrap_or (if b then Some (characters bs) else None) []) in
    elim (cases_Bool (is_utf8 bs)) [
      | inl e ↦
          let back : encode_utf8_all (characters bs) ≡ bs = encodes-chars bs (IsUtf8-from_is_utf8 bs e) in
          let is : trimmed (encode_utf8_all (characters bs)) ≡ encode_utf8_all (characters bs) =
          ap trimmed back ∙ h ∙ sym back in
          subst P (sym e) is
      | inr e ↦ subst P (sym e) refl
    ]

role_whole : (value : List ℕ) → trimmed (encode_utf8_all (role_text value)) ≡ encode_utf8_all (role_text value)
unfolding role_text trimmed_text
role_whole value = whole_text (trimmed_text value) (trimmed-again (encode_utf8_all (unescaped value)))

role_in : (e : Standing) → IsFine (fault_of row.Role e) → IsRole (role e)
unfolding role
role_in e h = record { some = fine_role e h; whole = role_whole e.info.value }

-- the table has a role in a row
record HasRole (r : Row) : Type 0 where
  rule : Child
  found : rule_for (children r) (word tag.Role) ≡ Some rule
  settles : (i : Info) → settled rule.row i ≡ row.Role

role_named : (r : Row) (e : Standing) → HasRole r → FineNamed r tag.Role e → IsRole (role e)
role_named r e has h =
    role_in e (subst (λ (own : Row). IsFine (fault_of own e)) (has.settles e.info)
    (named_own r tag.Role has.rule e has.found h))

optional_role_in : (r : Row) (e : Standing) → HasRole r → AreFine r e.kids → IfSome (optional role tag.Role e) IsRole
optional_role_in r e has h =
    let go : (o : Option Standing) → IfSome o (FineNamed r tag.Role) → IfSome (option_map role o) IsRole =
    λ o. elim o as (λ x. IfSome x (FineNamed r tag.Role) → IfSome (option_map role x) IsRole)
    [ None ↦ λ _. tt | Some c ↦ λ f. role_named r c has f ] in
    go (child tag.Role e.kids) (child_fine r tag.Role e.kids h)

there : {X : Type 0} (o : Option X) (d : X) (P : X → Type 0) → IsSome o → IfSome o P → P (unwrap_or o d)
there None d P some h = cc
there (Some x) d P some h = h

-- the table has a role in a row, and it must stand
record NeedsRole (r : Row) : Type 0 where
  found : rule_for (children r) (word tag.Role) ≡ Some (once tag.Role row.Role)
  has_elements : content r ≡ content_of.Elements

the_role_in : (r : Row) (e : Standing) → NeedsRole r → IsFine (fault_of r e) → IsRole (the_role e)
unfolding the_role settled
the_role_in r e needs h =
    let inside = FineInside-from r e needs.has_elements h in
    let has : HasRole r = record { rule = once tag.Role row.Role; found = needs.found; settles = λ i. refl } in
    let some : IsSome (child tag.Role e.kids) = has_found (children r) (word tag.Role) (once tag.Role row.Role) e.kids
    needs.found inside.has in
    there (optional role tag.Role e) no_name IsRole (some-mapped role (child tag.Role e.kids) some)
    (optional_role_in r e has inside.kids)

-- event resources

role_of_resource : HasRole row.EventResource
unfolding children word settled
role_of_resource = record { rule = at_most_once tag.Role row.Role; found = refl; settles = λ i. refl }

role_of_open : HasRole row.OpenResource
unfolding children word settled
role_of_open = record { rule = once tag.Role row.Role; found = refl; settles = λ i. refl }

elements_of_resource : content row.EventResource ≡ content_of.Elements
unfolding content
elements_of_resource = refl

elements_of_open : content row.OpenResource ≡ content_of.Elements
unfolding content
elements_of_open = refl

open_role : rule_for (children row.OpenResource) (word tag.Role) ≡ Some (once tag.Role row.Role)
unfolding children word
open_role = refl

open_type : rule_for (children row.OpenResource) (word tag.ResourceType) ≡ Some (once tag.ResourceType row.Reference)
unfolding children word
open_type = refl

no_reference : (e : Standing) → optional_reference e ≡ None
    → is_some (attribute label.Reference e.info.attributes) ≡ false
unfolding optional_reference optional_name
no_reference e h =
    let go : (o : Option AttributeInfo) → option_map as_reference (option_map attribute_name o) ≡ None
    → is_some o ≡ false =
    λ o. elim o as (λ x. option_map as_reference (option_map attribute_name x) ≡ None → is_some x ≡ false)
    [ None ↦ λ _. refl | Some a ↦ λ k. cc ] in
    go (attribute label.Reference e.info.attributes) h

referred_resource : (e : Standing) → is_some (attribute label.Reference e.info.attributes) ≡ true
    → IsFine (fault_of row.EventResource e) → IsEventResource (event_resource e)
unfolding event_resource
referred_resource e is h =
    let inside = FineInside-from row.EventResource e elements_of_resource h in
    record {
      role = optional_role_in row.EventResource e role_of_resource inside.kids;
      workload = workload_in e;
      closed = λ none. let not_there = no_reference e none in cc;
    }

open_resource : (e : Standing) → IsFine (fault_of row.OpenResource e) → IsEventResource (event_resource e)
unfolding event_resource
open_resource e h =
    let inside = FineInside-from row.OpenResource e elements_of_open h in
    let named_role : IsSome (child tag.Role e.kids) =
    has_found (children row.OpenResource) (word tag.Role) (once tag.Role row.Role) e.kids open_role inside.has in
    let typed : IsSome (child tag.ResourceType e.kids) =
    has_found (children row.OpenResource) (word tag.ResourceType) (once tag.ResourceType row.Reference) e.kids
    open_type inside.has in
    record {
      role = optional_role_in row.OpenResource e role_of_open inside.kids;
      workload = workload_in e;
      closed = λ _. (
        some-mapped role (child tag.Role e.kids) named_role,
        some-mapped reference
            (child tag.ResourceType e.kids) typed,
      );
    }

resource_in : (e : Standing) → IsFine (fault_of (settled row.EventResource e.info) e)
    → IsEventResource (event_resource e)
unfolding settled
resource_in e h =
    let P : Bool → Type 0 = λ b. IsFine (fault_of (if b then row.EventResource else row.OpenResource) e) in
    elim (cases_Bool (is_some (attribute label.Reference e.info.attributes))) [
      | inl is ↦ referred_resource e is (subst P is h)
      | inr none ↦ open_resource e (subst P none h)
    ]

resources_only : children row.EventResources ≡ many tag.Resource row.EventResource ∷ []
unfolding children
resources_only = refl

-- events

event_resources : Leads row.Event tag.Resources row.EventResources
unfolding children word settled content
event_resources = record {
  rule = at_most_once tag.Resources row.EventResources;
  found = refl;
  settles = λ i. refl;
  has_elements = refl;
}

event_in : (e : Standing) → FineInside row.Event e → IsEvent (event e)
unfolding event every
event_in e h =
    let resources : Forest = kids_of (child tag.Resources e.kids) in
    let fine : AreFine row.EventResources resources =
    kids_fine row.Event tag.Resources row.EventResources e.kids event_resources h.kids in
    record {
      duration = duration_in e;
      workload = workload_in e;
      resources = all_made IsEventResource (FineChild row.EventResources) event_resource
          (λ x f. resource_in x (only_own row.EventResources (many tag.Resource row.EventResource) x resources_only f))
          (elements resources) (elements_fine row.EventResources resources fine);
    }

-- constraints

roles_of_assigned : NeedsRole (row.Constraint kind.AssignResource)
unfolding children constraint_children word content
roles_of_assigned = record { found = refl; has_elements = refl }

roles_of_preferred : NeedsRole (row.Constraint kind.PreferResources)
unfolding children constraint_children word content
roles_of_preferred = record { found = refl; has_elements = refl }

roles_of_split : NeedsRole (row.Constraint kind.AvoidSplitAssignments)
unfolding children constraint_children word content
roles_of_split = record { found = refl; has_elements = refl }

bounds_in : (low high : Tag) (e : Standing) → AreBounds (lower low e) (upper high e)
bounds_in low high e = (lower_in low e, upper_in high e)

rule_in : (k : Kind) (e : Standing) → IsFine (fault_of (row.Constraint k) e) → IsRule (rule k e)
unfolding rule
rule_in kind.AssignTime e h = tt
rule_in kind.AssignResource e h = the_role_in (row.Constraint kind.AssignResource) e roles_of_assigned h
rule_in kind.SplitEvents e h = (
  bounds_in tag.MinimumDuration tag.MaximumDuration e,
  bounds_in tag.MinimumAmount
      tag.MaximumAmount e,
)
rule_in kind.DistributeSplitEvents e h = (duration_in e, bounds_in tag.Minimum tag.Maximum e)
rule_in kind.PreferTimes e h = optional_duration_in e
rule_in kind.PreferResources e h = the_role_in (row.Constraint kind.PreferResources) e roles_of_preferred h
rule_in kind.AvoidSplitAssignments e h = the_role_in (row.Constraint kind.AvoidSplitAssignments) e roles_of_split h
rule_in kind.SpreadEvents e h = each_made IsSpread spread spread_in (every tag.TimeGroups e)
rule_in kind.LinkEvents e h = tt
rule_in kind.OrderEvents e h = tt
rule_in kind.AvoidClashes e h = tt
rule_in kind.AvoidUnavailableTimes e h = tt
rule_in kind.LimitIdleTimes e h = bounds_in tag.Minimum tag.Maximum e
rule_in kind.ClusterBusyTimes e h = bounds_in tag.Minimum tag.Maximum e
rule_in kind.LimitBusyTimes e h = bounds_in tag.Minimum tag.Maximum e
rule_in kind.LimitWorkload e h = bounds_in tag.Minimum tag.Maximum e

applies_in : (k : Kind) (e : Standing) → FitsRule (rule k e) (applies k e)
unfolding rule applies
applies_in kind.AssignTime e = tt
applies_in kind.AssignResource e = tt
applies_in kind.SplitEvents e = tt
applies_in kind.DistributeSplitEvents e = tt
applies_in kind.PreferTimes e = tt
applies_in kind.PreferResources e = tt
applies_in kind.AvoidSplitAssignments e = tt
applies_in kind.SpreadEvents e = tt
applies_in kind.LinkEvents e = tt
applies_in kind.OrderEvents e = each_made IsPair pair pair_in (every_inside tag.AppliesTo tag.EventPairs e)
applies_in kind.AvoidClashes e = tt
applies_in kind.AvoidUnavailableTimes e = tt
applies_in kind.LimitIdleTimes e = tt
applies_in kind.ClusterBusyTimes e = tt
applies_in kind.LimitBusyTimes e = tt
applies_in kind.LimitWorkload e = tt

constraint_in : (k : Kind) (e : Standing) → IsFine (fault_of (row.Constraint k) e) → IsConstraint (constraint_of k e)
unfolding constraint_of
constraint_in k e h = record { weight = lower_in tag.Weight e; rule = rule_in k e h; applies = applies_in k e }

-- the child of the table for constraints of a kind
abbrev pub kind_rule : Kind → Child
kind_rule k = many (tag.Constraint k) (row.Constraint k)

pub rules_of_kinds : children row.Constraints ≡ map kind_rule kinds
unfolding children
rules_of_kinds = refl

pub rule_for-kinds : (ks : List Kind) (name : List ℕ)
    → rule_for (map kind_rule ks) name ≡ option_map kind_rule (kind_among ks name)
unfolding word
rule_for-kinds [] name = refl
rule_for-kinds (k ∷ ks) name =
    elim (cases_Bool (bytes_eq (kind_word k) name)) [
      | inl e ↦ rw e refl
      | inr e ↦ rw e (rule_for-kinds ks name)
    ]

made_of_kind : (o : Option Kind) (c : Child) (e : Standing) → option_map kind_rule o ≡ Some c
    → IsFine (fault_of (settled c.row e.info) e) → IfSome (option_map (λ k. constraint_of k e) o) IsConstraint
unfolding settled
made_of_kind None c e is h = tt
made_of_kind (Some k) c e is h =
    let same : c ≡ kind_rule k = cc in
    let P : Child → Type 0 = λ x. IsFine (fault_of (settled x.row e.info) e) in
    constraint_in k e (subst P same h)

constraint_child_in : (e : Standing) → FineChild row.Constraints e → IfSome (constraint e) IsConstraint
unfolding constraint
constraint_child_in e h =
    let found : option_map kind_rule (kind_of e.info.name) ≡ Some h.rule =
    sym (rule_for-kinds kinds e.info.name) ∙ sym (ap (λ rules. rule_for rules e.info.name) rules_of_kinds) ∙ h.found in
    made_of_kind (kind_of e.info.name) h.rule e found h.own

-- instances

instance_events : Leads row.Instance tag.Events row.Events
unfolding children word settled content
instance_events = record {
  rule = at_most_once tag.Events row.Events;
  found = refl;
  settles = λ i. refl;
  has_elements =
      refl;
}

events_event : Leads row.Events tag.Event row.Event
unfolding children word settled content
events_event = record { rule = many tag.Event row.Event; found = refl; settles = λ i. refl; has_elements = refl }

instance_constraints : Leads row.Instance tag.Constraints row.Constraints
unfolding children word settled content
instance_constraints = record {
  rule = at_most_once tag.Constraints row.Constraints;
  found = refl;
  settles = λ i. refl;
  has_elements = refl;
}

instance_in : (e : Standing) → FineInside row.Instance e → IsInstance (instance e)
unfolding instance every all_inside
instance_in e h =
    let events : Forest = kids_of (child tag.Events e.kids) in
    let constraints : Forest = kids_of (child tag.Constraints e.kids) in
    let fine_events : AreFine row.Events events =
    kids_fine row.Instance tag.Events row.Events e.kids instance_events h.kids in
    let fine_constraints : AreFine row.Constraints constraints =
    kids_fine row.Instance tag.Constraints row.Constraints e.kids instance_constraints h.kids in
    record {
      events = all_made IsEvent (FineNamed row.Events tag.Event) event
          (λ x f. event_in x (named_inside row.Events tag.Event row.Event x events_event f))
          (named tag.Event events) (named_fine row.Events tag.Event events fine_events);
      constraints = all_found IsConstraint (FineChild row.Constraints) constraint constraint_child_in
          (elements constraints) (elements_fine row.Constraints constraints fine_constraints);
    }

-- solutions

role_of_given : HasRole row.Given
unfolding children word settled
role_of_given = record { rule = at_most_once tag.Role row.Role; found = refl; settles = λ i. refl }

entry_resources : Leads row.Entry tag.Resources row.GivenResources
unfolding children word settled content
entry_resources = record {
  rule = at_most_once tag.Resources row.GivenResources;
  found = refl;
  settles = λ i. refl;
  has_elements = refl;
}

solution_events : Leads row.Solution tag.Events row.Entries
unfolding children word settled content
solution_events = record {
  rule = at_most_once tag.Events row.Entries;
  found = refl;
  settles = λ i. refl;
  has_elements =
      refl;
}

group_solution : Leads row.SolutionGroup tag.Solution row.Solution
unfolding children word settled content
group_solution = record {
  rule = many tag.Solution row.Solution;
  found = refl;
  settles = λ i. refl;
  has_elements =
      refl;
}

-- a row whose elements are all of another row
record LeadsOnly (r to : Row) : Type 0 where
  rule : Child
  only : children r ≡ rule ∷ []
  settles : (i : Info) → settled rule.row i ≡ to
  has_elements : content to ≡ content_of.Elements

only_inside : (r to : Row) (e : Standing) → LeadsOnly r to → FineChild r e → FineInside to e
only_inside r to e leads h =
    FineInside-from to e leads.has_elements (subst (λ (own : Row). IsFine (fault_of own e)) (leads.settles e.info)
    (only_own r leads.rule e leads.only h))

given_only : LeadsOnly row.GivenResources row.Given
unfolding children settled content
given_only = record { rule = many tag.Resource row.Given; only = refl; settles = λ i. refl; has_elements = refl }

entries_only : LeadsOnly row.Entries row.Entry
unfolding children settled content
entries_only = record { rule = many tag.Event row.Entry; only = refl; settles = λ i. refl; has_elements = refl }

given_in : (e : Standing) → FineInside row.Given e → IsGiven (given e)
unfolding given
given_in e h = optional_role_in row.Given e role_of_given h.kids

entry_in : (e : Standing) → FineInside row.Entry e → IsEntry (entry e)
unfolding entry every
entry_in e h =
    let resources : Forest = kids_of (child tag.Resources e.kids) in
    let fine : AreFine row.GivenResources resources =
    kids_fine row.Entry tag.Resources row.GivenResources e.kids entry_resources h.kids in
    record {
      duration = optional_duration_in e;
      resources = all_made IsGiven (FineChild row.GivenResources) given
          (λ x f. given_in x (only_inside row.GivenResources row.Given x given_only f))
          (elements resources) (elements_fine row.GivenResources resources fine);
    }

solution_in : (e : Standing) → FineInside row.Solution e → IsSolution (solution e)
unfolding solution every
solution_in e h =
    let events : Forest = kids_of (child tag.Events e.kids) in
    let fine : AreFine row.Entries events = kids_fine row.Solution tag.Events row.Entries e.kids solution_events
    h.kids in
    all_made IsEntry (FineChild row.Entries) entry
    (λ x f. entry_in x (only_inside row.Entries row.Entry x entries_only f))
    (elements events) (elements_fine row.Entries events fine)

solution_group_in : (e : Standing) → FineInside row.SolutionGroup e → IsSolutionGroup (solution_group e)
unfolding solution_group all
solution_group_in e h =
    all_made IsSolution (FineNamed row.SolutionGroup tag.Solution) solution
    (λ x f. solution_in x (named_inside row.SolutionGroup tag.Solution row.Solution x group_solution f))
    (named tag.Solution e.kids) (named_fine row.SolutionGroup tag.Solution e.kids h.kids)

-- archives

archive_instances : Leads row.Archive tag.Instances row.Instances
unfolding children word settled content
archive_instances = record {
  rule = at_most_once tag.Instances row.Instances;
  found = refl;
  settles = λ i. refl;
  has_elements = refl;
}

archive_groups : Leads row.Archive tag.SolutionGroups row.SolutionGroups
unfolding children word settled content
archive_groups = record {
  rule = at_most_once tag.SolutionGroups row.SolutionGroups;
  found = refl;
  settles = λ i. refl;
  has_elements = refl;
}

instances_only : LeadsOnly row.Instances row.Instance
unfolding children settled content
instances_only = record { rule = many tag.Instance row.Instance; only = refl; settles = λ i. refl; has_elements = refl }

groups_only : LeadsOnly row.SolutionGroups row.SolutionGroup
unfolding children settled content
groups_only = record {
  rule = many tag.SolutionGroup row.SolutionGroup;
  only = refl;
  settles = λ i. refl;
  has_elements =
      refl;
}

elements_of_archive : content row.Archive ≡ content_of.Elements
unfolding content
elements_of_archive = refl

archive_in : (e : Standing) → IsFine (fault_of row.Archive e) → IsInForm (archive e)
unfolding archive every
archive_in e h =
    let inside = FineInside-from row.Archive e elements_of_archive h in
    let instances : Forest = kids_of (child tag.Instances e.kids) in
    let groups : Forest = kids_of (child tag.SolutionGroups e.kids) in
    let fine_instances : AreFine row.Instances instances =
    kids_fine row.Archive tag.Instances row.Instances e.kids archive_instances inside.kids in
    let fine_groups : AreFine row.SolutionGroups groups =
    kids_fine row.Archive tag.SolutionGroups row.SolutionGroups e.kids archive_groups inside.kids in
    record {
      instances = all_made IsInstance (FineChild row.Instances) instance
          (λ x f. instance_in x (only_inside row.Instances row.Instance x instances_only f))
          (elements instances) (elements_fine row.Instances instances fine_instances);
      solution_groups = all_made IsSolutionGroup (FineChild row.SolutionGroups) solution_group
          (λ x f. solution_group_in x (only_inside row.SolutionGroups row.SolutionGroup x groups_only f))
          (elements groups) (elements_fine row.SolutionGroups groups fine_groups);
    }

-- what was told is the archive of an outermost element without a fault
judged_fine : (o : Outcome) (e : Standing) (a : Archive) → judged o e ≡ Ok a → IsFine o × (archive e ≡ a)
judged_fine (Ok u) e a h = (tt, cc)
judged_fine (Err f) e a h = cc

pub record Told (e : Standing) (a : Archive) : Type 0 where
  pub fine : IsFine (fault_of row.Archive e)
  pub same : archive e ≡ a

pub shape-told : (e : Standing) (a : Archive) → shape e ≡ Ok a → Told e a
shape-told e a h =
    let whole : Result Archive ShapeFault = judged (fault_of row.Archive e) e in
    let other : Result Archive ShapeFault = Err (Bad UNKNOWN_ELEMENT e.info.at) in
    let test : Bool = bytes_eq (word tag.HighSchoolTimetableArchive) e.info.name in
    elim (cases_Bool test) [
      | inl is ↦
          let told : whole ≡ Ok a = sym (ap (λ b. if b then whole else other) is) ∙ h in
          let both = judged_fine (fault_of row.Archive e) e a told in
          record { fine = both.0; same = both.1 }
      | inr none ↦ let told : other ≡ Ok a = sym (ap (λ b. if b then whole else other) none) ∙ h in cc
    ]

pub told-in_form : (r : Result Archive ShapeFault) (e : Standing) → IsTold r (shape e) → IfOk r IsInForm
told-in_form (Ok a) e told = let is = shape-told e a told in subst IsInForm is.same (archive_in e is.fine)
told-in_form (Err fault) e told = tt
