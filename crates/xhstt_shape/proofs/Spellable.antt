-- The texts of an archive have only characters that a text of the grammar may have, where the spans
-- of its tree stand for such texts.
use Rattle.std.proofs.Common.{◌≡◌, ℕ, true, false, ◌&&◌, ◌||◌, eqb, leb, if◌then◌else◌, Option, Some, None, Ok, List}
use Rattle.std.proofs.Common.{[], ◌∷◌, map, All, IfSome, refl, inl, inr, sym, ap, subst, ◌∙◌, arith, encode_utf8_all}
use Rattle.std.specs.Prelude.{unwrap_or}
use Rattle.std.specs.Option.{option_map}
use Rattle.std.specs.Str.{bytes_eq}
use Rattle.std.proofs.lemmas.Bool.{and_parts, and_from, cases_Bool, cond_both}
use Rattle.std.proofs.lemmas.Bool.Decides.{nat_tests}
use Rattle.std.proofs.lemmas.List.Elements.{All-nil, All-cons, All-map, All-weaker}
use Rattle.xhstt_text.specs.Bytes.{is_white}
use Rattle.xhstt_text.specs.Document.{Spelled}
use Rattle.xhstt_text.specs.Forest.{AttributeInfo, Info, Forest, empty, node}
use Rattle.xhstt_text.specs.Handles.{Standing}
use Rattle.xhstt_text.specs.Unescape.{unescaped}
use Rattle.xhstt_text.specs.Units.{is_last}
use Rattle.xhstt_text.proofs.CleanForest.{AreClean, IsCleanForest, IsCleanForest-spelled}
use Rattle.xhstt_text.proofs.MeaningTexts.{Spot, before_character, after_first, after_second, passes, other_passes}
use Rattle.xhstt_text.proofs.MeaningTexts.{characters_pass, IsClean}
use Rattle.xhstt_shape.specs.declared.records.Archive.{Archive}
use Rattle.khe_instance.specs.declared.rules.Kind.{Kind}
use Rattle.khe_instance.specs.declared.rules.Kind.TheVariants as kind
use Rattle.xhstt_shape.specs.declared.words.Label.{Label}
use Rattle.xhstt_shape.specs.declared.words.Label.TheVariants as label
use Rattle.xhstt_shape.specs.declared.words.Tag.{Tag}
use Rattle.xhstt_shape.specs.declared.words.Tag.TheVariants as tag
use Rattle.xhstt_shape.specs.Characters.{IsSpellable, IsSpellableName, IsSpellableRef, AreSpellableRefs}
use Rattle.xhstt_shape.specs.Characters.{IsSpellableMetaData, IsSpellableTimeGroup, IsSpellableTime}
use Rattle.xhstt_shape.specs.Characters.{IsSpellableResourceType, IsSpellableResourceGroup, IsSpellableResource}
use Rattle.xhstt_shape.specs.Characters.{IsSpellableEventGroup, IsSpellableEventResource, IsSpellableEvent}
use Rattle.xhstt_shape.specs.Characters.{IsSpellablePair, IsSpellableSpread, IsSpellableApplies, IsSpellableRule}
use Rattle.xhstt_shape.specs.Characters.{IsSpellableConstraint, IsSpellableInstance, IsSpellableGiven, IsSpellableEntry}
use Rattle.xhstt_shape.specs.Characters.{IsSpellableSolution, IsSpellableSolutionGroup, IsSpellableArchive}
use Rattle.xhstt_shape.specs.Contents.{without_front, before_rest, without_back, trimmed_text, role_text}
use Rattle.xhstt_shape.specs.Shape.{shape}
use Rattle.xhstt_shape.specs.Values as value
use Rattle.xhstt_shape.specs.Values.{elements, named, kids_of}
use Rattle.xhstt_shape.specs.Walk.{attribute, child}
use Rattle.xhstt_shape.specs.Words.{word, label_word}
use Rattle.xhstt_shape.proofs.InForm.{all_found, shape-told}

-- white may be cut off at the ends

white_isnt_wide : (b : ℕ) → is_white b ≡ true → eqb b 239 ≡ false
white_isnt_wide b h = grind (arith, nat_tests)

high_isnt_white : (b : ℕ) → leb 128 b ≡ true → is_white b ≡ false
high_isnt_white b h = grind (arith, nat_tests)

wide_isnt_white : (b : ℕ) → eqb b 239 ≡ true → is_white b ≡ false
wide_isnt_white b h = grind (arith, nat_tests)

without_front-passes : (bs : List ℕ) → passes before_character bs ≡ true
    → passes before_character (without_front bs) ≡ true
without_front-passes [] h = h
without_front-passes (b ∷ bs) h =
    let P : List ℕ → Type 0 = λ x. passes before_character x ≡ true in
    cond_both (is_white b) (without_front bs) (b ∷ bs) P
    (λ e. without_front-passes bs (sym (other_passes b bs (white_isnt_wide b e) (ap (λ v. v || leb 32 b) e)) ∙ h))
    (λ _. h)

before_kept : (b : ℕ) (bs : List ℕ) → is_white b ≡ false → before_rest b bs ≡ b ∷ bs
before_kept b [] e = rw e refl
before_kept b (c ∷ cs) e = refl

before_passes : (b : ℕ) (bs : List ℕ) → eqb b 239 ≡ false → (is_white b || leb 32 b) ≡ true
    → passes before_character bs ≡ true → passes before_character (before_rest b bs) ≡ true
before_passes b [] e t h =
    let P : List ℕ → Type 0 = λ x. passes before_character x ≡ true in
    cond_both (is_white b) [] (b ∷ []) P (λ _. refl) (λ _. other_passes b [] e t)
before_passes b (c ∷ cs) e t h = other_passes b (c ∷ cs) e t ∙ h

without_back-passes : (s : Spot) (bs : List ℕ) → passes s bs ≡ true → passes s (without_back bs) ≡ true
without_back-passes s [] h = h
without_back-passes before_character (b ∷ bs) h =
    elim (cases_Bool (eqb b 239)) [
      | inl e ↦
          let inside : passes after_first bs ≡ true = sym
          (ap (λ v. if v then passes after_first bs else ((is_white b || leb 32 b) && passes before_character bs))
          e) ∙ h in
          ap (passes before_character) (before_kept b (without_back bs) (wide_isnt_white b e))
          ∙ ap (λ v. if v then passes after_first (without_back bs) else
          ((is_white b || leb 32 b) && passes before_character (without_back bs))) e
          ∙ without_back-passes after_first bs inside
      | inr e ↦
          let both : ((is_white b || leb 32 b) && passes before_character bs) ≡ true =
          sym (ap (λ v. if v then passes after_first bs else
          ((is_white b || leb 32 b) && passes before_character bs)) e) ∙ h in
          let parts = and_parts (is_white b || leb 32 b) (passes before_character bs) both in
          before_passes b (without_back bs) e parts.0 (without_back-passes before_character bs parts.1)
    ]
without_back-passes after_first (b ∷ bs) h =
    let parts = and_parts (leb 128 b) (passes (after_second (eqb b 191)) bs) h in
    ap (passes after_first) (before_kept b (without_back bs) (high_isnt_white b parts.0))
    ∙ and_from (leb 128 b) (passes (after_second (eqb b 191)) (without_back bs)) parts.0
    (without_back-passes (after_second (eqb b 191)) bs parts.1)
without_back-passes (after_second greatest) (b ∷ bs) h =
    let parts = and_parts (is_last greatest b) (passes before_character bs) h in
    let high = (and_parts (leb 128 b) _ parts.0).0 in
    ap (passes (after_second greatest)) (before_kept b (without_back bs) (high_isnt_white b high))
    ∙ and_from (is_last greatest b) (passes before_character (without_back bs)) parts.0
    (without_back-passes before_character bs parts.1)

role_text-spellable : (bytes : List ℕ) → IsClean bytes → IsSpellable (role_text bytes)
unfolding role_text trimmed_text
role_text-spellable bytes h =
    characters_pass (trimmed_text bytes) (without_back-passes before_character
    (without_front (encode_utf8_all (unescaped bytes)))
    (without_front-passes (encode_utf8_all (unescaped bytes)) h.passed))

-- an element whose spans are clean
record IsCleanElement (e : Standing) : Type 0 where
  own : IsClean e.info.value
  attributes : AreClean e.info.attributes
  kids : IsCleanForest e.kids

clean_first : (i : Info) (kids others : Forest) → IsCleanForest (node i kids others)
    → IsCleanElement (record { info = i; kids = kids })
clean_first i kids others h = record { own = h.0; attributes = h.1; kids = h.2 }

child_clean : (t : Tag) (f : Forest) → IsCleanForest f → IfSome (child t f) IsCleanElement
child_clean t empty h = tt
child_clean t (node i kids others) h =
    let P : Option Standing → Type 0 = λ o. IfSome o IsCleanElement in
    cond_both (bytes_eq (word t) i.name) (Some (record { info = i; kids = kids })) (child t others) P
    (λ _. clean_first i kids others h) (λ _. child_clean t others h.3)

elements_clean : (f : Forest) → IsCleanForest f → All IsCleanElement (elements f)
elements_clean empty h = All-nil IsCleanElement
elements_clean (node i kids others) h =
    All-cons IsCleanElement (record { info = i; kids = kids }) (elements others) (clean_first i kids others h)
    (elements_clean others h.3)

named_clean : (t : Tag) (f : Forest) → IsCleanForest f → All IsCleanElement (named t f)
named_clean t empty h = All-nil IsCleanElement
named_clean t (node i kids others) h =
    let e : Standing = record { info = i; kids = kids } in
    let later : All IsCleanElement (named t others) = named_clean t others h.3 in
    let P : List Standing → Type 0 = λ es. All IsCleanElement es in
    cond_both (bytes_eq (word t) i.name) (e ∷ named t others) (named t others) P
    (λ _. All-cons IsCleanElement e (named t others) (clean_first i kids others h) later) (λ _. later)

kids_in : (o : Option Standing) → IfSome o IsCleanElement → IsCleanForest (kids_of o)
kids_in None h = tt
kids_in (Some e) h = h.kids

kids_clean : (t : Tag) (f : Forest) → IsCleanForest f → IsCleanForest (kids_of (child t f))
kids_clean t f h = kids_in (child t f) (child_clean t f h)

attribute_clean : (l : Label) (given : List AttributeInfo) → AreClean given
    → IfSome (attribute l given) (λ a. IsClean a.value)
attribute_clean l [] h = tt
attribute_clean l (a ∷ more) h =
    let P : Option AttributeInfo → Type 0 = λ o. IfSome o (λ x. IsClean x.value) in
    cond_both (bytes_eq (label_word l) a.name) (Some a) (attribute l more) P (λ _. h.0)
    (λ _. attribute_clean l more h.1)

-- what is made of a value that may be missing
made : {X Y : Type 0} (f : X → Y) (P : X → Type 0) (Q : Y → Type 0) → ((x : X) → P x → Q (f x)) → (o : Option X)
    → IfSome o P → IfSome (option_map f o) Q
made f P Q go None h = tt
made f P Q go (Some x) h = go x h

or_else : {X : Type 0} (P : X → Type 0) (o : Option X) (d : X) → IfSome o P → P d → P (unwrap_or o d)
or_else P None d h k = k
or_else P (Some x) d h k = h

-- what is made of each of some clean elements
each : {Y : Type 0} (Q : Y → Type 0) (f : Standing → Y) → ((e : Standing) → IsCleanElement e → Q (f e))
    → (es : List Standing) → All IsCleanElement es → All Q (map f es)
each Q f go es h = All-map Q f es (All-weaker IsCleanElement (λ e. Q (f e)) go es h)

optional-spellable : {Y : Type 0} (Q : Y → Type 0) (f : Standing → Y) → ((e : Standing) → IsCleanElement e → Q (f e))
    → (t : Tag) (e : Standing) → IsCleanElement e → IfSome (value.optional f t e) Q
optional-spellable Q f go t e h = made f IsCleanElement Q go (child t e.kids) (child_clean t e.kids h.kids)

every_clean : (t : Tag) (e : Standing) → IsCleanElement e → All IsCleanElement (value.every t e)
unfolding value.every
every_clean t e h = elements_clean (kids_of (child t e.kids)) (kids_clean t e.kids h.kids)

every_inside_clean : (outer inner : Tag) (e : Standing) → IsCleanElement e
    → All IsCleanElement (value.every_inside outer inner e)
unfolding value.every_inside
every_inside_clean outer inner e h =
    let within : Forest = kids_of (child outer e.kids) in
    elements_clean (kids_of (child inner within)) (kids_clean inner within (kids_clean outer e.kids h.kids))

all_clean : (t : Tag) (e : Standing) → IsCleanElement e → All IsCleanElement (value.all t e)
unfolding value.all
all_clean t e h = named_clean t e.kids h.kids

all_inside_clean : (outer t : Tag) (e : Standing) → IsCleanElement e → All IsCleanElement (value.all_inside outer t e)
unfolding value.all_inside
all_inside_clean outer t e h = named_clean t (kids_of (child outer e.kids)) (kids_clean outer e.kids h.kids)

-- texts, names and references

text-spellable : (e : Standing) → IsCleanElement e → IsSpellable (value.text e)
unfolding value.text
text-spellable e h = h.own.characters

role-spellable : (e : Standing) → IsCleanElement e → IsSpellableName (value.role e)
unfolding value.role
role-spellable e h = role_text-spellable e.info.value h.own

optional_name-spellable : (l : Label) (e : Standing) → IsCleanElement e
    → IfSome (value.optional_name l e) IsSpellableName
unfolding value.optional_name
optional_name-spellable l e h =
    made value.attribute_name (λ a. IsClean a.value) IsSpellableName (λ a c. c.characters)
    (attribute l e.info.attributes) (attribute_clean l e.info.attributes h.attributes)

id-spellable : (e : Standing) → IsCleanElement e → IsSpellableName (value.id e)
unfolding value.id
id-spellable e h = or_else IsSpellableName (value.optional_name label.Id e) value.no_name
    (optional_name-spellable label.Id e h) tt

optional_reference-spellable : (e : Standing) → IsCleanElement e → IfSome (value.optional_reference e) IsSpellableRef
unfolding value.optional_reference
optional_reference-spellable e h =
    made value.as_reference IsSpellableName IsSpellableRef (λ n c. c) (value.optional_name label.Reference e)
    (optional_name-spellable label.Reference e h)

reference-spellable : (e : Standing) → IsCleanElement e → IsSpellableRef (value.reference e)
unfolding value.reference
reference-spellable e h =
    or_else IsSpellableRef (value.optional_reference e) (value.as_reference value.no_name)
    (optional_reference-spellable e h) tt

attribute_text-spellable : (l : Label) (e : Standing) → IsCleanElement e → IfSome (value.attribute_text l e) IsSpellable
unfolding value.attribute_text
attribute_text-spellable l e h = made (λ n. n.text) IsSpellableName IsSpellable (λ n c. c) (value.optional_name l e)
    (optional_name-spellable l e h)

optional_text : (t : Tag) (e : Standing) → IsCleanElement e → IfSome (value.optional value.text t e) IsSpellable
optional_text t e h = optional-spellable IsSpellable value.text text-spellable t e h

referred : (t : Tag) (e : Standing) → IsCleanElement e → IfSome (value.optional value.reference t e) IsSpellableRef
referred t e h = optional-spellable IsSpellableRef value.reference reference-spellable t e h

optional_role : (e : Standing) → IsCleanElement e → IfSome (value.optional value.role tag.Role e) IsSpellableName
optional_role e h = optional-spellable IsSpellableName value.role role-spellable tag.Role e h

name-spellable : (e : Standing) → IsCleanElement e → IsSpellable (value.name e)
unfolding value.name
name-spellable e h = or_else IsSpellable (value.optional value.text tag.Name e) [] (optional_text tag.Name e h) tt

the_reference-spellable : (t : Tag) (e : Standing) → IsCleanElement e → IsSpellableRef (value.the_reference t e)
unfolding value.the_reference
the_reference-spellable t e h = or_else IsSpellableRef (value.optional value.reference t e)
    (value.as_reference value.no_name) (referred t e h) tt

the_role-spellable : (e : Standing) → IsCleanElement e → IsSpellableName (value.the_role e)
unfolding value.the_role
the_role-spellable e h = or_else IsSpellableName (value.optional value.role tag.Role e) value.no_name
    (optional_role e h) tt

references-spellable : (t : Tag) (e : Standing) → IsCleanElement e → AreSpellableRefs (value.references t e)
references-spellable t e h = each IsSpellableRef value.reference reference-spellable (value.every t e)
    (every_clean t e h)

applied-spellable : (t : Tag) (e : Standing) → IsCleanElement e → AreSpellableRefs (value.applied_references t e)
applied-spellable t e h =
    each IsSpellableRef value.reference reference-spellable (value.every_inside tag.AppliesTo t e)
    (every_inside_clean tag.AppliesTo t e h)

-- each record

meta_data-spellable : (e : Standing) → IsCleanElement e → IsSpellableMetaData (value.meta_data e)
unfolding value.meta_data
meta_data-spellable e h = record {
  name = name-spellable e h;
  contributor = optional_text tag.Contributor e h;
  date = optional_text tag.Date e h;
  country = optional_text tag.Country e h;
  description = optional_text tag.Description e h;
  publication = optional_text tag.Publication e h;
  remarks = optional_text tag.Remarks e h;
}

optional_meta_data : (e : Standing) → IsCleanElement e
    → IfSome (value.optional value.meta_data tag.MetaData e) IsSpellableMetaData
optional_meta_data e h = optional-spellable IsSpellableMetaData value.meta_data meta_data-spellable tag.MetaData e h

time_group-spellable : (e : Standing) → IsCleanElement e → IsSpellableTimeGroup (value.time_group e)
unfolding value.time_group
time_group-spellable e h = (id-spellable e h, name-spellable e h)

time-spellable : (e : Standing) → IsCleanElement e → IsSpellableTime (value.time e)
unfolding value.time
time-spellable e h = record {
  id = id-spellable e h;
  name = name-spellable e h;
  week = referred tag.Week e h;
  day = referred tag.Day e h;
  time_groups = references-spellable tag.TimeGroups e h;
}

resource_type-spellable : (e : Standing) → IsCleanElement e → IsSpellableResourceType (value.resource_type e)
unfolding value.resource_type
resource_type-spellable e h = (id-spellable e h, name-spellable e h)

resource_group-spellable : (e : Standing) → IsCleanElement e → IsSpellableResourceGroup (value.resource_group e)
unfolding value.resource_group
resource_group-spellable e h = (id-spellable e h, name-spellable e h, the_reference-spellable tag.ResourceType e h)

resource-spellable : (e : Standing) → IsCleanElement e → IsSpellableResource (value.resource e)
unfolding value.resource
resource-spellable e h = record {
  id = id-spellable e h;
  name = name-spellable e h;
  resource_type = the_reference-spellable tag.ResourceType e h;
  resource_groups = references-spellable tag.ResourceGroups e h;
}

event_group-spellable : (e : Standing) → IsCleanElement e → IsSpellableEventGroup (value.event_group e)
unfolding value.event_group
event_group-spellable e h = (id-spellable e h, name-spellable e h)

event_resource-spellable : (e : Standing) → IsCleanElement e → IsSpellableEventResource (value.event_resource e)
unfolding value.event_resource
event_resource-spellable e h = record {
  reference = optional_reference-spellable e h;
  role = optional_role e h;
  resource_type = referred tag.ResourceType e h;
}

event-spellable : (e : Standing) → IsCleanElement e → IsSpellableEvent (value.event e)
unfolding value.event
event-spellable e h = record {
  id = id-spellable e h;
  color = attribute_text-spellable label.Color e h;
  name = name-spellable e h;
  course = referred tag.Course e h;
  time = referred tag.Time e h;
  resources = each IsSpellableEventResource value.event_resource event_resource-spellable (value.every tag.Resources e)
      (every_clean tag.Resources e h);
  resource_groups = references-spellable tag.ResourceGroups e h;
  event_groups = references-spellable tag.EventGroups e h;
}

pair-spellable : (e : Standing) → IsCleanElement e → IsSpellablePair (value.pair e)
unfolding value.pair
pair-spellable e h = (the_reference-spellable tag.FirstEvent e h, the_reference-spellable tag.SecondEvent e h)

spread-spellable : (e : Standing) → IsCleanElement e → IsSpellableSpread (value.spread e)
unfolding value.spread
spread-spellable e h = reference-spellable e h

events_applied : (e : Standing) → IsCleanElement e → IsSpellableApplies (value.events_applied e)
events_applied e h = (applied-spellable tag.EventGroups e h, applied-spellable tag.Events e h)

resources_applied : (e : Standing) → IsCleanElement e → IsSpellableApplies (value.resources_applied e)
resources_applied e h = (applied-spellable tag.ResourceGroups e h, applied-spellable tag.Resources e h)

applies-spellable : (k : Kind) (e : Standing) → IsCleanElement e → IsSpellableApplies (value.applies k e)
unfolding value.applies
applies-spellable kind.AssignTime e h = events_applied e h
applies-spellable kind.AssignResource e h = events_applied e h
applies-spellable kind.SplitEvents e h = events_applied e h
applies-spellable kind.DistributeSplitEvents e h = events_applied e h
applies-spellable kind.PreferTimes e h = events_applied e h
applies-spellable kind.PreferResources e h = events_applied e h
applies-spellable kind.AvoidSplitAssignments e h = applied-spellable tag.EventGroups e h
applies-spellable kind.SpreadEvents e h = applied-spellable tag.EventGroups e h
applies-spellable kind.LinkEvents e h = applied-spellable tag.EventGroups e h
applies-spellable kind.OrderEvents e h =
    each IsSpellablePair value.pair pair-spellable (value.every_inside tag.AppliesTo tag.EventPairs e)
    (every_inside_clean tag.AppliesTo tag.EventPairs e h)
applies-spellable kind.AvoidClashes e h = resources_applied e h
applies-spellable kind.AvoidUnavailableTimes e h = resources_applied e h
applies-spellable kind.LimitIdleTimes e h = resources_applied e h
applies-spellable kind.ClusterBusyTimes e h = resources_applied e h
applies-spellable kind.LimitBusyTimes e h = resources_applied e h
applies-spellable kind.LimitWorkload e h = resources_applied e h

rule-spellable : (k : Kind) (e : Standing) → IsCleanElement e → IsSpellableRule (value.rule k e)
unfolding value.rule
rule-spellable kind.AssignTime e h = tt
rule-spellable kind.AssignResource e h = the_role-spellable e h
rule-spellable kind.SplitEvents e h = tt
rule-spellable kind.DistributeSplitEvents e h = tt
rule-spellable kind.PreferTimes e h = (references-spellable tag.TimeGroups e h, references-spellable tag.Times e h)
rule-spellable kind.PreferResources e h = (
  references-spellable tag.ResourceGroups e h,
  references-spellable
      tag.Resources e h,
  the_role-spellable e h,
)
rule-spellable kind.AvoidSplitAssignments e h = the_role-spellable e h
rule-spellable kind.SpreadEvents e h = each IsSpellableSpread value.spread spread-spellable
    (value.every tag.TimeGroups e) (every_clean tag.TimeGroups e h)
rule-spellable kind.LinkEvents e h = tt
rule-spellable kind.OrderEvents e h = tt
rule-spellable kind.AvoidClashes e h = tt
rule-spellable kind.AvoidUnavailableTimes e h =
    (references-spellable tag.TimeGroups e h, references-spellable tag.Times e h)
rule-spellable kind.LimitIdleTimes e h = references-spellable tag.TimeGroups e h
rule-spellable kind.ClusterBusyTimes e h = references-spellable tag.TimeGroups e h
rule-spellable kind.LimitBusyTimes e h = references-spellable tag.TimeGroups e h
rule-spellable kind.LimitWorkload e h = tt

constraint_of-spellable : (k : Kind) (e : Standing) → IsCleanElement e → IsSpellableConstraint (value.constraint_of k e)
unfolding value.constraint_of
constraint_of-spellable k e h = record {
  id = id-spellable e h;
  name = name-spellable e h;
  applies = applies-spellable k e h;
  rule = rule-spellable k e h;
}

constraint-spellable : (e : Standing) → IsCleanElement e → IfSome (value.constraint e) IsSpellableConstraint
unfolding value.constraint
constraint-spellable e h =
    let go : (o : Option Kind) → IfSome (option_map (λ k. value.constraint_of k e) o) IsSpellableConstraint =
    λ o. elim o as (λ x. IfSome (option_map (λ k. value.constraint_of k e) x) IsSpellableConstraint)
    [ None ↦ tt | Some k ↦ constraint_of-spellable k e h ] in
    go (value.kind_of e.info.name)

instance-spellable : (e : Standing) → IsCleanElement e → IsSpellableInstance (value.instance e)
unfolding value.instance
instance-spellable e h = record {
  id = id-spellable e h;
  meta_data = optional_meta_data e h;
  time_groups = each IsSpellableTimeGroup value.time_group time_group-spellable
      (value.every_inside tag.Times tag.TimeGroups e) (every_inside_clean tag.Times tag.TimeGroups e h);
  times = each IsSpellableTime value.time time-spellable (value.all_inside tag.Times tag.Time e)
      (all_inside_clean tag.Times tag.Time e h);
  resource_types = each IsSpellableResourceType value.resource_type resource_type-spellable
      (value.every_inside tag.Resources tag.ResourceTypes e) (every_inside_clean tag.Resources tag.ResourceTypes e h);
  resource_groups = each IsSpellableResourceGroup value.resource_group resource_group-spellable
      (value.every_inside tag.Resources tag.ResourceGroups e) (every_inside_clean tag.Resources tag.ResourceGroups e h);
  resources = each IsSpellableResource value.resource resource-spellable (value.all_inside tag.Resources tag.Resource e)
      (all_inside_clean tag.Resources tag.Resource e h);
  event_groups = each IsSpellableEventGroup value.event_group event_group-spellable
      (value.every_inside tag.Events tag.EventGroups e) (every_inside_clean tag.Events tag.EventGroups e h);
  events = each IsSpellableEvent value.event event-spellable (value.all_inside tag.Events tag.Event e)
      (all_inside_clean tag.Events tag.Event e h);
  constraints = all_found IsSpellableConstraint IsCleanElement value.constraint constraint-spellable
      (value.every tag.Constraints e) (every_clean tag.Constraints e h);
}

given-spellable : (e : Standing) → IsCleanElement e → IsSpellableGiven (value.given e)
unfolding value.given
given-spellable e h = (reference-spellable e h, optional_role e h)

entry-spellable : (e : Standing) → IsCleanElement e → IsSpellableEntry (value.entry e)
unfolding value.entry
entry-spellable e h = record {
  reference = reference-spellable e h;
  time = referred tag.Time e h;
  resources = each IsSpellableGiven value.given given-spellable (value.every tag.Resources e)
      (every_clean tag.Resources e h);
}

solution-spellable : (e : Standing) → IsCleanElement e → IsSpellableSolution (value.solution e)
unfolding value.solution
solution-spellable e h = record {
  reference = reference-spellable e h;
  description = optional_text tag.Description e h;
  running_time = optional_text tag.RunningTime e h;
  events = each IsSpellableEntry value.entry entry-spellable (value.every tag.Events e) (every_clean tag.Events e h);
}

solution_group-spellable : (e : Standing) → IsCleanElement e → IsSpellableSolutionGroup (value.solution_group e)
unfolding value.solution_group
solution_group-spellable e h = record {
  id = id-spellable e h;
  meta_data = optional_meta_data e h;
  solutions = each IsSpellableSolution value.solution solution-spellable (value.all tag.Solution e)
      (all_clean tag.Solution e h);
}

archive-spellable : (e : Standing) → IsCleanElement e → IsSpellableArchive (value.archive e)
unfolding value.archive
archive-spellable e h = record {
  id = optional_name-spellable label.Id e h;
  meta_data = optional_meta_data e h;
  instances = each IsSpellableInstance value.instance instance-spellable (value.every tag.Instances e)
      (every_clean tag.Instances e h);
  solution_groups = each IsSpellableSolutionGroup value.solution_group solution_group-spellable
      (value.every tag.SolutionGroups e) (every_clean tag.SolutionGroups e h);
}

-- the archive of a tree that its bytes spell
pub told-spellable : (bytes : List ℕ) (f : Forest) (i : Info) (kids others : Forest) (a : Archive)
    → f ≡ node i kids others → shape (record { info = i; kids = kids }) ≡ Ok a → Spelled bytes f → IsSpellableArchive a
told-spellable bytes f i kids others a is told spelled =
    let clean : IsCleanForest (node i kids others) = subst IsCleanForest is (IsCleanForest-spelled bytes f spelled) in
    subst IsSpellableArchive (shape-told (record { info = i; kids = kids }) a told).same
    (archive-spellable (record { info = i; kids = kids }) (clean_first i kids others clean))
