-- An element without a fault: what the walk found of its children.
use Rattle.std.proofs.Common.{◌≡◌, ℕ, Bool, true, false, if◌then◌else◌, Option, Some, None, Ok, Err, List, [], ◌∷◌, All}
use Rattle.std.proofs.Common.{IfSome, refl, inl, inr, sym, ap, subst, ◌∙◌}
use Rattle.std.specs.Str.{bytes_eq}
use Rattle.std.proofs.lemmas.Bool.{and_parts, cases_Bool, cond_both, not-true}
use Rattle.std.proofs.lemmas.List.Elements.{All-nil, All-cons}
use Rattle.std.proofs.lemmas.Slice.Eq.{bytes_eq-Decides}
use Rattle.xhstt_text.specs.Forest.{Info, Forest, empty, node}
use Rattle.xhstt_text.specs.Handles.{Standing}
use Rattle.fault_tables.specs.declared.faults.TheConstants.{MISSING_CHILD, REPEATED_CHILD, BAD_WORD}
use Rattle.xhstt_shape.specs.declared.faults.ShapeFault.TheVariants.{Bad}
use Rattle.xhstt_shape.specs.declared.schema.Child.{Child}
use Rattle.xhstt_shape.specs.declared.schema.Content.{Content}
use Rattle.xhstt_shape.specs.declared.schema.Content.TheVariants as content_of
use Rattle.xhstt_shape.specs.declared.schema.Row.{Row}
use Rattle.xhstt_shape.specs.declared.schema.Row.TheVariants as row
use Rattle.xhstt_shape.specs.declared.words.Tag.{Tag}
use Rattle.xhstt_shape.specs.Contents.{role_text, is_blank}
use Rattle.xhstt_shape.specs.Faults.{Outcome, bad, unless, followed_by}
use Rattle.xhstt_shape.specs.Schema.{attributes, children, content}
use Rattle.xhstt_shape.specs.Values.{elements, named, kids_of}
use Rattle.xhstt_shape.specs.Walk.{child, all_attributes_fault, loose_fault, has_child, has_children, value_fault}
use Rattle.xhstt_shape.specs.Walk.{around_children, rule_for, settled, is_among, with_seen, rule_or_fault, by_rule}
use Rattle.xhstt_shape.specs.Walk.{children_fault, fault_of}
use Rattle.xhstt_shape.specs.Words.{word}

-- there is no fault
abbrev pub IsFine : Outcome → Type 0
IsFine (Ok u) = Unit {0}
IsFine (Err fault) = ⊥

pub fine_both : (a b : Outcome) → IsFine (followed_by a b) → IsFine a × IsFine b
fine_both (Ok u) b h = (tt, h)
fine_both (Err f) b h = absurd h

pub fine_unless : (b : Bool) (kind at : ℕ) → IsFine (unless b (bad kind at)) → b ≡ true
fine_unless true kind at h = refl
fine_unless false kind at h = absurd h

-- the table has the element as a child of a row, and the element has no fault
pub record FineChild (r : Row) (e : Standing) : Type 0 where
  pub rule : Child
  pub found : rule_for (children r) e.info.name ≡ Some rule
  pub own : IsFine (fault_of (settled rule.row e.info) e)

abbrev pub AreFine : Row → Forest → Type 0
AreFine r empty = Unit {0}
AreFine r (node i kids others) = FineChild r (record { info = i; kids = kids }) × AreFine r others

by_test : (test : Bool) (c : Child) (seen : List Tag) (i : Info) (kids : Forest) (others : List Tag → Outcome)
    → IsFine (by_rule (if test then Err (Bad REPEATED_CHILD i.at) else Ok c) seen i kids
    (λ own. children_fault own [] kids) others)
    → IsFine (fault_of (settled c.row i) (record { info = i; kids = kids })) × IsFine (others (with_seen c seen))
by_test true c seen i kids others h = absurd h
by_test false c seen i kids others h =
    fine_both (fault_of (settled c.row i) (record { info = i; kids = kids })) (others (with_seen c seen)) h

pub by_found : (found : Option Child) (seen : List Tag) (i : Info) (kids : Forest) (others : List Tag → Outcome)
    → IsFine (by_rule (rule_or_fault found seen i) seen i kids (λ own. children_fault own [] kids) others)
    → (c : Child) × (found ≡ Some c) × IsFine (fault_of (settled c.row i) (record { info = i; kids = kids }))
    × IsFine (others (with_seen c seen))
by_found None seen i kids others h = absurd h
by_found (Some c) seen i kids others h =
    let both = by_test (is_among i.name seen) c seen i kids others h in (c, refl, both.0, both.1)

pub AreFine-from : (r : Row) (seen : List Tag) (kids : Forest) → IsFine (children_fault r seen kids) → AreFine r kids
AreFine-from r seen empty h = tt
AreFine-from r seen (node i kids others) h =
    let found = by_found (rule_for (children r) i.name) seen i kids (λ now. children_fault r now others) h in
    (record { rule = found.0; found = found.1; own = found.2 }, AreFine-from r (with_seen found.0 seen) others found.3)

-- the children of an element are fine, and none is missing
pub record FineInside (r : Row) (e : Standing) : Type 0 where
  pub kids : AreFine r e.kids
  pub has : has_children (children r) e.kids ≡ true

around_elements : (r : Row) (c : Content) (i : Info) (kids : Forest) (inner : Outcome) → c ≡ content_of.Elements
    → IsFine (around_children r c i kids inner) → IsFine inner × (has_children (children r) kids ≡ true)
around_elements r c i kids inner e h =
    let P : Content → Type 0 = λ x. IsFine (around_children r x i kids inner) in
    let missing : Outcome = unless (has_children (children r) kids) (bad MISSING_CHILD i.at) in
    let last : Outcome = value_fault content_of.Elements i in
    let later : Outcome = followed_by inner (followed_by missing last) in
    let after = fine_both (all_attributes_fault (attributes r) i)
    (followed_by (loose_fault content_of.Elements i.loose) later) (subst P e h) in
    let within = fine_both (loose_fault content_of.Elements i.loose) later after.1 in
    let own = fine_both inner (followed_by missing last) within.1 in
    (own.0, fine_unless (has_children (children r) kids) MISSING_CHILD i.at (fine_both missing last own.1).0)

pub FineInside-from : (r : Row) (e : Standing) → content r ≡ content_of.Elements → IsFine (fault_of r e)
    → FineInside r e
FineInside-from r e c h =
    let both = around_elements r (content r) e.info e.kids (children_fault r [] e.kids) c h in
    record { kids = AreFine-from r [] e.kids both.0; has = both.1 }

-- a role without a fault is not empty
pub fine_role : (e : Standing) → IsFine (fault_of row.Role e) → is_blank (role_text e.info.value) ≡ false
unfolding content
fine_role e h =
    let i : Info = e.info in
    let inner : Outcome = children_fault row.Role [] e.kids in
    let missing : Outcome = unless (has_children (children row.Role) e.kids) (bad MISSING_CHILD i.at) in
    let last : Outcome = value_fault content_of.Role i in
    let later : Outcome = followed_by inner (followed_by missing last) in
    let after = fine_both (all_attributes_fault (attributes row.Role) i)
    (followed_by (loose_fault content_of.Role i.loose) later) h in
    let within = fine_both (loose_fault content_of.Role i.loose) later after.1 in
    let own = fine_both inner (followed_by missing last) within.1 in
    not-true _ (fine_unless _ BAD_WORD i.value_at (fine_both missing last own.1).1)

-- a child that is fine, and has a name
pub record FineNamed (r : Row) (t : Tag) (e : Standing) : Type 0 where
  pub child : FineChild r e
  pub name : bytes_eq (word t) e.info.name ≡ true

pub child_fine : (r : Row) (t : Tag) (kids : Forest) → AreFine r kids → IfSome (child t kids) (FineNamed r t)
child_fine r t empty h = tt
child_fine r t (node i kids others) h =
    let e : Standing = record { info = i; kids = kids } in
    let P : Option Standing → Type 0 = λ o. IfSome o (FineNamed r t) in
    cond_both (bytes_eq (word t) i.name) (Some e) (child t others) P (λ is. record { child = h.0; name = is })
    (λ _. child_fine r t others h.1)

pub elements_fine : (r : Row) (kids : Forest) → AreFine r kids → All (FineChild r) (elements kids)
elements_fine r empty h = All-nil (FineChild r)
elements_fine r (node i kids others) h =
    All-cons (FineChild r) (record { info = i; kids = kids }) (elements others) h.0 (elements_fine r others h.1)

pub named_fine : (r : Row) (t : Tag) (kids : Forest) → AreFine r kids → All (FineNamed r t) (named t kids)
named_fine r t empty h = All-nil (FineNamed r t)
named_fine r t (node i kids others) h =
    let e : Standing = record { info = i; kids = kids } in
    let later : All (FineNamed r t) (named t others) = named_fine r t others h.1 in
    let P : List Standing → Type 0 = λ es. All (FineNamed r t) es in
    cond_both (bytes_eq (word t) i.name) (e ∷ named t others) (named t others) P
    (λ is. All-cons (FineNamed r t) e (named t others) (record { child = h.0; name = is }) later) (λ _. later)

-- the child of the table that has the name of an element is the element's
pub named_own : (r : Row) (t : Tag) (c : Child) (e : Standing) → rule_for (children r) (word t) ≡ Some c
    → FineNamed r t e → IsFine (fault_of (settled c.row e.info) e)
named_own r t c e leads h =
    let same : word t ≡ e.info.name = (bytes_eq-Decides (word t) e.info.name).0 h.name in
    let both : Some h.child.rule ≡ Some c = sym h.child.found ∙ ap (rule_for (children r)) (sym same) ∙ leads in
    let is : h.child.rule ≡ c = cc in
    let P : Child → Type 0 = λ rule. IsFine (fault_of (settled rule.row e.info) e) in
    subst P is h.child.own

-- a child that must stand is there
pub has_found : (rules : List Child) (name : List ℕ) (c : Child) (kids : Forest) → rule_for rules name ≡ Some c
    → has_children rules kids ≡ true → has_child c kids ≡ true
has_found [] name c kids found h = cc
has_found (d ∷ ds) name c kids found h =
    let both = and_parts (has_child d kids) (has_children ds kids) h in
    elim (cases_Bool (bytes_eq (word d.tag) name)) [
      | inl e ↦
          let first : Some d ≡ Some c = sym (ap (λ b. if b then Some d else rule_for ds name) e) ∙ found in
          let is : d ≡ c = cc in
          subst (λ (x : Child). has_child x kids ≡ true) is both.0
      | inr e ↦
          has_found ds name c kids (sym (ap (λ b. if b then Some d else rule_for ds name) e) ∙ found) both.1
    ]

-- the table leads from a row by a name to a row of elements
pub record Leads (r : Row) (t : Tag) (to : Row) : Type 0 where
  pub rule : Child
  pub found : rule_for (children r) (word t) ≡ Some rule
  pub settles : (i : Info) → settled rule.row i ≡ to
  pub has_elements : content to ≡ content_of.Elements

pub named_inside : (r : Row) (t : Tag) (to : Row) (e : Standing) → Leads r t to → FineNamed r t e → FineInside to e
named_inside r t to e leads h =
    FineInside-from to e leads.has_elements (subst (λ (own : Row). IsFine (fault_of own e)) (leads.settles e.info)
    (named_own r t leads.rule e leads.found h))

kids_in : (r : Row) (t : Tag) (to : Row) (o : Option Standing) → Leads r t to → IfSome o (FineNamed r t)
    → AreFine to (kids_of o)
kids_in r t to None leads h = tt
kids_in r t to (Some e) leads h = (named_inside r t to e leads h).kids

-- the children of a child are fine
pub kids_fine : (r : Row) (t : Tag) (to : Row) (kids : Forest) → Leads r t to → AreFine r kids
    → AreFine to (kids_of (child t kids))
kids_fine r t to kids leads h = kids_in r t to (child t kids) leads (child_fine r t kids h)

only_rule : (test : Bool) (c d : Child) → (if test then Some c else None) ≡ Some d → d ≡ c
only_rule true c d e = cc
only_rule false c d e = cc

-- where the table has one child alone
pub only_own : (r : Row) (c : Child) (e : Standing) → children r ≡ c ∷ [] → FineChild r e
    → IsFine (fault_of (settled c.row e.info) e)
only_own r c e only h =
    let is : h.rule ≡ c = only_rule (bytes_eq (word c.tag) e.info.name) c h.rule
    (sym (ap (λ rules. rule_for rules e.info.name) only) ∙ h.found) in
    let P : Child → Type 0 = λ rule. IsFine (fault_of (settled rule.row e.info) e) in
    subst P is h.own
