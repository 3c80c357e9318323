-- The walk over a tree by the table of elements, and its first fault. An element is walked so: its
-- attributes in order, the attributes that it lacks, its text where elements are to stand, its
-- children from left to right, each first by its name and then walked, the children that it lacks,
-- and last its value.
use Rattle.std.specs.Prelude.{ℕ, Bool, true, false, not, ◌||◌, if◌then◌else◌, Option, Some, None, is_some, Result, Ok}
use Rattle.std.specs.Prelude.{Err, List, [], ◌∷◌, ◌++◌, find}
use Rattle.std.specs.List.{list_all, list_any}
use Rattle.std.specs.Str.{bytes_eq}
use Rattle.xhstt_text.specs.Forest.{AttributeInfo, Info, Forest, empty, node}
use Rattle.xhstt_text.specs.Handles.{Standing}
use Rattle.fault_tables.specs.declared.faults.TheConstants.{UNKNOWN_ELEMENT, MISSING_CHILD, REPEATED_CHILD, BAD_NUMBER}
use Rattle.fault_tables.specs.declared.faults.TheConstants.{BAD_WORD}
use Rattle.xhstt_shape.specs.declared.faults.ShapeFault.{ShapeFault}
use Rattle.xhstt_shape.specs.declared.faults.ShapeFault.TheVariants.{Bad}
use Rattle.xhstt_shape.specs.declared.schema.Child.{Child}
use Rattle.xhstt_shape.specs.declared.schema.AllowedAttribute.{AllowedAttribute}
use Rattle.xhstt_shape.specs.declared.schema.Content.{Content}
use Rattle.xhstt_shape.specs.declared.schema.Content.TheVariants as content_of
use Rattle.xhstt_shape.specs.declared.schema.Mark.{Mark}
use Rattle.xhstt_shape.specs.declared.schema.Mark.TheVariants.{Once, Many}
use Rattle.xhstt_shape.specs.declared.schema.Row.{Row}
use Rattle.xhstt_shape.specs.declared.schema.Row.TheVariants as row
use Rattle.xhstt_shape.specs.declared.words.Label.{Label}
use Rattle.xhstt_shape.specs.declared.words.Label.TheVariants as label
use Rattle.xhstt_shape.specs.declared.words.Tag.{Tag}
use Rattle.xhstt_shape.specs.Contents.{trimmed_text, number_between, truth_of, function_of, role_text, is_blank}
use Rattle.xhstt_shape.specs.Faults.{Outcome, fine, bad, unless, followed_by}
use Rattle.xhstt_shape.specs.Schema.{attributes, children, content}
use Rattle.xhstt_shape.specs.Words.{word, label_word}

-- the first attribute of a name
abbrev pub attribute : Label → List AttributeInfo → Option AttributeInfo
attribute l given = find (λ a. bytes_eq (label_word l) a.name) given

-- the first child of a name
abbrev pub child : Tag → Forest → Option Standing
child t empty = None
child t (node i kids others) = if bytes_eq (word t) i.name then Some (record { info = i; kids = kids }) else child t
    others

-- whether the table has an attribute of this name
abbrev pub is_label : List AllowedAttribute → List ℕ → Bool
is_label allowed name = list_any (λ g. bytes_eq (label_word g.label) name) allowed

-- the first attribute that the table does not have
abbrev pub attributes_fault : List AllowedAttribute → List AttributeInfo → Outcome
attributes_fault allowed [] = fine
attributes_fault allowed (a ∷ more) = followed_by (unless (is_label allowed a.name) (bad UNKNOWN_ELEMENT a.at))
    (attributes_fault allowed more)

-- whether an attribute stands, or need not
abbrev pub has_allowed : AllowedAttribute → List AttributeInfo → Bool
has_allowed g given = not g.required || is_some (attribute g.label given)

-- whether no attribute that has to stand is missing
abbrev pub has_attributes : List AllowedAttribute → List AttributeInfo → Bool
has_attributes allowed given = list_all (λ g. has_allowed g given) allowed

-- the first attribute that the table does not have, or else an attribute that is missing
abbrev pub all_attributes_fault : List AllowedAttribute → Info → Outcome
all_attributes_fault allowed i = followed_by (attributes_fault allowed i.attributes)
    (unless (has_attributes allowed i.attributes) (bad MISSING_CHILD i.at))

-- text where elements are to stand
abbrev pub loose_fault : Content → Option ℕ → Outcome
loose_fault content_of.Elements (Some at) = bad BAD_WORD at
loose_fault _ _ = fine

-- whether a child stands any number of times
abbrev pub is_many : Mark → Bool
is_many Many = true
is_many _ = false

-- whether a child that stands exactly once is there
abbrev pub has_marked : Mark → Option Standing → Bool
has_marked Once found = is_some found
has_marked _ found = true

-- whether a child stands, or need not
abbrev pub has_child : Child → Forest → Bool
has_child c kids = has_marked c.mark (child c.tag kids)

-- whether no child that has to stand is missing
abbrev pub has_children : List Child → Forest → Bool
has_children rules kids = list_all (λ c. has_child c kids) rules

-- a value that is not in form
abbrev pub value_fault : Content → Info → Outcome
value_fault (content_of.Number least greatest) i =
    unless (is_some (number_between least greatest (trimmed_text i.value))) (bad BAD_NUMBER i.value_at)
value_fault content_of.Truth i = unless (is_some (truth_of (trimmed_text i.value))) (bad BAD_WORD i.value_at)
value_fault content_of.Function i = unless (is_some (function_of (trimmed_text i.value))) (bad BAD_WORD i.value_at)
value_fault content_of.Role i = unless (not (is_blank (role_text i.value))) (bad BAD_WORD i.value_at)
value_fault _ i = fine

-- the first fault of an element, around that of its children; where anything may stand, none
abbrev pub around_children : Row → Content → Info → Forest → Outcome → Outcome
around_children r content_of.Anything i kids inner = fine
around_children r c i kids inner =
    followed_by (all_attributes_fault (attributes r) i) (
    followed_by (loose_fault c i.loose) (
    followed_by inner (
    followed_by (unless (has_children (children r) kids) (bad MISSING_CHILD i.at)) (
    value_fault c i))))

-- the child of the table that has this name
abbrev pub rule_for : List Child → List ℕ → Option Child
rule_for rules name = find (λ c. bytes_eq (word c.tag) name) rules

-- the row of an element: an event resource without a reference is one of another row
unfoldable pub settled : Row → Info → Row
settled row.EventResource i = if is_some (attribute label.Reference i.attributes) then row.EventResource else
    row.OpenResource
settled r i = r

-- whether a name is one of these
abbrev pub is_among : List ℕ → List Tag → Bool
is_among name tags = list_any (λ t. bytes_eq (word t) name) tags

-- the names that may not come again, with that of one more child
abbrev pub with_seen : Child → List Tag → List Tag
with_seen c seen = if is_many c.mark then seen else seen ++ c.tag ∷ []

-- the child of the table for an element, or its fault: its name is not in the table, or may not come
-- again
abbrev pub rule_or_fault : Option Child → List Tag → Info → Result Child ShapeFault
rule_or_fault None seen i = Err (Bad UNKNOWN_ELEMENT i.at)
rule_or_fault (Some c) seen i = if is_among i.name seen then Err (Bad REPEATED_CHILD i.at) else Ok c

-- the first fault of a child and of those after it, where the table has this child for its name
abbrev pub by_rule : Result Child ShapeFault → List Tag → Info → Forest → (Row → Outcome) → (List Tag → Outcome)
    → Outcome
by_rule (Err fault) seen i kids inner others = Err fault
by_rule (Ok c) seen i kids inner others =
    let own = settled c.row i in
    followed_by (around_children own (content own) i kids (inner own)) (others (with_seen c seen))

-- the first fault of the children of an element of a row, after children with these names that may
-- not come again
abbrev pub children_fault : Row → List Tag → Forest → Outcome
children_fault r seen empty = fine
children_fault r seen (node i kids others) =
    by_rule (rule_or_fault (rule_for (children r) i.name) seen i) seen i kids (λ own. children_fault own [] kids)
    (λ now. children_fault r now others)

-- the first fault of an element of a row
abbrev pub fault_of : Row → Standing → Outcome
fault_of r e = around_children r (content r) e.info e.kids (children_fault r [] e.kids)
