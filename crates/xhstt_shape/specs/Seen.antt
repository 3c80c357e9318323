-- Which children of the table came before in an element and may not come again, as bits of a number: a bit for each
-- child, by its place in the table.
use Rattle.std.specs.Prelude.{ℕ, ◌≡◌, Bool, Some, List, Result, Ok, Err}
use Rattle.std.specs.List.{position}
use Rattle.std.specs.Str.{bytes_eq}
use Rattle.khe_base.specs.Bits.{has_bit}
use Rattle.xhstt_text.specs.Forest.{Info}
use Rattle.xhstt_shape.specs.declared.faults.ShapeFault.{ShapeFault}
use Rattle.xhstt_shape.specs.declared.schema.Child.{Child}
use Rattle.xhstt_shape.specs.declared.words.Tag.{Tag}
use Rattle.xhstt_shape.specs.Walk.{is_among, rule_for, rule_or_fault, with_seen}
use Rattle.xhstt_shape.specs.Words.{word}

-- whether a child of the table has this name
abbrev pub is_named : List ℕ → Child → Bool
is_named name c = bytes_eq (word c.tag) name

-- a name of the table is among the names that may not come again exactly where its bit is set
pub record IsSeen (rules : List Child) (seen : ℕ) (tags : List Tag) : Type 0 where
  pub same : (name : List ℕ) (place : ℕ) → position (is_named name) rules ≡ Some place
      → has_bit seen place ≡ is_among name tags

-- the child of the table for an element, with the bits after it, or the fault of the element
abbrev pub IsRuleOf : List Child → List Tag → Info → Result (Child × ℕ) ShapeFault → Type 0
IsRuleOf rules tags i (Err fault) = rule_or_fault (rule_for rules i.name) tags i ≡ Err fault
IsRuleOf rules tags i (Ok p) = (rule_or_fault (rule_for rules i.name) tags i ≡ Ok p.0)
    × IsSeen rules p.1 (with_seen p.0 tags)
