-- A table whose rows stand for one element keeps the bounds of a table.
use Rattle.std.proofs.Common.{◌≡◌, ℕ, ◌+◌, ◌<◌, ◌≤◌, ◌^◌, length, All, ap, subst, inl, inr, arith}
use Rattle.std.proofs.Math.Nat.{eq-or-lt_of_le}
use Rattle.std.proofs.lemmas.Bool.{cases_lt}
use Rattle.std.proofs.lemmas.List.{get_or_past}
use Rattle.xhstt_text.specs.Forest.{Info, Forest, empty, node}
use Rattle.xhstt_text.specs.FlatTable.{FlatTable, IsFlatTable, IsNodeOf, IsAttributeOf, node_at, no_node, Stands}
use Rattle.xhstt_text.proofs.ForestOfTable.{Stands-le}

-- each element ends after its own row, and within the rows
Stands-ends : (t : FlatTable) (a : ℕ) (f : Forest) (b : ℕ) → Stands t a f b
    → (i : ℕ) → a ≤ i → i < b → (i < (node_at t i).end) × ((node_at t i).end ≤ b)
Stands-ends t a empty b s i low high = absurd (omega (arith, s))
Stands-ends t a (node info kids others) b s i low high =
    let kids_go_on : a + 1 ≤ (node_at t a).end = Stands-le t (a + 1) kids (node_at t a).end s.1 in
    let others_go_on : (node_at t a).end ≤ b = Stands-le t (node_at t a).end others b s.2 in
    elim (eq-or-lt_of_le low) [
      | inl here ↦ subst (λ n. (n < (node_at t n).end) × ((node_at t n).end ≤ b)) here (omega arith, others_go_on)
      | inr after ↦ elim (cases_lt i (node_at t a).end) [
        | inl below ↦ let inside = Stands-ends t (a + 1) kids (node_at t a).end s.1 i (omega arith) below in
            (inside.0, omega (arith, inside.1))
        | inr beyond ↦ Stands-ends t (node_at t a).end others b s.2 i beyond high
      ]
    ]

-- what begins inside an element ends inside it
Stands-nested : (t : FlatTable) (a : ℕ) (f : Forest) (b : ℕ) → Stands t a f b
    → (i j : ℕ) → a ≤ i → i < b → i < j → j < (node_at t i).end → (node_at t j).end ≤ (node_at t i).end
Stands-nested t a empty b s i j low high order inside = absurd (omega (arith, s))
Stands-nested t a (node info kids others) b s i j low high order inside =
    elim (eq-or-lt_of_le low) [
      | inl here ↦ subst (λ n. n < j → j < (node_at t n).end → (node_at t j).end ≤ (node_at t n).end) here
          (λ first last. (Stands-ends t (a + 1) kids (node_at t a).end s.1 j (omega arith) last).1) order inside
      | inr after ↦ elim (cases_lt i (node_at t a).end) [
        | inl below ↦ Stands-nested t (a + 1) kids (node_at t a).end s.1 i j (omega arith) below order inside
        | inr beyond ↦ Stands-nested t (node_at t a).end others b s.2 i j beyond high order inside
      ]
    ]

-- a row past the table's end has no length
past-end : (t : FlatTable) (i : ℕ) → length t.nodes ≤ i → (node_at t i).end ≡ 0
past-end t i past = ap (λ n. n.end) (get_or_past t.nodes i no_node past)

-- rows that stand for one element, and whose spans lie within the text, are a table
pub IsFlatTable-stands : (t : FlatTable) (info : Info) (kids : Forest)
    → Stands t 0 (node info kids empty) (length t.nodes) → length t.bytes < 2 ^ 32 → All (IsNodeOf t) t.nodes
    → All (IsAttributeOf t.bytes) t.attributes → IsFlatTable t
IsFlatTable-stands t info kids s short nodes attributes =
    let whole : (node_at t 0).end ≡ length t.nodes = s.2 in
    let later : 0 + 1 ≤ (node_at t 0).end = Stands-le t 1 kids (node_at t 0).end s.1 in
    record {
      short = short;
      some = omega arith;
      whole = whole;
      later = λ i low. (Stands-ends t 0 (node info kids empty) (length t.nodes) s i (omega arith) low).0;
      nested = λ i j order inside. elim (cases_lt i (length t.nodes)) [
        | inl low ↦ Stands-nested t 0 (node info kids empty) (length t.nodes) s i j (omega arith) low order inside
        | inr past ↦ let none : (node_at t i).end ≡ 0 = past-end t i past in absurd (omega arith)
      ];
      nodes = nodes;
      attributes = attributes;
    }
