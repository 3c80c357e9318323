-- The forest of a table, row by row: it unfolds as its rows say, and a table that stands for a
-- forest gives that forest.
use Rattle.std.proofs.Common.{◌≡◌, ◌≢◌, ℕ, zero, suc, ◌+◌, ◌-◌, ◌<◌, ◌≤◌, min, max, length, ap, ◌∙◌, sym, refl, inl}
use Rattle.std.proofs.Common.{inr, arith}
use Rattle.std.proofs.Math.Nat.{eq-or-lt_of_le}
use Rattle.std.proofs.lemmas.Bool.{lt-ltb, le-ltb}
use Rattle.xhstt_text.specs.Forest.{Info, Forest, empty, node}
use Rattle.xhstt_text.specs.FlatTable.{FlatTable, IsFlatTable, info_at, node_at, rows_within, forest, Stands}
use Rattle.xhstt_text.specs.Handles.{size, IsRow}

-- more steps than there are rows change nothing
rows_within-enough : (j k : ℕ) (t : FlatTable) (a b : ℕ) → b - a ≤ j → b - a ≤ k
    → rows_within j t a b ≡ rows_within k t a b
unfolding rows_within
rows_within-enough zero zero t a b few many = refl
rows_within-enough zero (suc k) t a b few many = let past : b ≤ a = omega arith in rw (le-ltb a b past) refl
rows_within-enough (suc j) zero t a b few many = let past : b ≤ a = omega arith in rw (le-ltb a b past) refl
rows_within-enough (suc j) (suc k) t a b few many =
    let kids : rows_within j t (a + 1) (min (node_at t a).end b) ≡ rows_within k t (a + 1) (min (node_at t a).end b) =
    rows_within-enough j k t (a + 1) (min (node_at t a).end b) (omega arith) (omega arith) in
    let others : rows_within j t (max (a + 1) (node_at t a).end) b ≡ rows_within k t (max (a + 1) (node_at t a).end) b =
    rows_within-enough j k t (max (a + 1) (node_at t a).end) b (omega arith) (omega arith) in
    rw (kids, others) refl

-- no rows stand for no elements
pub forest-empty : (t : FlatTable) (a b : ℕ) → b ≤ a → forest t a b ≡ empty
unfolding forest rows_within
forest-empty t a b past = rows_within-enough (b - a) zero t a b (omega arith) (omega arith)

-- the first of some rows, those of its children, and those of its siblings
pub forest-node : (t : FlatTable) (a b : ℕ) → a < (node_at t a).end → (node_at t a).end ≤ b
    → forest t a b ≡ node (info_at t a) (forest t (a + 1) (node_at t a).end) (forest t (node_at t a).end b)
unfolding forest rows_within
forest-node t a b later within =
    let some : a < b = omega arith in
    let kids_end : min (node_at t a).end b ≡ (node_at t a).end = omega arith in
    let next : max (a + 1) (node_at t a).end ≡ (node_at t a).end = omega arith in
    let kids : rows_within (b - a) t (a + 1) (node_at t a).end
    ≡ rows_within ((node_at t a).end - (a + 1)) t (a + 1) (node_at t a).end =
    rows_within-enough _ _ t (a + 1) (node_at t a).end (omega arith) (omega arith) in
    let others : rows_within (b - a) t (node_at t a).end b ≡ rows_within (b - (node_at t a).end) t (node_at t a).end b =
    rows_within-enough _ _ t (node_at t a).end b (omega arith) (omega arith) in
    rows_within-enough (b - a) (suc (b - a)) t a b (omega arith) (omega arith)
    ∙ rw (lt-ltb a b some, kids_end, next, kids, others) refl

-- rows that stand for a forest go upwards
pub Stands-le : (t : FlatTable) (a : ℕ) (f : Forest) (b : ℕ) → Stands t a f b → a ≤ b
Stands-le t a empty b s = omega (arith, s)
Stands-le t a (node info kids others) b s =
    omega (arith, Stands-le t (a + 1) kids (node_at t a).end s.1, Stands-le t (node_at t a).end others b s.2)

-- what rows stand for is their forest
pub forest-stands : (t : FlatTable) (a : ℕ) (f : Forest) (b : ℕ) → Stands t a f b → forest t a b ≡ f
forest-stands t a empty b s = forest-empty t a b (omega (arith, s))
forest-stands t a (node info kids others) b s =
    let later : a < (node_at t a).end = omega (arith, Stands-le t (a + 1) kids (node_at t a).end s.1) in
    let first : info_at t a ≡ info = s.0 in
    let below : forest t (a + 1) (node_at t a).end ≡ kids = forest-stands t (a + 1) kids (node_at t a).end s.1 in
    let after : forest t (node_at t a).end b ≡ others = forest-stands t (node_at t a).end others b s.2 in
    forest-node t a b later (Stands-le t (node_at t a).end others b s.2) ∙ cc

-- the first element of a row that has one
pub forest-row : (t : FlatTable) (a b : ℕ) → IsRow t a b → a ≢ b
    → forest t a b ≡ node (info_at t a) (forest t (a + 1) (node_at t a).end) (forest t (node_at t a).end b)
forest-row t a b row some =
    let ordered : a ≤ b = row.ordered in
    let within : b ≤ length t.nodes = row.within in
    let before : a < b = omega arith in
    forest-node t a b (row.table.later a (omega arith)) (row.whole a (omega arith) before)

-- a row that has an element is not empty
pub filled-row : (t : FlatTable) (a b : ℕ) → IsRow t a b → forest t a b ≡ empty → a ≡ b
filled-row t a b row none =
    elim (eq-or-lt_of_le row.ordered) [
      | inl same ↦ same
      | inr less ↦ let some : a ≢ b = omega arith in absurd (let e = sym none ∙ forest-row t a b row some in cc)
    ]

-- the whole table is one element
pub forest-root : (t : FlatTable) → IsFlatTable t
    → forest t 0 (length t.nodes) ≡ node (info_at t 0) (forest t 1 (node_at t 0).end) empty
forest-root t table =
    let whole : (node_at t 0).end ≡ length t.nodes = table.whole in
    forest-node t 0 (length t.nodes) (table.later 0 table.some) (omega arith)
    ∙ ap (λ f. node (info_at t 0) (forest t 1 (node_at t 0).end) f)
    (forest-empty t (node_at t 0).end (length t.nodes) (omega arith))

-- what follows the first element, and what is below it, is smaller than the forest
pub size-others : (f : Forest) (info : Info) (kids others : Forest) → f ≡ node info kids others → size others < size f
size-others f info kids others e = omega (arith, ap size e)

pub size-kids : (f : Forest) (info : Info) (kids others : Forest) → f ≡ node info kids others → size kids < size f
size-kids f info kids others e = omega (arith, ap size e)
