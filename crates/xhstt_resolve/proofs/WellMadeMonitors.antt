-- The monitors of parts: each is one of its constraint, in the constraints' order, at its points.
use Rattle.std.proofs.Common.{ℕ, ◌≡◌, ◌≢◌, ◌+◌, ◌≤◌, suc, zero, Bool, true, false, Option, Some, None, List, [], ◌∷◌}
use Rattle.std.proofs.Common.{◌++◌, map, refl, sym, ap, subst, ◌∙◌, arith, All, slice_get, option_map, flat_map, filter}
use Rattle.std.proofs.Common.{eqb, le_refl}
use Rattle.std.specs.Prelude.{AllPairs}
use Rattle.std.specs.List.{enumerate_from, range_with_len}
use Rattle.std.specs.List.Sorted.{IsNonDecreasing}
use Rattle.std.specs.Option.{option_map_or}
use Rattle.std.proofs.lemmas.Bool.{eq-eqb, ne_eqb}
use Rattle.std.proofs.lemmas.List.{append-nil, length-map}
use Rattle.std.proofs.lemmas.List.Concat.{flat_map-cons}
use Rattle.std.proofs.lemmas.List.Elements.{All-nil, All-head, All-tail, All-append, All-map, All-weaker, filter-append}
use Rattle.std.proofs.lemmas.Option.{none-some, same_Some, slice_get-map}
use Rattle.khe_base.proofs.ListLemmas.{all-there, filter-all, filter-none}
use Rattle.khe_instance.specs.WellMade as made
use Rattle.khe_instance.specs.declared.points.Monitor.{Monitor}
use Rattle.khe_instance.specs.declared.points.Point.{Point}
use Rattle.khe_instance.specs.declared.points.Point.TheVariants as point
use Rattle.khe_instance.specs.declared.rules.Constraint.{Constraint}
use Rattle.xhstt_resolve.specs.Parts.{constraint_of, parts_of}
use Rattle.xhstt_resolve.specs.Points.{monitors_at, monitors_of, points_in, points_of, role_of}
use Rattle.xhstt_resolve.specs.Rules.{pair_of, rule_of}
use Rattle.xhstt_shape.specs.WellFormed.{FitsRule, IsConstraint, IsInstance}
use Rattle.xhstt_resolve.proofs.WellMadePairwise.{Pairwise, Pairwise-append, Pairwise-map, all_pairs, non_decreasing}
use Rattle.xhstt_resolve.proofs.WellMadeParts.{monitor_at}
use Rattle.xhstt_resolve.proofs.WellMadePoints.{points_distinct, points_fit}
use Rattle.xhstt_shape.specs.declared.constraints.RawApplies.{RawApplies}
use Rattle.xhstt_shape.specs.declared.constraints.RawApplies.TheVariants.{Events, Groups, Pairs, Resources}
use Rattle.xhstt_shape.specs.declared.constraints.RawConstraint.{RawConstraint}
use Rattle.xhstt_shape.specs.declared.constraints.RawRule.{RawRule}
use Rattle.xhstt_shape.specs.declared.constraints.RawRule.TheVariants.{OrderEvents}
use Rattle.xhstt_shape.specs.declared.records.RawInstance.{RawInstance}

-- the monitors from one constraint on
abbrev from : RawInstance → ℕ → List RawConstraint → List Monitor
from i k cs = flat_map (monitors_at i) (enumerate_from k cs)

from-cons : (i : RawInstance) (k : ℕ) (c : RawConstraint) (cs : List RawConstraint)
    → from i k (c ∷ cs) ≡ map (monitor_at i k c) (points_of i c) ++ from i (k + 1) cs
from-cons i k c cs = flat_map-cons (monitors_at i) (k, c) (enumerate_from (k + 1) cs)

-- each is one of its constraint
constraint_there : (i : RawInstance) (k : ℕ) (c : RawConstraint) → slice_get i.constraints k ≡ Some c
    → slice_get (map (constraint_of i) i.constraints) k ≡ Some (constraint_of i c)
constraint_there i k c at = slice_get-map (constraint_of i) i.constraints k ∙ ap (option_map (constraint_of i)) at

own_monitors : (i : RawInstance) (k : ℕ) (c : RawConstraint) → slice_get i.constraints k ≡ Some c → IsConstraint c
    → All (made.IsMonitor (parts_of i)) (map (monitor_at i k c) (points_of i c))
own_monitors i k c at form =
    All-map (made.IsMonitor (parts_of i)) (monitor_at i k c) (points_of i c)
    (All-weaker (made.IsPointOf (parts_of i) (rule_of i c.applies c.rule))
    (λ p. made.IsMonitor (parts_of i) (monitor_at i k c p))
    (λ p fits. (constraint_of i c, constraint_there i k c at, refl, fits)) (points_of i c)
    (points_fit i c.applies c.rule form.applies))

each_monitor : (i : RawInstance) (k : ℕ) (cs : List RawConstraint)
    → ((j : ℕ) → slice_get cs j ≡ slice_get i.constraints (k + j)) → All IsConstraint cs
    → All (made.IsMonitor (parts_of i)) (from i k cs)
each_monitor i k [] at form = All-nil (made.IsMonitor (parts_of i))
each_monitor i k (c ∷ cs) at form =
    let here : slice_get i.constraints k ≡ Some c = let z : k ≡ k + 0 = omega arith in
    ap (slice_get i.constraints) z ∙ sym (at 0) in
    let next : (j : ℕ) → slice_get cs j ≡ slice_get i.constraints (k + 1 + j) =
    λ j. (let z : k + suc j ≡ k + 1 + j = omega arith in at (suc j) ∙ ap (slice_get i.constraints) z) in
    subst (All (made.IsMonitor (parts_of i))) (sym (from-cons i k c cs))
    (All-append (made.IsMonitor (parts_of i)) (map (monitor_at i k c) (points_of i c)) (from i (k + 1) cs)
    (own_monitors i k c here (All-head IsConstraint c cs form))
    (each_monitor i (k + 1) cs next (All-tail IsConstraint c cs form)))

-- in the order of constraints
own_number : (i : RawInstance) (k : ℕ) (c : RawConstraint) (ps : List Point)
    → All (λ (m : Monitor). m.constraint ≡ k) (map (monitor_at i k c) ps)
own_number i k c ps = All-map (λ (m : Monitor). m.constraint ≡ k) (monitor_at i k c) ps (λ j d l. refl)

later_number : (i : RawInstance) (k : ℕ) (cs : List RawConstraint)
    → All (λ (m : Monitor). k ≤ m.constraint) (from i k cs)
later_number i k [] = All-nil (λ (m : Monitor). k ≤ m.constraint)
later_number i k (c ∷ cs) =
    subst (All (λ (m : Monitor). k ≤ m.constraint)) (sym (from-cons i k c cs))
    (All-append (λ (m : Monitor). k ≤ m.constraint) (map (monitor_at i k c) (points_of i c)) (from i (k + 1) cs)
    (All-map (λ (m : Monitor). k ≤ m.constraint) (monitor_at i k c) (points_of i c) (λ j d l. le_refl k))
    (All-weaker (λ (m : Monitor). k + 1 ≤ m.constraint) (λ (m : Monitor). k ≤ m.constraint) (λ m l. omega arith)
    (from i (k + 1) cs) (later_number i (k + 1) cs)))

abbrev Comes : Monitor → Monitor → Type 0
Comes m n = m.constraint ≤ n.constraint

own_order : (i : RawInstance) (k : ℕ) (c : RawConstraint) (ps : List Point) → Pairwise Comes (map (monitor_at i k c) ps)
own_order i k c [] = tt
own_order i k c (p ∷ ps) = (
  All-map (λ (m : Monitor). k ≤ m.constraint) (monitor_at i k c) ps (λ j d l. le_refl k),
  own_order i k c ps,
)

order : (i : RawInstance) (k : ℕ) (cs : List RawConstraint) → Pairwise Comes (from i k cs)
order i k [] = tt
order i k (c ∷ cs) =
    let rest = from i (k + 1) cs in
    let later = All-weaker (λ (m : Monitor). k + 1 ≤ m.constraint) (λ (m : Monitor). k ≤ m.constraint)
    (λ m l. omega arith) rest (later_number i (k + 1) cs) in
    subst (Pairwise Comes) (sym (from-cons i k c cs))
    (Pairwise-append Comes (map (monitor_at i k c) (points_of i c)) rest (own_order i k c (points_of i c))
    (order i (k + 1) cs)
    (All-map (λ (m : Monitor). All (Comes m) rest) (monitor_at i k c) (points_of i c) (λ j d l. later)))

ordered : (i : RawInstance) → IsNonDecreasing (map (λ (m : Monitor). m.constraint) (monitors_of i))
ordered i = non_decreasing (map (λ (m : Monitor). m.constraint) (monitors_of i))
    (Pairwise-map (λ a b. a ≤ b) (λ (m : Monitor). m.constraint) (monitors_of i) (order i 0 i.constraints))

own_points : (i : RawInstance) (k : ℕ) (c : RawConstraint) (ps : List Point)
    → map (λ (m : Monitor). m.point) (map (monitor_at i k c) ps) ≡ ps
own_points i k c [] = refl
own_points i k c (p ∷ ps) = ap (λ qs. p ∷ qs) (own_points i k c ps)

abbrev is_of : ℕ → Monitor → Bool
is_of n m = eqb m.constraint n

abbrev points_from : RawInstance → ℕ → List RawConstraint → ℕ → List Point
points_from i k cs n = map (λ (m : Monitor). m.point) (filter (is_of n) (from i k cs))

points_at : (i : RawInstance) (k : ℕ) (cs : List RawConstraint) (j : ℕ)
    → points_from i k cs (k + j) ≡ option_map_or (points_of i) (slice_get cs j) []
points_at i k [] j = refl
points_at i k (c ∷ cs) zero =
    let own = map (monitor_at i k c) (points_of i c) in
    let rest = from i (k + 1) cs in
    let test = is_of (k + 0) in
    let mine : filter test own ≡ own = filter-all test own
    (All-map (λ m. test m ≡ true) (monitor_at i k c) (points_of i c) (λ j d l. eq-eqb k (k + 0) (omega arith))) in
    let others : filter test rest ≡ [] =
    filter-none test rest (All-weaker (λ (m : Monitor). k + 1 ≤ m.constraint) (λ m. test m ≡ false)
    (λ m l. ne_eqb m.constraint (k + 0) (λ e. omega arith)) rest (later_number i (k + 1) cs))
    in
    ap (λ ms. map (λ (m : Monitor). m.point) ms)
    (ap (filter test) (from-cons i k c cs) ∙ filter-append test own rest ∙ (λ j. mine j ++ others j) ∙ append-nil own)
    ∙ own_points i k c (points_of i c)
points_at i k (c ∷ cs) (suc j) =
    let own = map (monitor_at i k c) (points_of i c) in
    let rest = from i (k + 1) cs in
    let test = is_of (k + suc j) in
    let mine : filter test own ≡ [] = filter-none test own
    (All-map (λ m. test m ≡ false) (monitor_at i k c) (points_of i c)
    (λ n d l. ne_eqb k (k + suc j) (λ e. omega arith))) in
    let z : k + suc j ≡ k + 1 + j = omega arith in
    ap (λ ms. map (λ (m : Monitor). m.point) ms) (ap (filter test) (from-cons i k c cs) ∙ filter-append test own rest
    ∙ ap (λ ms. ms ++ filter test rest) mine)
    ∙ ap (points_from i (k + 1) cs) z
    ∙ points_at i (k + 1) cs j

points_are : (i : RawInstance) (n : ℕ) → made.points_of (parts_of i) n
    ≡ option_map_or (points_of i) (slice_get i.constraints n) []
points_are i n = let z : n ≡ 0 + n = omega arith in ap (points_from i 0 i.constraints) z ∙ points_at i 0 i.constraints n

once : (i : RawInstance) (n : ℕ) → AllPairs (λ x y. x ≢ y) (made.points_of (parts_of i) n)
once i n = subst (AllPairs (λ x y. x ≢ y)) (sym (points_are i n)) (by (slice_get i.constraints n))
  where
    by : (o : Option RawConstraint) → AllPairs (λ x y. x ≢ y) (option_map_or (points_of i) o [])
    by None = all_pairs (λ x y. x ≢ y) [] tt
    by (Some c) = all_pairs (λ x y. x ≢ y) (points_of i c) (points_distinct i (role_of c.rule) c.applies)

-- a constraint on pairs has its pairs
order_pairs : (i : RawInstance) (applies : RawApplies) → FitsRule OrderEvents applies
    → made.HasItsPairs (points_in i None applies) (rule_of i applies OrderEvents)
order_pairs i (Events groups events) form = absurd form
order_pairs i (Groups groups) form = absurd form
order_pairs i (Resources groups resources) form = absurd form
order_pairs i (Pairs pairs) form = ap (λ n. map point.EventPair (range_with_len 0 n))
    (sym (length-map pairs (pair_of i)))

has_pairs : (i : RawInstance) (applies : RawApplies) (rule : RawRule) → FitsRule rule applies
    → made.HasItsPairs (points_in i (role_of rule) applies) (rule_of i applies rule)
has_pairs i applies OrderEvents form = order_pairs i applies form
has_pairs i applies other form = tt

pairs : (i : RawInstance) → IsInstance i → (k : ℕ) (c : Constraint)
    → slice_get (map (constraint_of i) i.constraints) k ≡ Some c
    → made.HasItsPairs (made.points_of (parts_of i) k) c.rule
pairs i formed k c at = by (slice_get i.constraints k) refl (sym (slice_get-map (constraint_of i) i.constraints k) ∙ at)
  where
    by : (o : Option RawConstraint) → slice_get i.constraints k ≡ o → option_map (constraint_of i) o ≡ Some c
        → made.HasItsPairs (made.points_of (parts_of i) k) c.rule
    by None is e = absurd (none-some c e)
    by (Some raw) is e =
        let form = all-there IsConstraint i.constraints k raw formed.constraints is in
        let same : constraint_of i raw ≡ c = same_Some (constraint_of i raw) c e in
        let points = points_are i k ∙ ap (λ o. option_map_or (points_of i) o []) is in
        subst (λ x. made.HasItsPairs (made.points_of (parts_of i) k) x.rule) same
        (subst (λ ps. made.HasItsPairs ps (rule_of i raw.applies raw.rule)) (sym points)
        (has_pairs i raw.applies raw.rule form.applies))

pub monitors_made : (i : RawInstance) → IsInstance i → made.AreMonitors (parts_of i)
monitors_made i formed = record {
  each = each_monitor i 0 i.constraints (λ j. (let z : j ≡ 0 + j = omega arith in ap (slice_get i.constraints) z))
      formed.constraints;
  ordered = ordered i;
  once = once i;
  pairs = pairs i formed;
}
