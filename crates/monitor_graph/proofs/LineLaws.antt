-- Totals, and what else is kept, when one line is put in the place of another.
use Rattle.std.proofs.Common.{ℕ, ◌≡◌, ◌+◌, ◌-◌, ◌*◌, ◌<◌, ◌≤◌, nat_lt, List, map, length, get_or, set, sym, ◌∙◌, arith}
use Rattle.std.specs.Prelude.{All}
use Rattle.std.specs.List.{sum_by}
use Rattle.std.proofs.Math.Nat.{mul-le-mul_left, mul-le-mul_right}
use Rattle.std.proofs.Math.Seq.{map-set_same}
use Rattle.std.proofs.lemmas.Bool.{cond_both}
use Rattle.std.proofs.lemmas.List.{map-set, length-set}
use Rattle.std.proofs.lemmas.List.Elements.{All-set, All-weaker}
use Rattle.std.proofs.lemmas.List.Sums.{sum_by-set, sum_by-le, get_or-le-sum_by}
use Rattle.khe_base.specs.Costs.{cost_of}
use Rattle.khe_base.specs.declared.costs.CostFn.{CostFn}
use Rattle.khe_base.specs.declared.costs.CostFn.TheVariants.{Linear, Quadratic, Step}
use Rattle.khe_base.specs.declared.limits.TheConstants.{MONITORS, WEIGHT, GREATEST_COST, GREATEST_DEVIATION}
use Rattle.monitor_graph.specs.Boards.{fixed_of, rate_of}
use Rattle.monitor_graph.specs.Lines.{line_cost, hard_cost, soft_cost, IsLine, AreTotalled}
use Rattle.monitor_graph.specs.declared.lines.Line.{Line}

-- one sum with one line in place of another
abbrev IsSmall : (Line → ℕ) → Type 0
IsSmall f = (x : Line) → IsLine x → f x ≤ GREATEST_COST

sum_small : (f : Line → ℕ) → IsSmall f → (lines : List Line) → length lines ≤ MONITORS → All IsLine lines
    → sum_by f lines ≤ MONITORS * GREATEST_COST
sum_small f s lines few each =
    let h = sum_by-le f GREATEST_COST lines (All-weaker IsLine (λ x. f x ≤ GREATEST_COST) s lines each) in
    omega (arith, h, few)

sum_set : (f : Line → ℕ) (lines : List Line) (i : ℕ) (y d : Line) (total : ℕ) → i < length lines
    → total ≡ sum_by f lines → total - f (get_or lines i d) + f y ≡ sum_by f (set lines i y)
sum_set f lines i y d total l e = let a = sum_by-set f lines i y d l in let b = get_or-le-sum_by f lines i d l in
    omega (arith, a, b, e)

pub totalled_set : (lines : List Line) (hard soft i : ℕ) (y d : Line) → AreTotalled lines hard soft → i < length lines
    → IsLine y
    → AreTotalled (set lines i y) (hard - hard_cost (get_or lines i d) + hard_cost y)
    (soft - soft_cost (get_or lines i d) + soft_cost y)
totalled_set lines hard soft i y d k l h = record {
  few = let a = length-set lines i y in let b = k.few in omega (arith, a, b);
  each = All-set IsLine lines i y h k.each;
  hard = sum_set hard_cost lines i y d hard l k.hard;
  soft = sum_set soft_cost lines i y d soft l k.soft;
}

-- the greatest cost
cost_small : (f : CostFn) (w d : ℕ) → w ≤ WEIGHT → d ≤ GREATEST_DEVIATION → cost_of f w d ≤ GREATEST_COST
cost_small Linear w d h k =
    let a : w * d ≤ WEIGHT * d = mul-le-mul_right d h in
    let b : WEIGHT * d ≤ WEIGHT * GREATEST_DEVIATION = mul-le-mul_left WEIGHT k in
    omega (arith, a, b)
cost_small Quadratic w d h k =
    let a : w * d ≤ WEIGHT * d = mul-le-mul_right d h in
    let b : WEIGHT * d ≤ WEIGHT * GREATEST_DEVIATION = mul-le-mul_left WEIGHT k in
    let c : w * d ≤ WEIGHT * GREATEST_DEVIATION = omega (arith, a, b) in
    let e : w * d * d ≤ WEIGHT * GREATEST_DEVIATION * d = mul-le-mul_right d c in
    let g : WEIGHT * GREATEST_DEVIATION * d ≤ WEIGHT * GREATEST_DEVIATION * GREATEST_DEVIATION =
    mul-le-mul_left (WEIGHT * GREATEST_DEVIATION) k in
    omega (arith, e, g)
cost_small Step w d h k = cond_both (nat_lt 0 d) w 0 (λ x. x ≤ GREATEST_COST) (λ e. omega (arith, h)) (λ e. omega arith)

pub line_small : (x : Line) → IsLine x → line_cost x ≤ GREATEST_COST
line_small x h = cond_both x.attached (cost_of x.function x.weight x.deviation) 0 (λ n. n ≤ GREATEST_COST)
    (λ e. cost_small x.function x.weight x.deviation h.0 h.1) (λ e. omega arith)

pub hard_small : (x : Line) → IsLine x → hard_cost x ≤ GREATEST_COST
hard_small x h = cond_both x.required (line_cost x) 0 (λ n. n ≤ GREATEST_COST) (λ e. line_small x h) (λ e. omega arith)

pub soft_small : (x : Line) → IsLine x → soft_cost x ≤ GREATEST_COST
soft_small x h = cond_both x.required 0 (line_cost x) (λ n. n ≤ GREATEST_COST) (λ e. omega arith) (λ e. line_small x h)

pub totals_small : (lines : List Line) (hard soft : ℕ) → AreTotalled lines hard soft
    → (hard ≤ MONITORS * GREATEST_COST) × (soft ≤ MONITORS * GREATEST_COST)
totals_small lines hard soft k =
    let a = sum_small hard_cost hard_small lines k.few k.each in
    let b = sum_small soft_cost soft_small lines k.few k.each in
    (omega (arith, a, k.hard), omega (arith, b, k.soft))

-- each part of the lines by itself
pub deviations_set : (lines : List Line) (i : ℕ) (y : Line)
    → map (λ (x : Line). x.deviation) (set lines i y) ≡ set (map (λ (x : Line). x.deviation) lines) i y.deviation
deviations_set lines i y = map-set (λ (x : Line). x.deviation) lines i y

-- what has a deviation already is as it was after it gets it
pub deviations_same : (lines : List Line) (i : ℕ) (d : Line) (n : ℕ) → n ≡ (get_or lines i d).deviation
    → map (λ (x : Line). x.deviation) lines ≡ set (map (λ (x : Line). x.deviation) lines) i n
deviations_same lines i d n e = sym (sym (map-set (λ (x : Line). x.deviation) lines i (record d { deviation = n }))
    ∙ map-set_same (λ (x : Line). x.deviation) lines i (record d { deviation = n }) d e)

pub rest_set : (lines : List Line) (i : ℕ) (y d : Line) → fixed_of y ≡ fixed_of (get_or lines i d)
    → map fixed_of lines ≡ map fixed_of (set lines i y)
rest_set lines i y d h = sym (map-set_same fixed_of lines i y d h)

pub attached_set : (lines : List Line) (i : ℕ) (y : Line)
    → map (λ (x : Line). x.attached) (set lines i y) ≡ set (map (λ (x : Line). x.attached) lines) i y.attached
attached_set lines i y = map-set (λ (x : Line). x.attached) lines i y

pub rates_kept : (lines : List Line) (i : ℕ) (y d : Line) → rate_of y ≡ rate_of (get_or lines i d)
    → map rate_of (set lines i y) ≡ map rate_of lines
rates_kept lines i y d h = map-set_same rate_of lines i y d h

pub deviations_kept : (lines : List Line) (i : ℕ) (y d : Line) → y.deviation ≡ (get_or lines i d).deviation
    → map (λ (x : Line). x.deviation) (set lines i y) ≡ map (λ (x : Line). x.deviation) lines
deviations_kept lines i y d h = map-set_same (λ (x : Line). x.deviation) lines i y d h
