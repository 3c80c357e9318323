-- Constraints are followed out one after another.
use Rattle.std.proofs.Common.{◌≡◌, ◌∙◌, sym, ap, ℕ, ◌+◌, ◌<◌, ◌∷◌, ◌++◌, length, drop, get_or}
use Rattle.std.specs.List.{enumerate_from, flat_map}
use Rattle.std.proofs.lemmas.List.{drop_more, length-append, length-map}
use Rattle.khe_instance.specs.Kinds.{kind_of}
use Rattle.xhstt_resolve.specs.Points.{monitor_of, monitors_at, points_of}
use Rattle.xhstt_resolve.specs.Rules.{rule_of}
use Rattle.xhstt_shape.specs.declared.constraints.RawConstraint.{RawConstraint}
use Rattle.xhstt_shape.specs.declared.records.RawInstance.{RawInstance}

-- the monitors of a constraint, and of those after it
split : (i : RawInstance) (k : ℕ) (x : RawConstraint) → k < length i.constraints → x ≡ get_or i.constraints k x
    → flat_map (monitors_at i) (enumerate_from k (drop k i.constraints)) ≡ monitors_at i (k, x)
    ++ flat_map (monitors_at i) (enumerate_from (k + 1) (drop (k + 1) i.constraints))
split i k x l at =
    ap (λ cs. flat_map (monitors_at i) (enumerate_from k cs))
    (drop_more i.constraints k x l ∙ ap (λ y. y ∷ drop (k + 1) i.constraints) (sym at))

-- how many monitors a constraint and those after it have
pub length_monitors : (i : RawInstance) (k : ℕ) (x : RawConstraint) → k < length i.constraints
    → x ≡ get_or i.constraints k x
    → length (flat_map (monitors_at i) (enumerate_from k (drop k i.constraints)))
    ≡ length (points_of i x) + length (flat_map (monitors_at i)
    (enumerate_from (k + 1) (drop (k + 1) i.constraints)))
length_monitors i k x l at =
    let rest = flat_map (monitors_at i) (enumerate_from (k + 1) (drop (k + 1) i.constraints)) in
    ap length (split i k x l at) ∙ length-append (monitors_at i (k, x)) rest
    ∙ ap (λ n. n + length rest) (length-map (points_of i x) (monitor_of (kind_of (rule_of i x.applies x.rule)) k))
