-- What points come to where they are counted, and where they become monitors.
use Rattle.std.proofs.Common.{◌≡◌, ◌∙◌, sym, ◌+◌, ◌-◌, ◌<◌, ◌≤◌, ◌^◌, suc, arith, List, [], ◌∷◌, ◌++◌}
use Rattle.std.proofs.Common.{append_assoc, append-nil, map, length}
use Rattle.std.specs.List.{fold, sum_by}
use Rattle.std.proofs.Math.Nat.{min-eq_left}
use Rattle.std.proofs.lemmas.List.Sums.{sum_by-cons}
use Rattle.khe_instance.specs.declared.points.Point.{Point}
use Rattle.xhstt_resolve.specs.Followed.{visit_at, with_count, with_monitor}
use Rattle.xhstt_resolve.specs.Limits.{watches_at}
use Rattle.xhstt_resolve.specs.Points.{monitor_of}
use Rattle.xhstt_resolve.specs.declared.counting.Counts.{Counts}
use Rattle.xhstt_resolve.specs.declared.monitors.Monitors.{Monitors}
use Rattle.xhstt_shape.specs.declared.constraints.RawConstraint.{RawConstraint}
use Rattle.xhstt_shape.specs.declared.records.RawInstance.{RawInstance}

-- the counts are exact as long as they do not come to the greatest number
pub counted : (i : RawInstance) (c : RawConstraint) (ps : List Point) (n : Counts)
    → n.monitors + length ps < 2 ^ 128 → n.watches + sum_by (watches_at i c) ps < 2 ^ 128
    → fold with_count n (map (visit_at i c) ps)
    ≡ record { monitors = n.monitors + length ps; watches = n.watches + sum_by (watches_at i c) ps }
counted i c [] n few small =
    let m : n.monitors ≡ n.monitors + 0 = omega arith in
    let w : n.watches ≡ n.watches + 0 = omega arith in
    λ j. record { monitors = m j; watches = w j }
counted i c (p ∷ ps) n few small =
    let sum = sum_by-cons (watches_at i c) p ps in
    let one : n.monitors + 1 ≤ 2 ^ 128 - 1 = omega (arith, few) in
    let own : n.watches + watches_at i c p ≤ 2 ^ 128 - 1 = omega (arith, small, sum) in
    let next : Counts = record { monitors = n.monitors + 1; watches = n.watches + watches_at i c p } in
    let few' : n.monitors + 1 + length ps < 2 ^ 128 = omega (arith, few) in
    let small' : n.watches + watches_at i c p + sum_by (watches_at i c) ps < 2 ^ 128 = omega (arith, small, sum) in
    let m : n.monitors + 1 + length ps ≡ n.monitors + suc (length ps) = omega arith in
    let w : n.watches + watches_at i c p + sum_by (watches_at i c) ps ≡ n.watches + sum_by (watches_at i c) (p ∷ ps) =
    omega (arith, sum) in
    (λ j. fold with_count (record { monitors = min-eq_left one j; watches = min-eq_left own j }) (map (visit_at i c) ps))
    ∙ counted i c ps next few' small'
    ∙ (λ j. record { monitors = m j; watches = w j })

-- the monitors that points become
pub monitored : (i : RawInstance) (c : RawConstraint) (ps : List Point) (m : Monitors)
    → (fold with_monitor m (map (visit_at i c) ps)).made ≡ m.made ++ map (monitor_of m.kind m.constraint) ps
monitored i c [] m = sym (append-nil m.made)
monitored i c (p ∷ ps) m =
    monitored i c ps (with_monitor m (visit_at i c p))
    ∙ append_assoc m.made (monitor_of m.kind m.constraint p ∷ []) (map (monitor_of m.kind m.constraint) ps)
