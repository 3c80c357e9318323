-- Sums, and parts of durations.
use Rattle.std.proofs.Common.{◌≡◌, ◌∙◌, ap, ℕ, ◌+◌, ◌*◌, ◌/◌, ◌≤◌, arith, mul_assoc, sum_by}
use Rattle.std.specs.List.{range_with_len}
use Rattle.std.proofs.lemmas.List.Sums.{sum_by_push}
use Rattle.std.proofs.lemmas.Nat.{mul-le, div-add-mod'}
use Rattle.khe_base.proofs.ListLemmas.{range_more}

pub sum_by_range_more : (f : ℕ → ℕ) (n : ℕ) → sum_by f (range_with_len 0 (n + 1)) ≡ sum_by f (range_with_len 0 n) + f n
sum_by_range_more f n = ap (sum_by f) (range_more n) ∙ sum_by_push f (range_with_len 0 n) n

-- a part of a duration is worth no more than the whole
pub part_small : (most w d e u : ℕ) → w ≤ most → d ≤ e → w * d * (u / e) ≤ most * u
part_small most w d e u few part =
    let whole : u / e * e ≤ u = omega (arith, div-add-mod' u e) in
    let share : (u / e) * d ≤ (u / e) * e = mul-le (u / e) d (u / e) e (omega arith) part in
    let worth : w * (d * (u / e)) ≤ most * u = mul-le w (d * (u / e)) most u few (omega arith) in
    omega (arith, mul_assoc w d (u / e))
