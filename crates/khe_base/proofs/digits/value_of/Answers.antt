-- The number so far is below 10 to the number of its digits, of which there are at most 18.
use Rattle.std.proofs.Common.{ℕ, ◌≤◌, ◌<◌, ◌^◌, arith}
use Rattle.std.proofs.Math.Nat.{pow-le-pow_right}
use Rattle.khe_base.proofs.digits.value_of.Goals as goal

small : (v i n : ℕ) → v < 10 ^ i → i < n → n ≤ 18 → v < 10 ^ 17
small v i n h l m =
    let k : i ≤ 17 = omega (arith, l, m) in
    let p : 10 ^ i ≤ 10 ^ 17 = pow-le-pow_right {n = 10} (omega arith) {i = i} {j = 17} k in
    omega (arith, p, h)

pub overflow_mul-value : goal.overflow_mul-value
overflow_mul-value c =
    let s = small c.loop-digit.value c.loop-digit.digit-index _ c.loop-digit.invariant.1 c.loop-digit-test.true
    c.requires.short in
    omega (arith, s)

pub overflow_add-value : goal.overflow_add-value
overflow_add-value c =
    let s = small c.loop-digit.value c.loop-digit.digit-index _ c.loop-digit.invariant.1 c.loop-digit-test.true
    c.requires.short in
    omega (arith, s)
