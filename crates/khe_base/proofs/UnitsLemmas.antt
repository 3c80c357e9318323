-- Common multiples.
use Rattle.std.proofs.Common.{◌≡◌, ◌∙◌, sym, ap, subst, ℕ, ◌*◌, ◌/◌, ◌%◌, ◌<◌, ◌≤◌, suc, zero, refl, arith}
use Prim.Native.Nat.{◌∣◌}
use Rattle.std.specs.Int.{IsGcd}
use Rattle.std.proofs.lemmas.Nat.Gcd.{IsGcd-from_zero, IsGcd-from_mod, dvd_trans, dvd-zero}
use Rattle.std.proofs.Math.Nat.{mul_comm, mul_assoc, mul_right_comm, dvd-mul_left, dvd-mul_right, mul-dvd-mul_left}
use Rattle.std.proofs.Math.Nat.{mul-dvd-mul_right, dvd_of_mul-dvd-mul_left, dvd_of_mul-dvd-mul_right, div-mul_cancel}
use Rattle.std.proofs.Math.Nat.{mul-div_cancel'}
use Rattle.khe_base.specs.Units.{IsLeastMultiple}

-- two numbers have a greatest common divisor
gcd_of : (fuel a b : ℕ) → b ≤ fuel → (g : ℕ) × IsGcd a b g
gcd_of fuel a zero h = (a, IsGcd-from_zero a 0 refl)
gcd_of zero a (suc b) h = absurd (omega arith)
gcd_of (suc n) a (suc b) h =
    let below : a % suc b ≤ n = omega arith in
    let r = gcd_of n (suc b) (a % suc b) below in
    (r.0, IsGcd-from_mod a (suc b) r.0 r.1)

-- the product of two numbers divides each common multiple times their greatest common divisor
divides_scaled : (u d g n : ℕ) → IsGcd u d g → 0 < n → u ∣ n → d ∣ n → u * d ∣ n * g
divides_scaled u d g n is positive un dn =
    let r = gcd_of (n * d) (n * u) (n * d) (omega arith) in
    let h = r.0 in
    let all : u * d ∣ h =
    r.1.2 (u * d) (subst (λ x. u * d ∣ x) (mul_comm u n) (mul-dvd-mul_left d u dn)) (mul-dvd-mul_right u un d)
    in
    let k = h / n in
    let whole : n * k ≡ h = mul-div_cancel' n (r.1.2 n (dvd-mul_right n u) (dvd-mul_right n d)) in
    let ku : k ∣ u = dvd_of_mul-dvd-mul_left k positive (subst (λ x. x ∣ n * u) (sym whole) r.1.0) in
    let kd : k ∣ d = dvd_of_mul-dvd-mul_left k positive (subst (λ x. x ∣ n * d) (sym whole) r.1.1) in
    let hn : h ∣ n * g = subst (λ x. x ∣ n * g) whole (mul-dvd-mul_left k n (is.2 k ku kd)) in
    dvd_trans (u * d) all hn

-- one number by the greatest common divisor, times the other, divides each common multiple
pub divides_multiple : (u d g n : ℕ) → IsGcd u d g → 0 < g → u ∣ n → d ∣ n → (u / g) * d ∣ n
divides_multiple u d g zero is positive un dn = dvd-zero _
divides_multiple u d g (suc m) is positive un dn =
    let whole : u / g * d * g ≡ u * d = mul_right_comm (u / g) d g ∙ ap (λ x. x * d) (div-mul_cancel g is.0) in
    dvd_of_mul-dvd-mul_right (u / g * d) positive
    (subst (λ x. x ∣ suc m * g) (sym whole) (divides_scaled u d g (suc m) is (omega arith) un dn))

-- a product of positive numbers
positive_product : (a b : ℕ) → 0 < a → 0 < b → 0 < a * b
positive_product zero b ha hb = absurd (omega arith)
positive_product (suc a) zero ha hb = absurd (omega arith)
positive_product (suc a) (suc b) ha hb = omega arith

-- what divides a positive number
divisor_positive : (g u : ℕ) → g ∣ u → 0 < u → 0 < g
divisor_positive zero u h p = absurd (omega (arith, div-mul_cancel 0 h))
divisor_positive (suc g) u h p = omega arith

pub IsGcd-positive : (u d g : ℕ) → IsGcd u d g → 0 < u → 0 < g
IsGcd-positive u d g is p = divisor_positive g u is.0 p

quotient_positive : (q g u : ℕ) → q * g ≡ u → 0 < u → 0 < q
quotient_positive zero g u h p = absurd (omega (arith, h))
quotient_positive (suc q) g u h p = omega arith

-- that number is the least common multiple
pub IsLeastMultiple-from_gcd : (u d g : ℕ) → IsGcd u d g → 0 < u → 0 < d → IsLeastMultiple u d ((u / g) * d)
IsLeastMultiple-from_gcd u d g is pu pd =
    let positive = IsGcd-positive u d g is pu in
    let swapped : u / g * d ≡ u * (d / g) =
    ap (λ x. u / g * x) (sym (div-mul_cancel g is.1)) ∙ sym (mul_assoc (u / g) (d / g) g)
    ∙ mul_right_comm (u / g) (d / g) g
    ∙ ap (λ x. x * (d / g)) (div-mul_cancel g is.0)
    in
    record {
      positive = positive_product (u / g) d (quotient_positive (u / g) g u (div-mul_cancel g is.0) pu) pd;
      left = subst (λ x. u ∣ x) (sym swapped) (dvd-mul_right u (d / g));
      right = dvd-mul_left d (u / g);
      least = λ n un dn. divides_multiple u d g n is positive un dn;
    }
