-- The 64 bits of a row of words that begin at one of them.
use Rattle.std.proofs.Common.{ℕ, ◌+◌, ◌-◌, ◌*◌, ◌/◌, ◌%◌, ◌^◌, ◌<◌, ◌≤◌, ◌≡◌, List, get_or, sym, ap, ap₂, ◌∙◌, arith}
use Rattle.std.proofs.Common.{inl, inr, bit_and, nat_eq, mod-eq_of_lt}
use Rattle.std.specs.Prelude.{bit_or}
use Rattle.std.specs.Int.{bit_at}
use Rattle.std.proofs.lemmas.Bool.{cases_lt}
use Rattle.std.proofs.lemmas.Nat.{and_mask, or_shifted, shr-shr, div-add-mod'}
use Rattle.std.proofs.lemmas.Nat.Bits.{bit_at_cat_low, bit_at_cat_high}
use Rattle.khe_base.specs.Bits.{has_bit, is_set}

-- two words as one number
joined : (low high : ℕ) → low < 2 ^ 64 → high < 2 ^ 64 → bit_or (high * 2 ^ 64 % 2 ^ 128) low ≡ high * 2 ^ 64 + low
joined low high l h =
    let fits : high * 2 ^ 64 < 2 ^ 128 = omega arith in
    ap (λ n. bit_or n low) (mod-eq_of_lt fits) ∙ or_shifted high 64 low l

-- a bit of the lowest 64
low_bit : (n i : ℕ) → i < 64 → bit_at (bit_and n (2 ^ 64 - 1)) i ≡ bit_at n i
low_bit n i h =
    ap (λ m. bit_at m i) (and_mask n 64) ∙ sym (bit_at_cat_low (n / 2 ^ 64) 64 (n % 2 ^ 64) i h)
    ∙ ap (λ m. bit_at m i) (div-add-mod' n (2 ^ 64))

-- a bit of a number that is moved down
moved_bit : (n b i : ℕ) → bit_at (n / 2 ^ b) i ≡ bit_at n (b + i)
moved_bit n b i = ap (λ m. m % 2) (shr-shr n b i)

window_bit : (low high b i : ℕ) → low < 2 ^ 64 → high < 2 ^ 64 → i < 64
    → bit_at (bit_and (bit_or (high * 2 ^ 64 % 2 ^ 128) low / 2 ^ b) (2 ^ 64 - 1)) i
    ≡ bit_at (high * 2 ^ 64 + low) (b + i)
window_bit low high b i l h m =
    low_bit (bit_or (high * 2 ^ 64 % 2 ^ 128) low / 2 ^ b) i m ∙ moved_bit (bit_or (high * 2 ^ 64 % 2 ^ 128) low) b i
    ∙ ap (λ n. bit_at n (b + i)) (joined low high l h)

pub window_is : (bits : List ℕ) (from i low high : ℕ) → low ≡ get_or bits (from / 64) 0
    → high ≡ get_or bits (from / 64 + 1) 0 → low < 2 ^ 64 → high < 2 ^ 64 → i < 64
    → has_bit (bit_and (bit_or (high * 2 ^ 64 % 2 ^ 128) low / 2 ^ (from % 64)) (2 ^ 64 - 1)) i ≡ is_set bits (from + i)
window_is bits from i low high el eh l h m =
    let b : ℕ = from % 64 in
    ap (λ n. nat_eq n 1) (window_bit low high b i l h m)
    ∙ elim (cases_lt (b + i) 64) [
      | inl x ↦
          let k : from / 64 ≡ (from + i) / 64 = omega arith in
          let j : b + i ≡ (from + i) % 64 = omega arith in
          ap (λ n. nat_eq n 1) (bit_at_cat_low high 64 low (b + i) x)
          ∙ ap₂ (λ w n. has_bit w n) (el ∙ ap (λ n. get_or bits n 0) k) j
      | inr x ↦
          let far : 64 ≤ b + i = omega arith in
          let k : from / 64 + 1 ≡ (from + i) / 64 = omega arith in
          let j : b + i - 64 ≡ (from + i) % 64 = omega arith in
          ap (λ n. nat_eq n 1) (bit_at_cat_high high 64 low (b + i) l far)
          ∙ ap₂ (λ w n. has_bit w n) (eh ∙ ap (λ n. get_or bits n 0) k) j
    ]
