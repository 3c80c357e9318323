-- Bits of words, and rows of bits.
use Rattle.std.proofs.Common.{◌≡◌, ◌≢◌, ◌∙◌, sym, ap, ap₂, refl, ℕ, ◌+◌, ◌-◌, ◌*◌, ◌/◌, ◌%◌, ◌^◌, ◌<◌, min, Bool, true}
use Rattle.std.proofs.Common.{false, not, ◌&&◌, cond, if◌then◌else◌, nat_eq, List, length, get_or, set, replicate}
use Rattle.std.proofs.Common.{arith, bit_and, zero, suc, ◌⊎◌, inl, inr}
use Rattle.std.specs.Int.{bit_at, bit_not, w64}
use Rattle.std.proofs.lemmas.Nat.Bits.{bit_at-lt, bit_at_and, bit_at_not, bit_at-zero}
use Rattle.std.proofs.lemmas.List.{get_or-set_same, get_or-set_other}
use Rattle.std.proofs.lemmas.Bool.Decides.{nat_tests}
use Rattle.khe_base.specs.Bits.{has_bit, is_set}

-- both of two bits, and one without the other
both_bits : (x y : ℕ) → x < 2 → y < 2 → nat_eq (min x y) 1 ≡ (nat_eq x 1 && nat_eq y 1)
both_bits x y hx hy = grind (arith, nat_tests)

other_bit : (x : ℕ) → x < 2 → nat_eq (1 - x) 1 ≡ not (nat_eq x 1)
other_bit x hx = grind (arith, nat_tests)

pub has_bit-and : (a b i : ℕ) → has_bit (bit_and a b) i ≡ (has_bit a i && has_bit b i)
has_bit-and a b i = ap (λ x. nat_eq x 1) (bit_at_and a b i)
    ∙ both_bits (bit_at a i) (bit_at b i) (bit_at-lt a i) (bit_at-lt b i)

pub has_bit-not : (a i : ℕ) → a < 2 ^ 64 → i < 64 → has_bit (bit_not w64 a) i ≡ not (has_bit a i)
has_bit-not a i small below = ap (λ x. nat_eq x 1) (bit_at_not w64 a i small below)
    ∙ other_bit (bit_at a i) (bit_at-lt a i)

-- a bit is the number 1 or 0
bit_number : (x : ℕ) → x < 2 → x ≡ cond (nat_eq x 1) 1 0
bit_number x h = grind (arith, nat_tests)

pub bit_at-has_bit : (w i : ℕ) → bit_at w i ≡ cond (has_bit w i) 1 0
bit_at-has_bit w i = bit_number (bit_at w i) (bit_at-lt w i)

-- the place of the number 64 k + i
pub word_place : (k i : ℕ) → i < 64 → (64 * k + i) / 64 ≡ k
word_place k i h = omega arith

pub bit_place : (k i : ℕ) → i < 64 → (64 * k + i) % 64 ≡ i
bit_place k i h = omega arith

pub is_set-place : (words : List ℕ) (k i : ℕ) → i < 64 → is_set words (64 * k + i) ≡ has_bit (get_or words k 0) i
is_set-place words k i h = ap₂ (λ x y. has_bit (get_or words x 0) y) (word_place k i h) (bit_place k i h)

module _ (words : List ℕ) (t d w : ℕ) (within : t / 64 < length words) where
  -- a word of the row is replaced by one in which only the bit of t may differ
  pub is_set-replaced : (b : Bool) → has_bit w (t % 64) ≡ b
      → ((i : ℕ) → i < 64 → i ≢ t % 64 → has_bit w i ≡ has_bit (get_or words (t / 64) 0) i)
      → (s : ℕ) → is_set (set words (t / 64) w) s ≡ (if nat_eq s t then b else is_set words s)
  is_set-replaced b here others s = by (nat_eq s t) refl
    where
      same_word : s / 64 ≡ t / 64 → is_set (set words (t / 64) w) s ≡ has_bit w (s % 64)
      same_word e = ap (λ x. has_bit x (s % 64)) (ap (λ k. get_or (set words (t / 64) w) k 0) e
          ∙ get_or-set_same words (t / 64) w 0 within)

      below : s % 64 < 64
      below = omega arith

      other : s ≢ t → (s / 64 ≡ t / 64) ⊎ (s / 64 ≢ t / 64) → is_set (set words (t / 64) w) s ≡ is_set words s
      other ne (inl e) =
          let apart : s % 64 ≢ t % 64 = λ f. ne (omega (arith, e, f)) in
          same_word e ∙ others (s % 64) below apart ∙ ap (λ k. has_bit (get_or words k 0) (s % 64)) (sym e)
      other ne (inr e) = ap (λ x. has_bit x (s % 64)) (get_or-set_other words (t / 64) (s / 64) w 0 e)

      by : (c : Bool) → nat_eq s t ≡ c → is_set (set words (t / 64) w) s ≡ (if c then b else is_set words s)
      by true e = let st : s ≡ t = grind (arith, nat_tests) in
          same_word (ap (λ x. x / 64) st) ∙ ap (λ x. has_bit w (x % 64)) st ∙ here
      by false e = let ne : s ≢ t = grind (arith, nat_tests) in other ne (grind arith)

-- words of 0 have no bit set
pub has_bit-zero : (i : ℕ) → has_bit 0 i ≡ false
has_bit-zero i = ap (λ b. nat_eq b 1) (bit_at-zero i)

zeros_read : (n k : ℕ) → get_or {A = ℕ} (replicate n 0) k 0 ≡ 0
zeros_read zero k = refl
zeros_read (suc n) zero = refl
zeros_read (suc n) (suc k) = zeros_read n k

pub is_set-zeros : (n t : ℕ) → is_set (replicate n 0) t ≡ false
is_set-zeros n t = ap (λ w. has_bit w (t % 64)) (zeros_read n (t / 64)) ∙ has_bit-zero (t % 64)
