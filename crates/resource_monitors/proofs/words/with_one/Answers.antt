-- The bit of the place, or another.
use Rattle.std.proofs.Common.{ℕ, ◌≡◌, ◌<◌, ◌*◌, ◌%◌, ◌^◌, ◌∙◌, ◌⊎◌, inl, inr, true, cond, sym, ap, nat_eq}
use Rattle.std.proofs.Common.{bit_or}
use Rattle.std.specs.Int.{w64}
use Rattle.std.proofs.lemmas.Bool.{cases_eq, eq-eqb, ne_eqb}
use Rattle.std.proofs.lemmas.Nat.Bits.{bit_at_set_same, bit_at_set_other}
use Rattle.khe_base.specs.Bits.{has_bit}
use Rattle.resource_monitors.proofs.words.with_one.Goals as goal

bits : (n k i : ℕ) → k < 64 → i < 64 → has_bit (bit_or n (1 * 2 ^ k % 2 ^ 64)) i ≡ cond (nat_eq i k) true (has_bit n i)
bits n k i l m = by (cases_eq i k)
  where
    by : (i ≡ k) ⊎ (i ≡ k → ⊥) → has_bit (bit_or n (1 * 2 ^ k % 2 ^ 64)) i ≡ cond (nat_eq i k) true (has_bit n i)
    by (inl e) = ap (has_bit (bit_or n (1 * 2 ^ k % 2 ^ 64))) e ∙ ap (λ x. nat_eq x 1) (bit_at_set_same w64 n k l)
        ∙ sym (ap (λ b. cond b true (has_bit n i)) (eq-eqb i k e))
    by (inr apart) = ap (λ x. nat_eq x 1) (bit_at_set_other w64 n k l i apart)
        ∙ sym (ap (λ b. cond b true (has_bit n i)) (ne_eqb i k apart))

pub returns : goal.returns
returns c = λ i below. bits c.args.word c.args.place i c.requires below
