use Rattle.std.proofs.Common.{ℕ, ◌+◌, ◌*◌, ◌/◌, ◌%◌, ◌^◌, ◌<◌, ◌≤◌, ◌≡◌, ◌≢◌, ap, sym, ◌∙◌, arith, inl, inr, nat_eq}
use Rattle.std.proofs.Common.{eqb}
use Rattle.std.proofs.lemmas.Bool.{eq-eqb, ne_eqb}
use Rattle.std.proofs.lemmas.Nat.{one_shl}
use Rattle.std.proofs.lemmas.Nat.Bits.{bit_at-pow_same, bit_at-pow_other}
use Rattle.khe_base.specs.Bits.{has_bit}
use Rattle.demand_matching.specs.Domains.{is_picked}
use Rattle.demand_matching.proofs.Counting.{cases_eqb}
use Rattle.demand_matching.proofs.sets.Sets.word.Goals as goal

-- the word of one number
one_bit : (n k i : ℕ) → n / 64 ≡ k → i < 64 → has_bit (1 * 2 ^ (n % 64) % 2 ^ 64) i ≡ eqb n (64 * k + i)
one_bit n k i e h =
    let below : n % 64 < 64 = omega arith in
    ap (λ v. has_bit v i) (one_shl (n % 64) 64 below)
    ∙ elim (cases_eqb i (n % 64)) [
      | inl x ↦
          let same : n ≡ 64 * k + i = omega arith in
          ap (λ v. has_bit (2 ^ (n % 64)) v) x ∙ ap (λ v. nat_eq v 1) (bit_at-pow_same (n % 64))
          ∙ sym (eq-eqb n (64 * k + i) same)
      | inr x ↦
          let apart : n ≢ 64 * k + i = λ z. x (omega arith) in
          ap (λ v. nat_eq v 1) (bit_at-pow_other (n % 64) i x) ∙ sym (ne_eqb n (64 * k + i) apart)
    ]

pub returns-in-One : goal.returns-in-One
returns-in-One c =
    let low : c.in-One.n / 64 ≤ c.args.k = rw c.in-One.is at c.requires.first in
    let high : c.args.k < c.in-One.n / 64 + 1 = rw c.in-One.is at c.requires.end in
    λ i h. one_bit c.in-One.n c.args.k i (omega arith) h
    ∙ ap (λ p. is_picked c.args.self.now p (64 * c.args.k + i)) (sym c.in-One.is)
