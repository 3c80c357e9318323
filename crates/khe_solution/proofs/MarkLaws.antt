-- Rows of bits with marks.
use Rattle.std.proofs.Common.{ℕ, ◌≡◌, ◌/◌, ◌*◌, ◌%◌, Bool, true, false, cond, nat_eq, List, get_or, refl, sym, ap, ◌∙◌}
use Rattle.std.proofs.Common.{arith, inl, inr}
use Rattle.std.proofs.lemmas.Bool.{eqb-true, eq-eqb, cond_both, both_ways, cases_lt}
use Rattle.khe_base.specs.Bits.{is_set, has_bit}
use Rattle.khe_base.proofs.BitsLemmas.{has_bit-zero}
use Rattle.khe_solution.specs.Marks.{AreMarked}
use Rattle.khe_solution.specs.FreeBits.{AreClear}

-- in a word that is 0 no bit is set
zero_clear : (words : List ℕ) (k m : ℕ) → get_or words k 0 ≡ 0 → m / 64 ≡ k → is_set words m ≡ false
zero_clear words k m z e = ap (λ n. has_bit (get_or words n 0) (m % 64)) e ∙ ap (λ w. has_bit w (m % 64)) z
    ∙ has_bit-zero (m % 64)

yes : (t : Bool) → t ≡ true → t ≡ false → ⊥
yes t h k = both_ways t k h

pub marked_set : (words marks words2 marks2 : List ℕ) (n : ℕ) → AreMarked words marks
    → ((m : ℕ) → is_set words2 m ≡ cond (nat_eq m n) true (is_set words m))
    → ((m : ℕ) → is_set marks2 m ≡ cond (nat_eq m (n / 64)) true (is_set marks m)) → AreMarked words2 marks2
marked_set words marks words2 marks2 n a w k m h = at_test (nat_eq m n) refl
  where
    at_test : (t : Bool) → nat_eq m n ≡ t → is_set marks2 (m / 64) ≡ true
    at_test true e = k (m / 64) ∙ ap (λ b. cond b true (is_set marks (m / 64)))
        (eq-eqb (m / 64) (n / 64) (ap (λ x. x / 64) (eqb-true m n e)))
    at_test false e =
        let old : is_set marks (m / 64) ≡ true = a m (sym (w m ∙ ap (λ b. cond b true (is_set words m)) e) ∙ h) in
        k (m / 64) ∙ ap (λ b. cond (nat_eq (m / 64) (n / 64)) true b) old
        ∙ cond_both (nat_eq (m / 64) (n / 64)) true true (λ x. x ≡ true) (λ z. refl) (λ z. refl)

pub marked_clear : (words marks words2 : List ℕ) (n : ℕ) → AreMarked words marks
    → ((m : ℕ) → is_set words2 m ≡ cond (nat_eq m n) false (is_set words m)) → AreMarked words2 marks
marked_clear words marks words2 n a w m h = at_test (nat_eq m n) refl
  where
    at_test : (t : Bool) → nat_eq m n ≡ t → is_set marks (m / 64) ≡ true
    at_test true e = absurd (yes (is_set words2 m) h (w m ∙ ap (λ b. cond b false (is_set words m)) e))
    at_test false e = a m (sym (w m ∙ ap (λ b. cond b false (is_set words m)) e) ∙ h)

pub marked_zero : (words marks marks2 : List ℕ) (k : ℕ) → AreMarked words marks → get_or words k 0 ≡ 0
    → ((m : ℕ) → is_set marks2 m ≡ cond (nat_eq m k) false (is_set marks m)) → AreMarked words marks2
marked_zero words marks marks2 k a z w m h = at_test (nat_eq (m / 64) k) refl
  where
    at_test : (t : Bool) → nat_eq (m / 64) k ≡ t → is_set marks2 (m / 64) ≡ true
    at_test true e = absurd (yes (is_set words m) h (zero_clear words k m z (eqb-true (m / 64) k e)))
    at_test false e = w (m / 64) ∙ ap (λ b. cond b false (is_set marks (m / 64))) e ∙ a m h

-- a word that is not marked has no set bit
unmarked : (words marks : List ℕ) (m : ℕ) → AreMarked words marks → is_set marks (m / 64) ≡ false
    → is_set words m ≡ false
unmarked words marks m a h = at_value (is_set words m) refl
  where
    at_value : (t : Bool) → is_set words m ≡ t → t ≡ false
    at_value false e = refl
    at_value true e = absurd (yes (is_set marks (m / 64)) (a m e) h)

-- up to the next word that has its mark
pub gap_clear : (words marks : List ℕ) (from next word : ℕ) → AreMarked words marks → AreClear words from (64 * next)
    → AreClear marks next word → AreClear words from (64 * word)
gap_clear words marks from next word a c g m f l = elim (cases_lt m (64 * next)) [
  | inl b ↦ c m f b
  | inr b ↦ unmarked words marks m a (g (m / 64) (omega (arith, b)) (omega (arith, l)))
]

pub join_clear : (words : List ℕ) (from mid to : ℕ) → AreClear words from mid → AreClear words mid to
    → AreClear words from to
join_clear words from mid to a b m f l = elim (cases_lt m mid) [ inl h ↦ a m f h | inr h ↦ b m h l ]
