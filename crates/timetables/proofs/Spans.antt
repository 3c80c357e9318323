-- The busy members of a set, from the first to the last.
use Rattle.std.proofs.Common.{◌≡◌, ◌∙◌, sym, ap, subst, ℕ, ◌+◌, ◌-◌, ◌*◌, ◌%◌, ◌/◌, ◌^◌, ◌<◌, ◌≤◌, Bool, true, false}
use Rattle.std.proofs.Common.{nat_eq, arith, count_ones, suc, Option, Some, None, ◌⊎◌, inl, inr, IsSomeAnd, MatchOption}
use Rattle.std.proofs.Common.{le-div_iff_mul-le, div-lt_iff_lt-mul, lt_of_lt_of_le, lt_of_le_of_lt, pow-suc, mul_comm}
use Rattle.std.specs.Int.{bit_at, w64, trailing_zeros, leading_zeros}
use Rattle.std.proofs.lemmas.Nat.{pow_pos, leading_top}
use Rattle.std.proofs.lemmas.Nat.Bits.{bit_at-trailing_zeros, bit_at_above, bit_at-zero}
use Rattle.khe_base.specs.Bits.{has_bit}
use Rattle.timetables.specs.declared.masks.Span.{Span}
use Rattle.khe_base.specs.Busy.{count_below}
use Rattle.timetables.proofs.CountsLemmas.{count_ones-bits}

one_not_zero : suc 0 ≡ 0 → ⊥
one_not_zero e = absurd (omega (arith, e))

-- the highest bit of a number
pub top_bit : (a j : ℕ) → 2 ^ j ≤ a → a < 2 ^ suc j → bit_at a j ≡ 1
top_bit a j low high =
    let one : 1 ≤ a / 2 ^ j = (le-div_iff_mul-le (pow_pos j)).1 (omega arith) in
    let two : a / 2 ^ j < 2 = (div-lt_iff_lt-mul (pow_pos j)).1
    (subst (λ x. a < x) (pow-suc 2 j ∙ mul_comm (2 ^ j) 2) high) in
    omega arith

-- the lowest bit of a word is not above the highest
pub low_high : (b : ℕ) → 0 < b → b < 2 ^ 64 → trailing_zeros w64 b ≤ 63 - leading_zeros w64 b
low_high b pos small =
    let t = bit_at-trailing_zeros w64 b pos small in
    let l = leading_top 64 b pos small in
    let place : leading_zeros w64 b + suc l.0 ≡ 64 = l.1 in
    let e : 63 - leading_zeros w64 b ≡ l.0 = omega arith in
    subst (λ n. trailing_zeros w64 b ≤ n) (sym e)
    (ordered (trailing_zeros w64 b) l.0 (top_bit b l.0 l.2 l.3) t.2 (grind arith))
  where
    ordered : (low j : ℕ) → bit_at b j ≡ 1 → ((i : ℕ) → i < low → bit_at b i ≡ 0) → (low ≤ j) ⊎ (j < low) → low ≤ j
    ordered low j set least (inl h) = h
    ordered low j set least (inr h) = let z : bit_at b j ≡ 0 = least j h in absurd (one_not_zero (sym set ∙ z))

module _ (busy free : ℕ → Bool) where
  -- the first and the last busy number below n, and how many free ones stand before each
  pub record HasEnds (n before_first before_last : ℕ) : Type 0 where
    pub first : ℕ
    pub last : ℕ
    pub ordered : first ≤ last
    pub below : last < n
    pub at_first : busy first ≡ true
    pub at_last : busy last ≡ true
    pub none_before : (t : ℕ) → t < first → busy t ≡ false
    pub none_after : (t : ℕ) → last < t → t < n → busy t ≡ false
    pub first_is : before_first ≡ count_below free first
    pub last_is : before_last ≡ count_below free last

  abbrev pub IsSpan : ℕ → Option Span → Type 0
  IsSpan n None = (t : ℕ) → t < n → busy t ≡ false
  IsSpan n (Some s) = HasEnds n s.before_first s.before_last

  later : (n m : ℕ) → n ≤ m → ((t : ℕ) → n ≤ t → t < m → busy t ≡ false) → (span : Option Span) → IsSpan n span
      → IsSpan m span
  later n m le none None is = λ t h. by t h (grind arith)
    where
      by : (t : ℕ) → t < m → (t < n) ⊎ (n ≤ t) → busy t ≡ false
      by t h (inl low) = is t low
      by t h (inr high) = none t high h
  later n m le none (Some s) is = record {
    first = is.first;
    last = is.last;
    ordered = is.ordered;
    below = lt_of_lt_of_le is.below le;
    at_first = is.at_first;
    at_last = is.at_last;
    none_before = is.none_before;
    none_after = λ t low high. by t low high (grind arith);
    first_is = is.first_is;
    last_is = is.last_is;
  }
    where
      by : (t : ℕ) → is.last < t → t < m → (t < n) ⊎ (n ≤ t) → busy t ≡ false
      by t low high (inl h) = is.none_after t low h
      by t low high (inr h) = none t h high

  module _ (k b f unbusy : ℕ) (bits : (i : ℕ) → i < 64 → has_bit b i ≡ busy (64 * k + i))
      (frees : (i : ℕ) → i < 64 → has_bit f i ≡ free (64 * k + i))
      (counted : unbusy ≡ count_below free (64 * k)) where
    at : (t : ℕ) → 64 * k ≤ t → t < 64 * (k + 1) → busy t ≡ has_bit b (t - 64 * k)
    at t low high = let e : 64 * k + (t - 64 * k) ≡ t = omega arith in
        ap busy (sym e) ∙ sym (bits (t - 64 * k) (omega arith))

    part : (n : ℕ) → n < 64 → unbusy + count_ones (f % 2 ^ n) ≡ count_below free (64 * k + n)
    part n h = ap (λ x. x + count_ones (f % 2 ^ n)) counted
        ∙ sym (count_ones-bits free f (64 * k) n (λ i l. frees i (omega arith)))

    -- a word with no busy time
    unmet : b ≡ 0 → (span : Option Span) → IsSpan (64 * k) span → IsSpan (64 * (k + 1)) span
    unmet z span is =
        later (64 * k) (64 * (k + 1)) (omega arith)
        (λ t low high. at t low high ∙ ap (λ x. has_bit x (t - 64 * k)) z
        ∙ ap (λ x. nat_eq x 1) (bit_at-zero (t - 64 * k))) span is

    module _ (low j : ℕ) (low_in : low < 64) (low_set : bit_at b low ≡ 1)
        (low_least : (i : ℕ) → i < low → bit_at b i ≡ 0)
        (j_in : j < 64) (j_set : bit_at b j ≡ 1) (j_greatest : (i : ℕ) → j < i → bit_at b i ≡ 0) where
      ends_ordered : (low ≤ j) ⊎ (j < low) → low ≤ j
      ends_ordered (inl h) = h
      ends_ordered (inr h) = let z : bit_at b j ≡ 0 = low_least j h in absurd (one_not_zero (sym j_set ∙ z))

      after_last : (t : ℕ) → 64 * k + j < t → t < 64 * (k + 1) → busy t ≡ false
      after_last t lo hi = at t (omega arith) hi ∙ ap (λ x. nat_eq x 1) (j_greatest (t - 64 * k) (omega arith))

      -- the first word with a busy time
      fresh : (s : Span) → ((t : ℕ) → t < 64 * k → busy t ≡ false)
          → s.before_first ≡ unbusy + count_ones (f % 2 ^ low) → s.before_last ≡ unbusy + count_ones (f % 2 ^ j)
          → HasEnds (64 * (k + 1)) s.before_first s.before_last
      fresh s none first_is last_is =
          let order : low ≤ j = ends_ordered (grind arith) in
          record {
            first = 64 * k + low;
            last = 64 * k + j;
            ordered = omega arith;
            below = omega arith;
            at_first = sym (bits low low_in) ∙ ap (λ x. nat_eq x 1) low_set;
            at_last = sym (bits j j_in) ∙ ap (λ x. nat_eq x 1) j_set;
            none_before = λ t h. by t h (grind arith);
            none_after = after_last;
            first_is = first_is ∙ part low low_in;
            last_is = last_is ∙ part j j_in;
          }
        where
          by : (t : ℕ) → t < 64 * k + low → (t < 64 * k) ⊎ (64 * k ≤ t) → busy t ≡ false
          by t h (inl l) = none t l
          by t h (inr l) = at t l (omega arith) ∙ ap (λ x. nat_eq x 1) (low_least (t - 64 * k) (omega arith))

      -- a later word with a busy time
      longer : (o s : Span) → HasEnds (64 * k) o.before_first o.before_last
          → s.before_first ≡ o.before_first → s.before_last ≡ unbusy + count_ones (f % 2 ^ j)
          → HasEnds (64 * (k + 1)) s.before_first s.before_last
      longer o s is first_is last_is =
          let old : is.first < 64 * k = lt_of_le_of_lt is.ordered is.below in
          record {
            first = is.first;
            last = 64 * k + j;
            ordered = omega arith;
            below = omega arith;
            at_first = is.at_first;
            at_last = sym (bits j j_in) ∙ ap (λ x. nat_eq x 1) j_set;
            none_before = is.none_before;
            none_after = after_last;
            first_is = first_is ∙ is.first_is;
            last_is = last_is ∙ part j j_in;
          }

      met : (span new : Option Span)
          → MatchOption span (IsSomeAnd new (λ s. s.before_first ≡ unbusy + count_ones (f % 2 ^ low)))
          (λ old. IsSomeAnd new (λ s. s.before_first ≡ old.before_first))
          → IsSomeAnd new (λ s. s.before_last ≡ unbusy + count_ones (f % 2 ^ j))
          → IsSpan (64 * k) span → IsSpan (64 * (k + 1)) new
      met None None first last is = absurd last
      met None (Some s) first last is = fresh s is first last
      met (Some o) None first last is = absurd last
      met (Some o) (Some s) first last is = longer o s is first last

    -- the span with one more word
    pub IsSpan-widened : (span new : Option Span) → b < 2 ^ 64
        → (b ≡ 0 → new ≡ span)
        → (0 < b → MatchOption span (IsSomeAnd new (λ s. s.before_first
        ≡ unbusy + count_ones (f % 2 ^ trailing_zeros w64 b)))
        (λ old. IsSomeAnd new (λ s. s.before_first ≡ old.before_first)))
        → (0 < b → IsSomeAnd new (λ s. s.before_last ≡ unbusy + count_ones (f % 2 ^ (63 - leading_zeros w64 b))))
        → IsSpan (64 * k) span → IsSpan (64 * (k + 1)) new
    IsSpan-widened span new small same first last is = by (grind arith)
      where
        by : (b ≡ 0) ⊎ (0 < b) → IsSpan (64 * (k + 1)) new
        by (inl z) = subst (λ s. IsSpan (64 * (k + 1)) s) (sym (same z)) (unmet z span is)
        by (inr pos) =
            let t = bit_at-trailing_zeros w64 b pos small in
            let l = leading_top 64 b pos small in
            let place : leading_zeros w64 b + suc l.0 ≡ 64 = l.1 in
            let e : 63 - leading_zeros w64 b ≡ l.0 = omega arith in
            let in_word : l.0 < 64 = omega arith in
            met (trailing_zeros w64 b) l.0 t.0 t.1 t.2 in_word (top_bit b l.0 l.2 l.3)
            (λ i h. bit_at_above b (suc l.0) i l.3 (omega arith)) span new (first pos)
            (subst (λ n. IsSomeAnd new (λ s. s.before_last ≡ unbusy + count_ones (f % 2 ^ n))) e (last pos)) is
