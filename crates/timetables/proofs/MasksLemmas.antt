-- Sets of times as rows of bits.
use Rattle.std.proofs.Common.{◌≡◌, ◌∙◌, sym, ap, ap₂, subst, ℕ, ◌+◌, ◌*◌, ◌^◌, ◌<◌, ◌≤◌, Bool, false, not, ◌&&◌, List}
use Rattle.std.proofs.Common.{length, get_or, arith, count_ones, bit_and, ◌⊎◌, inl, inr, mod-eq_of_lt, lt_of_le_of_lt}
use Rattle.std.proofs.Common.{subst₂, true≢false, refl, ◌-◌, ◌%◌, Option, Some, None, IsSomeAnd}
use Rattle.std.specs.Int.{bit_not, leading_zeros, trailing_zeros, w64}
use Rattle.std.proofs.lemmas.Nat.{and_le_l}
use Rattle.khe_base.specs.Bits.{has_bit, is_set}
use Rattle.khe_base.specs.IdSet.{has_member}
use Rattle.khe_base.specs.StoredSets.{set_of_bits}
use Rattle.khe_base.proofs.BitsLemmas.{has_bit-and, has_bit-not, is_set-place}
use Rattle.khe_base.proofs.IdSetLemmas.{length-set_of_bits, has_member-set_of_bits}
use Rattle.khe_base.specs.Busy.{count_below, is_idle_time}
use Rattle.timetables.specs.Stored.{IsWithin}
use Rattle.timetables.proofs.CountsLemmas.{count_ones-bits, count_below-ends, count_below-grows, count_below-stays}
use Rattle.timetables.proofs.CountsLemmas.{idle-none, idle-between}
use Rattle.timetables.proofs.Spans.{HasEnds, IsSpan, IsSpan-widened}
use Rattle.timetables.specs.declared.masks.Span.{Span}

module _ (words row : List ℕ) (k : ℕ) where
  -- one more word of members whose bits are set in the row
  pub common-more : get_or words k 0 < 2 ^ 64
      → count_below (λ t. is_set words t && is_set row t) (64 * (k + 1))
      ≡ count_below (λ t. is_set words t && is_set row t) (64 * k) + count_ones
      (bit_and (get_or words k 0) (get_or row k 0))
  common-more small =
      let a = get_or words k 0 in
      let b = get_or row k 0 in
      let w = bit_and a b in
      let p = λ (t : ℕ). is_set words t && is_set row t in
      let less : w ≤ a = and_le_l a b in
      let fits : w < 2 ^ 64 = omega arith in
      let e : 64 * k + 64 ≡ 64 * (k + 1) = omega arith in
      ap (count_below p) (sym e)
      ∙ count_ones-bits p w (64 * k) 64 (λ i h. has_bit-and a b i
      ∙ ap₂ (λ x y. x && y) (sym (is_set-place words k i h)) (sym (is_set-place row k i h)))
      ∙ ap (λ x. count_below p (64 * k) + count_ones x) (mod-eq_of_lt fits)

  pub common-bits : (i : ℕ) → i < 64 → has_bit (bit_and (get_or words k 0) (get_or row k 0)) i
      ≡ (is_set words (64 * k + i) && is_set row (64 * k + i))
  common-bits i h = has_bit-and (get_or words k 0) (get_or row k 0) i
      ∙ ap₂ (λ x y. x && y) (sym (is_set-place words k i h)) (sym (is_set-place row k i h))

  pub free-bits : get_or row k 0 < 2 ^ 64 → (i : ℕ) → i < 64
      → has_bit (bit_and (get_or words k 0) (bit_not w64 (get_or row k 0))) i
      ≡ (is_set words (64 * k + i) && not (is_set row (64 * k + i)))
  free-bits small i h =
      has_bit-and (get_or words k 0) (bit_not w64 (get_or row k 0)) i
      ∙ ap₂ (λ x y. x && y) (sym (is_set-place words k i h))
      (has_bit-not (get_or row k 0) i small h ∙ ap not (sym (is_set-place row k i h)))

  -- one more word of members whose bits are not set in the row
  pub free-more : get_or words k 0 < 2 ^ 64 → get_or row k 0 < 2 ^ 64
      → count_below (λ t. is_set words t && not (is_set row t)) (64 * (k + 1))
      ≡ count_below (λ t. is_set words t && not (is_set row t)) (64 * k) + count_ones
      (bit_and (get_or words k 0) (bit_not w64 (get_or row k 0)))
  free-more small small_row =
      let a = get_or words k 0 in
      let b = get_or row k 0 in
      let w = bit_and a (bit_not w64 b) in
      let p = λ (t : ℕ). is_set words t && not (is_set row t) in
      let less : w ≤ a = and_le_l a (bit_not w64 b) in
      let fits : w < 2 ^ 64 = lt_of_le_of_lt less small in
      let e : 64 * k + 64 ≡ 64 * (k + 1) = omega arith in
      ap (count_below p) (sym e)
      ∙ count_ones-bits p w (64 * k) 64 (λ i h. free-bits small_row i h)
      ∙ ap (λ x. count_below p (64 * k) + count_ones x) (mod-eq_of_lt fits)

module _ (words row : List ℕ) (first end size : ℕ) (is : IsWithin words first end size) where
  -- no bit of a member is common before the first word, nor from the end on
  pub no_common-before : (t : ℕ) → t < 64 * first → (is_set words t && is_set row t) ≡ false
  no_common-before t h = ap (λ b. b && is_set row t) (is.before t h)

  pub no_free-before : (t : ℕ) → t < 64 * first → (is_set words t && not (is_set row t)) ≡ false
  no_free-before t h = ap (λ b. b && not (is_set row t)) (is.before t h)

  pub no_common-after : (k : ℕ) → end ≤ k → (t : ℕ) → 64 * k ≤ t → (is_set words t && is_set row t) ≡ false
  no_common-after k over t h = let high : 64 * end ≤ t = omega arith in ap (λ b. b && is_set row t) (is.after t high)

  pub no_common-beyond : (t : ℕ) → size ≤ t → (is_set words t && is_set row t) ≡ false
  no_common-beyond t h = ap (λ b. b && is_set row t) (is.beyond t h)

  pub no_free-beyond : (t : ℕ) → size ≤ t → (is_set words t && not (is_set row t)) ≡ false
  no_free-beyond t h = ap (λ b. b && not (is_set row t)) (is.beyond t h)

  -- so what is counted before the end is counted in all
  pub common-whole : (now : List Bool) (k : ℕ) → set_of_bits words size ≡ now → end ≤ k
      → count_below (λ t. is_set words t && is_set row t) (64 * k)
      ≡ count_below (λ t. has_member now t && is_set row t) (length now)
  common-whole now k e over =
      let p = λ (t : ℕ). is_set words t && is_set row t in
      let ends : count_below p (64 * k) ≡ count_below p size =
      count_below-ends p (64 * k) size (no_common-after k over) no_common-beyond in
      let set = set_of_bits words size in
      let alike : count_below p size ≡ count_below (λ t. has_member set t && is_set row t) (length set) =
      sym (λ i. count_below (λ t. has_member-set_of_bits words size is.beyond t i && is_set row t)
      (length-set_of_bits words size i))
      in
      subst (λ (v : List Bool). count_below p (64 * k) ≡ count_below (λ t. has_member v t && is_set row t) (length v)) e
      (ends ∙ alike)

  -- what holds of the bits below the size holds of the set
  moved : (now : List Bool) → set_of_bits words size ≡ now → (Q : (ℕ → Bool) → ℕ → Type 0) → Q (is_set words) size
      → Q (has_member now) (length now)
  moved now e Q q =
      let set = set_of_bits words size in
      let same : has_member set ≡ is_set words = λ i t. has_member-set_of_bits words size is.beyond t i in
      subst (λ v. Q (has_member v) (length v)) e (subst₂ Q (sym same) (sym (length-set_of_bits words size)) q)

  no_common : (k : ℕ) → end ≤ k → ((t : ℕ) → t < 64 * k → (is_set words t && is_set row t) ≡ false) → (t : ℕ)
      → (is_set words t && is_set row t) ≡ false
  no_common k over none t = by (grind arith)
    where
      by : (t < 64 * k) ⊎ (64 * k ≤ t) → (is_set words t && is_set row t) ≡ false
      by (inl h) = none t h
      by (inr h) = no_common-after k over t h

  -- where no member is busy, none is idle
  pub idle-nowhere : (now : List Bool) (k : ℕ) → set_of_bits words size ≡ now → end ≤ k
      → ((t : ℕ) → t < 64 * k → (is_set words t && is_set row t) ≡ false)
      → 0 ≡ count_below (is_idle_time (has_member now) (is_set row) (length now)) (length now)
  idle-nowhere now k e over none =
      moved now e (λ m n. 0 ≡ count_below (is_idle_time m (is_set row) n) n)
      (sym (idle-none (is_set words) (is_set row) size (no_common k over none)))

  -- else the idle times are the free ones between the ends
  pub idle-ends : (now : List Bool) (k before_first before_last : ℕ) → set_of_bits words size ≡ now → end ≤ k
      → HasEnds (λ t. is_set words t && is_set row t) (λ t. is_set words t && not (is_set row t)) (64 * k) before_first
      before_last
      → count_below (is_idle_time (has_member now) (is_set row) (length now)) (length now) + before_first ≡ before_last
  idle-ends now k before_first before_last e over ends =
      let counted = idle-between (is_set words) (is_set row) size ends.first ends.last ends.at_first ends.at_last
      ends.ordered (within (grind arith)) ends.none_before (λ t h. after t h (grind arith)) in
      moved now e (λ m n. count_below (is_idle_time m (is_set row) n) n + before_first ≡ before_last)
      (ap (λ n. count_below (is_idle_time (is_set words) (is_set row) size) size + n) ends.first_is ∙ counted
      ∙ sym ends.last_is)
    where
      within : (ends.last < size) ⊎ (size ≤ ends.last) → ends.last < size
      within (inl h) = h
      within (inr h) = absurd (true≢false (sym ends.at_last ∙ no_common-beyond ends.last h))

      after : (t : ℕ) → ends.last < t → (t < 64 * k) ⊎ (64 * k ≤ t) → (is_set words t && is_set row t) ≡ false
      after t h (inl low) = ends.none_after t h low
      after t h (inr high) = no_common-after k over t high

  -- one word with a common bit is enough
  pub common-some : (now : List Bool) (k : ℕ) → set_of_bits words size ≡ now → k < end
      → 0 < count_below (λ t. is_set words t && is_set row t) (64 * (k + 1))
      → 0 < count_below (λ t. has_member now t && is_set row t) (length now)
  common-some now k e l pos =
      let p = λ (t : ℕ). is_set words t && is_set row t in
      let at : 64 * (k + 1) + (64 * end - 64 * (k + 1)) ≡ 64 * end = omega arith in
      let grows : count_below p (64 * (k + 1)) ≤ count_below p (64 * end) =
      subst (λ n. count_below p (64 * (k + 1)) ≤ count_below p n) at
      (count_below-grows p (64 * (k + 1)) (64 * end - 64 * (k + 1))) in
      let whole : count_below p (64 * end) ≡ count_below (λ t. has_member now t && is_set row t) (length now) =
      common-whole now end e (omega arith) in
      omega arith

  -- the idle times of a set in one word
  pub idle-in_word : (now : List Bool) (r : ℕ) → set_of_bits words size ≡ now → end ≡ first + 1
      → get_or words first 0 < 2 ^ 64 → get_or row first 0 < 2 ^ 64
      → (bit_and (get_or words first 0) (get_or row first 0) ≡ 0 → r ≡ 0)
      → (0 < bit_and (get_or words first 0) (get_or row first 0)
      → count_ones (bit_and (get_or words first 0) (bit_not w64 (get_or row first 0))
      % 2 ^ trailing_zeros w64 (bit_and (get_or words first 0) (get_or row first 0))) + r
      ≡ count_ones (bit_and (get_or words first 0) (bit_not w64 (get_or row first 0))
      % 2 ^ (63 - leading_zeros w64 (bit_and (get_or words first 0) (get_or row first 0)))))
      → r ≡ count_below (is_idle_time (has_member now) (is_set row) (length now)) (length now)
  idle-in_word now r e one small small_row none some = by (grind arith)
    where
      b : ℕ
      b = bit_and (get_or words first 0) (get_or row first 0)

      f : ℕ
      f = bit_and (get_or words first 0) (bit_not w64 (get_or row first 0))

      low : ℕ
      low = count_ones (f % 2 ^ trailing_zeros w64 b)

      high : ℕ
      high = count_ones (f % 2 ^ (63 - leading_zeros w64 b))

      fits : b < 2 ^ 64
      fits = lt_of_le_of_lt (and_le_l (get_or words first 0) (get_or row first 0)) small

      span : (new : Option Span) → (b ≡ 0 → new ≡ None)
          → (0 < b → IsSomeAnd new (λ s. s.before_first ≡ 0 + low))
          → (0 < b → IsSomeAnd new (λ s. s.before_last ≡ 0 + high))
          → IsSpan (λ t. is_set words t && is_set row t) (λ t. is_set words t && not (is_set row t)) (64 * (first + 1))
          new
      span new zero lows highs =
          IsSpan-widened (λ t. is_set words t && is_set row t) (λ t. is_set words t && not (is_set row t)) first b f 0
          (common-bits words row first) (free-bits words row first small_row)
          (sym (count_below-stays (λ t. is_set words t && not (is_set row t)) 0 (64 * first) (omega arith)
          (λ t l h. no_free-before t h))) None new fits zero lows highs (λ t h. no_common-before t h)

      over : end ≤ first + 1
      over = omega (arith, one)

      by : (b ≡ 0) ⊎ (0 < b) → r ≡ count_below (is_idle_time (has_member now) (is_set row) (length now)) (length now)
      by (inl z) = none z ∙ idle-nowhere now (first + 1) e over
          (span None (λ h. refl) (λ h. absurd (let n = z in omega (arith, n, h)))
          (λ h. absurd (let n = z in omega (arith, n, h))))
      by (inr pos) =
          let ends = idle-ends now (first + 1) (0 + low) (0 + high) e over
          (span (Some (record { before_first = 0 + low; before_last = 0 + high })) (λ z. absurd (omega (arith, z, pos)))
          (λ h. refl) (λ h. refl)) in
          let is : low + r ≡ high = some pos in
          omega (arith, ends, is)
