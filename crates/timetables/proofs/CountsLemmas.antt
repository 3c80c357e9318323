-- How many numbers below a bound pass a test, and the idle times among members.
use Rattle.std.proofs.Common.{◌≡◌, ◌∙◌, sym, ap, ap₂, subst, refl, ℕ, ◌+◌, ◌-◌, ◌*◌, ◌%◌, ◌/◌, ◌^◌, ◌<◌, ◌≤◌, Bool}
use Rattle.std.proofs.Common.{true, false, not, ◌&&◌, ◌||◌, cond, length, get_or, arith, count_ones, count_by, zero}
use Rattle.std.proofs.Common.{suc, add-zero, ◌⊎◌, inl, inr, mod-lt, add-sub_of_le, true≢false}
use Rattle.std.specs.Int.{bit_at}
use Rattle.std.specs.List.{range_with_len, list_any}
use Rattle.std.specs.Int.Count.{ones}
use Rattle.std.proofs.lemmas.List.Sums.{sum_by_push, count_by-le-length}
use Rattle.std.proofs.lemmas.List.FromFn.{length-range_with_len, get_or-range_with_len}
use Rattle.std.proofs.lemmas.List.Folds.{list_any_at}
use Rattle.std.proofs.lemmas.Nat.{pow_pos, mod-pow-add, ones_cat, shr_split}
use Rattle.std.proofs.Math.Pow.{mod-mod-pow}
use Rattle.khe_base.specs.Bits.{has_bit}
use Rattle.khe_base.proofs.BitsLemmas.{bit_at-has_bit}
use Rattle.khe_base.proofs.ListLemmas.{range_more}
use Rattle.khe_base.specs.Busy.{count_below, any_between, is_idle_time}

abbrev pub one_if : Bool → ℕ
one_if b = cond b 1 0

pub count_below-more : (p : ℕ → Bool) (n : ℕ) → count_below p (n + 1) ≡ count_below p n + one_if (p n)
count_below-more p n = ap (count_by p) (range_more n) ∙ sum_by_push (λ x. one_if (p x)) (range_with_len 0 n) n

-- where two tests agree, both counts grow alike
pub count_below-alike : (p q : ℕ → Bool) (a n : ℕ) → ((i : ℕ) → i < n → p (a + i) ≡ q (a + i))
    → count_below p (a + n) + count_below q a ≡ count_below q (a + n) + count_below p a
count_below-alike p q a zero same = rw (add-zero a) (omega arith)
count_below-alike p q a (suc n) same =
    let more : count_below p (a + n) + count_below q a ≡ count_below q (a + n) + count_below p a =
    count_below-alike p q a n (λ i h. same i (omega arith)) in
    let e : a + suc n ≡ a + n + 1 = omega arith in
    let here : one_if (p (a + n)) ≡ one_if (q (a + n)) = ap one_if (same n (omega arith)) in
    let cp : count_below p (a + n + 1) ≡ count_below p (a + n) + one_if (p (a + n)) = count_below-more p (a + n) in
    let cq : count_below q (a + n + 1) ≡ count_below q (a + n) + one_if (q (a + n)) = count_below-more q (a + n) in
    rw e (omega arith)

-- where no number passes, the count stays
pub count_below-none : (p : ℕ → Bool) (a n : ℕ) → ((i : ℕ) → i < n → p (a + i) ≡ false)
    → count_below p (a + n) ≡ count_below p a
count_below-none p a zero none = let e : a + 0 ≡ a = omega arith in ap (count_below p) e
count_below-none p a (suc n) none =
    let e : a + suc n ≡ a + n + 1 = omega arith in
    let here : one_if (p (a + n)) ≡ 0 = ap one_if (none n (omega arith)) in
    let cp : count_below p (a + n + 1) ≡ count_below p (a + n) + one_if (p (a + n)) = count_below-more p (a + n) in
    let less : count_below p (a + n) ≡ count_below p a = count_below-none p a n (λ i h. none i (omega arith)) in
    rw e (omega arith)

-- the same, from one bound to another
pub count_below-stays : (p : ℕ → Bool) (a b : ℕ) → a ≤ b → ((t : ℕ) → a ≤ t → t < b → p t ≡ false)
    → count_below p b ≡ count_below p a
count_below-stays p a b le none =
    let e : a + (b - a) ≡ b = omega arith in
    ap (count_below p) (sym e) ∙ count_below-none p a (b - a) (λ i h. none (a + i) (omega arith) (omega arith))

pub count_below-grows_alike : (p q : ℕ → Bool) (a b : ℕ) → a ≤ b → ((t : ℕ) → a ≤ t → t < b → p t ≡ q t)
    → count_below p b + count_below q a ≡ count_below q b + count_below p a
count_below-grows_alike p q a b le same =
    let e : a + (b - a) ≡ b = omega arith in
    subst (λ n. count_below p n + count_below q a ≡ count_below q n + count_below p a) e
    (count_below-alike p q a (b - a) (λ i h. same (a + i) (omega arith) (omega arith)))

-- no more numbers pass than there are
count_below-le-self : (p : ℕ → Bool) (n : ℕ) → count_below p n ≤ n
count_below-le-self p n = subst (λ m. count_below p n ≤ m) (length-range_with_len 0 n)
    (count_by-le-length p (range_with_len 0 n))

-- and none from m on where none of them passes
pub count_below-le : (p : ℕ → Bool) (m n : ℕ) → ((t : ℕ) → m ≤ t → p t ≡ false) → count_below p n ≤ m
count_below-le p m n none = by (grind arith)
  where
    by : (n ≤ m) ⊎ (m ≤ n) → count_below p n ≤ m
    by (inl h) = let l = count_below-le-self p n in omega arith
    by (inr h) =
        let e : count_below p n ≡ count_below p m = count_below-stays p m n h (λ t low high. none t low) in
        let l = count_below-le-self p m in
        omega arith

-- two bounds from which on no number passes give one count
pub count_below-ends : (p : ℕ → Bool) (a b : ℕ) → ((t : ℕ) → a ≤ t → p t ≡ false) → ((t : ℕ) → b ≤ t → p t ≡ false)
    → count_below p a ≡ count_below p b
count_below-ends p a b from_a from_b = by (grind arith)
  where
    by : (a ≤ b) ⊎ (b ≤ a) → count_below p a ≡ count_below p b
    by (inl h) = sym (count_below-stays p a b h (λ t low high. from_a t low))
    by (inr h) = count_below-stays p b a h (λ t low high. from_b t low)

no_ones : count_ones 0 ≡ 0
unfolding ones
no_ones = refl

one_bit : (b : Bool) → count_ones (one_if b) ≡ one_if b
unfolding ones
one_bit true = refl
one_bit false = refl

-- a part of a word has no more bits than the word
pub count_ones-part : (w n : ℕ) → count_ones (w % 2 ^ n) ≤ count_ones w
count_ones-part w n =
    let e : count_ones (w / 2 ^ n * 2 ^ n + w % 2 ^ n) ≡ count_ones (w / 2 ^ n) + count_ones (w % 2 ^ n) =
    ones_cat n (w / 2 ^ n) (w % 2 ^ n) (mod-lt w (pow_pos n)) in
    let whole : count_ones (w / 2 ^ n * 2 ^ n + w % 2 ^ n) ≡ count_ones w = ap count_ones (shr_split w n) in
    omega arith

pub no_ones_of : (w : ℕ) → w ≡ 0 → count_ones w ≡ 0
no_ones_of w e = ap count_ones e ∙ no_ones

-- the bits of a word below a place, by a lower place
pub count_ones-split : (w low high : ℕ) → low ≤ high
    → count_ones (w % 2 ^ low) + count_ones (w % 2 ^ high / 2 ^ low) ≡ count_ones (w % 2 ^ high)
count_ones-split w low high le =
    let v = w % 2 ^ high in
    let e : count_ones (v / 2 ^ low * 2 ^ low + v % 2 ^ low) ≡ count_ones (v / 2 ^ low) + count_ones (v % 2 ^ low) =
    ones_cat low (v / 2 ^ low) (v % 2 ^ low) (mod-lt v (pow_pos low)) in
    let whole : count_ones (v / 2 ^ low * 2 ^ low + v % 2 ^ low) ≡ count_ones v = ap count_ones (shr_split v low) in
    let places : high - low + low ≡ high = omega arith in
    let rest : count_ones (v % 2 ^ low) ≡ count_ones (w % 2 ^ low) =
    ap count_ones (subst (λ n. w % 2 ^ n % 2 ^ low ≡ w % 2 ^ low) places (mod-mod-pow w (high - low) low)) in
    omega arith

-- a count grows with its bound
pub count_below-grows : (p : ℕ → Bool) (a n : ℕ) → count_below p a ≤ count_below p (a + n)
count_below-grows p a zero =
    let e : count_below p (a + 0) ≡ count_below p a = ap (count_below p) (add-zero a) in
    omega arith
count_below-grows p a (suc n) =
    let places : a + suc n ≡ a + n + 1 = omega arith in
    let e : count_below p (a + suc n) ≡ count_below p (a + n + 1) = ap (count_below p) places in
    let more : count_below p (a + n + 1) ≡ count_below p (a + n) + one_if (p (a + n)) = count_below-more p (a + n) in
    let less : count_below p a ≤ count_below p (a + n) = count_below-grows p a n in
    omega arith

-- the lowest bits of a word are counted as the numbers for which they stand
pub count_ones-bits : (p : ℕ → Bool) (w c n : ℕ) → ((i : ℕ) → i < n → has_bit w i ≡ p (c + i))
    → count_below p (c + n) ≡ count_below p c + count_ones (w % 2 ^ n)
count_ones-bits p w c zero bits =
    let z : w % 1 ≡ 0 = omega arith in
    let o : count_ones (w % 1) ≡ 0 = ap count_ones z ∙ no_ones in
    let e : c + 0 ≡ c = omega arith in
    let h : count_below p (c + 0) ≡ count_below p c = ap (count_below p) e in
    omega arith
count_ones-bits p w c (suc n) bits =
    let es : suc n ≡ 1 + n = omega arith in
    let o : count_ones (w % 2 ^ suc n) ≡ count_ones (bit_at w n) + count_ones (w % 2 ^ n) =
    ap (λ k. count_ones (w % 2 ^ k)) es ∙ ap count_ones (mod-pow-add w 1 n)
    ∙ ones_cat n (bit_at w n) (w % 2 ^ n) (mod-lt w (pow_pos n))
    in
    let b : count_ones (bit_at w n) ≡ one_if (has_bit w n) =
    ap count_ones (bit_at-has_bit w n) ∙ one_bit (has_bit w n) in
    let here : one_if (has_bit w n) ≡ one_if (p (c + n)) = ap one_if (bits n (omega arith)) in
    let ih : count_below p (c + n) ≡ count_below p c + count_ones (w % 2 ^ n) =
    count_ones-bits p w c n (λ i h. bits i (omega arith)) in
    let more : count_below p (c + n + 1) ≡ count_below p (c + n) + one_if (p (c + n)) = count_below-more p (c + n) in
    let e : c + suc n ≡ c + n + 1 = omega arith in
    let h : count_below p (c + suc n) ≡ count_below p (c + n + 1) = ap (count_below p) e in
    omega arith

-- some number passes where one does
pub any_between-found : (p : ℕ → Bool) (from end t : ℕ) → from ≤ t → t < end → p t ≡ true
    → any_between p from end ≡ true
any_between-found p from end t low high e =
    let n = end - from in
    let place : t - from < n = omega arith in
    let at : get_or (range_with_len from n) (t - from) 0 ≡ t =
    get_or-range_with_len from n (t - from) 0 place ∙ add-sub_of_le low in
    let within : t - from < length (range_with_len from n) =
    subst (λ m. t - from < m) (sym (length-range_with_len from n)) place in
    list_any_at p (range_with_len from n) (t - from) 0 within (ap p at ∙ e)

none_in_range : (p : ℕ → Bool) (n from : ℕ) → ((t : ℕ) → from ≤ t → t < from + n → p t ≡ false)
    → list_any p (range_with_len from n) ≡ false
none_in_range p zero from none = refl
none_in_range p (suc n) from none =
    ap₂ (λ a b. a || b) (none from (omega arith) (omega arith))
    (none_in_range p n (from + 1) (λ t low high. none t (omega arith) (omega arith)))

-- and none where none does
pub any_between-none : (p : ℕ → Bool) (from end : ℕ) → ((t : ℕ) → from ≤ t → t < end → p t ≡ false)
    → any_between p from end ≡ false
any_between-none p from end none = none_in_range p (end - from) from (λ t low high. none t low (omega arith))

both_false : (a b c : Bool) → b ≡ false → (a && (b && c)) ≡ false
both_false true true c e = absurd (true≢false e)
both_false true false c e = refl
both_false false b c e = refl

last_false : (a b c : Bool) → c ≡ false → (a && (b && c)) ≡ false
last_false true true c e = e
last_false true false c e = refl
last_false false b c e = refl

both_true : (a b c : Bool) → b ≡ true → c ≡ true → (a && (b && c)) ≡ a
both_true true b c e f = ap₂ (λ x y. x && y) e f
both_true false b c e f = refl

busy_not_free : (a b : Bool) → (a && b) ≡ true → (a && not b) ≡ false
busy_not_free true true e = refl
busy_not_free true false e = absurd (true≢false (sym e))
busy_not_free false b e = refl

module _ (member busy : ℕ → Bool) (size : ℕ) where
  abbrev both : ℕ → Bool
  both t = member t && busy t

  abbrev free : ℕ → Bool
  free t = member t && not (busy t)

  -- where no member is busy, none is idle
  pub idle-none : ((t : ℕ) → both t ≡ false) → count_below (is_idle_time member busy size) size ≡ 0
  idle-none none = count_below-stays (is_idle_time member busy size) 0 size (omega arith)
      (λ t low high. both_false (free t) _ _ (any_between-none both 0 t (λ s l h. none s)))

  -- else the idle times are the free members between the first and the last busy one
  pub idle-between : (first last : ℕ) → both first ≡ true → both last ≡ true → first ≤ last → last < size
      → ((t : ℕ) → t < first → both t ≡ false) → ((t : ℕ) → last < t → both t ≡ false)
      → count_below (is_idle_time member busy size) size + count_below free first ≡ count_below free last
  idle-between first last at_first at_last order within before after =
      let idle = is_idle_time member busy size in
      let low : count_below idle first ≡ 0 =
      count_below-stays idle 0 first (omega arith) (λ t l h. both_false (free t) _ _
      (any_between-none both 0 t (λ s sl sh. before s (omega arith))))
      in
      let middle : count_below idle last + count_below free first ≡ count_below free last + count_below idle first =
      count_below-grows_alike idle free first last order (λ t l h. inside t l h)
      in
      let high : count_below idle size ≡ count_below idle last =
      count_below-stays idle last size (omega arith)
      (λ t l h. last_false (free t) _ _ (any_between-none both (t + 1) size (λ s sl sh. after s (omega arith))))
      in
      omega arith
    where
      inside : (t : ℕ) → first ≤ t → t < last → is_idle_time member busy size t ≡ free t
      inside t l h = by (eq_or_later t l)
        where
          eq_or_later : (t : ℕ) → first ≤ t → (t ≡ first) ⊎ (first < t)
          eq_or_later t l = grind arith

          by : (t ≡ first) ⊎ (first < t) → is_idle_time member busy size t ≡ free t
          by (inl e) =
              let none : free t ≡ false = busy_not_free (member t) (busy t) (ap both e ∙ at_first) in
              ap (λ a. a && (any_between both 0 t && any_between both (t + 1) size)) none ∙ sym none
          by (inr later) =
              both_true (free t) _ _ (any_between-found both 0 t first (omega arith) later at_first)
              (any_between-found both (t + 1) size last (omega arith) within at_last)
