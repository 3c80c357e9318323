-- Members of a set of numbers, and the bits that stand for them.
use Rattle.std.proofs.Common.{◌≡◌, ◌≢◌, ◌∙◌, sym, ap, subst, refl, ℕ, ◌+◌, ◌<◌, ◌≤◌, ◌^◌, Bool, true, false, cond}
use Rattle.std.proofs.Common.{if◌then◌else◌, nat_eq, List, [], ◌∷◌, length, get_or, set, replicate, length-set, arith}
use Rattle.std.proofs.Common.{zero, suc, ◌⊎◌, inl, inr}
use Rattle.std.proofs.lemmas.Bool.Decides.{nat_tests}
use Rattle.std.proofs.lemmas.Bool.{false≢true}
use Rattle.std.proofs.lemmas.List.{set-get_or, get_or-set_same, get_or-set_other, length-replicate, get_or_past}
use Rattle.std.proofs.lemmas.List.FromFn.{fill_by_all, length-map-range_with_len, get_or-map-range_with_len}
use Rattle.std.proofs.lemmas.List.Sums.{sum_by-set, count_by-le-length}
use Rattle.khe_base.specs.Bits.{is_set, words_for}
use Rattle.khe_base.specs.IdSet.{has_member, with_member, member_count, IsCounted}
use Rattle.khe_base.specs.StoredSets.{set_of_bits, IsStored}
use Rattle.khe_base.proofs.BitsLemmas.{is_set-zeros}

one_more : (xs : List Bool) (n : ℕ) (d : Bool) → n < length xs → get_or xs n d ≡ false
    → member_count (set xs n true) ≡ member_count xs + 1
one_more xs n d l absent =
    let f = λ (b : Bool). cond {A = ℕ} b 1 0 in
    let e : member_count (set xs n true) + f (get_or xs n d) ≡ member_count xs + 1 = sum_by-set f xs n true d l in
    let z : f (get_or xs n d) ≡ 0 = ap f absent in
    omega arith

-- the count with a number that was no member is one more
pub IsCounted-with_member : (xs : List Bool) (n count : ℕ) (d : Bool) → n < length xs → get_or xs n d ≡ false
    → IsCounted xs count → IsCounted (with_member xs n) (count + 1)
IsCounted-with_member xs n count d l absent is =
    let more : member_count (set xs n true) ≡ member_count xs + 1 = one_more xs n d l absent in
    let old = is.counted in
    record { counted = omega arith; small = omega (arith, is.small, length-set {A = Bool}) }

-- and it is a number of 32 bits
pub count_small : (xs : List Bool) (n count : ℕ) (d : Bool) → n < length xs → get_or xs n d ≡ false → IsCounted xs count
    → count + 1 < 2 ^ 32
count_small xs n count d l absent is =
    let counted = IsCounted-with_member xs n count d l absent is in
    let bound : member_count (set xs n true) ≤ length (set xs n true) = count_by-le-length (λ b. b) (set xs n true) in
    omega (arith, counted.counted, counted.small, bound)

-- to add a member again changes nothing
pub with_member-member : (xs : List Bool) (n : ℕ) (d : Bool) → n < length xs → get_or xs n d ≡ true
    → with_member xs n ≡ xs
with_member-member xs n d l present = ap (set xs n) (sym present) ∙ set-get_or xs n d

pub length-set_of_bits : (words : List ℕ) (size : ℕ) → length (set_of_bits words size) ≡ size
length-set_of_bits words size = length-map-range_with_len (λ t. is_set words t) 0 size

pub set_of_bits-same : (words : List ℕ) (size : ℕ) (xs : List Bool) → length xs ≡ size
    → ((t : ℕ) → t < size → get_or xs t false ≡ is_set words t) → set_of_bits words size ≡ xs
set_of_bits-same words size xs l same = sym (fill_by_all (λ t. is_set words t) xs size false l same)

-- a member is a number whose bit is set, where no bit is set from the size on
pub has_member-set_of_bits : (words : List ℕ) (size : ℕ) → ((t : ℕ) → size ≤ t → is_set words t ≡ false) → (t : ℕ)
    → has_member (set_of_bits words size) t ≡ is_set words t
has_member-set_of_bits words size beyond t = by (grind arith)
  where
    by : (t < size) ⊎ (size ≤ t) → has_member (set_of_bits words size) t ≡ is_set words t
    by (inl h) = get_or-map-range_with_len (λ t. is_set words t) 0 size t t false h (omega arith)
    by (inr h) = get_or_past (set_of_bits words size) t false
        (subst (λ n. n ≤ t) (sym (length-set_of_bits words size)) h) ∙ sym (beyond t h)

nothing_read : (n k : ℕ) → get_or (replicate n false) k false ≡ false
nothing_read zero k = refl
nothing_read (suc n) zero = refl
nothing_read (suc n) (suc k) = nothing_read n k

pub set_of_bits-zeros : (n size : ℕ) → set_of_bits (replicate n 0) size ≡ replicate size false
set_of_bits-zeros n size = set_of_bits-same (replicate n 0) size (replicate size false) (length-replicate size false)
    (λ t h. nothing_read size t ∙ sym (is_set-zeros n t))

none_counted : (n : ℕ) → 0 ≡ member_count (replicate n false)
none_counted zero = refl
none_counted (suc n) = none_counted n

-- no bits are no members
pub IsStored-zeros : (n size : ℕ) → n ≡ words_for size → size < 2 ^ 32 → IsStored (replicate n 0) size 0
IsStored-zeros n size room small = record {
  room = length-replicate n 0 ∙ room;
  beyond = λ t h. is_set-zeros n t;
  counted = subst (λ xs. IsCounted xs 0) (sym (set_of_bits-zeros n size))
      (record {
        counted = none_counted size;
        small =
            subst (λ x. x < 2 ^ 32) (sym (length-replicate size false)) small;
      });
}

-- one more bit is one more member
module _ (words new : List ℕ) (t size : ℕ) (here : t < size) (length_stays : length new ≡ length words)
    (bits : (s : ℕ) → is_set new s ≡ (if nat_eq s t then true else is_set words s)) where
  elsewhere : (s : ℕ) → s ≢ t → is_set new s ≡ is_set words s
  elsewhere s ne = let e : nat_eq s t ≡ false = grind (arith, nat_tests) in
      bits s ∙ ap (λ b. if b then true else is_set words s) e

  at_number : (s : ℕ) → s ≡ t → is_set new s ≡ true
  at_number s same = let e : nat_eq s t ≡ true = grind (arith, nat_tests) in
      bits s ∙ ap (λ b. if b then true else is_set words s) e

  pub set_of_bits-insert : set_of_bits new size ≡ set (set_of_bits words size) t true
  set_of_bits-insert = set_of_bits-same new size (set (set_of_bits words size) t true)
      (length-set (set_of_bits words size) t true ∙ length-set_of_bits words size) (λ s h. read s h (grind arith))
    where
      read : (s : ℕ) → s < size → (s ≡ t) ⊎ (s ≢ t)
          → get_or (set (set_of_bits words size) t true) s false ≡ is_set new s
      read s h (inl e) =
          ap (λ x. get_or (set (set_of_bits words size) t true) x false) e
          ∙ get_or-set_same (set_of_bits words size) t true false
          (subst (λ n. t < n) (sym (length-set_of_bits words size)) here) ∙ sym (at_number s e)
      read s h (inr ne) =
          get_or-set_other (set_of_bits words size) t s true false ne
          ∙ get_or-map-range_with_len (λ t. is_set words t) 0 size s s false h (omega arith) ∙ sym (elsewhere s ne)

  module _ (count : ℕ) (absent : is_set words t ≡ false) (is : IsStored words size count) where
    abbrev xs : List Bool
    xs = set_of_bits words size

    within : t < length xs
    within = subst (λ n. t < n) (sym (length-set_of_bits words size)) here

    no_member : get_or xs t false ≡ false
    no_member = has_member-set_of_bits words size is.beyond t ∙ absent

    pub IsStored-insert : IsStored new size (count + 1)
    IsStored-insert = record {
      room = length_stays ∙ is.room;
      beyond = λ s h. let ne : s ≢ t = omega arith in elsewhere s ne ∙ is.beyond s h;
      counted = subst (λ ys. IsCounted ys (count + 1)) (sym set_of_bits-insert)
          (IsCounted-with_member xs t count false within no_member is.counted);
    }

-- the count of a set with room for one more member
pub IsStored-room : (words : List ℕ) (t size count : ℕ) → t < size → is_set words t ≡ false → IsStored words size count
    → count + 1 < 2 ^ 32
IsStored-room words t size count here absent is =
    count_small (set_of_bits words size) t count false (subst (λ n. t < n) (sym (length-set_of_bits words size)) here)
    (has_member-set_of_bits words size is.beyond t ∙ absent) is.counted

-- a bit that is set is that of a member
pub set_of_bits-member : (words : List ℕ) (t size : ℕ) → t < size → is_set words t ≡ true
    → set_of_bits words size ≡ with_member (set_of_bits words size) t
set_of_bits-member words t size here present =
    sym (with_member-member (set_of_bits words size) t false
    (subst (λ n. t < n) (sym (length-set_of_bits words size)) here)
    (get_or-map-range_with_len (λ t. is_set words t) 0 size t t false here (omega arith) ∙ present))

-- a member is below the size
pub member_below : (set : List Bool) (y : ℕ) → has_member set y ≡ true → y < length set
member_below [] y h = absurd (false≢true h)
member_below (b ∷ bs) zero h = omega arith
member_below (b ∷ bs) (suc y) h = omega (arith, member_below bs y h)
