-- The list of a set's members: it ascends, and what is in it is a member.
use Rattle.std.proofs.Common.{◌≡◌, ◌∙◌, sym, ap, subst, refl, ℕ, ◌+◌, ◌<◌, ◌≤◌, ◌==◌, ◌||◌, Bool, true, false, cond, zero}
use Rattle.std.proofs.Common.{suc, List, [], ◌∷◌, length, get_or, take, filter, arith, ◌⊎◌, inl, inr, Result, Ok, Err}
use Rattle.std.specs.List.{range_with_len}
use Rattle.std.specs.List.Sorted.{IsBinarySearchResult}
use Rattle.std.specs.Ordering.{nat_cmp}
use Rattle.std.specs.Result.{MatchResult, is_ok}
use Rattle.std.proofs.lemmas.Bool.{cases_eq, eq-eqb, ne_eqb}
use Rattle.std.proofs.lemmas.List.{get_or_past}
use Rattle.std.proofs.lemmas.List.Sorted.{searched}
use Rattle.std.proofs.lemmas.List.FromFn.{fill_by_all, length-map-range_with_len, get_or-map-range_with_len}
use Rattle.khe_base.specs.IdSet.{has_member, members_of}
use Rattle.khe_base.specs.ListedSets.{is_listed, set_of_members}

-- the numbers of a range that pass a test
module _ (f : ℕ → Bool) where
  abbrev passing : ℕ → ℕ → List ℕ
  passing from n = filter f (range_with_len from n)

  -- none of them is before the range
  below : (from n k : ℕ) → k < from → is_listed (passing from n) k ≡ false
  below from zero k l = refl
  below from (suc n) k l = by (f from) (below (from + 1) n k (omega (arith, l)))
    where
      by : (b : Bool) → is_listed (passing (from + 1) n) k ≡ false
          → is_listed (cond b (from ∷ passing (from + 1) n) (passing (from + 1) n)) k ≡ false
      by true r = ap (λ c. c || is_listed (passing (from + 1) n) k) (ne_eqb from k (λ e. omega (arith, e, l))) ∙ r
      by false r = r

  -- nor behind it
  behind : (from n k : ℕ) → from + n ≤ k → is_listed (passing from n) k ≡ false
  behind from zero k l = refl
  behind from (suc n) k l = by (f from) (behind (from + 1) n k (omega (arith, l)))
    where
      by : (b : Bool) → is_listed (passing (from + 1) n) k ≡ false
          → is_listed (cond b (from ∷ passing (from + 1) n) (passing (from + 1) n)) k ≡ false
      by true r = ap (λ c. c || is_listed (passing (from + 1) n) k) (ne_eqb from k (λ e. omega (arith, e, l))) ∙ r
      by false r = r

  -- and one of the range is among them where it passes
  pub within : (from n k : ℕ) → from ≤ k → k < from + n → is_listed (passing from n) k ≡ f k
  within from zero k a b = absurd (omega (arith, a, b))
  within from (suc n) k a b = by (λ l. within (from + 1) n k l (omega (arith, b))) (cases_eq from k) (f from) refl
    where
      rest : List ℕ
      rest = passing (from + 1) n

      by : (from + 1 ≤ k → is_listed rest k ≡ f k) → (from ≡ k) ⊎ (from ≡ k → ⊥) → (b : Bool) → f from ≡ b
          → is_listed (cond b (from ∷ rest) rest) k ≡ f k
      by r (inl e) true g = ap (λ c. c || is_listed rest k) (eq-eqb from k e) ∙ sym (sym (ap f e) ∙ g)
      by r (inl e) false g = below (from + 1) n k (omega (arith, e)) ∙ sym (sym (ap f e) ∙ g)
      by r (inr e) true g = ap (λ c. c || is_listed rest k) (ne_eqb from k e) ∙ r (omega (arith, a, e))
      by r (inr e) false g = r (omega (arith, a, e))

  not_before : (from n i : ℕ) → i < length (passing from n) → from ≤ get_or (passing from n) i 0
  not_before from zero i l = absurd (omega (arith, l))
  not_before from (suc n) i l = by (f from) i l (λ j m. not_before (from + 1) n j m)
    where
      rest : List ℕ
      rest = passing (from + 1) n

      by : (b : Bool) (i : ℕ) → i < length (cond b (from ∷ rest) rest)
          → ((j : ℕ) → j < length rest → from + 1 ≤ get_or rest j 0) → from ≤ get_or (cond b (from ∷ rest) rest) i 0
      by true zero l r = omega arith
      by true (suc i) l r = let m = r i (omega (arith, l)) in omega (arith, m)
      by false i l r = let m = r i l in omega (arith, m)

  -- all of them are of the range
  pub before_end : (from n i : ℕ) → i < length (passing from n) → get_or (passing from n) i 0 < from + n
  before_end from zero i l = absurd (omega (arith, l))
  before_end from (suc n) i l = by (f from) i l (λ j m. before_end (from + 1) n j m)
    where
      rest : List ℕ
      rest = passing (from + 1) n

      by : (b : Bool) (i : ℕ) → i < length (cond b (from ∷ rest) rest)
          → ((j : ℕ) → j < length rest → get_or rest j 0 < from + 1 + n)
          → get_or (cond b (from ∷ rest) rest) i 0 < from + suc n
      by true zero l r = omega arith
      by true (suc i) l r = let m = r i (omega (arith, l)) in omega (arith, m)
      by false i l r = let m = r i l in omega (arith, m)

  -- and none of them comes twice
  pub comes_once : (from n i : ℕ) → i < length (passing from n)
      → is_listed (take i (passing from n)) (get_or (passing from n) i 0) ≡ false
  comes_once from zero i l = absurd (omega (arith, l))
  comes_once from (suc n) i l = by (f from) i l (λ j m. comes_once (from + 1) n j m) (not_before (from + 1) n)
    where
      rest : List ℕ
      rest = passing (from + 1) n

      by : (b : Bool) (i : ℕ) → i < length (cond b (from ∷ rest) rest)
          → ((j : ℕ) → j < length rest → is_listed (take j rest) (get_or rest j 0) ≡ false)
          → ((j : ℕ) → j < length rest → from + 1 ≤ get_or rest j 0)
          → is_listed (take i (cond b (from ∷ rest) rest)) (get_or (cond b (from ∷ rest) rest) i 0) ≡ false
      by true zero l r s = refl
      by true (suc i) l r s =
          let m = s i (omega (arith, l)) in
          ap (λ c. c || is_listed (take i rest) (get_or rest i 0))
          (ne_eqb from (get_or rest i 0) (λ e. omega (arith, e, m))) ∙ r i (omega (arith, l))
      by false i l r s = r i l

  -- they ascend
  ascend : (from n i j : ℕ) → i ≤ j → j < length (passing from n)
      → get_or (passing from n) i 0 ≤ get_or (passing from n) j 0
  ascend from zero i j a l = absurd (omega (arith, l))
  ascend from (suc n) i j a l = by (f from) i j a l (λ i j. ascend (from + 1) n i j) (not_before (from + 1) n)
    where
      rest : List ℕ
      rest = passing (from + 1) n

      by : (b : Bool) (i j : ℕ) → i ≤ j → j < length (cond b (from ∷ rest) rest)
          → ((i j : ℕ) → i ≤ j → j < length rest → get_or rest i 0 ≤ get_or rest j 0)
          → ((j : ℕ) → j < length rest → from + 1 ≤ get_or rest j 0)
          → get_or (cond b (from ∷ rest) rest) i 0 ≤ get_or (cond b (from ∷ rest) rest) j 0
      by true zero zero a l r s = omega arith
      by true zero (suc j) a l r s = let m = s j (omega (arith, l)) in omega (arith, m)
      by true (suc i) zero a l r s = absurd (omega (arith, a))
      by true (suc i) (suc j) a l r s = r i j (omega (arith, a)) (omega (arith, l))
      by false i j a l r s = r i j a l

pub length-set_of_members : (members : List ℕ) (size : ℕ) → length (set_of_members members size) ≡ size
length-set_of_members members size = length-map-range_with_len (is_listed members) 0 size

-- the list of a set's members has the members of the set
pub listed_again : (s : List Bool) → set_of_members (members_of s) (length s) ≡ s
listed_again s = sym (fill_by_all (is_listed (members_of s)) s (length s) false refl
    (λ k l. sym (within (has_member s) 0 (length s) k (omega arith) (omega (arith, l)))))

-- what is listed is a member
pub listed_member : (s : List Bool) (n : ℕ) → is_listed (members_of s) n ≡ has_member s n
listed_member s n = by (grind arith)
  where
    by : (n < length s) ⊎ (length s ≤ n) → is_listed (members_of s) n ≡ has_member s n
    by (inl l) = within (has_member s) 0 (length s) n (omega arith) (omega (arith, l))
    by (inr l) = behind (has_member s) 0 (length s) n (omega (arith, l)) ∙ sym (get_or_past s n false l)

pub members_ascend : (s : List Bool) (i j : ℕ) → i ≤ j → j < length (members_of s)
    → get_or (members_of s) i 0 ≤ get_or (members_of s) j 0
members_ascend s i j = ascend (has_member s) 0 (length s) i j

-- a number at a place of a list is listed
listed_at : (xs : List ℕ) (i n : ℕ) → i < length xs → get_or xs i 0 ≡ n → is_listed xs n ≡ true
listed_at [] i n l e = absurd (omega (arith, l))
listed_at (x ∷ xs) zero n l e = ap (λ c. c || is_listed xs n) (eq-eqb x n e)
listed_at (x ∷ xs) (suc i) n l e = by (x == n) (listed_at xs i n (omega (arith, l)) e)
  where
    by : (b : Bool) → is_listed xs n ≡ true → b || is_listed xs n ≡ true
    by true r = refl
    by false r = r

-- and one that stands at none is not
listed_nowhere : (xs : List ℕ) (n : ℕ) → ((i : ℕ) → i < length xs → get_or xs i 0 ≡ n → ⊥) → is_listed xs n ≡ false
listed_nowhere [] n none = refl
listed_nowhere (x ∷ xs) n none =
    ap (λ c. c || is_listed xs n) (ne_eqb x n (none 0 (omega arith)))
    ∙ listed_nowhere xs n (λ i l. none (suc i) (omega (arith, l)))

-- a search in the list of a set's members finds the members alone
pub found_listed : (s : List Bool) (xs : List ℕ) (n : ℕ) (r : Result ℕ ℕ) → xs ≡ members_of s
    → IsBinarySearchResult (λ y. nat_cmp y n) xs r → is_ok r ≡ has_member s n
found_listed s xs n r list found =
    by r (searched xs n r found (subst (λ ys. (i j : ℕ) → i ≤ j → j < length ys → get_or ys i 0 ≤ get_or ys j 0)
    (sym list) (members_ascend s)))
  where
    by : (r : Result ℕ ℕ) → MatchResult r (λ i. (i < length xs) × (get_or xs i 0 ≡ n))
        (λ i. (i ≤ length xs) × ((k : ℕ) → k < i → get_or xs k 0 < n)
        × ((k : ℕ) → i ≤ k → k < length xs → n < get_or xs k 0)) → is_ok r ≡ has_member s n
    by (Ok i) at = sym (listed_at xs i n at.0 at.1) ∙ ap (λ ys. is_listed ys n) list ∙ listed_member s n
    by (Err i) at =
        let before = at.1 in
        let after = at.2 in
        sym (listed_nowhere xs n (λ k l e. apart k l e (grind arith) before after))
        ∙ ap (λ ys. is_listed ys n) list ∙ listed_member s n
      where
        apart : (k : ℕ) → k < length xs → get_or xs k 0 ≡ n → (k < i) ⊎ (i ≤ k)
            → ((k : ℕ) → k < i → get_or xs k 0 < n) → ((k : ℕ) → i ≤ k → k < length xs → n < get_or xs k 0) → ⊥
        apart k l e (inl below) before after = let m = before k below in omega (arith, m, e)
        apart k l e (inr above) before after = let m = after k above l in omega (arith, m, e)
