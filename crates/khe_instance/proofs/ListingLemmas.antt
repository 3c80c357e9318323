-- Lists of numbers by a number, and by two, as numbers are added to them.
use Rattle.std.proofs.Common.{◌≡◌, ◌∙◌, sym, ap, subst, refl, ℕ, ◌+◌, ◌<◌, ◌==◌, ◌&&◌, Bool, false, cond, zero}
use Rattle.std.proofs.Common.{suc, List, [], ◌∷◌, ◌++◌, length, get_or, set, length-set, replicate, ◌⊎◌, inl, inr}
use Rattle.std.proofs.lemmas.Bool.{cases_eq, eq-eqb, ne_eqb}
use Rattle.std.proofs.lemmas.List.{append-nil, length-replicate, get_or-set_same, get_or-set_other}
use Rattle.khe_base.proofs.MembersLemmas.{passing_more}
use Rattle.khe_instance.specs.Listing.{IsAdded, AreListed, list_at, IsAddedAt, AreTabled}

nothing_at : {X : Type 0} (n k : ℕ) → get_or {A = List X} (replicate n []) k [] ≡ []
nothing_at zero k = refl
nothing_at (suc n) zero = refl
nothing_at (suc n) (suc k) = nothing_at n k

-- no number is listed yet
pub none_listed : (test : ℕ → ℕ → Bool) (count : ℕ) → AreListed test count 0 (replicate count [])
none_listed test count = record { rows = length-replicate count []; each = λ k l. nothing_at count k }

-- and one number more
pub one_listed : (test : ℕ → ℕ → Bool) (count n : ℕ) (here : ℕ → Bool) (old new : List (List ℕ))
    → ((k : ℕ) → here k ≡ test k n) → AreListed test count n old → IsAdded here n old new → AreListed test count (n + 1) new
one_listed test count n here old new same are is = record {
  rows = is.rows ∙ are.rows;
  each = λ k l. is.each k (subst (λ m. k < m) (sym are.rows) l)
      ∙ (λ j. are.each k l j ++ cond (same k j) (n ∷ []) []) ∙ sym (passing_more (test k) n);
}

module _ (number : ℕ) where
  abbrev more : Bool → List ℕ
  more b = cond b (number ∷ []) []

  -- a row of a table got the number in one of its lists
  pub row_added : (table : List (List (List ℕ))) (a b : ℕ) (row : List (List ℕ)) → a < length table
      → IsAdded (λ k. b == k) number (get_or table a []) row
      → IsAddedAt (λ x y. (a == x) && (b == y)) number table (set table a row)
  row_added table a b row l is = record {
    rows = length-set table a row;
    widths = λ x m. wide x (cases_eq a x);
    each = λ x y m n. by x y n (cases_eq a x);
  }
    where
      wide : (x : ℕ) → (a ≡ x) ⊎ (a ≡ x → ⊥) → length (get_or (set table a row) x []) ≡ length (get_or table x [])
      wide x (inl same) =
          ap (λ i. length (get_or (set table a row) i [])) (sym same) ∙ ap length (get_or-set_same table a row [] l)
          ∙ is.rows ∙ ap (λ i. length (get_or table i [])) same
      wide x (inr apart) = ap length (get_or-set_other table a x row [] (λ h. apart (sym h)))

      by : (x y : ℕ) → y < length (get_or table x []) → (a ≡ x) ⊎ (a ≡ x → ⊥)
          → list_at (set table a row) x y ≡ list_at table x y ++ more ((a == x) && (b == y))
      by x y n (inl same) =
          ap (λ i. get_or (get_or (set table a row) i []) y []) (sym same)
          ∙ ap (λ r. get_or r y []) (get_or-set_same table a row [] l)
          ∙ is.each y (subst (λ i. y < length (get_or table i [])) (sym same) n)
          ∙ (λ j. list_at table (same j) y ++ more (b == y))
          ∙ ap (λ c. list_at table x y ++ more (c && (b == y))) (sym (eq-eqb a x same))
      by x y n (inr apart) =
          ap (λ r. get_or r y []) (get_or-set_other table a x row [] (λ h. apart (sym h)))
          ∙ sym (ap (λ c. list_at table x y ++ more (c && (b == y))) (ne_eqb a x apart)
          ∙ append-nil (list_at table x y))

  -- no list got it
  pub none_added : (test : ℕ → ℕ → Bool) (table : List (List (List ℕ))) → ((a b : ℕ) → test a b ≡ false)
      → IsAddedAt test number table table
  none_added test table none = record {
    rows = refl;
    widths = λ a l. refl;
    each =
        λ a b l m. sym (ap (λ c. list_at table a b ++ more c) (none a b) ∙ append-nil (list_at table a b));
  }

-- one number more in a table
pub one_tabled : (test : ℕ → ℕ → ℕ → Bool) (rows : ℕ) (width : ℕ → ℕ) (n : ℕ) (here : ℕ → ℕ → Bool)
    (old new : List (List (List ℕ))) → ((a b : ℕ) → a < rows → b < width a → here a b ≡ test a b n) → AreTabled test rows width n old
    → IsAddedAt here n old new → AreTabled test rows width (n + 1) new
one_tabled test rows width n here old new same are is = record {
  rows_are = is.rows ∙ are.rows_are;
  widths = λ a l. is.widths a (subst (λ m. a < m) (sym are.rows_are) l) ∙ are.widths a l;
  each = λ a b l m. is.each a b (subst (λ k. a < k) (sym are.rows_are) l)
      (subst (λ k. b < k) (sym (are.widths a l)) m) ∙ (λ j. are.each a b l m j ++ cond (same a b l m j) (n ∷ []) [])
      ∙ sym (passing_more (test a b) n);
}
