-- Ids that are a word with a number after it: no two of them are the same, and each has the number of its place.
use Rattle.std.proofs.Common.{ℕ, ◌≡◌, ◌+◌, ◌<◌, ◌≤◌, ◌⊎◌, inl, inr, zero, suc, true, false, ◌&&◌, ◌||◌, not}
use Rattle.std.proofs.Common.{if◌then◌else◌, Some, List, [], ◌∷◌, ◌++◌, map, All, slice_get, get_or}
use Rattle.std.proofs.Common.{refl, sym, ap, ◌∙◌, arith, zero-add}
use Rattle.std.specs.List.{range_with_len}
use Rattle.std.specs.Prelude.{decimal}
use Rattle.std.specs.Str.{bytes_eq}
use Rattle.std.proofs.lemmas.Bool.{and_from, or_from, or_left, or_right, or_parts, or_cases, not_from_false}
use Rattle.std.proofs.lemmas.Bool.{false_from_ne_true, true≢false, and_parts, not-true, eq-eqb}
use Rattle.std.proofs.lemmas.Fmt.{decimal_injective}
use Rattle.std.proofs.lemmas.List.Elements.{All-head, All-tail}
use Rattle.std.proofs.lemmas.List.Folds.{list_any-append}
use Rattle.std.proofs.lemmas.Simd.{map-map}
use Rattle.std.proofs.lemmas.Slice.Eq.{bytes_eq-Decides}
use Rattle.khe_base.specs.Names.{is_among_names, are_distinct}
use Rattle.xhstt_shape.specs.declared.records.Name.{Name}
use Rattle.xhstt_references.specs.References.{repeated, repeated_after}
use Rattle.xhstt_references.proofs.RepeatsLemmas.{among_more}
use Rattle.xhstt_entries.proofs.NumberLaws.{same_name}
use Rattle.archive_generator.specs.Names.{numbered, below}

-- names with the same front are the same where what follows is
same_front : (word xs ys : List ℕ) → bytes_eq (word ++ xs) (word ++ ys) ≡ bytes_eq xs ys
same_front [] xs ys = refl
same_front (c ∷ cs) xs ys = λ i. eq-eqb c c refl i && same_front cs xs ys i

-- two numbers below this bound have two Ids
abbrev pub IsSmall : ℕ → Type 0
IsSmall n = n < 65536

-- the same word with a smaller number is another Id
pub numbered_apart : (word : List ℕ) (j k : ℕ) → j < k → IsSmall k
    → bytes_eq (numbered word j) (numbered word k) ≡ false
numbered_apart word j k l m =
    same_front word (decimal j) (decimal k)
    ∙ false_from_ne_true (bytes_eq (decimal j) (decimal k)) (λ e.
    let same : j ≡ k =
    decimal_injective j k (omega arith) (omega arith) ((bytes_eq-Decides (decimal j) (decimal k)).0 e)
    in absurd (omega arith))

module _ (f : ℕ → List ℕ) (bound : ℕ) (apart : (j k : ℕ) → j < k → k < bound → bytes_eq (f j) (f k) ≡ false) where
  not_later : (x a n : ℕ) → x < a → a + n ≤ bound → is_among_names (f x) (map f (range_with_len a n)) ≡ false
  not_later x a zero l m = refl
  not_later x a (suc n) l m = or_from (bytes_eq (f x) (f a)) (is_among_names (f x) (map f (range_with_len (a + 1) n)))
      (apart x a l (omega arith))
      (not_later x (a + 1) n (omega arith) (omega arith))

  distinct_range : (a n : ℕ) → a + n ≤ bound → are_distinct (map f (range_with_len a n)) ≡ true
  distinct_range a zero m = refl
  distinct_range a (suc n) m =
      and_from (not (is_among_names (f a) (map f (range_with_len (a + 1) n))))
      (are_distinct (map f (range_with_len (a + 1) n)))
      (not_from_false _ (not_later a (a + 1) n (omega arith) (omega arith)))
      (distinct_range (a + 1) n (omega arith))

-- so the Ids of a row of numbers are distinct
pub numbered_distinct : (word : List ℕ) (count : ℕ) → IsSmall count
    → are_distinct (map (numbered word) (below count)) ≡ true
unfolding below
numbered_distinct word count l =
    distinct_range (numbered word) count
    (λ j k m n. numbered_apart word j k m (omega arith)) 0 count (omega arith)

-- what stands at a place of what is made of a row of numbers
pub made_there : {T : Type 0} (f : ℕ → T) (count k : ℕ) → k < count → slice_get (map f (below count)) k ≡ Some (f k)
unfolding below
made_there f count k l = from 0 count k l ∙ ap (λ n. Some (f n)) (zero-add k)
  where
    from : (a n i : ℕ) → i < n → slice_get (map f (range_with_len a n)) i ≡ Some (f (a + i))
    from a zero i m = absurd (omega arith)
    from a (suc n) zero m = let e : a ≡ a + 0 = omega arith in ap (λ x. Some (f x)) e
    from a (suc n) (suc i) m =
        let e : a + 1 + i ≡ a + suc i = omega arith in
        from (a + 1) n i (omega arith) ∙ ap (λ x. Some (f x)) e

-- lists of distinct names that have no name in common are distinct together
abbrev pub AreForeign : List (List ℕ) → List (List ℕ) → Type 0
AreForeign xs ys = (x : List ℕ) → is_among_names x xs ≡ true → is_among_names x ys ≡ false

-- they are, where each of them is
pub distinct_joined : (xs ys : List (List ℕ)) → are_distinct xs ≡ true → are_distinct ys ≡ true → AreForeign xs ys
    → are_distinct (xs ++ ys) ≡ true
distinct_joined [] ys d e h = e
distinct_joined (x ∷ xs) ys d e h =
    let parts = and_parts (not (is_among_names x xs)) (are_distinct xs) d in
    let here : is_among_names x (x ∷ xs) ≡ true = or_left (bytes_eq x x) (is_among_names x xs) (same_name x) in
    and_from (not (is_among_names x (xs ++ ys))) (are_distinct (xs ++ ys))
    (not_from_false _ (list_any-append (λ n. bytes_eq x n) xs ys
    ∙ or_from (is_among_names x xs) (is_among_names x ys) (not-true (is_among_names x xs) parts.0) (h x here)))
    (distinct_joined xs ys parts.1 e (λ z m. h z (or_right (bytes_eq z x) (is_among_names z xs) m)))

-- names are told apart by their first letters
abbrev pub letter : List ℕ → ℕ
letter name = get_or name 0 0

-- names that begin with a letter
abbrev pub Begin : ℕ → List (List ℕ) → Type 0
Begin c names = All (λ n. letter n ≡ c) names

begins : (c : ℕ) (names : List (List ℕ)) (x : List ℕ) → Begin c names → is_among_names x names ≡ true → letter x ≡ c
begins c [] x h e = absurd (true≢false (sym e))
begins c (n ∷ ns) x h e =
    by (or_cases (bytes_eq x n) (is_among_names x ns) e)
    (begins c ns x (All-tail (λ m. letter m ≡ c) n ns h))
  where
    by : (bytes_eq x n ≡ true) ⊎ (is_among_names x ns ≡ true) → (is_among_names x ns ≡ true → letter x ≡ c)
        → letter x ≡ c
    by (inl here) later = ap letter ((bytes_eq-Decides x n).0 here) ∙ All-head (λ m. letter m ≡ c) n ns h
    by (inr there) later = later there

-- names of two letters have none in common
pub foreign : (c d : ℕ) (xs ys : List (List ℕ)) → (c ≡ d → ⊥) → Begin c xs → Begin d ys → AreForeign xs ys
foreign c d xs ys apart h k x e =
    false_from_ne_true (is_among_names x ys) (λ f. apart (sym (begins c xs x h e) ∙ begins d ys x k f))

-- names that are distinct do not come again
none_again : (seen : List (List ℕ)) (ns : List Name) → are_distinct (map (λ n. n.text) ns) ≡ true
    → AreForeign seen (map (λ n. n.text) ns) → repeated_after seen ns ≡ []
none_again seen [] d h = refl
none_again seen (n ∷ ns) d h =
    let later_names = map (λ (m : Name). m.text) ns in
    let parts = and_parts (not (is_among_names n.text later_names)) (are_distinct later_names) d in
    let fresh : is_among_names n.text later_names ≡ false = not-true (is_among_names n.text later_names) parts.0 in
    let new : is_among_names n.text seen ≡ false = false_from_ne_true (is_among_names n.text seen)
    (λ e. true≢false (sym (same_name n.text) ∙ (or_parts (bytes_eq n.text n.text) _ (h n.text e)).0))
    in
    ap (λ b. (if b then n.at ∷ [] else []) ++ repeated_after (seen ++ n.text ∷ []) ns) new
    ∙ none_again (seen ++ n.text ∷ []) ns parts.1
    (λ x e. by x fresh (or_cases (is_among_names x seen) (bytes_eq x n.text || false)
    (sym (among_more x n.text seen) ∙ e)))
  where
    by : (x : List ℕ) → is_among_names n.text (map (λ m. m.text) ns) ≡ false
        → (is_among_names x seen ≡ true) ⊎ ((bytes_eq x n.text || false) ≡ true)
        → is_among_names x (map (λ m. m.text) ns) ≡ false
    by x fresh (inl e) = (or_parts (bytes_eq x n.text) _ (h x e)).1
    by x fresh (inr e) = one (or_cases (bytes_eq x n.text) false e)
      where
        one : (bytes_eq x n.text ≡ true) ⊎ (false ≡ true) → is_among_names x (map (λ m. m.text) ns) ≡ false
        one (inl same) =
            ap (λ y. is_among_names y (map (λ (m : Name). m.text) ns)) ((bytes_eq-Decides x n.text).0 same) ∙ fresh
        one (inr wrong) = absurd (true≢false (sym wrong))

-- so what has distinct Ids repeats none
pub none_repeated : {X : Type 0} (id : X → Name) (xs : List X) → are_distinct (map (λ x. (id x).text) xs) ≡ true
    → repeated (map id xs) ≡ []
none_repeated id xs d =
    none_again [] (map id xs) (ap are_distinct (map-map (λ n. n.text) id xs) ∙ d)
    (λ x e. absurd (true≢false (sym e)))
