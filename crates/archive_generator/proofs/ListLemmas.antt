-- Lists that are made element by element.
use Rattle.std.proofs.Common.{ℕ, ◌≡◌, ◌+◌, ◌<◌, suc, List, [], ◌∷◌, ◌++◌, map, take, drop, length, get_or, refl, sym}
use Rattle.std.proofs.Common.{ap, subst}
use Rattle.std.proofs.Common.{◌∙◌, append_assoc, append-nil, zero-add, add-one, drop-cons, ◌≤◌}
use Rattle.std.specs.List.{range_with_len}
use Rattle.std.proofs.lemmas.List.FromFn.{map-range_with_len_more, length-range_with_len, get_or-range_with_len}
use Rattle.std.proofs.lemmas.List.{drop_all}
use Rattle.khe_base.proofs.ListLemmas.{drop-next}
use Rattle.archive_generator.specs.Names.{below}
use Rattle.archive_generator.specs.Turns.{in_turn, gathered}

-- what is made of no number, and of one number more
pub below_none : {T : Type 0} (value : ℕ → T) → map value (below 0) ≡ []
unfolding below
below_none value = refl

pub below_more : {T : Type 0} (value : ℕ → T) (n : ℕ) → map value (below (n + 1)) ≡ map value (below n) ++ value n ∷ []
unfolding below
below_more value n = map-range_with_len_more value 0 n n (zero-add n)

-- one element more, after those of the numbers before it
pub one_more : {T : Type 0} (value : ℕ → T) (old list : List T) (n : ℕ) (v : T)
    → list ≡ old ++ map value (below n) → v ≡ value n → list ++ v ∷ [] ≡ old ++ map value (below (n + 1))
one_more value old list n v e f =
    (λ j. e j ++ f j ∷ []) ∙ append_assoc old (map value (below n)) (value n ∷ [])
    ∙ ap (λ l. old ++ l) (sym (below_more value n))

-- the element at hand, and those of what is left, are those of what was left
pub one_of : {A T : Type 0} (value : A → T) (items : List A) (list whole : List T) (i : ℕ) (item : A) (v : T)
    → i < length items → item ≡ get_or items i item → v ≡ value item
    → list ++ map value (drop i items) ≡ whole → (list ++ v ∷ []) ++ map value (drop (i + 1) items) ≡ whole
one_of value items list whole i item v l at f e =
    append_assoc list (v ∷ []) (map value (drop (i + 1) items))
    ∙ ap (λ ys. list ++ ys)
    (ap (λ w. w ∷ map value (drop (i + 1) items)) f ∙ sym (ap (map value) (drop-next items i item l at))) ∙ e

-- the numbers from one on
pub drop_below : (n i : ℕ) → i < n → drop i (below n) ≡ i ∷ drop (i + 1) (below n)
unfolding below
drop_below n i l =
    drop-cons (range_with_len 0 n) i 0 (subst (λ k. i < k) (sym (length-range_with_len 0 n)) l)
    ∙ ap (λ k. k ∷ drop (suc i) (range_with_len 0 n)) (get_or-range_with_len 0 n i 0 l ∙ zero-add i)
    ∙ ap (λ k. i ∷ drop k (range_with_len 0 n)) (sym (add-one i))

pub drop_below_end : (n i : ℕ) → n ≤ i → drop i (below n) ≡ []
unfolding below
drop_below_end n i l = drop_all i (range_with_len 0 n) (subst (λ k. k ≤ i) (sym (length-range_with_len 0 n)) l)

-- what was drawn so far, and what the rest will draw, after one element more
pub turn_value : {A B : Type 0} (step : A → ℕ → B × ℕ) (xs : List A) (i : ℕ) (a : A) (x y : ℕ) (b : B)
    (done list whole : List B) → list ≡ done ++ b ∷ [] → drop i xs ≡ a ∷ drop (i + 1) xs → b ≡ (step a x).0
    → y ≡ (step a x).1 → done ++ (in_turn step (drop i xs) x).0 ≡ whole
    → list ++ (in_turn step (drop (i + 1) xs) y).0 ≡ whole
turn_value step xs i a x y b done list whole p d f g e =
    ap (λ ys. ys ++ (in_turn step (drop (i + 1) xs) y).0) p
    ∙ append_assoc done (b ∷ []) (in_turn step (drop (i + 1) xs) y).0
    ∙ (λ j. done ++ (f j ∷ (in_turn step (drop (i + 1) xs) (g j)).0))
    ∙ subst (λ ys. done ++ (in_turn step ys x).0 ≡ whole) d e

pub turn_state : {A B : Type 0} (step : A → ℕ → B × ℕ) (xs : List A) (i : ℕ) (a : A) (x y last : ℕ)
    → drop i xs ≡ a ∷ drop (i + 1) xs → y ≡ (step a x).1 → (in_turn step (drop i xs) x).1 ≡ last
    → (in_turn step (drop (i + 1) xs) y).1 ≡ last
turn_state step xs i a x y last d g e =
    (λ j. (in_turn step (drop (i + 1) xs) (g j)).1) ∙ subst (λ ys. (in_turn step ys x).1 ≡ last) d e

-- the same, where some values are drawn for each element
pub gathered_value : {A B : Type 0} (step : A → ℕ → List B × ℕ) (xs : List A) (i : ℕ) (a : A) (x y : ℕ) (b : List B)
    (done whole : List B) → drop i xs ≡ a ∷ drop (i + 1) xs → b ≡ done ++ (step a x).0 → y ≡ (step a x).1
    → done ++ (gathered step (drop i xs) x).0 ≡ whole
    → b ++ (gathered step (drop (i + 1) xs) y).0 ≡ whole
gathered_value step xs i a x y b done whole d f g e =
    (λ j. f j ++ (gathered step (drop (i + 1) xs) (g j)).0)
    ∙ append_assoc done (step a x).0 (gathered step (drop (i + 1) xs) (step a x).1).0
    ∙ subst (λ ys. done ++ (gathered step ys x).0 ≡ whole) d e

pub gathered_state : {A B : Type 0} (step : A → ℕ → List B × ℕ) (xs : List A) (i : ℕ) (a : A) (x y last : ℕ)
    → drop i xs ≡ a ∷ drop (i + 1) xs → y ≡ (step a x).1 → (gathered step (drop i xs) x).1 ≡ last
    → (gathered step (drop (i + 1) xs) y).1 ≡ last
gathered_state step xs i a x y last d g e =
    (λ j. (gathered step (drop (i + 1) xs) (g j)).1) ∙ subst (λ ys. (gathered step ys x).1 ≡ last) d e

-- after the last number nothing is left to draw
pub turn_end_value : {B : Type 0} (step : ℕ → ℕ → B × ℕ) (n i x : ℕ) (done whole : List B) → n ≤ i
    → done ++ (in_turn step (drop i (below n)) x).0 ≡ whole → done ≡ whole
turn_end_value step n i x done whole l e =
    sym (append-nil done) ∙ subst (λ ys. done ++ (in_turn step ys x).0 ≡ whole) (drop_below_end n i l) e

pub turn_end_state : {B : Type 0} (step : ℕ → ℕ → B × ℕ) (n i x last : ℕ) → n ≤ i
    → (in_turn step (drop i (below n)) x).1 ≡ last → x ≡ last
turn_end_state step n i x last l e = subst (λ ys. (in_turn step ys x).1 ≡ last) (drop_below_end n i l) e
