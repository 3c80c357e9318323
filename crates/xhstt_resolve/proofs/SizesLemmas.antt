-- Sums and counts, one item more.
use Rattle.std.proofs.Common.{◌≡◌, ◌∙◌, sym, ap, ℕ, ◌+◌, ◌<◌, refl, Bool, true, false, if◌then◌else◌, List, [], ◌∷◌}
use Rattle.std.proofs.Common.{length, drop, get_or}
use Rattle.std.specs.List.{count_by, flat_map, sum_by}
use Rattle.std.proofs.lemmas.List.{drop_more, length-append, length-map}
use Rattle.std.proofs.lemmas.List.Sums.{sum_by-cons}
use Rattle.xhstt_resolve.specs.Members.{numbers_from, numbers_where}
use Rattle.xhstt_resolve.specs.Points.{has_role, place_point, places_at, role_points}
use Rattle.xhstt_shape.specs.declared.records.RawInstance.{RawInstance}

-- the sum of what is left is the next item's share and the sum of the rest
pub sum_step : {X : Type 0} (f : X → ℕ) (xs : List X) (k : ℕ) (x : X) → k < length xs → x ≡ get_or xs k x
    → sum_by f (drop k xs) ≡ f x + sum_by f (drop (k + 1) xs)
sum_step f xs k x l at = ap (sum_by f) (drop_more xs k x l ∙ ap (λ y. y ∷ drop (k + 1) xs) (sym at))
    ∙ sum_by-cons f x (drop (k + 1) xs)

-- and so with a length
pub length_step : {X Y : Type 0} (f : X → List Y) (xs : List X) (k : ℕ) (x : X) → k < length xs → x ≡ get_or xs k x
    → length (flat_map f (drop k xs)) ≡ length (f x) + length (flat_map f (drop (k + 1) xs))
length_step f xs k x l at =
    ap (λ ys. length (flat_map f ys)) (drop_more xs k x l ∙ ap (λ y. y ∷ drop (k + 1) xs) (sym at))
    ∙ length-append (f x) (flat_map f (drop (k + 1) xs))

-- there are as many numbers as items that pass
length_numbers : {X : Type 0} (test : X → Bool) (k : ℕ) (xs : List X)
    → length (numbers_from test k xs) ≡ count_by test xs
length_numbers test k [] = refl
length_numbers test k (x ∷ xs) =
    length-append (if test x then k ∷ [] else []) (numbers_from test (k + 1) xs)
    ∙ (λ j. here (test x) j + length_numbers test (k + 1) xs j)
    ∙ sym (sum_by-cons (λ y. if test y then 1 else 0) x xs)
  where
    here : (b : Bool) → length (if b then k ∷ [] else []) ≡ (if b then 1 else 0)
    here true = refl
    here false = refl

pub length_role_points : (i : RawInstance) (role : List ℕ) (e : ℕ)
    → length (role_points i role e) ≡ count_by (has_role role) (places_at i e)
length_role_points i role e =
    length-map (numbers_where (has_role role) (places_at i e)) (place_point e)
    ∙ length_numbers (has_role role) 0 (places_at i e)
