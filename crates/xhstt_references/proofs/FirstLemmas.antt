-- The first of some places, and the places of the elements of a list one after the other.
use Rattle.std.proofs.Common.{◌≡◌, ◌∙◌, ap, refl, sym, ℕ, ◌+◌, ◌<◌, ◌≤◌, add-one, drop-cons, List, [], ◌∷◌, ◌++◌}
use Rattle.std.proofs.Common.{length, get_or, drop, Option}
use Rattle.std.specs.List.{flat_map}
use Rattle.std.proofs.lemmas.List.{drop_all}
use Rattle.std.proofs.lemmas.List.Sums.{fold-append}
use Rattle.xhstt_references.specs.First.{noted, first_of}
use Rattle.khe_base.proofs.ListLemmas.{drop-next}

pub first_of_append : (first : Option ℕ) (xs ys : List ℕ) → first_of first (xs ++ ys) ≡ first_of (first_of first xs) ys
unfolding first_of
first_of_append first xs ys = fold-append noted first xs ys

pub first_of_nil : (first : Option ℕ) → first_of first [] ≡ first
unfolding first_of
first_of_nil first = refl

pub first_of_one : (first : Option ℕ) (at : ℕ) → first_of first (at ∷ []) ≡ noted first at
unfolding first_of
first_of_one first at = refl

-- eight lists one after the other
pub first_of_eight : (a : Option ℕ) (r1 r2 r3 r4 r5 r6 r7 r8 : List ℕ)
    → first_of a (r1 ++ (r2 ++ (r3 ++ (r4 ++ (r5 ++ (r6 ++ (r7 ++ r8)))))))
    ≡ first_of (first_of (first_of (first_of (first_of (first_of (first_of (first_of a r1) r2) r3) r4) r5) r6) r7) r8
first_of_eight a r1 r2 r3 r4 r5 r6 r7 r8 = simp first_of_append

pub ruleset place_steps = (first_of_append, first_of_nil)

-- what is left of a list begins with the element at hand
pub drop_step : {X : Type 0} (xs : List X) (i : ℕ) (d : X) → i < length xs → drop i xs ≡ get_or xs i d ∷ drop (i + 1) xs
drop_step xs i d h = drop-cons xs i d h ∙ ap (λ k. get_or xs i d ∷ drop k xs) (sym (add-one i))

module _ {X : Type 0} (f : X → List ℕ) (xs : List X) (i : ℕ) where
  -- the places of the element at hand, and then those of the rest
  pub walk_step : (x : X) (before after whole : Option ℕ) → i < length xs → x ≡ get_or xs i x
      → after ≡ first_of before (f x)
      → first_of before (flat_map f (drop i xs)) ≡ whole → first_of after (flat_map f (drop (i + 1) xs)) ≡ whole
  walk_step x before after whole h at is old =
      ap (λ y. first_of y (flat_map f (drop (i + 1) xs))) is
      ∙ sym (first_of_append before (f x) (flat_map f (drop (i + 1) xs)))
      ∙ ap (λ r. first_of before (flat_map f r)) (sym (drop-next xs i x h at))
      ∙ old

  -- nothing is left
  pub walk_end : (first whole : Option ℕ) → length xs ≤ i → first_of first (flat_map f (drop i xs)) ≡ whole
      → first ≡ whole
  walk_end first whole h old = sym (first_of_nil first)
      ∙ ap (λ r. first_of first (flat_map f r)) (sym (drop_all i xs h)) ∙ old

module _ {X : Type 0} (f : X → List ℕ) (rest : List X) where
  -- the places of the next element, and then those of the rest after it
  pub view_step : (x : X) (more : List X) (before after whole : Option ℕ) → rest ≡ x ∷ more → after ≡ first_of before (f x)
      → first_of before (flat_map f rest) ≡ whole → first_of after (flat_map f more) ≡ whole
  view_step x more before after whole at is old =
      ap (λ y. first_of y (flat_map f more)) is
      ∙ sym (first_of_append before (f x) (flat_map f more))
      ∙ ap (λ r. first_of before (flat_map f r)) (sym at)
      ∙ old

  -- none is left
  pub view_end : (first whole : Option ℕ) → rest ≡ [] → first_of first (flat_map f rest) ≡ whole → first ≡ whole
  view_end first whole none old = sym (first_of_nil first) ∙ ap (λ r. first_of first (flat_map f r)) (sym none) ∙ old
