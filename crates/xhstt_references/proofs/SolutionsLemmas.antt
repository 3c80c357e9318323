-- The numbers and the places of solutions, one after the other.
use Rattle.std.proofs.Common.{◌≡◌, ◌∙◌, ap, sym, ℕ, ◌+◌, ◌<◌, ◌≤◌, List, ◌∷◌, ◌++◌, length, get_or, drop, append_assoc}
use Rattle.std.proofs.Common.{Option, Some, None}
use Rattle.std.specs.List.{filter_map, flat_map, cons_option}
use Rattle.std.specs.Option.{option_to_list}
use Rattle.std.proofs.lemmas.List.{append-nil, drop_all}
use Rattle.std.proofs.lemmas.List.Elements.{filter_map-append}
use Rattle.std.proofs.lemmas.Grind.{flat_map-append}
use Rattle.xhstt_references.specs.First.{first_of}
use Rattle.xhstt_references.proofs.FirstLemmas.{first_of_append, first_of_nil}
use Rattle.khe_base.proofs.ListLemmas.{drop-next}

cons_option_is : {X : Type 0} (o : Option X) (xs : List X) → cons_option o xs ≡ option_to_list o ++ xs
cons_option_is None xs = λ i. xs
cons_option_is (Some x) xs = λ i. x ∷ xs

module _ {X : Type 0} (h : X → Option ℕ) (xs : List X) (i : ℕ) where
  -- the number of the element at hand, and then those of the rest
  pub numbers_step : (x : X) (old new : List ℕ) {whole : List ℕ} → i < length xs → x ≡ get_or xs i x
      → new ≡ old ++ option_to_list (h x)
      → old ++ filter_map h (drop i xs) ≡ whole → new ++ filter_map h (drop (i + 1) xs) ≡ whole
  numbers_step x old new l at adds before =
      let rest = filter_map h (drop (i + 1) xs) in
      ap (λ y. y ++ rest) adds
      ∙ append_assoc old (option_to_list (h x)) rest
      ∙ ap (λ y. old ++ y) (sym (cons_option_is (h x) rest))
      ∙ ap (λ r. old ++ filter_map h r) (sym (drop-next xs i x l at))
      ∙ before

  pub numbers_end : (numbers : List ℕ) {whole : List ℕ} → length xs ≤ i → numbers ++ filter_map h (drop i xs) ≡ whole
      → numbers ≡ whole
  numbers_end numbers l before = sym (append-nil numbers) ∙ ap (λ r. numbers ++ filter_map h r) (sym (drop_all i xs l))
      ∙ before

module _ {G X : Type 0} (members : G → List X) (gs : List G) (i : ℕ) where
  -- the numbers and the places of the members of the group at hand, and then those of the rest
  pub groups_numbers_step : (h : X → Option ℕ) (g : G) (old new : List ℕ) {whole : List ℕ} → i < length gs
      → g ≡ get_or gs i g → new ≡ old ++ filter_map h (members g)
      → old ++ filter_map h (flat_map members (drop i gs)) ≡ whole
      → new ++ filter_map h (flat_map members (drop (i + 1) gs)) ≡ whole
  groups_numbers_step h g old new l at adds before =
      let rest = flat_map members (drop (i + 1) gs) in
      ap (λ y. y ++ filter_map h rest) adds
      ∙ append_assoc old (filter_map h (members g)) (filter_map h rest)
      ∙ ap (λ y. old ++ y) (sym (filter_map-append h (members g) rest))
      ∙ ap (λ r. old ++ filter_map h (flat_map members r)) (sym (drop-next gs i g l at))
      ∙ before

  pub groups_numbers_end : (h : X → Option ℕ) (numbers : List ℕ) {whole : List ℕ} → length gs ≤ i
      → numbers ++ filter_map h (flat_map members (drop i gs)) ≡ whole → numbers ≡ whole
  groups_numbers_end h numbers l before = sym (append-nil numbers)
      ∙ ap (λ r. numbers ++ filter_map h (flat_map members r)) (sym (drop_all i gs l)) ∙ before

  pub groups_places_step : (f : X → List ℕ) (g : G) (before after : Option ℕ) {whole : Option ℕ} → i < length gs
      → g ≡ get_or gs i g → after ≡ first_of before (flat_map f (members g))
      → first_of before (flat_map f (flat_map members (drop i gs))) ≡ whole
      → first_of after (flat_map f (flat_map members (drop (i + 1) gs))) ≡ whole
  groups_places_step f g before after l at notes old =
      let rest = flat_map members (drop (i + 1) gs) in
      ap (λ y. first_of y (flat_map f rest)) notes
      ∙ sym (first_of_append before (flat_map f (members g)) (flat_map f rest))
      ∙ ap (first_of before) (sym (flat_map-append f (members g) rest))
      ∙ ap (λ r. first_of before (flat_map f (flat_map members r))) (sym (drop-next gs i g l at))
      ∙ old

  pub groups_places_end : (f : X → List ℕ) (first : Option ℕ) {whole : Option ℕ} → length gs ≤ i
      → first_of first (flat_map f (flat_map members (drop i gs))) ≡ whole → first ≡ whole
  groups_places_end f first l old = sym (first_of_nil first)
      ∙ ap (λ r. first_of first (flat_map f (flat_map members r))) (sym (drop_all i gs l)) ∙ old
