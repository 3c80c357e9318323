-- What entries name, one after the other.
use Rattle.std.proofs.Common.{◌≡◌, ◌∙◌, ap, refl, sym, ℕ, ◌+◌, ◌<◌, ◌≤◌, List, [], ◌∷◌, ◌++◌, map, length, get_or, drop}
use Rattle.std.proofs.Common.{append_assoc, None, Some, OnOk, Result, Ok, Err}
use Rattle.std.specs.List.{flat_map, slice_get}
use Rattle.std.specs.Option.{option_and_then, option_map_or}
use Rattle.std.proofs.lemmas.List.{append-nil, drop_all, length-append, length-map, map-append}
use Rattle.std.proofs.lemmas.Option.{slice_get-get_or}
use Rattle.khe_base.specs.Names.{number_of}
use Rattle.khe_base.specs.declared.numbers.ResourceId.{ResourceId}
use Rattle.xhstt_references.specs.Followed.{followed, followed_in, given_in, named_at, named_from, nothing}
use Rattle.xhstt_references.specs.Followed.{resource_numbered}
use Rattle.xhstt_references.specs.declared.following.Named.{Named}
use Rattle.xhstt_references.specs.declared.part_names.PartNames.{PartNames}
use Rattle.xhstt_shape.specs.declared.records.RawEntry.{RawEntry}
use Rattle.xhstt_shape.specs.declared.records.RawSolution.{RawSolution}
use Rattle.khe_base.proofs.ListLemmas.{drop-next}

-- what holds in any case holds where a call went well
pub whatever : {A E P : Type 0} (r : Result A E) → P → OnOk r P
whatever (Ok a) p = p
whatever (Err e) p = tt

-- and what follows from what a call ensures
pub so_then : {A E P Q : Type 0} (r : Result A E) → (P → Q) → OnOk r P → OnOk r Q
so_then (Ok a) f p = f p
so_then (Err e) f p = tt

module _ {A B : Type 0} (f : A → B) (rest : List A) where
  -- what the next item gives, and then what the rest after it gives
  pub pushed_step : (x : A) (more : List A) (old new whole : List B) → rest ≡ x ∷ more → new ≡ old ++ f x ∷ []
      → old ++ map f rest ≡ whole → new ++ map f more ≡ whole
  pushed_step x more old new whole at added sofar =
      ap (λ ys. ys ++ map f more) added
      ∙ append_assoc old (f x ∷ []) (map f more)
      ∙ ap (λ r. old ++ map f r) (sym at)
      ∙ sofar

  pub pushed_end : (made whole : List B) → rest ≡ [] → made ++ map f rest ≡ whole → made ≡ whole
  pushed_end made whole none sofar = sym (append-nil made) ∙ ap (λ r. made ++ map f r) (sym none) ∙ sofar

module _ {A B : Type 0} (f : A → List B) (rest : List A) where
  -- the same where each gives several
  pub joined_step : (x : A) (more : List A) (old new whole : List B) → rest ≡ x ∷ more → new ≡ old ++ f x
      → old ++ flat_map f rest ≡ whole → new ++ flat_map f more ≡ whole
  joined_step x more old new whole at added sofar =
      ap (λ ys. ys ++ flat_map f more) added
      ∙ append_assoc old (f x) (flat_map f more)
      ∙ ap (λ r. old ++ flat_map f r) (sym at)
      ∙ sofar

  pub joined_end : (made whole : List B) → rest ≡ [] → made ++ flat_map f rest ≡ whole → made ≡ whole
  joined_end made whole none sofar = sym (append-nil made) ∙ ap (λ r. made ++ flat_map f r) (sym none) ∙ sofar

module _ (n : PartNames) (rest : List RawEntry) where
  -- the next entry, whose resources begin where those of the entries before it end
  pub named_step : (e : RawEntry) (more : List RawEntry) (old new whole : List Named) (before after : List ResourceId)
      → rest ≡ e ∷ more → new ≡ old ++ named_at n (length before) e ∷ [] → after ≡ before ++ given_in n e
      → old ++ named_from n (length before) rest ≡ whole → new ++ named_from n (length after) more ≡ whole
  named_step e more old new whole before after at added given sofar =
      let longer : length after ≡ length before + length e.resources =
      ap length given ∙ length-append before (given_in n e)
      ∙ ap (λ k. length before + k) (length-map e.resources (λ g. resource_numbered n g.reference))
      in
      (λ j. added j ++ named_from n (longer j) more)
      ∙ append_assoc old (named_at n (length before) e ∷ []) (named_from n (length before + length e.resources) more)
      ∙ ap (λ r. old ++ named_from n (length before) r) (sym at)
      ∙ sofar

  pub named_end : (made whole : List Named) (k : ℕ) → rest ≡ [] → made ++ named_from n k rest ≡ whole → made ≡ whole
  named_end made whole k none sofar = sym (append-nil made) ∙ ap (λ r. made ++ named_from n k r) (sym none) ∙ sofar

-- a solution of an instance that is there, and one of none
module _ (names : List PartNames) (ids : List (List ℕ)) (s : RawSolution) where
  pub followed_known : (k : ℕ) (n : PartNames) → number_of s.reference.id ids ≡ Some k → k < length names
      → n ≡ get_or names k n → followed n s.events ≡ followed_in names ids s
  followed_known k n is h at =
      let found : slice_get names k ≡ Some n = slice_get-get_or names k n h ∙ ap Some (sym at) in
      ap (λ o. option_map_or (λ m. followed m s.events) o nothing) (sym found)
      ∙ ap (λ o. option_map_or (λ m. followed m s.events) (option_and_then (λ j. slice_get names j) o) nothing) (sym is)

  pub followed_unknown : number_of s.reference.id ids ≡ None → nothing ≡ followed_in names ids s
  followed_unknown is =
      ap (λ o. option_map_or (λ m. followed m s.events) (option_and_then (λ j. slice_get names j) o) nothing) (sym is)

module _ {A B : Type 0} (f : A → B) (xs : List A) (i : ℕ) where
  -- what the item at hand gives, and then what those after it give
  pub made_step : (x : A) (old new : List B) {whole : List B} → i < length xs → x ≡ get_or xs i x
      → new ≡ old ++ f x ∷ [] → old ++ map f (drop i xs) ≡ whole → new ++ map f (drop (i + 1) xs) ≡ whole
  made_step x old new l at added sofar =
      ap (λ ys. ys ++ map f (drop (i + 1) xs)) added
      ∙ append_assoc old (f x ∷ []) (map f (drop (i + 1) xs))
      ∙ ap (λ r. old ++ map f r) (sym (drop-next xs i x l at))
      ∙ sofar

  pub made_end : (made : List B) {whole : List B} → length xs ≤ i → made ++ map f (drop i xs) ≡ whole → made ≡ whole
  made_end made l sofar = sym (append-nil made) ∙ ap (λ r. made ++ map f r) (sym (drop_all i xs l)) ∙ sofar

module _ {G A B : Type 0} (members : G → List A) (gs : List G) (i : ℕ) (f : A → B) where
  -- the same of the members of groups
  pub groups_made_step : (g : G) (old new : List B) {whole : List B} → i < length gs → g ≡ get_or gs i g
      → new ≡ old ++ map f (members g) → old ++ map f (flat_map members (drop i gs)) ≡ whole
      → new ++ map f (flat_map members (drop (i + 1) gs)) ≡ whole
  groups_made_step g old new l at added sofar =
      let rest = flat_map members (drop (i + 1) gs) in
      ap (λ ys. ys ++ map f rest) added
      ∙ append_assoc old (map f (members g)) (map f rest)
      ∙ ap (λ ys. old ++ ys) (sym (map-append f (members g) rest))
      ∙ ap (λ r. old ++ map f (flat_map members r)) (sym (drop-next gs i g l at))
      ∙ sofar

  pub groups_made_end : (made : List B) {whole : List B} → length gs ≤ i
      → made ++ map f (flat_map members (drop i gs)) ≡ whole → made ≡ whole
  groups_made_end made l sofar = sym (append-nil made)
      ∙ ap (λ r. made ++ map f (flat_map members r)) (sym (drop_all i gs l)) ∙ sofar
