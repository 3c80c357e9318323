-- The solutions of a report in one row, each with the Id of its group.
use Rattle.std.proofs.Common.{ℕ, zero, suc, ◌≡◌, ◌+◌, ◌-◌, ◌<◌, ◌≤◌, Bool, List, [], ◌∷◌, ◌++◌, Option, None, Some}
use Rattle.std.proofs.Common.{length, drop, take, subst, zero-add}
use Rattle.std.proofs.Common.{map, slice_get, get_or, refl, sym, ap, ◌∙◌, arith, append_assoc, encode_utf8_all}
use Rattle.std.specs.List.{concat, enumerate_from, flat_map}
use Rattle.std.specs.Option.{option_map, option_map_or}
use Rattle.std.proofs.Math.ListN.{drop_of_length-le}
use Rattle.std.proofs.lemmas.Grind.{flat_map-append}
use Rattle.std.proofs.lemmas.List.{append-nil, length-map}
use Rattle.std.proofs.lemmas.List.Concat.{concat_is, flat_map-cons}
use Rattle.std.proofs.lemmas.Option.{slice_get-map, slice_get_read}
use Rattle.evaluation_report.specs.Lines.{header_line}
use Rattle.khe_base.proofs.ListLemmas.{drop-there, there}
use Rattle.khe_io.specs.Faults.{Took}
use Rattle.parallel_solve.proofs.BatchLemmas.{joined}
use Rattle.parallel_solve.specs.Ready.{AreOnes, IsOne}
use Rattle.parallel_solve.specs.Batches.{IsWindow, batch_of}
use Rattle.khe_io.specs.Amid.{IsAmid}
use Rattle.reading_commands.specs.Report.{group_ids, group_text, groups_text, left_text, numbered_text, report, row_text}
use Rattle.xhstt_references.specs.References.{solutions_of}
use Rattle.xhstt_resolve.specs.declared.resolving.Resolved.{Resolved}
use Rattle.xhstt_shape.specs.declared.records.Archive.{Archive}
use Rattle.xhstt_shape.specs.declared.records.RawSolution.{RawSolution}
use Rattle.xhstt_shape.specs.declared.records.SolutionGroup.{SolutionGroup}

-- where what is left of a list begins with an element, that stands at this place
stands : {A : Type 0} (xs : List A) (n : ℕ) (x : A) (rest : List A) → drop n xs ≡ x ∷ rest → slice_get xs n ≡ Some x
stands [] zero x rest is = absurd (let g : ⊥ = cc in g)
stands [] (suc n) x rest is = absurd (let g : ⊥ = cc in g)
stands (y ∷ ys) zero x rest is = cc
stands (y ∷ ys) (suc n) x rest is = stands ys n x rest is

-- what is left after that
one_past : {A : Type 0} (xs : List A) (n : ℕ) (x : A) (rest : List A) → drop n xs ≡ x ∷ rest → drop (n + 1) xs ≡ rest
one_past xs n x rest is = let at = drop-there xs n x (stands xs n x rest is) in cc

-- what is left after more of them
all_past : {A : Type 0} (xs : List A) (n : ℕ) (some rest : List A) → drop n xs ≡ some ++ rest
    → drop (n + length some) xs ≡ rest
all_past xs n [] rest is = ap (λ k. drop k xs) (let z : n + zero ≡ n = omega arith in z) ∙ is
all_past xs n (x ∷ some) rest is =
    ap (λ k. drop k xs) (let z : n + suc (length some) ≡ (n + 1) + length some = omega arith in z)
    ∙ all_past xs (n + 1) some rest (one_past xs n x (some ++ rest) is)

-- what is left of a batch begins with the solution at hand
batch_there : (f : ℕ × RawSolution → List ℕ) (n end : ℕ) (raws : List RawSolution) (x : RawSolution) → n < end
    → slice_get raws n ≡ Some x
    → flat_map f (batch_of n (end - n) raws) ≡ f (n, x) ++ flat_map f (batch_of (n + 1) (end - (n + 1)) raws)
batch_there f n end raws x lt at =
    let k = end - (n + 1) in
    ap (λ m. flat_map f (batch_of n m raws)) (let z : end - n ≡ suc k = omega (arith, lt) in z)
    ∙ ap (λ (xs : List RawSolution). flat_map f (enumerate_from n (take (suc k) xs))) (drop-there raws n x at)
    ∙ flat_map-cons f (n, x) (batch_of (n + 1) k raws)

module _ (all : Bool) (r : Resolved) (ids : List (List ℕ)) where
  -- the part of a report on a solution
  abbrev row : ℕ × RawSolution → List ℕ
  row = row_text all r ids

  -- the solutions of one group, and then others
  one_group : (n : ℕ) (g : List ℕ) (xs raws : List RawSolution) (rest : List (List ℕ))
      → drop n ids ≡ map (λ _. g) xs ++ rest
      → flat_map row (enumerate_from n (xs ++ raws))
      ≡ flat_map (numbered_text all r g) (enumerate_from n xs) ++ flat_map row (enumerate_from (n + length xs) raws)
  one_group n g [] raws rest is = ap (λ m. flat_map row (enumerate_from m raws))
      (let z : n ≡ n + zero = omega arith in z)
  one_group n g (x ∷ xs) raws rest is =
      let f = numbered_text all r g in
      let more = map (λ (_ : RawSolution). g) xs ++ rest in
      let others = flat_map row (enumerate_from (n + suc (length xs)) raws) in
      flat_map-cons row (n, x) (enumerate_from (n + 1) (xs ++ raws))
      ∙ ap (λ o. option_map_or (λ (i : List ℕ). numbered_text all r i (n, x)) o []
      ++ flat_map row (enumerate_from (n + 1) (xs ++ raws))) (stands ids n g more is)
      ∙ ap (λ t. f (n, x) ++ t) (one_group (n + 1) g xs raws rest (one_past ids n g more is)
      ∙ ap (λ m. flat_map f (enumerate_from (n + 1) xs) ++ flat_map row (enumerate_from m raws))
      (let z : (n + 1) + length xs ≡ n + suc (length xs) = omega arith in z))
      ∙ sym (append_assoc (f (n, x)) (flat_map f (enumerate_from (n + 1) xs)) others)
      ∙ ap (λ t. t ++ others) (sym (flat_map-cons f (n, x) (enumerate_from (n + 1) xs)))

  -- the texts of the groups, one after another, are that of all their solutions
  in_one_row : (n : ℕ) (gs : List SolutionGroup) → drop n ids ≡ group_ids gs
      → flat_map row (enumerate_from n (flat_map (λ g. g.solutions) gs)) ≡ groups_text all r n gs
  in_one_row n [] is = refl
  in_one_row n (g ∷ gs) is =
      let own = map (λ (_ : RawSolution). g.id.text) g.solutions in
      let here = is ∙ flat_map-cons (λ (y : SolutionGroup). map (λ _. y.id.text) y.solutions) g gs in
      ap (λ xs. flat_map row (enumerate_from n xs)) (flat_map-cons (λ (y : SolutionGroup). y.solutions) g gs)
      ∙ one_group n g.id.text g.solutions (flat_map (λ y. y.solutions) gs) (group_ids gs) here
      ∙ ap (λ t. group_text all r n g ++ t) (in_one_row (n + length g.solutions) gs
      (ap (λ k. drop (n + k) ids) (sym (length-map g.solutions (λ (_ : RawSolution). g.id.text)))
      ∙ all_past ids n own (group_ids gs) here))

  -- a batch of which one solution less is left: its part joined the text
  pub one_joined : (raws : List RawSolution) (n end : ℕ) (text now g whole : List ℕ) (x : RawSolution) → n < end
      → slice_get ids n ≡ Some g → slice_get raws n ≡ Some x → now ≡ text ++ numbered_text all r g (n, x)
      → text ++ flat_map (row_text all r ids) (batch_of n (end - n) raws) ≡ whole
      → now ++ flat_map (row_text all r ids) (batch_of (n + 1) (end - (n + 1)) raws) ≡ whole
  one_joined raws n end text now g whole x lt has at pushed h =
      let part = numbered_text all r g (n, x) in
      let left = flat_map row (batch_of (n + 1) (end - (n + 1)) raws) in
      ap (λ t. t ++ left) pushed
      ∙ append_assoc text part left
      ∙ ap (λ o. text ++ (option_map_or (λ (i : List ℕ). numbered_text all r i (n, x)) o [] ++ left)) (sym has)
      ∙ ap (λ t. text ++ t) (sym (batch_there row n end raws x lt at)) ∙ h

  -- one that no group has adds nothing
  pub none_joined : (raws : List RawSolution) (n end : ℕ) (text whole : List ℕ) → n < end → n < length raws
      → slice_get ids n ≡ None
      → text ++ flat_map (row_text all r ids) (batch_of n (end - n) raws) ≡ whole
      → text ++ flat_map (row_text all r ids) (batch_of (n + 1) (end - (n + 1)) raws) ≡ whole
  none_joined raws n end text whole lt within none h =
      let at = there raws n within in
      let left = flat_map row (batch_of (n + 1) (end - (n + 1)) raws) in
      ap (λ o. text ++ (option_map_or (λ (i : List ℕ). numbered_text all r i (n, at.value)) o [] ++ left)) (sym none)
      ∙ ap (λ t. text ++ t) (sym (batch_there row n end raws at.value lt at.found)) ∙ h

  -- the texts of a window, and what is left after it
  pub with_window : (raws : List RawSolution) (first next : ℕ) (made : List (List ℕ))
      → IsWindow (flat_map (row_text all r ids)) raws first next made
      → concat made ++ left_text all r ids next raws ≡ left_text all r ids first raws
  with_window raws first next made h =
      ap (λ t. t ++ left_text all r ids next raws) (concat_is made)
      ∙ joined (flat_map row) raws first next made h.batches h.within (flat_map-append row)

-- what stands at a place, of references
pub found_at : {A B : Type 0} (f : A → B) (xs : List A) (k : ℕ) (x : A) → k < length xs → x ≡ get_or xs k x
    → slice_get (map f xs) k ≡ Some (f x)
found_at f xs k x lt is = slice_get-map f xs k ∙ ap (option_map f) (slice_get_read xs (length xs) k x refl lt is)

-- a solution of all has its instance
pub one_at : (r : Resolved) (raws : List RawSolution) (n : ℕ) (x : RawSolution) → AreOnes r 0 raws
    → slice_get raws n ≡ Some x → IsOne r n x
one_at r raws n x all at = subst (λ m. IsOne r m x) (zero-add n) (all n x at)

-- the text at hand comes before the others
pub first_text : (made : List (List ℕ)) (i : ℕ) (x rest : List ℕ) → i < length made → x ≡ get_or made i x
    → concat (drop i made) ++ rest ≡ x ++ (concat (drop (i + 1) made) ++ rest)
first_text made i x rest lt is =
    ap (λ (xs : List (List ℕ)). concat xs ++ rest)
    (drop-there made i x (slice_get_read made (length made) i x refl lt is))
    ∙ append_assoc x (concat (drop (i + 1) made)) rest

-- where a window reaches no further, nothing is left
pub none_left : {M : Type 0} (all : Bool) (r : Resolved) (ids : List (List ℕ)) (f : List (ℕ × RawSolution) → M)
    (raws : List RawSolution) (first next : ℕ) (made : List M) → IsWindow f raws first next made → next ≤ first
    → left_text all r ids first raws ≡ []
none_left all r ids f raws first next made h over =
    ap (λ xs. flat_map (row_text all r ids) (enumerate_from first xs)) (drop_of_length-le raws within)
  where
    within : length raws ≤ first
    within = grind (arith, h.some, over)

-- after the header all solutions are left
pub at_first : (before : Option (List ℕ)) (all : Bool) (a : Archive) (r : Resolved) (head : List ℕ)
    (groups : List (List ℕ)) (raws : List RawSolution)
    → head ≡ header_line (length r.instances) (length (solutions_of a))
    → groups ≡ group_ids a.solution_groups → raws ≡ solutions_of a
    → IsAmid before before head (left_text all r groups 0 raws) (report all a r)
at_first before all a r head groups raws begun ids are = record {
  written = [];
  took = nothing before;
  is = ap (λ (t : List ℕ). head ++ t)
      (ap (left_text all r groups 0) are ∙ in_one_row all r groups 0 a.solution_groups ids)
      ∙ ap (λ h. h ++ groups_text all r 0 a.solution_groups) begun;
}
  where
    nothing : (o : Option (List ℕ)) → Took o o (encode_utf8_all [])
    nothing None = refl
    nothing (Some xs) = ap Some (sym (append-nil xs))

-- one Id more, of those that come
pub one_id : (done now : List (List ℕ)) (g : List ℕ) (xs : List RawSolution) (i : ℕ) (rest whole : List (List ℕ))
    → i < length xs → now ≡ done ++ g ∷ [] → done ++ (map (λ _. g) (drop i xs) ++ rest) ≡ whole
    → now ++ (map (λ _. g) (drop (i + 1) xs) ++ rest) ≡ whole
one_id done now g xs i rest whole lt pushed h =
    let at = there xs i lt in
    let tail = map (λ (_ : RawSolution). g) (drop (i + 1) xs) ++ rest in
    ap (λ l. l ++ tail) pushed ∙ append_assoc done (g ∷ []) tail
    ∙ ap (λ (ys : List RawSolution). done ++ (map (λ _. g) ys ++ rest)) (sym (drop-there xs i at.value at.found)) ∙ h
