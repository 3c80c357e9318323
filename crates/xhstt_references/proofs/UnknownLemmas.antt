-- References that are not among names.
use Rattle.std.proofs.Common.{◌≡◌, ◌∙◌, ap, refl, sym, ℕ, ◌+◌, ◌-◌, ◌<◌, Bool, true, false, not, cond, ltb, nat_lt}
use Rattle.std.proofs.Common.{if◌then◌else◌, get_or, List, [], ◌∷◌, ◌++◌, map, length, position, Option, Some, None}
use Rattle.std.proofs.Common.{arith}
use Rattle.std.specs.List.{filter, filter_map, flat_map, list_any, position_or_len, slice_get, cons_option}
use Rattle.std.specs.Str.{bytes_eq}
use Rattle.std.specs.Option.{is_some, option_and_then, option_map, option_map_or}
use Rattle.std.proofs.lemmas.Option.{slice_get-get_or, slice_get-map}
use Rattle.std.proofs.lemmas.List.Quantifiers.{position-Some}
use Rattle.std.proofs.lemmas.Bool.Decides.{nat_tests}
use Rattle.khe_base.proofs.ListLemmas.{below_length, none_of}
use Rattle.khe_base.specs.Names.{is_among_names, number_of}
use Rattle.xhstt_references.specs.First.{noted, first_of}
use Rattle.xhstt_references.specs.Directories.{named_in}
use Rattle.xhstt_references.specs.References.{unknown, unknown_in_entry, unknown_in_solution, off_end_from}
use Rattle.xhstt_references.proofs.FirstLemmas.{first_of_nil, first_of_one}
use Rattle.xhstt_references.specs.declared.directories.Directory.{Directory}
use Rattle.xhstt_shape.specs.declared.records.RawSolution.{RawSolution}
use Rattle.xhstt_shape.specs.declared.records.Ref.{Ref}

-- a test that an element passes has a first place
pub is_some_position : {X : Type 0} (p : X → Bool) (xs : List X) → is_some (position p xs) ≡ list_any p xs
is_some_position p xs = chosen (ltb (position_or_len p xs) (length xs)) (position_or_len p xs) ∙ below_length p xs
  where
    chosen : (b : Bool) (n : ℕ) → is_some (cond b (Some n) None) ≡ b
    chosen true n = refl
    chosen false n = refl

-- a reference that has a number is not noted, and one that has none is
pub known : (first : Option ℕ) (names : List (List ℕ)) (r : Ref) → is_some (number_of r.id names) ≡ true
    → first ≡ first_of first (unknown names (r ∷ []))
known first names r h =
    sym (first_of_nil first)
    ∙ ap (λ b. first_of first (map (λ x. x.at) (cond (not b) (r ∷ []) []))) (sym h ∙ is_some_position _ names)

pub not_known : (first : Option ℕ) (names : List (List ℕ)) (r : Ref) → is_some (number_of r.id names) ≡ false
    → noted first r.at ≡ first_of first (unknown names (r ∷ []))
not_known first names r h =
    sym (first_of_one first r.at)
    ∙ ap (λ b. first_of first (map (λ x. x.at) (cond (not b) (r ∷ []) []))) (sym h ∙ is_some_position _ names)

-- whether there is a number does not depend on what is made of it
pub is_some_map : {A B : Type 0} (f : A → B) (o : Option A) → is_some (option_map f o) ≡ is_some o
is_some_map f None = refl
is_some_map f (Some a) = refl

-- references one by one
pub unknown_each : (names : List (List ℕ)) (rs : List Ref)
    → unknown names rs ≡ flat_map (λ r. unknown names (r ∷ [])) rs
unknown_each names [] = refl
unknown_each names (r ∷ rs) = by (not (is_among_names r.id names)) (unknown_each names rs)
  where
    by : (b : Bool) → unknown names rs ≡ flat_map (λ x. unknown names (x ∷ [])) rs
        → map (λ x. x.at) (cond b (r ∷ filter (λ x. not (is_among_names x.id names)) rs)
        (filter (λ x. not (is_among_names x.id names)) rs))
        ≡ map (λ x. x.at) (cond b (r ∷ []) []) ++ flat_map (λ x. unknown names (x ∷ [])) rs
    by true e = ap (λ t. r.at ∷ t) e
    by false e = e

-- a number is that of one of the names
pub number_below : (name : List ℕ) (names : List (List ℕ)) (k : ℕ) → number_of name names ≡ Some k → k < length names
number_below name names k h = (position-Some (bytes_eq name) names k [] h).0

-- what is longer than what is left goes on beyond the end
pub left_over : (count n d : ℕ) → n < count → ltb (count - n) d ≡ ltb count (n + d)
left_over count n d h = grind (arith, nat_tests)

-- the place of a time from which an event would go on beyond the last one
pub off_end_place : (d : Directory) (duration : ℕ) (r : Ref)
    → off_end_from d duration r ≡ (if option_map_or (λ t. nat_lt (length d.times) (t + duration))
    (number_of r.id d.times) false then r.at ∷ [] else [])
off_end_place d duration r = by (number_of r.id d.times)
  where
    by : (o : Option ℕ) → option_map_or (λ t. if nat_lt (length d.times) (t + duration) then r.at ∷ [] else []) o []
        ≡ (if option_map_or (λ t. nat_lt (length d.times) (t + duration)) o false then r.at ∷ [] else [])
    by None = refl
    by (Some t) = refl

pub off_end_noted : (first : Option ℕ) (d : Directory) (duration : ℕ) (r : Ref) (late : Bool)
    → late ≡ option_map_or (λ t. nat_lt (length d.times) (t + duration)) (number_of r.id d.times) false → late ≡ true
    → noted first r.at ≡ first_of first (off_end_from d duration r)
off_end_noted first d duration r late is h =
    sym (first_of_one first r.at)
    ∙ ap (λ b. first_of first (if b then r.at ∷ [] else [])) (sym h ∙ is)
    ∙ ap (first_of first) (sym (off_end_place d duration r))

pub off_end_passed : (first : Option ℕ) (d : Directory) (duration : ℕ) (r : Ref) (late : Bool)
    → late ≡ option_map_or (λ t. nat_lt (length d.times) (t + duration)) (number_of r.id d.times) false → late ≡ false
    → first ≡ first_of first (off_end_from d duration r)
off_end_passed first d duration r late is h =
    sym (first_of_nil first)
    ∙ ap (λ b. first_of first (if b then r.at ∷ [] else [])) (sym h ∙ is)
    ∙ ap (first_of first) (sym (off_end_place d duration r))

-- a solution of an instance that is there, and one of none
module _ (ids : List (List ℕ)) (directories : List Directory) (s : RawSolution) where
  pub solution_known : (k : ℕ) (d : Directory) → number_of s.reference.id ids ≡ Some k → k < length directories
      → d ≡ get_or directories k d
      → unknown_in_solution ids directories s ≡ flat_map (unknown_in_entry d) s.events
  solution_known k d is h at =
      let found : slice_get directories k ≡ Some d = slice_get-get_or directories k d h ∙ ap Some (sym at) in
      ap (λ b. map (λ x. x.at) (cond (not b) (s.reference ∷ []) [])
      ++ option_map_or (λ e. flat_map (unknown_in_entry e) s.events)
      (option_and_then (λ j. slice_get directories j) (number_of s.reference.id ids)) [])
      (sym (is_some_position _ ids) ∙ ap is_some is)
      ∙ ap (λ o. option_map_or (λ e. flat_map (unknown_in_entry e) s.events)
      (option_and_then (λ j. slice_get directories j) o) []) is
      ∙ ap (λ o. option_map_or (λ e. flat_map (unknown_in_entry e) s.events) o []) found

  pub solution_unknown : number_of s.reference.id ids ≡ None
      → unknown_in_solution ids directories s ≡ s.reference.at ∷ []
  solution_unknown is =
      ap (λ b. map (λ x. x.at) (cond (not b) (s.reference ∷ []) [])
      ++ option_map_or (λ e. flat_map (unknown_in_entry e) s.events)
      (option_and_then (λ j. slice_get directories j) (number_of s.reference.id ids)) [])
      (sym (is_some_position _ ids) ∙ ap is_some is)
      ∙ ap (λ o. s.reference.at ∷ option_map_or (λ e. flat_map (unknown_in_entry e) s.events)
      (option_and_then (λ j. slice_get directories j) o) []) is

  -- solutions name times, resources and events alone
  pub solution_named : unknown_in_solution ids (map named_in directories) s ≡ unknown_in_solution ids directories s
  solution_named = ap (λ places. unknown ids (s.reference ∷ []) ++ places) (by (number_of s.reference.id ids))
    where
      kept : (o : Option Directory)
          → option_map_or (λ d. flat_map (unknown_in_entry d) s.events) (option_map named_in o) []
          ≡ option_map_or (λ d. flat_map (unknown_in_entry d) s.events) o []
      kept None = refl
      kept (Some d) = refl

      by : (n : Option ℕ) → option_map_or (λ d. flat_map (unknown_in_entry d) s.events)
          (option_and_then (λ k. slice_get (map named_in directories) k) n) []
          ≡ option_map_or (λ d. flat_map (unknown_in_entry d) s.events)
          (option_and_then (λ k. slice_get directories k) n) []
      by None = refl
      by (Some k) = ap (λ o. option_map_or (λ d. flat_map (unknown_in_entry d) s.events) o [])
          (slice_get-map named_in directories k)
          ∙ kept (slice_get directories k)

pub solutions_named : (ids : List (List ℕ)) (directories : List Directory) (ss : List RawSolution)
    → flat_map (unknown_in_solution ids (map named_in directories)) ss
    ≡ flat_map (unknown_in_solution ids directories) ss
solutions_named ids directories [] = refl
solutions_named ids directories (s ∷ ss) =
    λ j. solution_named ids directories s j ++ solutions_named ids directories ss j

-- where no reference of the solutions is unknown, each of them has a number
pub all_numbered : (ids : List (List ℕ)) (directories : List Directory) (ss : List RawSolution)
    → flat_map (unknown_in_solution ids directories) ss ≡ []
    → map Some (filter_map (λ s. number_of s.reference.id ids) ss) ≡ map (λ s. number_of s.reference.id ids) ss
all_numbered ids directories [] h = refl
all_numbered ids directories (s ∷ ss) h =
    let parts = none_of (unknown_in_solution ids directories s) (flat_map (unknown_in_solution ids directories) ss) h in
    by (number_of s.reference.id ids) refl parts.0 (all_numbered ids directories ss parts.1)
  where
    by : (o : Option ℕ) → number_of s.reference.id ids ≡ o → unknown_in_solution ids directories s ≡ []
        → map Some (filter_map (λ x. number_of x.reference.id ids) ss) ≡ map (λ x. number_of x.reference.id ids) ss
        → map Some (cons_option o (filter_map (λ x. number_of x.reference.id ids) ss))
        ≡ o ∷ map (λ x. number_of x.reference.id ids) ss
    by (Some k) is none e = ap (λ t. Some k ∷ t) e
    by None is none e = let bad = sym (solution_unknown ids directories s is) ∙ none in cc
