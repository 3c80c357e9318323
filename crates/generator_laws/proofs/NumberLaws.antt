-- The places of Ids in the lists of the instance that is made.
use Rattle.std.proofs.Common.{ℕ, ◌≡◌, ◌+◌, ◌-◌, ◌<◌, ◌≤◌, zero, suc, Some, List}
use Rattle.std.proofs.Common.{◌++◌, map, All, length, slice_get, sym, ap, subst, ◌∙◌, arith, length-append}
use Rattle.std.specs.List.{range_with_len}
use Rattle.std.specs.Prelude.{codes}
use Rattle.std.proofs.lemmas.List.Elements.{All-nil, All-cons, All-map}
use Rattle.std.proofs.lemmas.List.FromFn.{length-map-range_with_len}
use Rattle.xhstt_completion.proofs.PartsLemmas.{slice_get-append_left, slice_get-append_right}
use Rattle.archive_generator.specs.Job as job
use Rattle.archive_generator.specs.Names.{numbered, below}
use Rattle.generator_laws.proofs.IdLaws.{row, resource_rows}
use Rattle.generator_laws.proofs.NameLaws.{made_there}

-- what stands at a place of a row, and how long it is
pub row_there : (word : List ℕ) (count k : ℕ) → k < count → slice_get (row word count) k ≡ Some (numbered word k)
row_there word count k l = made_there (numbered word) count k l

pub row_length : (word : List ℕ) (count : ℕ) → length (row word count) ≡ count
unfolding below
row_length word count = length-map-range_with_len (numbered word) 0 count

-- a place in the second of two lists
pub there_after : {A : Type 0} (xs ys : List A) (n k : ℕ) (y : A) → length xs ≡ n → slice_get ys k ≡ Some y
    → slice_get (xs ++ ys) (n + k) ≡ Some y
there_after xs ys n k y e at =
    let past : length xs ≤ n + k = omega arith in
    let left : n + k - length xs ≡ k = omega arith in
    slice_get-append_right xs ys (n + k) past ∙ ap (slice_get ys) left ∙ at

module _ (size : ℕ) where
  -- where the Ids of teachers, classes and rooms stand
  pub teacher_there : (n : ℕ) → n < job.teachers size
      → slice_get (resource_rows size) n ≡ Some (numbered (codes "p") n)
  teacher_there n l =
      let p = row (codes "p") (job.teachers size) in
      let c = row (codes "c") (job.classes size) in
      let q = row (codes "q") (job.rooms size) in
      let here : n < length p = subst (λ k. n < k) (sym (row_length (codes "p") (job.teachers size))) l in
      let inside : n < length (p ++ c) = omega (arith, length-append p c) in
      slice_get-append_left (p ++ c) q n inside ∙ slice_get-append_left p c n here
      ∙ row_there (codes "p") (job.teachers size) n l

  pub class_there : (n : ℕ) → n < job.classes size
      → slice_get (resource_rows size) (job.teachers size + n) ≡ Some (numbered (codes "c") n)
  class_there n l =
      let p = row (codes "p") (job.teachers size) in
      let c = row (codes "c") (job.classes size) in
      let q = row (codes "q") (job.rooms size) in
      let before = row_length (codes "p") (job.teachers size) in
      let count = row_length (codes "c") (job.classes size) in
      let inside : job.teachers size + n < length (p ++ c) = omega (arith, length-append p c, before, count) in
      slice_get-append_left (p ++ c) q (job.teachers size + n) inside
      ∙ there_after p c (job.teachers size) n (numbered (codes "c") n) before
      (row_there (codes "c") (job.classes size) n l)

  pub room_there : (n : ℕ) → n < job.rooms size
      → slice_get (resource_rows size) (job.teachers size + job.classes size + n) ≡ Some (numbered (codes "q") n)
  room_there n l =
      let p = row (codes "p") (job.teachers size) in
      let c = row (codes "c") (job.classes size) in
      let q = row (codes "q") (job.rooms size) in
      let teachers = row_length (codes "p") (job.teachers size) in
      let classes = row_length (codes "c") (job.classes size) in
      let before : length (p ++ c) ≡ job.teachers size + job.classes size =
      length-append p c ∙ (λ i. teachers i + classes i) in
      there_after (p ++ c) q (job.teachers size + job.classes size) n (numbered (codes "q") n) before
      (row_there (codes "q") (job.rooms size) n l)

-- what is true of each number below a count is true of all of them, and of all that are made
pub all_numbers : (P : ℕ → Type 0) (count : ℕ) → ((k : ℕ) → k < count → P k) → All P (below count)
unfolding below
all_numbers P count each = from 0 count (λ k l m. each k (omega arith))
  where
    from : (a n : ℕ) → ((k : ℕ) → a ≤ k → k < a + n → P k) → All P (range_with_len a n)
    from a zero h = All-nil P
    from a (suc n) h = All-cons P a (range_with_len (a + 1) n) (h a (omega arith) (omega arith))
        (from (a + 1) n (λ k l m. h k (omega arith) (omega arith)))

pub all_below : {T : Type 0} (P : T → Type 0) (f : ℕ → T) (count : ℕ) → ((k : ℕ) → k < count → P (f k))
    → All P (map f (below count))
all_below P f count each = All-map P f (below count) (all_numbers (λ k. P (f k)) count each)
