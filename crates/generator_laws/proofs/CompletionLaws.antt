-- The first solution that is made can be completed.
use Rattle.std.proofs.Common.{ℕ, ◌≡◌, ◌+◌, ◌<◌, ◌≤◌, inl, inr, zero, suc, Some, None}
use Rattle.std.proofs.Common.{List, [], ◌∷◌, ◌++◌, All, length, map, slice_get, option_map, Ok}
use Rattle.std.proofs.Common.{refl, sym, ap, subst, ◌∙◌, arith}
use Rattle.std.specs.List.{range_with_len}
use Rattle.std.specs.Option.{option_or}
use Rattle.std.proofs.lemmas.Bool.{true≢false}
use Rattle.std.proofs.lemmas.List.Elements.{All-head, All-tail}
use Rattle.khe_instance.specs.declared.parts.EventInfo.{EventInfo}
use Rattle.khe_instance.specs.declared.parts.Parts.{Parts}
use Rattle.xhstt_shape.specs.declared.records.RawEntry.{RawEntry}
use Rattle.xhstt_completion.specs.Causes.{cause_after, first_cause, used_by}
use Rattle.xhstt_completion.specs.Completed.{completed, state_of, unless}
use Rattle.xhstt_completion.specs.declared.faults.Cause.{Cause}
use Rattle.archive_generator.specs.declared.drawing.DrawnEntry.{DrawnEntry}
use Rattle.archive_generator.specs.declared.drawing.DrawnEvent.{DrawnEvent}
use Rattle.archive_generator.specs.Job as job
use Rattle.archive_generator.specs.Names.{below}
use Rattle.archive_generator.specs.Solutions as solutions
use Rattle.archive_generator.specs.Turns.{gathered}
use Rattle.generator_laws.proofs.CauseLaws.{IsApt, free_after, more_own, more_other}
use Rattle.generator_laws.proofs.DrawLaws.{AreDrawn, ArePieces, IsCut, IsWhole, entries_pieces}
use Rattle.generator_laws.proofs.EventLaws.{IsOne, all_ones}
use Rattle.generator_laws.proofs.IdLaws.{IsSize}
use Rattle.generator_laws.proofs.PartLaws.{parts, each_there}

-- no entry is one of an event from a number on
abbrev IsUnused : Parts → ℕ → List RawEntry → Type 0
IsUnused p a before = (k : ℕ) (event : EventInfo) → a ≤ k → used_by p k event before ≡ 0

-- where neither an entry nor those after it have a cause there is none
no_first : (p : Parts) (before : List RawEntry) (entry : RawEntry) (rest : List RawEntry)
    → cause_after p before entry ≡ None → first_cause p (before ++ entry ∷ []) rest ≡ None
    → first_cause p before (entry ∷ rest) ≡ None
no_first p before entry rest h k =
    let told = λ (cause : ℕ). (let c : Cause = record { cause = cause; entry = length before } in c) in
    λ j. option_or (option_map told (h j)) (k j)

-- an event of the job at its place
abbrev IsThere : ℕ → List DrawnEvent → DrawnEvent → Type 0
IsThere size es e = slice_get es e.number ≡ Some e

module _ (size : ℕ) (es : List DrawnEvent) (s : IsSize size) (drawn : AreDrawn size es) where
  -- after the entries of an event no entry is one of a later event
  unused_after : (e : DrawnEvent) (d : DrawnEntry) (before : List RawEntry) → IsOne size e → d.event ≡ e.number
      → IsUnused (parts size es) (e.number + 1) before
      → IsUnused (parts size es) (e.number + 1) (before ++ solutions.entry d ∷ [])
  unused_after e d before one is unused k event l =
      let later : e.number < k = omega arith in
      more_other size es s drawn e d before k event one is later ∙ unused k event l

  later : (a : ℕ) (before : List RawEntry) → IsUnused (parts size es) a before
      → IsUnused (parts size es) (a + 1) before
  later a before unused k event l = unused k event (omega arith)

  -- the entries of an event, before those of later events
  whole_free : (e : DrawnEvent) (ds rest : List DrawnEntry) (before : List RawEntry) → IsOne size e → IsThere size es e
      → IsWhole size e ds → IsUnused (parts size es) e.number before
      → ((then : List RawEntry) → IsUnused (parts size es) (e.number + 1) then
      → first_cause (parts size es) then (map solutions.entry rest) ≡ None)
      → first_cause (parts size es) before (map solutions.entry (ds ++ rest)) ≡ None
  whole_free e ds rest before one at whole unused next =
      let p = parts size es in
      let d = whole.one in
      let lasts = whole.lasts in
      let some : 1 ≤ d.duration = subst (λ n. 1 ≤ n) (sym lasts) one.short.0 in
      let room : 0 + d.duration ≤ e.duration = omega arith in
      let apt : IsApt size e d 0 = record { entry = whole.entry; whole = λ h. lasts; room = room } in
      ap (λ xs. first_cause p before (map solutions.entry (xs ++ rest))) whole.are
      ∙ no_first p before (solutions.entry d) (map solutions.entry rest)
      (free_after size es s drawn e d before 0 at one some apt (λ event. unused e.number event (omega arith)))
      (next (before ++ solutions.entry d ∷ [])
      (unused_after e d before one whole.entry.event (later e.number before unused)))

  cut_free : (e : DrawnEvent) (ds rest : List DrawnEntry) (before : List RawEntry) → IsOne size e → IsThere size es e
      → IsCut size e ds → IsUnused (parts size es) e.number before
      → ((then : List RawEntry) → IsUnused (parts size es) (e.number + 1) then
      → first_cause (parts size es) then (map solutions.entry rest) ≡ None)
      → first_cause (parts size es) before (map solutions.entry (ds ++ rest)) ≡ None
  cut_free e ds rest before one at cut unused next =
      let p = parts size es in
      let d = cut.first in
      let f = cut.second in
      let amid = before ++ solutions.entry d ∷ [] in
      let first = cut.first_lasts in
      let second = cut.second_lasts in
      let long = cut.long in
      let some : 1 ≤ d.duration = omega arith in
      let more : 1 ≤ f.duration = omega arith in
      let room : 0 + d.duration ≤ e.duration = omega arith in
      let left : d.duration + f.duration ≤ e.duration = omega arith in
      let apt : IsApt size e d 0 = record {
        entry = cut.first_entry;
        whole = λ h. absurd (true≢false (sym h ∙ cut.free));
        room = room;
      } in
      let also : IsApt size e f d.duration = record {
        entry = cut.second_entry;
        whole = λ h. absurd (true≢false (sym h ∙ cut.free));
        room = left;
      } in
      let none : (event : EventInfo) → used_by p e.number event before ≡ 0 =
      λ event. unused e.number event (omega arith) in
      ap (λ xs. first_cause p before (map solutions.entry (xs ++ rest))) cut.are
      ∙ no_first p before (solutions.entry d) (solutions.entry f ∷ map solutions.entry rest)
      (free_after size es s drawn e d before 0 at one some apt none)
      (no_first p amid (solutions.entry f) (map solutions.entry rest)
      (free_after size es s drawn e f amid d.duration at one more also
      (λ event. more_own size es s drawn e d before event one cut.first_entry.event (none event)))
      (next (amid ++ solutions.entry f ∷ [])
      (unused_after e f amid one cut.second_entry.event
      (unused_after e d before one cut.first_entry.event (later e.number before unused)))))

  -- all entries of a solution
  all_free : (xs : List DrawnEvent) (x a n : ℕ) (before : List RawEntry)
      → map (λ (e : DrawnEvent). e.number) xs ≡ range_with_len a n → All (IsOne size) xs → All (IsThere size es) xs
      → IsUnused (parts size es) a before
      → first_cause (parts size es) before
      (map solutions.entry (gathered (job.entries size) xs x).0) ≡ None
  all_free [] x a n before h ones there unused = refl
  all_free (e ∷ more) x a zero before h ones there unused = absurd (let g : ⊥ = cc in g)
  all_free (e ∷ more) x a (suc n) before h ones there unused =
      let number : e.number ≡ a = cc in
      let numbers : map (λ (y : DrawnEvent). y.number) more ≡ range_with_len (a + 1) n = cc in
      let p = parts size es in
      let one = All-head (IsOne size) e more ones in
      let at = All-head (IsThere size es) e more there in
      let ds = (job.entries size e x).0 in
      let y = (job.entries size e x).1 in
      let rest = (gathered (job.entries size) more y).0 in
      let here : IsUnused p e.number before = subst (λ k. IsUnused p k before) (sym number) unused in
      let next : (then : List RawEntry) → IsUnused p (e.number + 1) then
      → first_cause p then (map solutions.entry rest) ≡ None =
      λ then u. all_free more y (a + 1) n then numbers (All-tail (IsOne size) e more ones)
      (All-tail (IsThere size es) e more there) (subst (λ k. IsUnused p (k + 1) then) number u) in
      by ds rest one at here next (entries_pieces size e x one.short)
    where
      by : (ds rest : List DrawnEntry) → IsOne size e → IsThere size es e
          → IsUnused (parts size es) e.number before
          → ((then : List RawEntry) → IsUnused (parts size es) (e.number + 1) then
          → first_cause (parts size es) then (map solutions.entry rest) ≡ None)
          → ArePieces size e ds
          → first_cause (parts size es) before (map solutions.entry (ds ++ rest)) ≡ None
      by ds rest one at here next (inl whole) = whole_free e ds rest before one at whole here next
      by ds rest one at here next (inr cut) = cut_free e ds rest before one at cut here next

  no_cause : (x : ℕ) → first_cause (parts size es) []
      (map solutions.entry (job.solution size es x).0) ≡ None
  unfolding job.solution below
  no_cause x = all_free es x 0 size [] drawn.numbers (all_ones size es drawn) (each_there size es drawn)
      (λ k event l. refl)

  -- so the solution is completed, whatever was drawn
  pub solution_completed : (x : ℕ)
      → completed (parts size es) (solutions.solution (job.solution size es x).0)
      ≡ Ok (state_of (parts size es) (solutions.solution (job.solution size es x).0).events)
  unfolding solutions.solution
  solution_completed x =
      let p = parts size es in
      ap (λ o. unless o (state_of p (map solutions.entry (job.solution size es x).0))) (no_cause x)
