-- How a run ends that replaces a solution by the least result of many repairs.
use Rattle.std.proofs.Common.{ℕ, ◌≡◌, ◌⊎◌, inl, inr, Bool, List, [], Option, Some, None, IfSome, sym, subst}
use Rattle.std.proofs.Common.{◌∙◌, refl, arith, encode_utf8_all, slice_get}
use Rattle.std.proofs.lemmas.Option.{same_Some}
use Rattle.khe_instance.specs.declared.parts.Parts.{Parts}
use Rattle.khe_instance.specs.declared.states.Plain.{Plain}
use Rattle.khe_io.specs.Shelf.{IsMissing}
use Rattle.repair_run.specs.Solves.{IsSolveText}
use Rattle.reading_commands.specs.Answers.{reading_of, IsAnswerOf}
use Rattle.archive_reading.specs.Starting.{IsBarredBy, Start, begins, barred, start_of}
use Rattle.khe_app.specs.Ends.{IsEnd, LacksOf}
use Rattle.reading_commands.specs.Ends.{Holdings, Written}
use Rattle.khe_app.specs.Outcome.{IsOutcomeOf}
use Rattle.archive_reading.specs.Reading.{Reading, evaluable, refused}
use Rattle.khe_app.specs.Outcome.{IsSolveIn, IsSolveOf, IsSolveTo}
use Rattle.archive_reading.specs.Refusals.{refusal_line}
use Rattle.command_words.specs.Words.{solving}
use Rattle.reading_commands.specs.declared.answers.Answer.{Answer}
use Rattle.archive_reading.specs.declared.reading.Unread.{Unread}
use Rattle.archive_reading.specs.declared.reading.Unread.TheVariants.{Refused}
use Rattle.archive_reading.specs.declared.refusals.Refusal.{Refusal}
use Rattle.khe_app.proofs.EndsLemmas.{end_starved, end_written, not_two}
use Rattle.khe_app.proofs.RepairEnds.{decided, four_apart, two_apart}
use Rattle.xhstt_resolve.specs.declared.resolving.Resolved.{Resolved}
use Rattle.xhstt_shape.specs.declared.records.Archive.{Archive}

-- its status is 0 or 3

of_start : (a : Archive) (number depth budget jobs : ℕ) (s : Start) (status : ℕ) (text : List ℕ)
    → IsSolveOf a number depth budget jobs s status text → (status ≡ 0) ⊎ (status ≡ 3)
of_start a number depth budget jobs (barred refusal) status text h = inr h.0
of_start a number depth budget jobs (begins p plain) status text h = inl h.0

of_reading : (number depth budget jobs : ℕ) (r : Reading) (status : ℕ) (text : List ℕ)
    → IsSolveIn number depth budget jobs r status text → (status ≡ 0) ⊎ (status ≡ 3)
of_reading number depth budget jobs (evaluable a r) status text h =
    of_start a number depth budget jobs (start_of a r number) status text h
of_reading number depth budget jobs (refused refusal) status text h = inr h.0

solved_outcome : (h : Holdings) (name : List ℕ) (number depth budget jobs : ℕ) (answer : Answer) (status : ℕ)
    (text : List ℕ)
    → IfSome h (λ under. IsAnswerOf (under name) answer)
    → IsSolveIn number depth budget jobs (reading_of answer) status text
    → IfSome h (λ under. IsOutcomeOf (Some (solving name number depth budget jobs)) under status text)
solved_outcome None name number depth budget jobs answer status text is s = tt
solved_outcome (Some under) name number depth budget jobs answer status text is s = by (under name) is
  where
    by : (o : Option (List ℕ)) → IsAnswerOf o answer → IsSolveTo number depth budget jobs o status text
    by None none = absurd none
    by (Some bytes) reading = record { reading = reading_of answer; is = reading; solved = s }

solved_there : (h : Holdings) (name : List ℕ) (number depth budget jobs : ℕ) (answer : Answer)
    → IfSome h (λ under. IsAnswerOf (under name) answer) → LacksOf (Some (solving name number depth budget jobs)) h → ⊥
solved_there None name number depth budget jobs answer is l = l
solved_there (Some under) name number depth budget jobs answer is l = by (under name) is l
  where
    by : (o : Option (List ℕ)) → IsAnswerOf o answer → IsSolveTo number depth budget jobs o 4 [] → ⊥
    by None none to = none
    by (Some bytes) reading to = four_apart (of_reading number depth budget jobs to.reading 4 [] to.solved)

pub solve_lacks : (h : Holdings) (name : List ℕ) (number depth budget jobs : ℕ) → IsMissing h name
    → LacksOf (Some (solving name number depth budget jobs)) h
solve_lacks None name number depth budget jobs m = m
solve_lacks (Some under) name number depth budget jobs m =
    subst (λ o. IsSolveTo number depth budget jobs o 4 []) (sym m) (refl, refl)

pub end_solved : (h : Holdings) (name : List ℕ) (number depth budget jobs : ℕ) (answer : Answer) (sound : Bool)
    (shelf shelf2 : ℕ) (before after : Option (List ℕ)) (sink sink2 result : ℕ)
    → IfSome h (λ under. IsAnswerOf (under name) answer)
    → ((result ≡ 6) × (after ≡ before)) ⊎ ((status : ℕ) × (text : List ℕ)
    × IsSolveIn number depth budget jobs (reading_of answer) status text
    × Written before after sink sink2 (encode_utf8_all text) status result)
    → IsEnd (Some (solving name number depth budget jobs)) h sound shelf shelf2 before after sink sink2 result
end_solved h name number depth budget jobs answer sound shelf shelf2 before after sink sink2 result is (inl w) =
    end_starved (Some (solving name number depth budget jobs)) h sound shelf shelf2 before after sink sink2 result w.0
    w.1
end_solved h name number depth budget jobs answer sound shelf shelf2 before after sink sink2 result is
    (inr (status, text, r, w)) =
    end_written (Some (solving name number depth budget jobs)) h sound shelf shelf2 before after sink sink2 text
    status result (solved_outcome h name number depth budget jobs answer status text is r)
    (decided status (of_reading number depth budget jobs (reading_of answer) status text r)) w
    (λ s l. solved_there h name number depth budget jobs answer is l)

pub solve_not_two : (number depth budget jobs : ℕ) (answer : Answer) (before after : Option (List ℕ))
    (sink sink2 result : ℕ)
    → ((result ≡ 6) × (after ≡ before)) ⊎ ((status : ℕ) × (text : List ℕ)
    × IsSolveIn number depth budget jobs (reading_of answer) status text
    × Written before after sink sink2 (encode_utf8_all text) status result)
    → result ≡ 2 → ⊥
solve_not_two number depth budget jobs answer before after sink sink2 result (inl w) two =
    let six = w.0 in omega (arith, six, two)
solve_not_two number depth budget jobs answer before after sink sink2 result (inr (status, text, r, w)) two =
    not_two before after sink sink2 (encode_utf8_all text) status result w
    (two_apart status (of_reading number depth budget jobs (reading_of answer) status text r)) two

-- what is written of the timetable that the solution begins
pub begun_solve : (a : Archive) (r : Resolved) (number depth budget jobs k : ℕ) (p q : Parts) (plain : Plain)
    (before after : Option (List ℕ)) (sink sink2 result : ℕ) → slice_get r.instances k ≡ Some p
    → slice_get r.instances k ≡ Some q → start_of a r number ≡ begins p plain
    → ((result ≡ 6) × (after ≡ before)) ⊎ ((text : List ℕ) × IsSolveText a number q plain depth budget jobs text
    × Written before after sink sink2 (encode_utf8_all text) 0 result)
    → ((result ≡ 6) × (after ≡ before)) ⊎ ((status : ℕ) × (text : List ℕ)
    × IsSolveOf a number depth budget jobs (start_of a r number) status text
    × Written before after sink sink2 (encode_utf8_all text) status result)
begun_solve a r number depth budget jobs k p q plain before after sink sink2 result at at2 start (inl w) = inl w
begun_solve a r number depth budget jobs k p q plain before after sink sink2 result at at2 start (inr (text, t, w)) =
    inr (
      0,
      text,
      subst (λ s. IsSolveOf a number depth budget jobs s 0 text) (sym start) (
        refl,
        subst (λ (x : Parts). IsSolveText a number x plain depth budget jobs text) (same_Some q p (sym at2 ∙ at))
            t,
      ),
      w,
    )

-- the line that refuses the solution
pub barred_solve : (a : Archive) (number depth budget jobs : ℕ) (s : Start) (before after : Option (List ℕ))
    (sink sink2 result : ℕ)
    → ((result ≡ 6) × (after ≡ before)) ⊎ ((why : Refusal) × (s ≡ barred why)
    × Written before after sink sink2 (encode_utf8_all (refusal_line why)) 3 result)
    → ((result ≡ 6) × (after ≡ before)) ⊎ ((status : ℕ) × (text : List ℕ)
    × IsSolveOf a number depth budget jobs s status text
    × Written before after sink sink2 (encode_utf8_all text) status result)
barred_solve a number depth budget jobs s before after sink sink2 result (inl w) = inl w
barred_solve a number depth budget jobs s before after sink sink2 result (inr (why, is, w)) =
    inr (
      3,
      refusal_line why,
      subst (λ x. IsSolveOf a number depth budget jobs x 3 (refusal_line why)) (sym is) (refl, refl),
      w,
    )

-- a refusal that stands for a start
pub barred_by : (s : Start) (unread : Unread) (why : Refusal) → unread ≡ Refused why → IsBarredBy s unread
    → s ≡ barred why
barred_by s unread why e is = subst (IsBarredBy s) e is
