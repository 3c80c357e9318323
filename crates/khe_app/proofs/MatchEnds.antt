-- How a run ends that matches tasks of a solution.
use Rattle.std.proofs.Common.{ℕ, ◌≡◌, ◌⊎◌, inl, inr, Bool, List, [], Option, Some, None, IfSome, sym, subst}
use Rattle.std.proofs.Common.{◌∙◌}
use Rattle.std.proofs.Common.{refl, arith, encode_utf8_all, slice_get}
use Rattle.std.proofs.lemmas.Option.{same_Some}
use Rattle.khe_instance.specs.declared.parts.Parts.{Parts}
use Rattle.khe_instance.specs.declared.states.Plain.{Plain}
use Rattle.khe_io.specs.Shelf.{IsMissing}
use Rattle.reading_commands.specs.Answers.{reading_of, IsAnswerOf}
use Rattle.khe_app.specs.Ends.{IsEnd, LacksOf}
use Rattle.reading_commands.specs.Ends.{Holdings, Written}
use Rattle.khe_app.specs.Outcome.{IsOutcomeOf}
use Rattle.archive_reading.specs.Starting.{Start, begins, barred, start_of}
use Rattle.archive_reading.specs.Reading.{Reading, evaluable, refused}
use Rattle.khe_app.specs.Outcome.{IsMatchIn, IsMatchOf, IsMatchTo, IsMatchedAt}
use Rattle.command_words.specs.Words.{matching}
use Rattle.reading_commands.specs.declared.answers.Answer.{Answer}
use Rattle.khe_app.proofs.EndsLemmas.{end_starved, end_written, not_two}
use Rattle.khe_app.proofs.RepairEnds.{decided, four_apart, two_apart}
use Rattle.xhstt_resolve.specs.declared.resolving.Resolved.{Resolved}
use Rattle.xhstt_shape.specs.declared.records.Archive.{Archive}

-- its status is 0 or 3

of_start : (a : Archive) (number time rtype : ℕ) (s : Start) (status : ℕ) (text : List ℕ)
    → IsMatchOf a number time rtype s status text → (status ≡ 0) ⊎ (status ≡ 3)
of_start a number time rtype (barred refusal) status text h = inr h.0
of_start a number time rtype (begins p plain) status text (inl h) = inr h.1.0
of_start a number time rtype (begins p plain) status text (inr (inl h)) = inr h.2.0
of_start a number time rtype (begins p plain) status text (inr (inr (below, typed, inl (n, many, h)))) = inr h.0
of_start a number time rtype (begins p plain) status text (inr (inr (below, typed, inr h))) = inl h.0

of_reading : (number time rtype : ℕ) (r : Reading) (status : ℕ) (text : List ℕ)
    → IsMatchIn number time rtype r status text → (status ≡ 0) ⊎ (status ≡ 3)
of_reading number time rtype (evaluable a r) status text h =
    of_start a number time rtype (start_of a r number) status text h
of_reading number time rtype (refused refusal) status text h = inr h.0

matched_outcome : (h : Holdings) (name : List ℕ) (number time rtype : ℕ) (answer : Answer) (status : ℕ)
    (text : List ℕ)
    → IfSome h (λ under. IsAnswerOf (under name) answer)
    → IsMatchIn number time rtype (reading_of answer) status text
    → IfSome h (λ under. IsOutcomeOf (Some (matching name number time rtype)) under status text)
matched_outcome None name number time rtype answer status text is r = tt
matched_outcome (Some under) name number time rtype answer status text is r = by (under name) is
  where
    by : (o : Option (List ℕ)) → IsAnswerOf o answer → IsMatchTo number time rtype o status text
    by None none = absurd none
    by (Some bytes) reading = record { reading = reading_of answer; is = reading; matched = r }

matched_there : (h : Holdings) (name : List ℕ) (number time rtype : ℕ) (answer : Answer)
    → IfSome h (λ under. IsAnswerOf (under name) answer) → LacksOf (Some (matching name number time rtype)) h → ⊥
matched_there None name number time rtype answer is l = l
matched_there (Some under) name number time rtype answer is l = by (under name) is l
  where
    by : (o : Option (List ℕ)) → IsAnswerOf o answer → IsMatchTo number time rtype o 4 [] → ⊥
    by None none to = none
    by (Some bytes) reading to = four_apart (of_reading number time rtype to.reading 4 [] to.matched)

pub match_lacks : (h : Holdings) (name : List ℕ) (number time rtype : ℕ) → IsMissing h name
    → LacksOf (Some (matching name number time rtype)) h
match_lacks None name number time rtype m = m
match_lacks (Some under) name number time rtype m =
    subst (λ o. IsMatchTo number time rtype o 4 []) (sym m) (refl, refl)

pub end_matched : (h : Holdings) (name : List ℕ) (number time rtype : ℕ) (answer : Answer) (sound : Bool)
    (shelf shelf2 : ℕ) (before after : Option (List ℕ)) (sink sink2 result : ℕ)
    → IfSome h (λ under. IsAnswerOf (under name) answer)
    → ((result ≡ 6) × (after ≡ before)) ⊎ ((status : ℕ) × (text : List ℕ)
    × IsMatchIn number time rtype (reading_of answer) status text
    × Written before after sink sink2 (encode_utf8_all text) status result)
    → IsEnd (Some (matching name number time rtype)) h sound shelf shelf2 before after sink sink2 result
end_matched h name number time rtype answer sound shelf shelf2 before after sink sink2 result is (inl w) =
    end_starved (Some (matching name number time rtype)) h sound shelf shelf2 before after sink sink2 result w.0 w.1
end_matched h name number time rtype answer sound shelf shelf2 before after sink sink2 result is
    (inr (status, text, r, w)) =
    end_written (Some (matching name number time rtype)) h sound shelf shelf2 before after sink sink2 text status
    result (matched_outcome h name number time rtype answer status text is r)
    (decided status (of_reading number time rtype (reading_of answer) status text r)) w
    (λ s l. matched_there h name number time rtype answer is l)

pub match_not_two : (number time rtype : ℕ) (answer : Answer) (before after : Option (List ℕ))
    (sink sink2 result : ℕ)
    → ((result ≡ 6) × (after ≡ before)) ⊎ ((status : ℕ) × (text : List ℕ)
    × IsMatchIn number time rtype (reading_of answer) status text
    × Written before after sink sink2 (encode_utf8_all text) status result)
    → result ≡ 2 → ⊥
match_not_two number time rtype answer before after sink sink2 result (inl w) two =
    let six = w.0 in omega (arith, six, two)
match_not_two number time rtype answer before after sink sink2 result (inr (status, text, r, w)) two =
    not_two before after sink sink2 (encode_utf8_all text) status result w
    (two_apart status (of_reading number time rtype (reading_of answer) status text r)) two

-- what is written of the timetable that the solution begins
pub begun_text : (a : Archive) (r : Resolved) (number time rtype k : ℕ) (p q : Parts) (plain : Plain)
    (before after : Option (List ℕ)) (sink sink2 result : ℕ) → slice_get r.instances k ≡ Some p
    → slice_get r.instances k ≡ Some q → start_of a r number ≡ begins p plain
    → ((result ≡ 6) × (after ≡ before)) ⊎ ((status : ℕ) × (text : List ℕ)
    × IsMatchedAt a number time rtype q plain status text
    × Written before after sink sink2 (encode_utf8_all text) status result)
    → ((result ≡ 6) × (after ≡ before)) ⊎ ((status : ℕ) × (text : List ℕ)
    × IsMatchOf a number time rtype (start_of a r number) status text
    × Written before after sink sink2 (encode_utf8_all text) status result)
begun_text a r number time rtype k p q plain before after sink sink2 result at at2 start (inl w) = inl w
begun_text a r number time rtype k p q plain before after sink sink2 result at at2 start (inr (status, text, t, w)) =
    inr (
      status,
      text,
      subst (λ s. IsMatchOf a number time rtype s status text) (sym start)
          (subst (λ (x : Parts). IsMatchedAt a number time rtype x plain status text)
          (same_Some q p (sym at2 ∙ at)) t),
      w,
    )
