-- How a run ends that repairs a solution.
use Rattle.std.proofs.Common.{ℕ, ◌≡◌, ◌⊎◌, inl, inr, Bool, List, [], Option, Some, None, IfSome, sym, subst}
use Rattle.std.proofs.Common.{◌∙◌}
use Rattle.std.proofs.Common.{refl, arith, encode_utf8_all, slice_get}
use Rattle.std.proofs.lemmas.Option.{same_Some}
use Rattle.khe_instance.specs.declared.parts.Parts.{Parts}
use Rattle.khe_instance.specs.declared.states.Plain.{Plain}
use Rattle.khe_io.specs.Shelf.{IsMissing}
use Rattle.repair_run.specs.Repairs.{IsRepairText}
use Rattle.reading_commands.specs.Answers.{reading_of, IsAnswerOf}
use Rattle.khe_app.specs.Ends.{IsEnd, LacksOf}
use Rattle.reading_commands.specs.Ends.{Holdings, IsDecided, Written}
use Rattle.khe_app.specs.Outcome.{IsOutcomeOf}
use Rattle.archive_reading.specs.Starting.{Start, begins, barred, start_of}
use Rattle.archive_reading.specs.Reading.{Reading, evaluable, refused}
use Rattle.archive_reading.specs.Refusals.{refusal_line}
use Rattle.khe_app.specs.Outcome.{IsRepairIn, IsRepairOf, IsRepairTo}
use Rattle.command_words.specs.Words.{repairing}
use Rattle.reading_commands.specs.declared.answers.Answer.{Answer}
use Rattle.archive_reading.specs.declared.refusals.Refusal.{Refusal}
use Rattle.khe_app.proofs.EndsLemmas.{end_starved, end_written, not_two}
use Rattle.xhstt_resolve.specs.declared.resolving.Resolved.{Resolved}
use Rattle.xhstt_shape.specs.declared.records.Archive.{Archive}

-- its status is 0 or 3

of_start : (a : Archive) (number depth budget : ℕ) (s : Start) (status : ℕ) (text : List ℕ)
    → IsRepairOf a number depth budget s status text → (status ≡ 0) ⊎ (status ≡ 3)
of_start a number depth budget (barred refusal) status text h = inr h.0
of_start a number depth budget (begins p plain) status text h = inl h.0

of_reading : (number depth budget : ℕ) (r : Reading) (status : ℕ) (text : List ℕ)
    → IsRepairIn number depth budget r status text → (status ≡ 0) ⊎ (status ≡ 3)
of_reading number depth budget (evaluable a r) status text h =
    of_start a number depth budget (start_of a r number) status text h
of_reading number depth budget (refused refusal) status text h = inr h.0

pub decided : (status : ℕ) → (status ≡ 0) ⊎ (status ≡ 3) → IsDecided status
decided status (inl e) = inl e
decided status (inr e) = inr (inr (inl e))

pub two_apart : (status : ℕ) → (status ≡ 0) ⊎ (status ≡ 3) → status ≡ 2 → ⊥
two_apart status (inl e) two = omega (arith, e, two)
two_apart status (inr e) two = omega (arith, e, two)

pub four_apart : (◌≡◌ {A = ℕ} 4 0) ⊎ (◌≡◌ {A = ℕ} 4 3) → ⊥
four_apart (inl e) = omega (arith, e)
four_apart (inr e) = omega (arith, e)

repaired_outcome : (h : Holdings) (name : List ℕ) (number depth budget : ℕ) (answer : Answer) (status : ℕ)
    (text : List ℕ)
    → IfSome h (λ under. IsAnswerOf (under name) answer)
    → IsRepairIn number depth budget (reading_of answer) status text
    → IfSome h (λ under. IsOutcomeOf (Some (repairing name number depth budget)) under status text)
repaired_outcome None name number depth budget answer status text is r = tt
repaired_outcome (Some under) name number depth budget answer status text is r = by (under name) is
  where
    by : (o : Option (List ℕ)) → IsAnswerOf o answer → IsRepairTo number depth budget o status text
    by None none = absurd none
    by (Some bytes) reading = record { reading = reading_of answer; is = reading; repaired = r }

repaired_there : (h : Holdings) (name : List ℕ) (number depth budget : ℕ) (answer : Answer)
    → IfSome h (λ under. IsAnswerOf (under name) answer) → LacksOf (Some (repairing name number depth budget)) h → ⊥
repaired_there None name number depth budget answer is l = l
repaired_there (Some under) name number depth budget answer is l = by (under name) is l
  where
    by : (o : Option (List ℕ)) → IsAnswerOf o answer → IsRepairTo number depth budget o 4 [] → ⊥
    by None none to = none
    by (Some bytes) reading to = four_apart (of_reading number depth budget to.reading 4 [] to.repaired)

pub repair_lacks : (h : Holdings) (name : List ℕ) (number depth budget : ℕ) → IsMissing h name
    → LacksOf (Some (repairing name number depth budget)) h
repair_lacks None name number depth budget m = m
repair_lacks (Some under) name number depth budget m =
    subst (λ o. IsRepairTo number depth budget o 4 []) (sym m) (refl, refl)

pub end_repaired : (h : Holdings) (name : List ℕ) (number depth budget : ℕ) (answer : Answer) (sound : Bool)
    (shelf shelf2 : ℕ) (before after : Option (List ℕ)) (sink sink2 result : ℕ)
    → IfSome h (λ under. IsAnswerOf (under name) answer)
    → ((result ≡ 6) × (after ≡ before)) ⊎ ((status : ℕ) × (text : List ℕ)
    × IsRepairIn number depth budget (reading_of answer) status text
    × Written before after sink sink2 (encode_utf8_all text) status result)
    → IsEnd (Some (repairing name number depth budget)) h sound shelf shelf2 before after sink sink2 result
end_repaired h name number depth budget answer sound shelf shelf2 before after sink sink2 result is (inl w) =
    end_starved (Some (repairing name number depth budget)) h sound shelf shelf2 before after sink sink2 result w.0 w.1
end_repaired h name number depth budget answer sound shelf shelf2 before after sink sink2 result is
    (inr (status, text, r, w)) =
    end_written (Some (repairing name number depth budget)) h sound shelf shelf2 before after sink sink2 text status
    result (repaired_outcome h name number depth budget answer status text is r)
    (decided status (of_reading number depth budget (reading_of answer) status text r)) w
    (λ s l. repaired_there h name number depth budget answer is l)

pub repair_not_two : (number depth budget : ℕ) (answer : Answer) (before after : Option (List ℕ))
    (sink sink2 result : ℕ)
    → ((result ≡ 6) × (after ≡ before)) ⊎ ((status : ℕ) × (text : List ℕ)
    × IsRepairIn number depth budget (reading_of answer) status text
    × Written before after sink sink2 (encode_utf8_all text) status result)
    → result ≡ 2 → ⊥
repair_not_two number depth budget answer before after sink sink2 result (inl w) two =
    let six = w.0 in omega (arith, six, two)
repair_not_two number depth budget answer before after sink sink2 result (inr (status, text, r, w)) two =
    not_two before after sink sink2 (encode_utf8_all text) status result w
    (two_apart status (of_reading number depth budget (reading_of answer) status text r)) two

-- what is written of the timetable that the solution begins
pub begun_text : (a : Archive) (r : Resolved) (number depth budget k : ℕ) (p q : Parts) (plain : Plain)
    (before after : Option (List ℕ)) (sink sink2 result : ℕ) → slice_get r.instances k ≡ Some p
    → slice_get r.instances k ≡ Some q → start_of a r number ≡ begins p plain
    → ((result ≡ 6) × (after ≡ before)) ⊎ ((text : List ℕ) × IsRepairText a number q plain depth budget text
    × Written before after sink sink2 (encode_utf8_all text) 0 result)
    → ((result ≡ 6) × (after ≡ before)) ⊎ ((status : ℕ) × (text : List ℕ)
    × IsRepairOf a number depth budget (start_of a r number) status text
    × Written before after sink sink2 (encode_utf8_all text) status result)
begun_text a r number depth budget k p q plain before after sink sink2 result at at2 start (inl w) = inl w
begun_text a r number depth budget k p q plain before after sink sink2 result at at2 start (inr (text, t, w)) =
    inr (
      0,
      text,
      subst (λ s. IsRepairOf a number depth budget s 0 text) (sym start) (
        refl,
        subst (λ (x : Parts). IsRepairText a number x plain depth budget text) (same_Some q p (sym at2 ∙ at))
            t,
      ),
      w,
    )

-- the line that refuses the solution
pub barred_text : (a : Archive) (number depth budget : ℕ) (s : Start) (status : ℕ) (text : List ℕ) (r : Refusal)
    → s ≡ barred r
    → IsRepairOf a number depth budget (barred r) status text → IsRepairOf a number depth budget s status text
barred_text a number depth budget s status text r e h =
    subst (λ x. IsRepairOf a number depth budget x status text) (sym e) h

-- the line that refuses the solution
pub barred_repair : (a : Archive) (number depth budget : ℕ) (s : Start) (before after : Option (List ℕ))
    (sink sink2 result : ℕ)
    → ((result ≡ 6) × (after ≡ before)) ⊎ ((why : Refusal) × (s ≡ barred why)
    × Written before after sink sink2 (encode_utf8_all (refusal_line why)) 3 result)
    → ((result ≡ 6) × (after ≡ before)) ⊎ ((status : ℕ) × (text : List ℕ)
    × IsRepairOf a number depth budget s status text
    × Written before after sink sink2 (encode_utf8_all text) status result)
barred_repair a number depth budget s before after sink sink2 result (inl w) = inl w
barred_repair a number depth budget s before after sink sink2 result (inr (why, is, w)) =
    inr (
      3,
      refusal_line why,
      subst (λ x. IsRepairOf a number depth budget x 3 (refusal_line why)) (sym is) (refl, refl),
      w,
    )
