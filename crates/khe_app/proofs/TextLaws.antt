-- What is read of the texts that the program writes, by the outcomes that the program has.
use Rattle.std.proofs.Common.{inl, inr}
use Rattle.std.proofs.Common.{ℕ, ◌≡◌, ◌∙◌, Option, Some, None, List, refl, sym, subst, arith}
use Rattle.std.proofs.Common.{encode_utf8_all}
use Rattle.khe_app.specs.Outcome.{IsOutcomeOf, IsRepairIn, IsRepairOf, IsRepairTo, IsSolveIn}
use Rattle.archive_reading.specs.Reading.{IsReadingOf}
use Rattle.khe_app.specs.Outcome.{IsMatchIn, IsMatchOf, IsMatchTo, IsSolveOf, IsSolveTo}
use Rattle.reading_commands.specs.Outcome.{IsSpellingTo}
use Rattle.archive_reading.specs.Starting.{Start, barred, begins, start_of}
use Rattle.archive_reading.specs.Reading.{Reading, evaluable, refused}
use Rattle.reading_commands.specs.Outcome.{spelling_of, status_of}
use Rattle.command_words.specs.Words.{checking, matching, repairing, solving}
use Rattle.khe_instance.specs.declared.parts.Parts.{Parts}
use Rattle.khe_instance.specs.declared.states.Plain.{Plain}
use Rattle.match_run.specs.Texts.{IsMatchText}
use Rattle.text_laws.specs.Read.{IsArchiveOf}
use Rattle.text_laws.proofs.MatchedLaws.{match_no_dearer}
use Rattle.text_laws.proofs.RepairedLaws.{read_again, repair_no_dearer, solve_no_dearer}
use Rattle.xhstt_resolve.specs.declared.resolving.Resolved.{Resolved}
use Rattle.xhstt_shape.specs.declared.records.Archive.{Archive}
use Rattle.xhstt_writer.specs.Archives.{canonical}
use Rattle.khe_app.specs.Texts.{IsCheckOf, IsMatchFrom, IsRepairFrom, IsSolveFrom}
use Rattle.khe_app.proofs.ReadingLaws.{reading_by, spelled_by}
use Rattle.khe_app.proofs.StartLaws.{started_by}

-- what is checked
check_of : (bytes text : List ℕ) (a : Archive) (r : Resolved) → IsReadingOf bytes (evaluable a r)
    → encode_utf8_all text ≡ canonical a → IsCheckOf bytes text
check_of bytes text a r is e =
    let again = read_again bytes a r (spelled_by bytes a r is).archive in
    record {
      archive = a;
      instances = r;
      read = is;
      written = e;
      again = again;
      fixed = λ few. record {
        reading = evaluable again.archive r;
        is = reading_by (encode_utf8_all text) again.archive r few
            (subst (λ bs. IsArchiveOf bs again.archive r) (sym e) again.read);
        status_is = refl;
        bytes_are = e ∙ sym again.again;
      };
    }

check_by : (bytes text : List ℕ) (x : Reading) → IsReadingOf bytes x → ◌≡◌ {A = ℕ} 0 (status_of x)
    → encode_utf8_all text ≡ spelling_of x → IsCheckOf bytes text
check_by bytes text (evaluable a r) is s e = check_of bytes text a r is e
check_by bytes text (refused f) is s e = absurd (omega (arith, s))

checked_by : (o : Option (List ℕ)) (text : List ℕ) → IsSpellingTo o 0 text
    → (bytes : List ℕ) × (o ≡ Some bytes) × IsCheckOf bytes text
checked_by None text is = let s = is.0 in absurd (omega (arith, s))
checked_by (Some bytes) text is = (bytes, refl, check_by bytes text is.reading is.is is.status_is is.bytes_are)

pub checks : (name : List ℕ) (under : List ℕ → Option (List ℕ)) (text : List ℕ)
    → IsOutcomeOf (Some (checking name)) under 0 text
    → (bytes : List ℕ) × (under name ≡ Some bytes) × IsCheckOf bytes text
checks name under text is = checked_by (under name) text is

-- what is repaired
repair_of : (number depth budget : ℕ) (bytes text : List ℕ) (a : Archive) (r : Resolved) (s : Start)
    → IsReadingOf bytes (evaluable a r) → start_of a r number ≡ s → IsRepairOf a number depth budget s 0 text
    → IsRepairFrom number bytes (encode_utf8_all text)
repair_of number depth budget bytes text a r (barred f) is e h = let z = h.0 in absurd (omega (arith, z))
repair_of number depth budget bytes text a r (begins p plain) is e h =
    let x = started_by a r number p plain e in
    record {
      archive = a;
      instances = r;
      read = is;
      parts = p;
      timetable = plain;
      solution = x;
      repaired = repair_no_dearer bytes a r number p plain depth budget text (spelled_by bytes a r is).archive x h.1;
    }

repair_by : (number depth budget : ℕ) (bytes text : List ℕ) (x : Reading) → IsReadingOf bytes x
    → IsRepairIn number depth budget x 0 text → IsRepairFrom number bytes (encode_utf8_all text)
repair_by number depth budget bytes text (evaluable a r) is h =
    repair_of number depth budget bytes text a r (start_of a r number) is refl h
repair_by number depth budget bytes text (refused f) is h = let z = h.0 in absurd (omega (arith, z))

repaired_by : (number depth budget : ℕ) (o : Option (List ℕ)) (text : List ℕ) → IsRepairTo number depth budget o 0 text
    → (bytes : List ℕ) × (o ≡ Some bytes) × IsRepairFrom number bytes (encode_utf8_all text)
repaired_by number depth budget None text is = let s = is.0 in absurd (omega (arith, s))
repaired_by number depth budget (Some bytes) text is =
    (bytes, refl, repair_by number depth budget bytes text is.reading is.is is.repaired)

pub repairs : (name : List ℕ) (number depth budget : ℕ) (under : List ℕ → Option (List ℕ)) (text : List ℕ)
    → IsOutcomeOf (Some (repairing name number depth budget)) under 0 text
    → (bytes : List ℕ) × (under name ≡ Some bytes) × IsRepairFrom number bytes (encode_utf8_all text)
repairs name number depth budget under text is = repaired_by number depth budget (under name) text is

-- what is solved
solve_of : (number depth budget jobs : ℕ) (bytes text : List ℕ) (a : Archive) (r : Resolved) (s : Start)
    → IsReadingOf bytes (evaluable a r) → start_of a r number ≡ s → IsSolveOf a number depth budget jobs s 0 text
    → IsSolveFrom number jobs bytes (encode_utf8_all text)
solve_of number depth budget jobs bytes text a r (barred f) is e h = let z = h.0 in absurd (omega (arith, z))
solve_of number depth budget jobs bytes text a r (begins p plain) is e h =
    let x = started_by a r number p plain e in
    record {
      archive = a;
      instances = r;
      read = is;
      parts = p;
      timetable = plain;
      solution = x;
      solved = solve_no_dearer bytes a r number p plain depth budget jobs text (spelled_by bytes a r is).archive x h.1;
    }

solve_by : (number depth budget jobs : ℕ) (bytes text : List ℕ) (x : Reading) → IsReadingOf bytes x
    → IsSolveIn number depth budget jobs x 0 text → IsSolveFrom number jobs bytes (encode_utf8_all text)
solve_by number depth budget jobs bytes text (evaluable a r) is h =
    solve_of number depth budget jobs bytes text a r (start_of a r number) is refl h
solve_by number depth budget jobs bytes text (refused f) is h = let z = h.0 in absurd (omega (arith, z))

solved_by : (number depth budget jobs : ℕ) (o : Option (List ℕ)) (text : List ℕ)
    → IsSolveTo number depth budget jobs o 0 text
    → (bytes : List ℕ) × (o ≡ Some bytes) × IsSolveFrom number jobs bytes (encode_utf8_all text)
solved_by number depth budget jobs None text is = let s = is.0 in absurd (omega (arith, s))
solved_by number depth budget jobs (Some bytes) text is =
    (bytes, refl, solve_by number depth budget jobs bytes text is.reading is.is is.solved)

pub solves : (name : List ℕ) (number depth budget jobs : ℕ) (under : List ℕ → Option (List ℕ)) (text : List ℕ)
    → IsOutcomeOf (Some (solving name number depth budget jobs)) under 0 text
    → (bytes : List ℕ) × (under name ≡ Some bytes) × IsSolveFrom number jobs bytes (encode_utf8_all text)
solves name number depth budget jobs under text is = solved_by number depth budget jobs (under name) text is

-- what is matched
match_text : (number time rtype : ℕ) (bytes text : List ℕ) (a : Archive) (r : Resolved) (p : Parts) (plain : Plain)
    → IsReadingOf bytes (evaluable a r) → start_of a r number ≡ begins p plain
    → IsMatchText a number p plain time rtype text → IsMatchFrom number bytes (encode_utf8_all text)
match_text number time rtype bytes text a r p plain is e h =
    let x = started_by a r number p plain e in
    record {
      archive = a;
      instances = r;
      read = is;
      parts = p;
      timetable = plain;
      solution = x;
      matched = match_no_dearer bytes a r number p plain time rtype text (spelled_by bytes a r is).archive x h;
    }

match_of : (number time rtype : ℕ) (bytes text : List ℕ) (a : Archive) (r : Resolved) (s : Start)
    → IsReadingOf bytes (evaluable a r) → start_of a r number ≡ s → IsMatchOf a number time rtype s 0 text
    → IsMatchFrom number bytes (encode_utf8_all text)
match_of number time rtype bytes text a r (barred f) is e h = let z = h.0 in absurd (omega (arith, z))
match_of number time rtype bytes text a r (begins p plain) is e (inl h) = let z = h.1.0 in absurd (omega (arith, z))
match_of number time rtype bytes text a r (begins p plain) is e (inr (inl h)) =
    let z = h.2.0 in absurd (omega (arith, z))
match_of number time rtype bytes text a r (begins p plain) is e (inr (inr (t, y, inl h))) =
    let z = h.2.0 in absurd (omega (arith, z))
match_of number time rtype bytes text a r (begins p plain) is e (inr (inr (t, y, inr h))) =
    match_text number time rtype bytes text a r p plain is e h.1

match_by : (number time rtype : ℕ) (bytes text : List ℕ) (x : Reading) → IsReadingOf bytes x
    → IsMatchIn number time rtype x 0 text → IsMatchFrom number bytes (encode_utf8_all text)
match_by number time rtype bytes text (evaluable a r) is h =
    match_of number time rtype bytes text a r (start_of a r number) is refl h
match_by number time rtype bytes text (refused f) is h = let z = h.0 in absurd (omega (arith, z))

matched_by : (number time rtype : ℕ) (o : Option (List ℕ)) (text : List ℕ) → IsMatchTo number time rtype o 0 text
    → (bytes : List ℕ) × (o ≡ Some bytes) × IsMatchFrom number bytes (encode_utf8_all text)
matched_by number time rtype None text is = let s = is.0 in absurd (omega (arith, s))
matched_by number time rtype (Some bytes) text is =
    (bytes, refl, match_by number time rtype bytes text is.reading is.is is.matched)

pub matches : (name : List ℕ) (number time rtype : ℕ) (under : List ℕ → Option (List ℕ)) (text : List ℕ)
    → IsOutcomeOf (Some (matching name number time rtype)) under 0 text
    → (bytes : List ℕ) × (under name ≡ Some bytes) × IsMatchFrom number bytes (encode_utf8_all text)
matches name number time rtype under text is = matched_by number time rtype (under name) text is
