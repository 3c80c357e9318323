-- The words of the promise, from the outcome whose text was taken.
use Rattle.std.proofs.Common.{ℕ, ◌≡◌, ◌≤◌, ◌⊎◌, inl, inr, Bool, List, Option, Some, None, length}
use Rattle.std.proofs.Common.{IfSome, false, map, arith, refl, subst, sym, encode_utf8_all}
use Rattle.archive_generator.proofs.WellFormed.{made_fits}
use Rattle.archive_generator.specs.Made.{made}
use Rattle.archive_reading.specs.Reading.{IsReadingOf, Reading, evaluable, refused}
use Rattle.archive_reading.specs.Starting.{Start, barred, begins, start_in, start_of}
use Rattle.command_words.specs.Words.{is_read}
use Rattle.command_words.specs.Words.{Asked, checking, constructing, evaluating, making, matching, repairing, running}
use Rattle.command_words.specs.Words.{scripting, solving}
use Rattle.generator_laws.proofs.MadeLaws.{made_resolved}
use Rattle.khe_app.proofs.DeficitLaws.{tell}
use Rattle.khe_app.proofs.StartLaws.{started_by}
use Rattle.khe_app.proofs.TextLaws.{checks, matches, repairs, solves}
use Rattle.khe_app.proofs.WordLaws.{IsAskable}
use Rattle.khe_app.specs.Deficits.{DeficitsTell}
use Rattle.khe_app.specs.Ends.{EndedOf}
use Rattle.khe_app.specs.Outcome.{IsPlayTo, IsRunOr, IsScripted}
use Rattle.khe_app.specs.Promises.{AreAnswers, IsNoDearer, IsReadBack, Outnumber}
use Rattle.khe_app.specs.Texts.{IsReadAsMade}
use Rattle.khe_base.specs.declared.limits.TheConstants.{MADE_EVENTS, SCRIPT_BYTES}
use Rattle.khe_instance.specs.declared.parts.Parts.{Parts}
use Rattle.khe_instance.specs.declared.states.Plain.{Plain}
use Rattle.reading_commands.specs.Ends.{Holdings, IsDecided}
use Rattle.same_archives.proofs.FaultLaws.{same_resolved}
use Rattle.xhstt_references.specs.Followed.{followed_of}
use Rattle.xhstt_resolve.specs.Parts.{parts_of}
use Rattle.xhstt_resolve.specs.Resolved.{instances_of}
use Rattle.xhstt_resolve.specs.declared.resolving.Resolved.{Resolved}
use Rattle.xhstt_shape.specs.declared.records.Archive.{Archive}
use Rattle.xhstt_text.specs.Document.{Spelled}
use Rattle.xhstt_writer.proofs.Written.{canonical_spells}
use Rattle.xhstt_writer.specs.Archives.{canonical}

-- a repair, a solve or a matching
pub no_dearer : (a : Option Asked) (h : Holdings) (before after : Option (List ℕ)) → EndedOf a h before after 0
    → IsNoDearer a h before after
no_dearer None h before after ended = tt
no_dearer (Some (evaluating archive all)) h before after ended = tt
no_dearer (Some (scripting archive number script tied)) h before after ended = tt
no_dearer (Some (checking archive)) h before after ended = tt
no_dearer (Some (matching archive number time rtype)) None before after ended = tt
no_dearer (Some (matching archive number time rtype)) (Some under) before after (text, is, took) =
    let found = matches archive number time rtype under text is in
    (found.0, encode_utf8_all text, found.1, took, found.2)
no_dearer (Some (constructing archive number chains)) h before after ended = tt
no_dearer (Some (making seed size)) h before after ended = tt
no_dearer (Some (running seed size)) h before after ended = tt
no_dearer (Some (repairing archive number depth budget)) None before after ended = tt
no_dearer (Some (repairing archive number depth budget)) (Some under) before after (text, is, took) =
    let found = repairs archive number depth budget under text is in
    (found.0, encode_utf8_all text, found.1, took, found.2)
no_dearer (Some (solving archive number depth budget jobs)) None before after ended = tt
no_dearer (Some (solving archive number depth budget jobs)) (Some under) before after (text, is, took) =
    let found = solves archive number depth budget jobs under text is in
    (found.0, encode_utf8_all text, found.1, took, found.2)

-- a script that was run, and nothing else, ends with one of two statuses
abbrev IsRunStatus : ℕ → Type 0
IsRunStatus status = (status ≡ 0) ⊎ (status ≡ 7)

pub run_decided : (status : ℕ) → IsRunStatus status → IsDecided status
run_decided status (inl zero) = inl zero
run_decided status (inr seven) = inr (inr (inr seven))

other : {A : Type 0} (status n : ℕ) → IsRunStatus status → status ≡ n → (n ≡ 3) ⊎ (n ≡ 4) → A
other status n (inl zero) e (inl three) = absurd (omega (arith, zero, e, three))
other status n (inl zero) e (inr four) = absurd (omega (arith, zero, e, four))
other status n (inr seven) e (inl three) = absurd (omega (arith, seven, e, three))
other status n (inr seven) e (inr four) = absurd (omega (arith, seven, e, four))

run_answers : (tied : Bool) (number : ℕ) (bytes script text : List ℕ) (a : Archive) (r : Resolved) (p : Parts)
    (plain : Plain) (status : ℕ) → IsReadingOf bytes (evaluable a r) → start_of a r number ≡ begins p plain
    → length script ≤ SCRIPT_BYTES → IsRunOr tied p plain script status text
    → AreAnswers tied number bytes script (encode_utf8_all text)
run_answers tied number bytes script text a r p plain status is start small (inl large) =
    let l = large.0 in absurd (omega (arith, l, small))
run_answers tied number bytes script text a r p plain status is start small (inr (few, run)) = record {
  archive = a;
  instances = r;
  read = is;
  parts = p;
  timetable = plain;
  solution = started_by a r number p plain start;
  state = run.state;
  state_is = run.is;
  text = text;
  text_is = run.text_is;
  written_is = refl;
  tell = subst (DeficitsTell tied p run.state script) (sym run.text_is) (tell tied p run.state script);
}

start_answers : (tied : Bool) (number : ℕ) (bytes text content : List ℕ) (a : Archive) (r : Resolved) (s : Start)
    (status : ℕ) → IsRunStatus status → IsReadingOf bytes (evaluable a r) → start_of a r number ≡ s
    → length content ≤ SCRIPT_BYTES → IsScripted tied s (Some content) status text
    → AreAnswers tied number bytes content (encode_utf8_all text)
start_answers tied number bytes text content a r (barred x) status ran is start small h =
    other status 3 ran h.0 (inl refl)
start_answers tied number bytes text content a r (begins p plain) status ran is start small h =
    run_answers tied number bytes content text a r p plain status is start small h

reading_answers : (tied : Bool) (number : ℕ) (bytes text content : List ℕ) (x : Reading) (status : ℕ)
    → IsRunStatus status → IsReadingOf bytes x → length content ≤ SCRIPT_BYTES
    → IsScripted tied (start_in number x) (Some content) status text
    → AreAnswers tied number bytes content (encode_utf8_all text)
reading_answers tied number bytes text content (evaluable a r) status ran is small h =
    start_answers tied number bytes text content a r (start_of a r number) status ran is refl small h
reading_answers tied number bytes text content (refused x) status ran is small h = other status 3 ran h.0 (inl refl)

play_answers : (tied : Bool) (number : ℕ) (o script : Option (List ℕ)) (text content : List ℕ) (status : ℕ)
    → IsRunStatus status → script ≡ Some content → length content ≤ SCRIPT_BYTES
    → IsPlayTo tied number o script status text
    → (bytes : List ℕ) × (o ≡ Some bytes) × AreAnswers tied number bytes content (encode_utf8_all text)
play_answers tied number None script text content status ran there small h = other status 4 ran h.0 (inr refl)
play_answers tied number (Some bytes) script text content status ran there small h = (
  bytes,
  refl,
  reading_answers tied number bytes text content h.reading status ran h.is small
      (subst (λ o. IsScripted tied (start_in number h.reading) o status text) there h.scripted),
)

-- a script
pub outnumber : (a : Option Asked) (h : Holdings) (before after : Option (List ℕ)) (status : ℕ) → IsRunStatus status
    → EndedOf a h before after status → Outnumber a h before after
outnumber None h before after status ran ended = tt
outnumber (Some (evaluating archive all)) h before after status ran ended = tt
outnumber (Some (checking archive)) h before after status ran ended = tt
outnumber (Some (repairing archive number depth budget)) h before after status ran ended = tt
outnumber (Some (solving archive number depth budget jobs)) h before after status ran ended = tt
outnumber (Some (matching archive number time rtype)) h before after status ran ended = tt
outnumber (Some (constructing archive number chains)) h before after status ran ended = tt
outnumber (Some (making seed size)) h before after status ran ended = tt
outnumber (Some (running seed size)) h before after status ran ended = tt
outnumber (Some (scripting archive number script tied)) None before after status ran ended = tt
outnumber (Some (scripting archive number script tied)) (Some under) before after status ran (text, is, took) =
    λ content there small.
    let found = play_answers tied number (under archive) (under script) text content status ran there small is in
    (found.0, encode_utf8_all text, found.1, took, found.2)

-- what is made, in the range of its size
made_again : (seed size : ℕ) (bytes : List ℕ) → 1 ≤ size → size ≤ MADE_EVENTS → bytes ≡ canonical (made seed size)
    → IsReadAsMade seed size bytes
made_again seed size bytes some few e =
    let back = canonical_spells (made seed size) (made_fits seed size) in
    let a = made seed size in
    let r : Resolved = record { instances = map parts_of a.instances; of = instances_of a; followed = followed_of a } in
    record {
      archive = back.1;
      instances = r;
      read = record {
        tree = back.0;
        spelled = subst (λ bs. Spelled bs back.0) (sym e) back.2;
        shape = back.3;
        resolved_is = same_resolved a back.1 r back.4 (made_resolved seed size some few);
      };
      same = back.4;
    }

-- what is checked or made, by an outcome for each content of a shelf
pub read_back : (a : Option Asked) (h : Holdings) (before after : Option (List ℕ)) → IfSome a IsAskable
    → EndedOf a h before after 0
    → (is_read a ≡ false → EndedOf a (Some (λ name. None)) before after 0) → IsReadBack a h before after
read_back None h before after fit ended unread = tt
read_back (Some (evaluating archive all)) h before after fit ended unread = tt
read_back (Some (scripting archive number script tied)) h before after fit ended unread = tt
read_back (Some (repairing archive number depth budget)) h before after fit ended unread = tt
read_back (Some (solving archive number depth budget jobs)) h before after fit ended unread = tt
read_back (Some (matching archive number time rtype)) h before after fit ended unread = tt
read_back (Some (constructing archive number chains)) h before after fit ended unread = tt
read_back (Some (running seed size)) h before after fit ended unread = tt
read_back (Some (checking archive)) None before after fit ended unread = tt
read_back (Some (checking archive)) (Some under) before after fit (text, is, took) unread =
    let found = checks archive under text is in
    (found.0, text, found.1, took, found.2)
read_back (Some (making seed size)) h before after fit ended unread =
    let e = unread refl in
    (encode_utf8_all e.0, e.2, made_again seed size (encode_utf8_all e.0) fit.0 fit.1 e.1.1)
