-- How a run ends.
use Rattle.std.proofs.Common.{ℕ, ◌≡◌, ◌⊎◌, Bool, Option, None, Some, Result, Ok, Err, OnOk, OnErr, IfSome, IsTrue, List, [], inl, inr, refl, sym, ap, map, subst, ◌∙◌, arith}
use Rattle.std.specs.Result.{IsErrOf}
use Rattle.edit_script.specs.Lines.{lines}
use Rattle.reading_commands.specs.Answers.{IsAnswerOf, reading_of}
use Rattle.khe_io.specs.Shelf.{IsMissing}
use Rattle.reading_commands.specs.Ends.{Holdings, Written}
use Rattle.archive_reading.specs.Starting.{Start, begins}
use Rattle.reading_commands.specs.declared.answers.Answer.{Answer}
use Rattle.khe_io.specs.Faults.{Rose, Took, TookFront}
use Rattle.talk_app.specs.Ends.{EndedOf, IsEnd, LacksArchiveOf, Wrote, status_after}
use Rattle.khe_engine.specs.Openings.{IsStateOf}
use Rattle.khe_engine.specs.Worlds.{Saved, World}
use Rattle.khe_instance.specs.declared.parts.Parts.{Parts}
use Rattle.khe_instance.specs.declared.states.Plain.{Plain}
use Rattle.script_run.specs.Plays.{begun, play_of}
use Rattle.talk_run.specs.Answers.{archive_bytes}
use Rattle.talk_run.specs.Talks.{talk_bytes}
use Rattle.xhstt_shape.specs.declared.records.Archive.{Archive}
use Rattle.talk_app.specs.Words.{Asked}
use Rattle.talk_app.specs.Outcome.{IsOutcome, IsTalkIn, IsTalkOf, IsTalkOn, IsTalkTo, not_understood_line}
use Rattle.talk_run.specs.Between.{HadLeft, IsCutOff, IsTalked}
use Rattle.talk_run.specs.declared.faults.TalkFault.{TalkFault}
use Rattle.talk_run.specs.declared.faults.TalkFault.TheVariants.{ReadFault, WriteFault, NoMemory}

-- a reader had something left
record Had (left : Option (List ℕ)) : Type 0 where
  input : List ℕ
  all : HadLeft left input

had : (left : Option (List ℕ)) → Had left
had None = record { input = []; all = tt }
had (Some xs) = record { input = xs; all = refl }

-- another outcome, where each of one is one of the other
end_as : (one other : List ℕ → ℕ → List ℕ → Type 0) (left before after : Option (List ℕ)) (faults faults2 result : ℕ)
    → ((input : List ℕ) (status : ℕ) (bytes : List ℕ) → one input status bytes → other input status bytes)
    → IsEnd one left before after faults faults2 result → IsEnd other left before after faults faults2 result
end_as one other left before after faults faults2 result to (inl nothing) = inl nothing
end_as one other left before after faults faults2 result to (inr w) = inr (record {
  input = w.input;
  all = w.all;
  status = w.status;
  bytes = w.bytes;
  is = to w.input w.status w.bytes w.is;
  wrote = w.wrote;
})

-- a line is written in place of all answers
written_as : (before after : Option (List ℕ)) (faults faults2 : ℕ) (bytes : List ℕ) (status result : ℕ)
    → Written before after faults faults2 bytes status result → Wrote before after faults faults2 bytes status result
written_as before after faults faults2 bytes status result (inl whole) = inl whole
written_as before after faults faults2 bytes status result (inr (inl cut)) = inr (inl cut)
written_as before after faults faults2 bytes status result (inr (inr starved)) = inr (inr (inr starved.0, starved.1))

pub line_end : (outcome : List ℕ → ℕ → List ℕ → Type 0) (left before after : Option (List ℕ)) (faults faults2 : ℕ)
    (bytes : List ℕ) (status result : ℕ) → ((input : List ℕ) → outcome input status bytes)
    → Written before after faults faults2 bytes status result → IsEnd outcome left before after faults faults2 result
line_end outcome left before after faults faults2 bytes status result is wrote = inr (record {
  input = (had left).input;
  all = (had left).all;
  status = status;
  bytes = bytes;
  is = is (had left).input;
  wrote = written_as before after faults faults2 bytes status result wrote;
})

-- a talk ended, after all answers or after first bytes of them
talk_end : (outcome : List ℕ → ℕ → List ℕ → Type 0) (left before after : Option (List ℕ)) (faults faults2 : ℕ)
    (said : List (List ℕ) → List ℕ) (ended : Result (Unit {0}) TalkFault)
    → ((input : List ℕ) → outcome input 0 (said (lines input))) → OnOk ended (IsTalked left before after said)
    → OnErr ended (IsCutOff left before after said) → (IsErrOf ended WriteFault → Rose faults faults2)
    → IsEnd outcome left before after faults faults2 (status_after ended)
talk_end outcome left before after faults faults2 said (Ok u) is whole cut rose = inr (record {
  input = whole.bytes;
  all = whole.all;
  status = 0;
  bytes = said (lines whole.bytes);
  is = is whole.bytes;
  wrote = inl (refl, whole.took);
})
talk_end outcome left before after faults faults2 said (Err ReadFault) is whole cut rose = inr (record {
  input = cut.bytes;
  all = cut.all;
  status = 0;
  bytes = said (lines cut.bytes);
  is = is cut.bytes;
  wrote = inr (inr (inl refl, cut.front));
})
talk_end outcome left before after faults faults2 said (Err WriteFault) is whole cut rose = inr (record {
  input = cut.bytes;
  all = cut.all;
  status = 0;
  bytes = said (lines cut.bytes);
  is = is cut.bytes;
  wrote = inr (inl (refl, rose refl, cut.front));
})
talk_end outcome left before after faults faults2 said (Err NoMemory) is whole cut rose = inr (record {
  input = cut.bytes;
  all = cut.all;
  status = 0;
  bytes = said (lines cut.bytes);
  is = is cut.bytes;
  wrote = inr (inr (inr refl, cut.front));
})

-- faults are counted where a call was refused
talk_faults : (ended : Result (Unit {0}) TalkFault) (faults faults2 : ℕ) → OnOk ended (faults2 ≡ faults)
    → (IsErrOf ended ReadFault → faults2 ≡ faults) → (IsErrOf ended NoMemory → faults2 ≡ faults)
    → (status_after ended ≡ 5) ⊎ (faults2 ≡ faults)
talk_faults (Ok u) faults faults2 ok read starved = inr ok
talk_faults (Err ReadFault) faults faults2 ok read starved = inr (read refl)
talk_faults (Err WriteFault) faults faults2 ok read starved = inl refl
talk_faults (Err NoMemory) faults faults2 ok read starved = inr (starved refl)

-- the line that refuses words
pub words_end : (left before after : Option (List ℕ)) (faults faults2 result : ℕ) (under : List ℕ → Option (List ℕ))
    → ((result ≡ 2) × Took before after not_understood_line)
    ⊎ ((result ≡ 5) × Rose faults faults2 × TookFront before after not_understood_line)
    → IsEnd (IsOutcome None under) left before after faults faults2 result
words_end left before after faults faults2 result under (inl whole) = inr (record {
  input = (had left).input;
  all = (had left).all;
  status = 2;
  bytes = not_understood_line;
  is = (refl, refl);
  wrote = inl whole;
})
words_end left before after faults faults2 result under (inr cut) = inr (record {
  input = (had left).input;
  all = (had left).all;
  status = 2;
  bytes = not_understood_line;
  is = (refl, refl);
  wrote = inr (inl cut);
})

-- what stands under the archive's name is what was read
answer_end : (number : ℕ) (archive : Option (List ℕ)) (answer : Answer) (left before after : Option (List ℕ))
    (faults faults2 result : ℕ) → IsAnswerOf archive answer
    → IsEnd (IsTalkIn number (reading_of answer)) left before after faults faults2 result
    → IsEnd (IsTalkTo number archive) left before after faults faults2 result
answer_end number None answer left before after faults faults2 result is end = absurd is
answer_end number (Some bytes) answer left before after faults faults2 result is end =
    end_as (IsTalkIn number (reading_of answer)) (IsTalkTo number (Some bytes)) left before after faults faults2 result
    (λ input status text talk. record { reading = reading_of answer; is = is; talk = talk }) end

-- the lines of a talk are answered as on a state without marks
begun_said : (a : Archive) (number : ℕ) (w : World) (p : Parts) (ls : List (List ℕ)) → w.parts ≡ p → w.saved ≡ []
    → talk_bytes (archive_bytes a number w.parts) w.parts (play_of w) 1 ls
    ≡ talk_bytes (archive_bytes a number p) p (begun w.state) 1 ls
begun_said a number w p ls parts none =
    ap (λ (xs : List Saved). talk_bytes (archive_bytes a number w.parts) w.parts
    (record { state = w.state; saved = map (λ (x : Saved). x.state) xs }) 1 ls) none
    ∙ ap (λ (q : Parts). talk_bytes (archive_bytes a number q) q (begun w.state) 1 ls) parts

-- a talk on an engine that lists the timetable and has no marks
pub talked_on : (a : Archive) (number : ℕ) (p : Parts) (plain : Plain) (w : World) (left before after : Option (List ℕ))
    (faults faults2 : ℕ) (ended : Result (Unit {0}) TalkFault) (result : ℕ) → w.parts ≡ p → IsStateOf p plain w.state
    → w.saved ≡ []
    → OnOk ended (IsTalked left before after (talk_bytes (archive_bytes a number w.parts) w.parts (play_of w) 1))
    → OnErr ended (IsCutOff left before after (talk_bytes (archive_bytes a number w.parts) w.parts (play_of w) 1))
    → (IsErrOf ended WriteFault → Rose faults faults2) → result ≡ status_after ended
    → IsEnd (IsTalkOn a number p plain) left before after faults faults2 result
talked_on a number p plain w left before after faults faults2 ended result parts is none whole cut rose same =
    subst (IsEnd (IsTalkOn a number p plain) left before after faults faults2) (sym same)
    (talk_end (IsTalkOn a number p plain) left before after faults faults2
    (talk_bytes (archive_bytes a number w.parts) w.parts (play_of w) 1) ended
    (λ input. record {
      state = w.state;
      is = is;
      status_is = refl;
      bytes_are = begun_said a number w p (lines input) parts none;
    }) whole cut rose)

pub talked_faults : (ended : Result (Unit {0}) TalkFault) (faults faults2 result : ℕ) → OnOk ended (faults2 ≡ faults)
    → (IsErrOf ended ReadFault → faults2 ≡ faults) → (IsErrOf ended NoMemory → faults2 ≡ faults)
    → result ≡ status_after ended → (result ≡ 5) ⊎ (faults2 ≡ faults)
talked_faults ended faults faults2 result ok read starved same =
    subst (λ r. (r ≡ 5) ⊎ (faults2 ≡ faults)) (sym same) (talk_faults ended faults faults2 ok read starved)

-- a talk on the instance of a start
pub begun_end : (a : Archive) (number : ℕ) (s : Start) (found : Option Parts) (p q : Parts) (plain : Plain)
    (left before after : Option (List ℕ)) (faults faults2 result : ℕ) → found ≡ Some p → found ≡ Some q
    → s ≡ begins p plain → IsEnd (IsTalkOn a number q plain) left before after faults faults2 result
    → IsEnd (IsTalkOf a number s) left before after faults faults2 result
begun_end a number s found p q plain left before after faults faults2 result e f g end =
    let same : q ≡ p = cc in
    subst (λ x. IsEnd (IsTalkOf a number x) left before after faults faults2 result) (sym g)
    (subst (λ x. IsEnd (IsTalkOn a number x plain) left before after faults faults2 result) same end)

pub held_end : (h : Option (List ℕ → Option (List ℕ))) (name : List ℕ) (number : ℕ) (answer : Answer)
    (left before after : Option (List ℕ)) (faults faults2 result : ℕ)
    → IfSome h (λ under. IsAnswerOf (under name) answer)
    → IsEnd (IsTalkIn number (reading_of answer)) left before after faults faults2 result
    → IfSome h (λ under. IsEnd (IsTalkTo number (under name)) left before after faults faults2 result)
held_end None name number answer left before after faults faults2 result is end = tt
held_end (Some under) name number answer left before after faults faults2 result is end =
    answer_end number (under name) answer left before after faults faults2 result is end

-- what is so of whatever a shelf holds
pub each_held : (h : Option (List ℕ → Option (List ℕ))) (P : (List ℕ → Option (List ℕ)) → Type 0)
    → ((under : List ℕ → Option (List ℕ)) → P under) → IfSome h P
each_held None P all = tt
each_held (Some under) P all = all under

-- nothing was written
pub stopped_end : (h : Holdings) (name : List ℕ) (number : ℕ) (left before : Option (List ℕ)) (faults status : ℕ)
    → (status ≡ 4) ⊎ (status ≡ 6)
    → IfSome h (λ under. IsEnd (IsTalkTo number (under name)) left before before faults faults status)
stopped_end h name number left before faults status s = each_held h
    (λ under. IsEnd (IsTalkTo number (under name)) left before before faults faults status) (λ under. inl (s, refl))

-- words that have a reading are not without one
pub never : {A : Type 0} (o : Option A) (a : A) → o ≡ Some a → o ≡ None → ⊥
never o a e f = cc

-- a talk ended with status 4 where a line could not be read, and no fault of a line is counted before another status
pub talked_unread : (ended : Result (Unit {0}) TalkFault) (lines lines2 result : ℕ)
    → (IsErrOf ended ReadFault → Rose lines lines2) → result ≡ status_after ended → result ≡ 4 → Rose lines lines2
talked_unread (Ok u) lines lines2 result rose same four = absurd (omega (arith, same, four))
talked_unread (Err ReadFault) lines lines2 result rose same four = rose refl
talked_unread (Err WriteFault) lines lines2 result rose same four = absurd (omega (arith, same, four))
talked_unread (Err NoMemory) lines lines2 result rose same four = absurd (omega (arith, same, four))

pub talked_read : (ended : Result (Unit {0}) TalkFault) (lines lines2 result : ℕ) → OnOk ended (lines2 ≡ lines)
    → (IsErrOf ended WriteFault → lines2 ≡ lines) → (IsErrOf ended NoMemory → lines2 ≡ lines)
    → result ≡ status_after ended → (result ≡ 4) ⊎ (lines2 ≡ lines)
talked_read (Ok u) lines lines2 result ok unwritten starved same = inr ok
talked_read (Err ReadFault) lines lines2 result ok unwritten starved same = inl same
talked_read (Err WriteFault) lines lines2 result ok unwritten starved same = inr (unwritten refl)
talked_read (Err NoMemory) lines lines2 result ok unwritten starved same = inr (starved refl)

-- the name of the archive that words ask for is missing, or none is
pub lacks_by : (o : Option Asked) (a : Asked) (h : Holdings) → o ≡ Some a → IsMissing h a.archive → LacksArchiveOf o h
lacks_by o a h e missing = subst (λ x. LacksArchiveOf x h) (sym e) missing

pub lacking : (o : Option Asked) (a : Asked) (h : Holdings) → o ≡ Some a → LacksArchiveOf o h → IsMissing h a.archive
lacking o a h e lacks = subst (λ x. LacksArchiveOf x h) e lacks

pub lacks_none : {P : Type 0} (o : Option Asked) (h : Holdings) → o ≡ None → LacksArchiveOf o h → P
lacks_none o h e lacks = absurd (subst (λ x. LacksArchiveOf x h) e lacks)

-- a run that neither a device nor a line stopped
pub completed : (a : Option Asked) (h : Holdings) (sound : Bool) (shelf shelf2 lines lines2 : ℕ)
    (left before after : Option (List ℕ)) (sink sink2 result : ℕ)
    → IfSome h (λ under. IsEnd (IsOutcome a under) left before after sink sink2 result)
    → (result ≡ 4 → Rose shelf shelf2 ⊎ Rose lines lines2) → (result ≡ 4 → (after ≡ before) ⊎ Rose lines lines2)
    → (IsTrue sound → result ≡ 4 → LacksArchiveOf a h ⊎ Rose lines lines2)
    → IsTrue sound ⊎ (Rose shelf shelf2 → ⊥) → (Rose sink sink2 → ⊥) → (Rose lines lines2 → ⊥)
    → (result ≡ 6) ⊎ EndedOf a h left before after result
completed a None sound shelf shelf2 lines lines2 left before after sink sink2 result end fault nothing missing q taken read =
    inr (inr tt)
completed a (Some under) sound shelf shelf2 lines lines2 left before after sink sink2 result end fault nothing missing q taken read =
    by end
  where
    Done : Type 0
    Done = (result ≡ 6) ⊎ EndedOf a (Some under) left before after result

    unchanged : (after ≡ before) ⊎ Rose lines lines2 → after ≡ before
    unchanged (inl same) = same
    unchanged (inr rose) = absurd (read rose)

    lacked : result ≡ 4 → LacksArchiveOf a (Some under) ⊎ Rose lines lines2 → Done
    lacked four (inl lacks) = inr (inl (four, lacks, unchanged (nothing four)))
    lacked four (inr rose) = absurd (read rose)

    risen : (Rose shelf shelf2 → ⊥) → Rose shelf shelf2 ⊎ Rose lines lines2 → Done
    risen calm (inl rose) = absurd (calm rose)
    risen calm (inr rose) = absurd (read rose)

    stopped : result ≡ 4 → IsTrue sound ⊎ (Rose shelf shelf2 → ⊥) → Done
    stopped four (inl s) = lacked four (missing s four)
    stopped four (inr calm) = risen calm (fault four)

    short : (result ≡ 4) ⊎ (result ≡ 6) → Done
    short (inl four) = stopped four q
    short (inr six) = inl six

    wrote : (input bytes : List ℕ) (status : ℕ) → HadLeft left input → IsOutcome a under input status bytes
        → Wrote before after sink sink2 bytes status result → Done
    wrote input bytes status all is (inl whole) = inr (inr (record {
      input = input;
      all = all;
      bytes = bytes;
      is = subst (λ s. IsOutcome a under input s bytes) (sym whole.0) is;
      took = whole.1;
    }))
    wrote input bytes status all is (inr (inl cut)) = absurd (taken cut.1)
    wrote input bytes status all is (inr (inr cut)) = short cut.0

    by : IsEnd (IsOutcome a under) left before after sink sink2 result → Done
    by (inl nothing_done) = short nothing_done.0
    by (inr w) = wrote w.input w.bytes w.status w.all w.is w.wrote

-- the line that refuses words never ends with status 4
pub never_four : (result : ℕ) (A B : Type 0) (C : Type 0) → ((result ≡ 2) × A) ⊎ ((result ≡ 5) × B × C) → result ≡ 4 → ⊥
never_four result A B C (inl whole) four = let two = whole.0 in omega (arith, two, four)
never_four result A B C (inr cut) four = let five = cut.0 in omega (arith, five, four)
