-- How a run ends, from what was written of an outcome's text.
use Rattle.std.proofs.Common.{ℕ, ◌≡◌, ◌<◌, ◌⊎◌, inl, inr, Bool, List, [], Option, Some, None, IfSome, IsTrue, sym, ap, subst}
use Rattle.std.proofs.Common.{◌∙◌, refl, encode_utf8_all, arith, true, false}
use Rattle.std.specs.Prelude.{IsSomeAnd}
use Rattle.std.proofs.lemmas.List.{append-nil}
use Rattle.khe_io.specs.Faults.{Rose, Took, TookFront}
use Rattle.khe_io.specs.Shelf.{IsMissing}
use Rattle.reading_commands.specs.Answers.{reading_of, IsAnswerOf}
use Rattle.khe_app.specs.Ends.{EndedOf, CutOffOf, LacksArchiveOf, LacksOf, IsEnd}
use Rattle.reading_commands.specs.Ends.{Holdings, IsDecided, Written}
use Rattle.khe_app.specs.Outcome.{IsOutcomeOf}
use Rattle.reading_commands.specs.Outcome.{IsAnswerTo, status_of, text_of}
use Rattle.archive_reading.specs.Reading.{Reading, evaluable, refused}
use Rattle.command_words.specs.Words.{Asked, archive_of, asked, evaluating, is_read}
use Rattle.reading_commands.specs.declared.answers.Answer.{Answer}

-- where something is read, nothing is said of what stays where nothing is
pub not_unread : {P : Type 0} (o : Option Asked) (a : Asked) → o ≡ Some a → is_read (Some a) ≡ true
    → is_read o ≡ false → P
not_unread o a is read unread = absurd (let g : ⊥ = cc in g)

-- a status of its own
not_decided : (n : ℕ) → (n ≡ 4) ⊎ (n ≡ 5) ⊎ (n ≡ 6) → IsDecided n → ⊥
not_decided n (inl e) d = four n e d
  where
    four : (n : ℕ) → n ≡ 4 → IsDecided n → ⊥
    four n e (inl z) = omega arith
    four n e (inr (inl z)) = omega arith
    four n e (inr (inr (inl z))) = omega arith
    four n e (inr (inr (inr z))) = omega arith
not_decided n (inr (inl e)) d = five n e d
  where
    five : (n : ℕ) → n ≡ 5 → IsDecided n → ⊥
    five n e (inl z) = omega arith
    five n e (inr (inl z)) = omega arith
    five n e (inr (inr (inl z))) = omega arith
    five n e (inr (inr (inr z))) = omega arith
not_decided n (inr (inr e)) d = six n e d
  where
    six : (n : ℕ) → n ≡ 6 → IsDecided n → ⊥
    six n e (inl z) = omega arith
    six n e (inr (inl z)) = omega arith
    six n e (inr (inr (inl z))) = omega arith
    six n e (inr (inr (inr z))) = omega arith

ended : (a : Option Asked) (h : Holdings) (before after : Option (List ℕ)) (text : List ℕ) (status : ℕ)
    → IfSome h (λ under. IsOutcomeOf a under status text) → Took before after (encode_utf8_all text)
    → EndedOf a h before after status
ended a None before after text status is took = tt
ended a (Some under) before after text status is took = (text, is, took)

cut_off : (a : Option Asked) (h : Holdings) (before after : Option (List ℕ)) (text : List ℕ) (status : ℕ)
    → IfSome h (λ under. IsOutcomeOf a under status text) → TookFront before after (encode_utf8_all text)
    → CutOffOf a h before after
cut_off a None before after text status is took = tt
cut_off a (Some under) before after text status is took = (status, text, is, took)

-- a run that wrote an outcome's text, or a first part of it
pub end_written : (a : Option Asked) (h : Holdings) (sound : Bool) (shelf shelf2 : ℕ) (before after : Option (List ℕ))
    (sink sink2 : ℕ) (text : List ℕ) (status result : ℕ)
    → IfSome h (λ under. IsOutcomeOf a under status text) → IsDecided status
    → Written before after sink sink2 (encode_utf8_all text) status result
    → (IsTrue sound → LacksOf a h → ⊥) → IsEnd a h sound shelf shelf2 before after sink sink2 result
end_written a h sound shelf shelf2 before after sink sink2 text status result is known (inl w) there =
    let d : IsDecided result = subst IsDecided (sym w.0) known in
    record {
      known = inl d;
      decided = λ e. subst (EndedOf a h before after) (sym w.0) (ended a h before after text status is w.1);
      read_fault = λ e. absurd (not_decided result (inl e) d);
      nothing_written = λ e. absurd (not_decided result (inl e) d);
      missing = λ s e. absurd (not_decided result (inl e) d);
      found = λ s l. absurd (there s l);
      write_fault = λ e. absurd (not_decided result (inr (inl e)) d);
      cut_off = λ e. absurd (not_decided result (inr (inl e)) d);
      no_memory = λ e. absurd (not_decided result (inr (inr e)) d);
      complete = λ q quiet. inr (subst (EndedOf a h before after) (sym w.0)
          (ended a h before after text status is w.1));
    }
end_written a h sound shelf shelf2 before after sink sink2 text status result is known (inr (inl w)) there =
    let five = w.0 in
    record {
      known = inr (inr (inl five));
      decided = λ d. absurd (not_decided result (inr (inl five)) d);
      read_fault = λ e. absurd (omega (arith, e, five));
      nothing_written = λ e. absurd (omega (arith, e, five));
      missing = λ s e. absurd (omega (arith, e, five));
      found = λ s l. absurd (there s l);
      write_fault = λ e. w.1;
      cut_off = λ e. cut_off a h before after text status is w.2;
      no_memory = λ e. absurd (omega (arith, e, five));
      complete = λ q quiet. absurd (quiet w.1);
    }
end_written a h sound shelf shelf2 before after sink sink2 text status result is known (inr (inr w)) there =
    let six = w.0 in
    record {
      known = inr (inr (inr six));
      decided = λ d. absurd (not_decided result (inr (inr six)) d);
      read_fault = λ e. absurd (omega (arith, e, six));
      nothing_written = λ e. absurd (omega (arith, e, six));
      missing = λ s e. absurd (omega (arith, e, six));
      found = λ s l. absurd (there s l);
      write_fault = λ e. absurd (omega (arith, e, six));
      cut_off = λ e. absurd (omega (arith, e, six));
      no_memory = λ e. inr (cut_off a h before after text status is w.1);
      complete = λ q quiet. inl six;
    }

-- a run that a shelf stopped
took_nothing : (o : Option (List ℕ)) → Took o o (encode_utf8_all [])
took_nothing None = refl
took_nothing (Some xs) = ap Some (sym (append-nil xs))

lacked : (a : Option Asked) (h : Holdings) (before after : Option (List ℕ)) → after ≡ before → LacksOf a h
    → EndedOf a h before after 4
lacked a None before after e l = tt
lacked a (Some under) before after e l = (
  [],
  l,
  subst (λ o. Took before o (encode_utf8_all [])) (sym e)
      (took_nothing before),
)

pub end_stopped : (a : Option Asked) (h : Holdings) (sound : Bool) (shelf shelf2 : ℕ) (before after : Option (List ℕ))
    (sink sink2 result : ℕ) → result ≡ 4
    → Rose shelf shelf2 → after ≡ before → (IsTrue sound → LacksOf a h)
    → IsEnd a h sound shelf shelf2 before after sink sink2 result
end_stopped a h sound shelf shelf2 before after sink sink2 result four rose same lacks = record {
  known = inr (inl four);
  decided = λ d. absurd (not_decided result (inl four) d);
  read_fault = λ e. rose;
  nothing_written = λ e. same;
  missing = λ s e. lacks s;
  found = λ s l. inl four;
  write_fault = λ e. absurd (omega (arith, e, four));
  cut_off = λ e. absurd (omega (arith, e, four));
  no_memory = λ e. absurd (omega (arith, e, four));
  complete = λ q quiet. by q;
}
  where
    by : IsTrue sound ⊎ (Rose shelf shelf2 → ⊥) → (result ≡ 6) ⊎ EndedOf a h before after result
    by (inl s) = inr (subst (EndedOf a h before after) (sym four) (lacked a h before after same (lacks s)))
    by (inr calm) = absurd (calm rose)

-- a run without memory that wrote nothing
pub end_starved : (a : Option Asked) (h : Holdings) (sound : Bool) (shelf shelf2 : ℕ) (before after : Option (List ℕ))
    (sink sink2 result : ℕ) → result ≡ 6
    → after ≡ before → IsEnd a h sound shelf shelf2 before after sink sink2 result
end_starved a h sound shelf shelf2 before after sink sink2 result six same = record {
  known = inr (inr (inr six));
  decided = λ d. absurd (not_decided result (inr (inr six)) d);
  read_fault = λ e. absurd (omega (arith, e, six));
  nothing_written = λ e. absurd (omega (arith, e, six));
  missing = λ s e. absurd (omega (arith, e, six));
  found = λ s l. inr six;
  write_fault = λ e. absurd (omega (arith, e, six));
  cut_off = λ e. absurd (omega (arith, e, six));
  no_memory = λ e. inl same;
  complete = λ q quiet. inl six;
}

-- words without a reading
pub unread : (h : Holdings) (status : ℕ) (text : List ℕ)
    → ((under : List ℕ → Option (List ℕ)) → IsOutcomeOf None under status text)
    → IfSome h (λ under. IsOutcomeOf None under status text)
unread None status text is = tt
unread (Some under) status text is = is under

pub unread-there : (h : Holdings) → LacksOf None h → ⊥
unread-there None l = l
unread-there (Some under) l = omega (arith, l.0)

-- a report
pub reported : (h : Holdings) (name : List ℕ) (all : Bool) (answer : Answer)
    → IfSome h (λ under. IsAnswerOf (under name) answer)
    → IfSome h (λ under. IsOutcomeOf (Some (evaluating name all)) under (status_of (reading_of answer))
    (text_of all (reading_of answer)))
reported None name all answer is = tt
reported (Some under) name all answer is = by (under name) is
  where
    by : (o : Option (List ℕ)) → IsAnswerOf o answer
        → IsAnswerTo all o (status_of (reading_of answer)) (text_of all (reading_of answer))
    by None none = absurd none
    by (Some bytes) reading = record { reading = reading_of answer; is = reading; status_is = refl; text_is = refl }

-- the status of a reading is that of a decided run
pub status-decided : (r : Reading) → IsDecided (status_of r)
status-decided (evaluable a r) = inl refl
status-decided (refused refusal) = inr (inr (inl refl))

pub not_four : (r : Reading) → 4 ≡ status_of r → ⊥
not_four (evaluable a r) e = omega (arith, e)
not_four (refused refusal) e = omega (arith, e)

pub reported-there : (h : Holdings) (name : List ℕ) (all : Bool) (answer : Answer)
    → IfSome h (λ under. IsAnswerOf (under name) answer) → LacksOf (Some (evaluating name all)) h → ⊥
reported-there None name all answer is l = l
reported-there (Some under) name all answer is l = by (under name) is l
  where
    by : (o : Option (List ℕ)) → IsAnswerOf o answer → IsAnswerTo all o 4 [] → ⊥
    by None none to = none
    by (Some bytes) reading to = not_four to.reading to.status_is

pub report_lacks : (h : Holdings) (name : List ℕ) (all : Bool) → IsMissing h name
    → LacksOf (Some (evaluating name all)) h
report_lacks None name all m = m
report_lacks (Some under) name all m = subst (λ o. IsAnswerTo all o 4 []) (sym m) (refl, refl)

-- a status that is none of what was written
pub not_two : (before after : Option (List ℕ)) (sink sink2 : ℕ) (bytes : List ℕ) (status result : ℕ)
    → Written before after sink sink2 bytes status result → (status ≡ 2 → ⊥) → result ≡ 2 → ⊥
not_two before after sink sink2 bytes status result (inl w) other e = other (sym w.0 ∙ e)
not_two before after sink sink2 bytes status result (inr (inl w)) other e = let f = w.0 in omega (arith, e, f)
not_two before after sink sink2 bytes status result (inr (inr w)) other e = let f = w.0 in omega (arith, e, f)

pub reading_not_two : (r : Reading) → status_of r ≡ 2 → ⊥
reading_not_two (evaluable a r) e = omega (arith, e)
reading_not_two (refused refusal) e = omega (arith, e)

-- the same by the words
pub by_words : (words : List (List ℕ)) (a : Option Asked) (h : Holdings) (sound : Bool) (shelf shelf2 : ℕ)
    (before after : Option (List ℕ)) (sink sink2 result : ℕ) → asked words ≡ a
    → IsEnd a h sound shelf shelf2 before after sink sink2 result
    → IsEnd (asked words) h sound shelf shelf2 before after sink sink2 result
by_words words a h sound shelf shelf2 before after sink sink2 result e end =
    subst (λ o. IsEnd o h sound shelf shelf2 before after sink sink2 result) (sym e) end

-- where the archive's name is missing
pub archive_lacked : (words : List (List ℕ)) (a : Asked) (name : List ℕ) (h : Holdings) (status : ℕ)
    → asked words ≡ Some a → archive_of (Some a) ≡ Some name → (IsMissing h name → status ≡ 4)
    → LacksArchiveOf (asked words) h → status ≡ 4
archive_lacked words a name h status e named missing lacks =
    missing (subst (λ o. IsSomeAnd o (IsMissing h)) (ap archive_of e ∙ named) lacks)

pub no_archive : {P : Type 0} (words : List (List ℕ)) (a : Option Asked) (h : Holdings)
    → asked words ≡ a → archive_of a ≡ None → LacksArchiveOf (asked words) h → P
no_archive words a h e none lacks = absurd (subst (λ o. IsSomeAnd o (IsMissing h)) (ap archive_of e ∙ none) lacks)

-- what was written by its status
pub written_whole : (before after : Option (List ℕ)) (sink sink2 : ℕ) (bytes : List ℕ) (status result : ℕ)
    → Written before after sink sink2 bytes status result → status < 5 → result ≡ status → Took before after bytes
written_whole before after sink sink2 bytes status result (inl w) low e = w.1
written_whole before after sink sink2 bytes status result (inr (inl w)) low e =
    let f = w.0 in absurd (omega (arith, e, f, low))
written_whole before after sink sink2 bytes status result (inr (inr w)) low e =
    let f = w.0 in absurd (omega (arith, e, f, low))

pub written_front : (before after : Option (List ℕ)) (sink sink2 : ℕ) (bytes : List ℕ) (status result : ℕ)
    → Written before after sink sink2 bytes status result → status < 5 → result ≡ 5 → TookFront before after bytes
written_front before after sink sink2 bytes status result (inl w) low e =
    let f = w.0 in absurd (omega (arith, e, f, low))
written_front before after sink sink2 bytes status result (inr (inl w)) low e = w.2
written_front before after sink sink2 bytes status result (inr (inr w)) low e = w.1
