-- How a run ends that constructs a timetable.
use Rattle.std.proofs.Common.{ℕ, ◌≡◌, ◌⊎◌, inl, inr, Bool, List, [], Option, Some, None, IfSome, sym, subst}
use Rattle.std.proofs.Common.{refl, encode_utf8_all, slice_get, arith, length, ◌≤◌}
use Rattle.std.proofs.lemmas.Option.{slice_get_within}
use Rattle.construct_run.specs.Constructs.{IsBuiltText, IsConstructText, IsMendedText}
use Rattle.khe_instance.specs.declared.parts.Parts.{Parts}
use Rattle.khe_io.specs.Shelf.{IsMissing}
use Rattle.reading_commands.specs.Answers.{reading_of, IsAnswerOf}
use Rattle.khe_app.specs.Ends.{IsEnd, LacksOf}
use Rattle.reading_commands.specs.Ends.{Holdings, Written}
use Rattle.khe_app.specs.Outcome.{IsOutcomeOf}
use Rattle.archive_reading.specs.Reading.{Reading, evaluable, refused}
use Rattle.khe_app.specs.Outcome.{IsConstructIn, IsConstructOf, IsConstructTo}
use Rattle.command_words.specs.Words.{constructing}
use Rattle.reading_commands.specs.declared.answers.Answer.{Answer}
use Rattle.khe_app.proofs.EndsLemmas.{end_starved, end_written, not_two}
use Rattle.khe_app.proofs.RepairEnds.{decided, four_apart, two_apart}
use Rattle.xhstt_resolve.specs.declared.resolving.Resolved.{Resolved}
use Rattle.xhstt_shape.specs.declared.records.Archive.{Archive}

-- its status is 0 or 3

of_instance : (a : Archive) (chains : Option (ℕ × ℕ)) (o : Option Parts) (status : ℕ) (text : List ℕ)
    → IsConstructOf a chains o status text → (status ≡ 0) ⊎ (status ≡ 3)
of_instance a chains None status text h = inr h.0
of_instance a chains (Some p) status text h = inl h.0

of_reading : (number : ℕ) (chains : Option (ℕ × ℕ)) (r : Reading) (status : ℕ) (text : List ℕ)
    → IsConstructIn number chains r status text → (status ≡ 0) ⊎ (status ≡ 3)
of_reading number chains (evaluable a r) status text h =
    of_instance a chains (slice_get r.instances number) status text h
of_reading number chains (refused refusal) status text h = inr h.0

constructed_outcome : (h : Holdings) (name : List ℕ) (number : ℕ) (chains : Option (ℕ × ℕ)) (answer : Answer)
    (status : ℕ) (text : List ℕ)
    → IfSome h (λ under. IsAnswerOf (under name) answer)
    → IsConstructIn number chains (reading_of answer) status text
    → IfSome h (λ under. IsOutcomeOf (Some (constructing name number chains)) under status text)
constructed_outcome None name number chains answer status text is r = tt
constructed_outcome (Some under) name number chains answer status text is r = by (under name) is
  where
    by : (o : Option (List ℕ)) → IsAnswerOf o answer → IsConstructTo number chains o status text
    by None none = absurd none
    by (Some bytes) reading = record { reading = reading_of answer; is = reading; constructed = r }

constructed_there : (h : Holdings) (name : List ℕ) (number : ℕ) (chains : Option (ℕ × ℕ)) (answer : Answer)
    → IfSome h (λ under. IsAnswerOf (under name) answer) → LacksOf (Some (constructing name number chains)) h → ⊥
constructed_there None name number chains answer is l = l
constructed_there (Some under) name number chains answer is l = by (under name) is l
  where
    by : (o : Option (List ℕ)) → IsAnswerOf o answer → IsConstructTo number chains o 4 [] → ⊥
    by None none to = none
    by (Some bytes) reading to = four_apart (of_reading number chains to.reading 4 [] to.constructed)

pub construct_lacks : (h : Holdings) (name : List ℕ) (number : ℕ) (chains : Option (ℕ × ℕ)) → IsMissing h name
    → LacksOf (Some (constructing name number chains)) h
construct_lacks None name number chains m = m
construct_lacks (Some under) name number chains m =
    subst (λ o. IsConstructTo number chains o 4 []) (sym m) (refl, refl)

pub end_constructed : (h : Holdings) (name : List ℕ) (number : ℕ) (chains : Option (ℕ × ℕ)) (answer : Answer)
    (sound : Bool) (shelf shelf2 : ℕ) (before after : Option (List ℕ)) (sink sink2 result : ℕ)
    → IfSome h (λ under. IsAnswerOf (under name) answer)
    → ((result ≡ 6) × (after ≡ before)) ⊎ ((status : ℕ) × (text : List ℕ)
    × IsConstructIn number chains (reading_of answer) status text
    × Written before after sink sink2 (encode_utf8_all text) status result)
    → IsEnd (Some (constructing name number chains)) h sound shelf shelf2 before after sink sink2 result
end_constructed h name number chains answer sound shelf shelf2 before after sink sink2 result is (inl w) =
    end_starved (Some (constructing name number chains)) h sound shelf shelf2 before after sink sink2 result w.0 w.1
end_constructed h name number chains answer sound shelf shelf2 before after sink sink2 result is
    (inr (status, text, r, w)) =
    end_written (Some (constructing name number chains)) h sound shelf shelf2 before after sink sink2 text status result
    (constructed_outcome h name number chains answer status text is r)
    (decided status (of_reading number chains (reading_of answer) status text r)) w
    (λ s l. constructed_there h name number chains answer is l)

pub construct_not_two : (number : ℕ) (chains : Option (ℕ × ℕ)) (answer : Answer) (before after : Option (List ℕ))
    (sink sink2 result : ℕ)
    → ((result ≡ 6) × (after ≡ before)) ⊎ ((status : ℕ) × (text : List ℕ)
    × IsConstructIn number chains (reading_of answer) status text
    × Written before after sink sink2 (encode_utf8_all text) status result)
    → result ≡ 2 → ⊥
construct_not_two number chains answer before after sink sink2 result (inl w) two =
    let six = w.0 in omega (arith, six, two)
construct_not_two number chains answer before after sink sink2 result (inr (status, text, r, w)) two =
    not_two before after sink sink2 (encode_utf8_all text) status result w
    (two_apart status (of_reading number chains (reading_of answer) status text r)) two

-- what is written of the instance with the number
pub constructed_text : (a : Archive) (r : Resolved) (number : ℕ) (chains : Option (ℕ × ℕ)) (p : Parts)
    (before after : Option (List ℕ)) (sink sink2 result : ℕ) → slice_get r.instances number ≡ Some p
    → ((result ≡ 6) × (after ≡ before)) ⊎ ((text : List ℕ) × IsConstructText a p chains text
    × Written before after sink sink2 (encode_utf8_all text) 0 result)
    → ((result ≡ 6) × (after ≡ before)) ⊎ ((status : ℕ) × (text : List ℕ)
    × IsConstructOf a chains (slice_get r.instances number) status text
    × Written before after sink sink2 (encode_utf8_all text) status result)
constructed_text a r number chains p before after sink sink2 result at (inl w) = inl w
constructed_text a r number chains p before after sink sink2 result at (inr (text, t, w)) =
    inr (0, text, subst (λ (o : Option Parts). IsConstructOf a chains o 0 text) (sym at) (refl, t), w)

-- no instance has a number past the last
pub none_there : {A : Type 0} (xs : List A) (n : ℕ) → length xs ≤ n → slice_get xs n ≡ None
none_there {A} xs n l = by (slice_get xs n) refl
  where
    by : (o : Option A) → slice_get xs n ≡ o → o ≡ None
    by None e = refl
    by (Some x) e = let within = slice_get_within xs n x e in absurd (omega (arith, within, l))

-- the line that refuses the number
pub absent_text : (a : Archive) (chains : Option (ℕ × ℕ)) (o : Option Parts) (status : ℕ) (text : List ℕ) → o ≡ None
    → IsConstructOf a chains None status text → IsConstructOf a chains o status text
absent_text a chains o status text e h = subst (λ x. IsConstructOf a chains x status text) (sym e) h

-- with a repair, and without
pub alone_text : (a : Archive) (p : Parts) (chains : Option (ℕ × ℕ)) (before after : Option (List ℕ))
    (sink sink2 result : ℕ) → chains ≡ None
    → (text : List ℕ) × IsBuiltText a p text × Written before after sink sink2 (encode_utf8_all text) 0 result
    → ((result ≡ 6) × (after ≡ before)) ⊎ ((text : List ℕ) × IsConstructText a p chains text
    × Written before after sink sink2 (encode_utf8_all text) 0 result)
alone_text a p chains before after sink sink2 result e (text, t, w) =
    inr (text, subst (λ (o : Option (ℕ × ℕ)). IsConstructText a p o text) (sym e) t, w)

pub repaired_text : (a : Archive) (p : Parts) (chains : Option (ℕ × ℕ)) (depth budget : ℕ)
    (before after : Option (List ℕ)) (sink sink2 result : ℕ) → chains ≡ Some (depth, budget)
    → ((result ≡ 6) × (after ≡ before)) ⊎ ((text : List ℕ) × IsMendedText a p depth budget text
    × Written before after sink sink2 (encode_utf8_all text) 0 result)
    → ((result ≡ 6) × (after ≡ before)) ⊎ ((text : List ℕ) × IsConstructText a p chains text
    × Written before after sink sink2 (encode_utf8_all text) 0 result)
repaired_text a p chains depth budget before after sink sink2 result e (inl w) = inl w
repaired_text a p chains depth budget before after sink sink2 result e (inr (text, t, w)) =
    inr (text, subst (λ (o : Option (ℕ × ℕ)). IsConstructText a p o text) (sym e) t, w)
