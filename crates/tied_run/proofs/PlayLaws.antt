-- What the calls of a timetable with ties say of the play that it stands for.
use Rattle.std.proofs.Common.{ℕ, ◌≡◌, ◌↔◌, ◌<◌, ◌≤◌, ◌⊎◌, true, Option, Some, None, Result, Ok, Err, List, [], ◌∷◌}
use Rattle.std.proofs.Common.{drop, length, refl, sym, ap, ◌∙◌}
use Rattle.std.specs.Prelude.{OnOk, OnErr, IfErr}
use Rattle.khe_base.specs.declared.limits.TheConstants.{MARKS}
use Rattle.khe_instance.specs.declared.parts.Parts.{Parts}
use Rattle.khe_told.specs.declared.refusals.Refusal.{Refusal}
use Rattle.khe_told.specs.declared.refusals.Refusal.TheVariants.{NoMark, MarksFull}
use Rattle.khe_engine.specs.States.{State}
use Rattle.khe_engine.specs.Worlds.{World}
use Rattle.evaluation_report.specs.Answers.{ok_line}
use Rattle.edit_script.specs.declared.commands.Command.{Command}
use Rattle.edit_script.specs.declared.commands.Command.TheVariants as command
use Rattle.edit_script.specs.declared.commands.Question.{Question}
use Rattle.script_run.specs.Answers.{answer, outcome_line, question_answer, refusal_of, subject_answer}
use Rattle.script_run.specs.Plays.{is_question, play_of, unless}
use Rattle.script_run.proofs.MarkLaws.{full_answer, full_mapped, marked_begin, marked_end, marked_number, marked_undo, none_answer, none_mapped, number_answer, number_mapped}
use Rattle.followers.specs.Tables.{edited, made, refusal}
use Rattle.followers.specs.Ties.{TiedState}
use Rattle.followers.specs.Worlds.{IsFaultOf, TiedWorld, from_mark, last_saved}
use Rattle.followers.specs.declared.edits.TiedEdit.{TiedEdit}
use Rattle.followers.specs.declared.edits.TiedFault.{TiedFault}
use Rattle.followers.specs.declared.edits.TiedFault.TheVariants.{Refused, NoMemory}
use Rattle.followers.specs.declared.edits.TiedRefusal.{TiedRefusal}
use Rattle.followers.specs.declared.lines.TiedCommand.TheVariants.{Base}
use Rattle.tied_run.specs.Answers.{edit_answer, tied_answer, tied_outcome_line, tied_refused_line}
use Rattle.tied_run.specs.Plays.{TiedPlay, by_edit, tied_play_of, tied_played}

abbrev state_in : TiedState → State
state_in t = t.state

-- a question changes nothing, and its answer looks at the state without its ties
pub asked_played : (p : Parts) (w : TiedPlay) (c : Command) → is_question c ≡ true → w ≡ tied_played p w (Base c)
unfolding tied_played
asked_played p w (command.Edit e) h = let z : ⊥ = cc in absurd z
asked_played p w command.Begin h = let z : ⊥ = cc in absurd z
asked_played p w command.End h = let z : ⊥ = cc in absurd z
asked_played p w command.Undo h = let z : ⊥ = cc in absurd z
asked_played p w (command.UndoTo k) h = let z : ⊥ = cc in absurd z
asked_played p w command.Nothing h = refl
asked_played p w (command.Ask q) h = refl
asked_played p w (command.AskAbout x n) h = refl

pub asked_answer : (p q : Parts) (a : World) (w : TiedPlay) (c : Command) → is_question c ≡ true → q ≡ p
    → a.state ≡ w.state.state → answer q (play_of a) c ≡ tied_answer p w (Base c)
unfolding answer tied_answer
asked_answer p q a w (command.Edit x) h e f = let z : ⊥ = cc in absurd z
asked_answer p q a w command.Begin h e f = let z : ⊥ = cc in absurd z
asked_answer p q a w command.End h e f = let z : ⊥ = cc in absurd z
asked_answer p q a w command.Undo h e f = let z : ⊥ = cc in absurd z
asked_answer p q a w (command.UndoTo k) h e f = let z : ⊥ = cc in absurd z
asked_answer p q a w command.Nothing h e f = refl
asked_answer p q a w (command.Ask x) h e f = λ i. question_answer (e i) (f i) x
asked_answer p q a w (command.AskAbout x n) h e f = λ i. subject_answer (e i) (f i) x n

pub question_played : (p : Parts) (w : TiedPlay) (x : Question) → w ≡ tied_played p w (Base (command.Ask x))
question_played p w x = asked_played p w (command.Ask x) refl

pub question_asked : (p q : Parts) (a : World) (w : TiedPlay) (x : Question) → q ≡ p → a.state ≡ w.state.state
    → question_answer q a.state x ≡ tied_answer p w (Base (command.Ask x))
unfolding answer tied_answer
question_asked p q a w x e f = λ i. question_answer (e i) (f i) x

same_play : (a : TiedWorld) (s : TiedState) (xs : List TiedState) → a.now ≡ s → a.saved ≡ xs
    → tied_play_of a ≡ record { state = s; saved = xs }
same_play a s xs e f = λ i. record { state = e i; saved = f i }

-- an edit that is made, and one that is refused
pub edit_made : (p : Parts) (a b : TiedWorld) (e : TiedEdit) → refusal p a.now e ≡ None → b.now ≡ edited a.now e
    → b.saved ≡ a.saved → tied_play_of b ≡ by_edit p (tied_play_of a) e
edit_made p a b e r s g = same_play b (edited a.now e) a.saved s g
    ∙ ap (λ o. unless o (tied_play_of a) (record (tied_play_of a) { state = edited a.now e })) (sym r)

pub made_answer : (p : Parts) (w : TiedPlay) (e : TiedEdit) (n : Option ℕ) → refusal p w.state e ≡ None
    → n ≡ made w.state e → ok_line n ≡ edit_answer p w e
made_answer p w e n r m = ap ok_line m ∙ ap (λ o. tied_outcome_line o (made w.state e)) (sym r)

fault_is : (o : Option TiedRefusal) (r : TiedRefusal) → IsFaultOf o (Refused r) → o ≡ Some r
fault_is None r h = let z : ⊥ = cc in absurd z
fault_is (Some x) r h = sym (ap why h)
  where
    why : TiedFault → Option TiedRefusal
    why (Refused y) = Some y
    why NoMemory = None

pub edit_refused : (p : Parts) (a b : TiedWorld) (e : TiedEdit) (r : TiedRefusal) → IsFaultOf (refusal p a.now e) (Refused r)
    → b.now ≡ a.now → b.saved ≡ a.saved → tied_play_of b ≡ by_edit p (tied_play_of a) e
edit_refused p a b e r h s g = same_play b a.now a.saved s g
    ∙ ap (λ o. unless o (tied_play_of a) (record (tied_play_of a) { state = edited a.now e }))
    (sym (fault_is (refusal p a.now e) r h))

pub refused_answer : (p : Parts) (w : TiedPlay) (e : TiedEdit) (r : TiedRefusal)
    → IsFaultOf (refusal p w.state e) (Refused r) → tied_refused_line r ≡ edit_answer p w e
refused_answer p w e r h = ap (λ o. tied_outcome_line o (made w.state e)) (sym (fault_is (refusal p w.state e) r h))

-- what is asked of the marks
pub begin_played : (p : Parts) (a b : TiedWorld) (r : Result (Unit {0}) Refusal)
    → ((r ≡ Err MarksFull) ↔ (length a.saved ≡ MARKS)) → IfErr r (λ x. x ≡ MarksFull) → b.now ≡ a.now
    → OnOk r (b.saved ≡ a.now ∷ a.saved) → OnErr r (b.saved ≡ a.saved)
    → tied_play_of b ≡ tied_played p (tied_play_of a) (Base command.Begin)
unfolding tied_played
begin_played p a b r full only s ok err = marked_begin (tied_play_of a) (tied_play_of b) r full only s ok err

pub end_played : (p : Parts) (a b : TiedWorld) → b.now ≡ a.now → b.saved ≡ drop 1 a.saved
    → tied_play_of b ≡ tied_played p (tied_play_of a) (Base command.End)
unfolding tied_played
end_played p a b s e = marked_end (tied_play_of a) (tied_play_of b) s e

pub undo_played : (p : Parts) (a b : TiedWorld) (r : Result (Unit {0}) Refusal) → ((r ≡ Err NoMark) ↔ (a.saved ≡ []))
    → IfErr r (λ x. x ≡ NoMark)
    → OnOk r ((x : TiedState) (xs : List TiedState) → a.saved ≡ x ∷ xs → (b.now ≡ x) × (b.saved ≡ a.saved))
    → OnErr r (b ≡ a) → tied_play_of b ≡ tied_played p (tied_play_of a) (Base command.Undo)
unfolding tied_played
undo_played p a b r none only ok err = marked_undo (tied_play_of a) (tied_play_of b) r none only ok (same r err)
  where
    same : (r : Result (Unit {0}) Refusal) → OnErr r (b ≡ a) → OnErr r (tied_play_of b ≡ tied_play_of a)
    same (Ok u) err = err
    same (Err x) err = ap tied_play_of err

pub number_played : (p : Parts) (a b : TiedWorld) (k : ℕ) (r : Result (Unit {0}) Refusal)
    → OnOk r ((1 ≤ k) × (k ≤ length a.saved)) → IfErr r (λ x. (x ≡ NoMark) × ((k < 1) ⊎ (length a.saved < k)))
    → OnOk r (b.now ≡ last_saved a.now (from_mark k a.saved)) → OnOk r (b.saved ≡ from_mark k a.saved) → OnErr r (b ≡ a)
    → tied_play_of b ≡ tied_played p (tied_play_of a) (Base (command.UndoTo k))
unfolding tied_played
number_played p a b k (Ok u) ok err state saved same = marked_number k (tied_play_of a) (tied_play_of b) (Ok u) ok err
    (λ x xs e. state ∙ ap (last_saved a.now) e) saved same
number_played p a b k (Err x) ok err state saved same = marked_number k (tied_play_of a) (tied_play_of b) (Err x) ok err
    state saved (ap tied_play_of same)

pub begin_answer : (p : Parts) (w : TiedPlay) (r : Result (Unit {0}) Refusal)
    → ((r ≡ Err MarksFull) ↔ (length w.saved ≡ MARKS)) → IfErr r (λ x. x ≡ MarksFull)
    → outcome_line (refusal_of r) None ≡ tied_answer p w (Base command.Begin)
unfolding answer tied_answer
begin_answer p w r full only = ap (λ o. outcome_line o None) (full_answer w.saved r full only ∙ full_mapped state_in w.saved)

pub end_answer : (p : Parts) (w : TiedPlay) (r : Result (Unit {0}) Refusal) → ((r ≡ Err NoMark) ↔ (w.saved ≡ []))
    → IfErr r (λ x. x ≡ NoMark) → outcome_line (refusal_of r) None ≡ tied_answer p w (Base command.End)
unfolding answer tied_answer
end_answer p w r none only = ap (λ o. outcome_line o None) (none_answer w.saved r none only ∙ none_mapped state_in w.saved)

pub undo_answer : (p : Parts) (w : TiedPlay) (r : Result (Unit {0}) Refusal) → ((r ≡ Err NoMark) ↔ (w.saved ≡ []))
    → IfErr r (λ x. x ≡ NoMark) → outcome_line (refusal_of r) None ≡ tied_answer p w (Base command.Undo)
unfolding answer tied_answer
undo_answer p w r none only = ap (λ o. outcome_line o None) (none_answer w.saved r none only ∙ none_mapped state_in w.saved)

pub mark_answer : (p : Parts) (w : TiedPlay) (k : ℕ) (r : Result (Unit {0}) Refusal)
    → OnOk r ((1 ≤ k) × (k ≤ length w.saved)) → IfErr r (λ x. (x ≡ NoMark) × ((k < 1) ⊎ (length w.saved < k)))
    → outcome_line (refusal_of r) None ≡ tied_answer p w (Base (command.UndoTo k))
unfolding answer tied_answer
mark_answer p w k r ok err = ap (λ o. outcome_line o None)
    (number_answer k w.saved r ok err ∙ number_mapped state_in k w.saved)
