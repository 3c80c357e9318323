-- The demands that compete outnumber their supplies by the deficit, and a script's text has the answers to its lines
-- one after the other.
use Rattle.std.proofs.Common.{ℕ, ◌≡◌, ◌∙◌, ◌+◌, ◌++◌, Bool, true, false, Result, Ok, Err, List, [], ◌∷◌, ap, refl, sym}
use Rattle.std.proofs.Common.{append_assoc}
use Rattle.std.specs.Prelude.{is_ok}
use Rattle.std.specs.List.{list_all}
use Rattle.edit_script.specs.Reading.{reading}
use Rattle.edit_script.specs.declared.commands.Command.TheVariants.{Ask}
use Rattle.edit_script.specs.declared.commands.LineFault.{LineFault}
use Rattle.edit_script.specs.declared.commands.Question.TheVariants.{Deficit}
use Rattle.followers.specs.Lines.{tied_reading}
use Rattle.followers.specs.declared.lines.TiedCommand.TheVariants.{Base}
use Rattle.hall_report.proofs.Outnumbering.{outnumber}
use Rattle.hall_report.specs.Demands.{domains}
use Rattle.hall_report.specs.Shortages.{competes, deficit_of, hall_of}
use Rattle.khe_engine.specs.States.{State}
use Rattle.khe_instance.specs.declared.parts.Parts.{Parts}
use Rattle.script_run.specs.Answers.{answer, question_answer}
use Rattle.script_run.specs.Faults.{fault_line}
use Rattle.script_run.specs.Plays.{Play, begun, played}
use Rattle.script_run.specs.Scripts.{answers_by, by_reading}
use Rattle.tied_run.specs.Answers.{tied_answer}
use Rattle.tied_run.specs.Plays.{TiedPlay, tied_played, untied}
use Rattle.khe_app.specs.Deficits.{DeficitsTell, IsShortageText, after_by, answers_to, by_line}
use Rattle.khe_app.specs.Outcome.{answers_of}

pub outnumbered : (p : Parts) (w : Play) → IsShortageText p w.state.slots (answer p w (Ask Deficit))
unfolding answer question_answer hall_of
outnumbered p w = record {
  deficit = deficit_of p w.state.slots;
  named = hall_of p w.state.slots;
  text_is = refl;
  test = competes (domains p w.state.slots);
  of_state = refl;
  outnumber = outnumber p w.state.slots;
}

-- the same of a play with ties
tied_outnumbered : (p : Parts) (w : TiedPlay)
    → IsShortageText p w.state.state.slots (tied_answer p w (Base (Ask Deficit)))
unfolding tied_answer
tied_outnumbered p w = outnumbered p (record { state = w.state.state; saved = _ })

-- a line with a reading, and those after it
answers_first : {W C : Type 0} (read : List ℕ → Result C LineFault) (says : W → C → List ℕ) (makes : W → C → W) (w : W)
    (number : ℕ) (line : List ℕ) (more : List (List ℕ)) (c : C) → read line ≡ Ok c
    → answers_by read says makes w number (line ∷ more)
    ≡ says w c ++ answers_by read says makes (makes w c) (number + 1) more
answers_first read says makes w number line more c e = ap
    (λ r. by_reading r (λ d. says w d ++ answers_by read says makes (makes w d) (number + 1) more)
    (fault_line number)) e

-- the answers to lines that all have a reading, then that to the next one, and the others
pub answered_after : {W C : Type 0} (read : List ℕ → Result C LineFault) (says : W → C → List ℕ) (makes : W → C → W)
    (w : W) (number : ℕ) (before : List (List ℕ)) (line : List ℕ) (after : List (List ℕ)) (c : C)
    → list_all (λ l. is_ok (read l)) before ≡ true → read line ≡ Ok c
    → (rest : List ℕ) × (answers_by read says makes w number (before ++ (line ∷ after))
    ≡ answers_by read says makes w number before ++ (says (after_by read makes w before) c ++ rest))
answered_after read says makes w number [] line after c all e =
    (answers_by read says makes (makes w c) (number + 1) after, answers_first read says makes w number line after c e)
answered_after read says makes w number (l ∷ before) line after c all e =
    by (read l) refl (λ v b. answered_after read says makes v (number + 1) before line after c b e)
  where
    by : (r : Result _ LineFault) → read l ≡ r
        → ((v : _) → list_all (λ x. is_ok (read x)) before ≡ true
        → (rest : List ℕ) × (answers_by read says makes v (number + 1) (before ++ (line ∷ after))
        ≡ answers_by read says makes v (number + 1) before ++ (says (after_by read makes v before) c ++ rest)))
        → (rest : List ℕ) × (answers_by read says makes w number (l ∷ (before ++ (line ∷ after)))
        ≡ answers_by read says makes w number (l ∷ before)
        ++ (says (after_by read makes (by_line makes w (read l)) before) c ++ rest))
    by (Err fault) bad more = absurd (let f : ⊥ = cc in f)
    by (Ok d) good more =
        let next = more (makes w d) (let b : list_all (λ x. is_ok (read x)) before ≡ true = cc in b) in
        let end = says (after_by read makes (makes w d) before) c ++ next.0 in (
          next.0,
          answers_first read says makes w number l (before ++ (line ∷ after)) d good
              ∙ ap (λ xs. says w d ++ xs) next.1
              ∙ sym (append_assoc (says w d) (answers_by read says makes (makes w d) (number + 1) before) end)
              ∙ ap (λ xs. xs ++ end) (sym (answers_first read says makes w number l before d good))
              ∙ ap (λ r. answers_by read says makes w number (l ∷ before)
              ++ (says (after_by read makes (by_line makes w r) before) c ++ next.0)) (sym good),
        )

-- so each deficit of a script is answered by the state that stands before its line
pub tell : (tied : Bool) (p : Parts) (s : State) (script : List ℕ)
    → DeficitsTell tied p s script (answers_of tied p s script)
tell false p s script before line after cut all asks =
    let found = answered_after reading (answer p) (played p) (begun s) 1 before line after (Ask Deficit) all asks in
    record {
      named = answer p (after_by reading (played p) (begun s) before) (Ask Deficit);
      rest = found.0;
      text_is = ap (answers_to false p s) cut ∙ found.1;
      outnumber = outnumbered p (after_by reading (played p) (begun s) before);
    }
tell true p s script before line after cut all asks =
    let found = answered_after tied_reading (tied_answer p) (tied_played p) (begun (untied s)) 1 before line after
    (Base (Ask Deficit)) all asks in
    record {
      named = tied_answer p (after_by tied_reading (tied_played p) (begun (untied s)) before) (Base (Ask Deficit));
      rest = found.0;
      text_is = ap (answers_to true p s) cut ∙ found.1;
      outnumber = tied_outnumbered p (after_by tied_reading (tied_played p) (begun (untied s)) before);
    }
