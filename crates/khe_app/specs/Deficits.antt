-- Answers to `deficit` that name demands which outnumber their supplies by just the number that they give: one such
-- answer, and all of a script, each by the state that stands before its line.
use Rattle.std.specs.Prelude.{ℕ, ◌≡◌, ◌+◌, Bool, true, false, Result, Ok, Err, List, [], ◌∷◌, ◌++◌, length}
use Rattle.std.specs.List.{list_all}
use Rattle.edit_script.specs.Lines.{lines}
use Rattle.edit_script.specs.Reading.{reading}
use Rattle.edit_script.specs.declared.commands.Command.TheVariants.{Ask}
use Rattle.edit_script.specs.declared.commands.LineFault.{LineFault}
use Rattle.edit_script.specs.declared.commands.Question.TheVariants.{Deficit}
use Rattle.followers.specs.Lines.{tied_reading}
use Rattle.followers.specs.declared.lines.TiedCommand.TheVariants.{Base}
use Rattle.hall_report.specs.Demands.{chosen, demands}
use Rattle.hall_report.specs.Shortages.{supplies_of}
use Rattle.hall_report.specs.declared.demand.Demand.{Demand}
use Rattle.khe_engine.specs.States.{State}
use Rattle.khe_instance.specs.declared.parts.Parts.{Parts}
use Rattle.khe_told.specs.declared.slots.Slot.{Slot}
use Rattle.script_run.specs.Answers.{answer, shortage_text}
use Rattle.script_run.specs.Plays.{Play, begun, played}
use Rattle.script_run.specs.Scripts.{answers, is_read}
use Rattle.tied_run.specs.Plays.{tied_played, untied}
use Rattle.tied_run.specs.Scripts.{tied_answers, tied_reads}

-- a text gives a number and names demands of a state, which outnumber the supplies that they may have by just it
pub record IsShortageText (p : Parts) (s : List Slot) (text : List ℕ) : Type 0 where
  pub deficit : ℕ
  pub named : List Demand
  pub text_is : text ≡ shortage_text deficit named
  pub test : ℕ → Bool
  pub of_state : named ≡ chosen test 0 (demands p s)
  pub outnumber : length named ≡ supplies_of p s named + deficit

-- so does the answer in any state
abbrev pub DeficitsOutnumber : Type 0
DeficitsOutnumber = (p : Parts) (w : Play) → IsShortageText p w.state.slots (answer p w (Ask Deficit))

-- a line that asks for the deficit, in a script whose lines may speak of ties or not
abbrev pub AsksDeficit : Bool → List ℕ → Type 0
AsksDeficit false line = reading line ≡ Ok (Ask Deficit)
AsksDeficit true line = tied_reading line ≡ Ok (Base (Ask Deficit))

-- whether each of these lines has a reading
abbrev pub are_read : Bool → List (List ℕ) → Bool
are_read false ls = is_read ls
are_read true ls = list_all tied_reads ls

-- what lines make of a play one after the other: of any state, by how a line is read and what a command makes
abbrev pub by_line : {W C : Type 0} → (W → C → W) → W → Result C LineFault → W
by_line makes w (Ok c) = makes w c
by_line makes w (Err fault) = w

abbrev pub after_by : {W C : Type 0} → (List ℕ → Result C LineFault) → (W → C → W) → W → List (List ℕ) → W
after_by read makes w [] = w
after_by read makes w (line ∷ more) = after_by read makes (by_line makes w (read line)) more

-- the slots of the state that stands after these lines
abbrev pub slots_after : Bool → Parts → State → List (List ℕ) → List Slot
slots_after false p s ls = (after_by reading (played p) (begun s) ls).state.slots
slots_after true p s ls = (after_by tied_reading (tied_played p) (begun (untied s)) ls).state.state.slots

-- the answers to these lines
abbrev pub answers_to : Bool → Parts → State → List (List ℕ) → List ℕ
answers_to false p s ls = answers p (begun s) 1 ls
answers_to true p s ls = tied_answers p (begun (untied s)) 1 ls

-- in a text there follows, after the answers to these lines, an answer that names demands of the state that stands
-- after them, which outnumber the supplies that they may have by just the number that it gives
pub record IsShortAfter (tied : Bool) (p : Parts) (s : State) (before : List (List ℕ)) (text : List ℕ) : Type 0 where
  pub named : List ℕ
  pub rest : List ℕ
  pub text_is : text ≡ answers_to tied p s before ++ (named ++ rest)
  pub outnumber : IsShortageText p (slots_after tied p s before) named

-- each line of a script that asks for the deficit, and has none without a reading before it, is answered so
abbrev pub DeficitsTell : Bool → Parts → State → List ℕ → List ℕ → Type 0
DeficitsTell tied p s script text =
    (before : List (List ℕ)) (line : List ℕ) (after : List (List ℕ)) → lines script ≡ before ++ (line ∷ after)
    → are_read tied before ≡ true → AsksDeficit tied line → IsShortAfter tied p s before text
