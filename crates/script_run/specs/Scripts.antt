-- The answers to all lines of a script in order, up to the first line without a reading and the line that says why.
use Rattle.std.specs.Prelude.{ℕ, ◌+◌, Bool, Option, Some, None, Result, Ok, Err, List, [], ◌∷◌, ◌++◌, is_ok}
use Rattle.std.specs.List.{list_all}
use Rattle.std.specs.Option.{option_map}
use Rattle.script_run.specs.Faults.{fault_line}
use Rattle.khe_instance.specs.declared.parts.Parts.{Parts}
use Rattle.khe_engine.specs.Worlds.{Owing, World}
use Rattle.edit_script.specs.Lines.{lines}
use Rattle.edit_script.specs.Reading.{reading}
use Rattle.edit_script.specs.declared.commands.LineFault.{LineFault}
use Rattle.script_run.specs.Answers.{answer}
use Rattle.script_run.specs.Plays.{Play, play_of, played}

-- what comes of a reading: the answer to a command, or the line that says why there is none
abbrev pub by_reading : {C : Type 0} → Result C LineFault → (C → List ℕ) → (LineFault → List ℕ) → List ℕ
by_reading (Ok c) go stop = go c
by_reading (Err fault) go stop = stop fault

-- the answers to lines that are numbered on from this number, up to the first without a reading, and why
-- that one has none: of any state, by how a line is read, what a command answers and what it makes
abbrev pub answers_by : {W C : Type 0} → (List ℕ → Result C LineFault) → (W → C → List ℕ) → (W → C → W) → W → ℕ
    → List (List ℕ) → List ℕ
answers_by read says makes w number [] = []
answers_by read says makes w number (line ∷ more) = by_reading (read line)
    (λ c. says w c ++ answers_by read says makes (makes w c) (number + 1) more) (fault_line number)

abbrev pub answers : Parts → Play → ℕ → List (List ℕ) → List ℕ
answers p = answers_by reading (answer p) (played p)

-- the engine of two places that is there: one that measures at once, or one that is put off
abbrev pub either : Option World → Option Owing → Option World
either None behind = option_map (λ b. b.world) behind
either (Some w) behind = Some w

-- the same of an engine, and nothing where there is none
abbrev pub answers_of : Option World → ℕ → List (List ℕ) → List ℕ
answers_of o number [] = []
answers_of None number (line ∷ more) = []
answers_of (Some w) number (line ∷ more) = answers w.parts (play_of w) number (line ∷ more)

-- whether a line has a reading, and whether every line has one
abbrev pub reads : List ℕ → Bool
reads line = is_ok (reading line)

abbrev pub is_read : List (List ℕ) → Bool
is_read ls = list_all reads ls

-- what a script answers on a play, and whether it was read to its end
abbrev pub script_text : Parts → Play → List ℕ → List ℕ
script_text p w script = answers p w 1 (lines script)

abbrev pub is_script : List ℕ → Bool
is_script script = is_read (lines script)
