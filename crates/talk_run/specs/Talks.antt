-- The answers to the lines of a talk, one after the other, each with its full stop.
use Rattle.std.specs.Prelude.{ℕ, ◌+◌, List, [], ◌∷◌, ◌++◌}
use Rattle.std.specs.List.{flat_map}
use Rattle.khe_engine.specs.States.{State}
use Rattle.khe_instance.specs.declared.parts.Parts.{Parts}
use Rattle.script_run.specs.Plays.{Play}
use Rattle.talk_run.specs.Answers.{answered, turned}
use Rattle.talk_run.specs.Lines.{talk_reading}

-- the answer to each of some lines that are numbered on from a number
abbrev pub talk_answers : (State → List ℕ) → Parts → Play → ℕ → List (List ℕ) → List (List ℕ)
talk_answers spelled p w number [] = []
talk_answers spelled p w number (line ∷ more) =
    answered spelled p w number (talk_reading line)
    ∷ talk_answers spelled p (turned p w (talk_reading line)) (number + 1) more

-- an answer, and the line that ends it: one full stop
abbrev pub ended : List ℕ → List ℕ
ended bytes = bytes ++ (46 ∷ 10 ∷ [])

-- the bytes of a talk
abbrev pub talk_bytes : (State → List ℕ) → Parts → Play → ℕ → List (List ℕ) → List ℕ
talk_bytes spelled p w number ls = flat_map ended (talk_answers spelled p w number ls)
