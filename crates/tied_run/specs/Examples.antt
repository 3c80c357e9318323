-- A script with ties on the small instance of two events.
use Rattle.std.specs.Prelude.{ℕ, List, [], ◌∷◌, ◌++◌}
use Rattle.script_run.specs.Plays.{begun}
use Rattle.followers.specs.Examples.{parts, start}
use Rattle.followers.specs.declared.edits.Tie.{Tie}
use Rattle.tied_run.specs.Plays.{meet}
use Rattle.tied_run.specs.Scripts.{tied_text}

abbrev pub answered : List ℕ → List ℕ
answered script = tied_text parts (begun start) script

-- lines one after the other, and an end
abbrev pub joined : List (List ℕ) → List ℕ → List ℕ
joined [] end = end
joined (line ∷ more) end = line ++ joined more end

abbrev pub tie_of : ℕ → ℕ → Tie
tie_of m offset = record { leader = meet m; offset = offset }
