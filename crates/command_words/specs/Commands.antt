-- The table of commands: for each its word, the forms of the words after it, its options with their ranges, and what
-- is asked for.
use Rattle.std.specs.Prelude.{ℕ, Bool, true, false, Option, Some, None, List, [], ◌∷◌, codes}
use Rattle.khe_base.specs.declared.limits.TheConstants.{BUDGET, CHAIN_MOVES, JOBS, MADE_EVENTS, WORKERS}
use Rattle.command_words.specs.Words.{Asked, checking, constructing, evaluating, making, matching, repairing, running}
use Rattle.command_words.specs.Words.{scripting, solving}

-- the form of a word: any word; a number of 1 to 18 digits, below 2^32; a number of 1 to 18 digits; or a number of
-- 1 to 18 digits, from 1 to a greatest one
pub data Form : Type 0 where
  any : Form
  below : Form
  digits : Form
  up_to : ℕ → Form

-- what is said by a word in form, or by an option that has no value
pub data Said : Type 0 where
  text : List ℕ → Said
  number : ℕ → Said
  flag : Said

-- an option: its word, the form of the value after it, if it has one, and whether it must be there
pub record Choice : Type 0 where
  pub word : List ℕ
  pub value : Option Form
  pub needed : Bool

-- a command: its word, the forms of the words after it, its options, and what is asked for by what these words say
-- and by what each option says, if it is there
pub record Command : Type 0 where
  pub word : List ℕ
  pub forms : List Form
  pub options : List Choice
  pub asks : List Said → List (Option Said) → Option Asked

-- options that may be left out, alone and with a number from 1 to a greatest one
abbrev pub alone : List ℕ → Choice
alone word = record { word = word; value = None; needed = false }

abbrev pub numbered : List ℕ → ℕ → Choice
numbered word greatest = record { word = word; value = Some (up_to greatest); needed = false }

-- options that must be there, with such a number
abbrev pub must : List ℕ → ℕ → Choice
must word greatest = record { word = word; value = Some (up_to greatest); needed = true }

-- the greatest number of moves of a chain, and how many chains may be tried
abbrev pub depth : Choice
depth = must (codes "--depth") CHAIN_MOVES

abbrev pub budget : Choice
budget = must (codes "--budget") BUDGET

-- how many jobs there are, and how many workers do them
abbrev pub jobs : Choice
jobs = must (codes "--jobs") JOBS

abbrev pub workers : Choice
workers = must (codes "--workers") WORKERS

abbrev pub is_there : Option Said → Bool
is_there None = false
is_there (Some said) = true

-- ARCHIVE [--all] [--workers N]
abbrev pub asks_evaluate : List Said → List (Option Said) → Option Asked
asks_evaluate (text archive ∷ []) (all ∷ crew ∷ []) = Some (evaluating archive (is_there all))
asks_evaluate _ _ = None

-- ARCHIVE SOLUTION SCRIPT
abbrev pub asks_script : Bool → List Said → List (Option Said) → Option Asked
asks_script ties (text archive ∷ number solution ∷ text name ∷ []) [] = Some (scripting archive solution name ties)
asks_script ties _ _ = None

-- ARCHIVE
abbrev pub asks_check : List Said → List (Option Said) → Option Asked
asks_check (text archive ∷ []) [] = Some (checking archive)
asks_check _ _ = None

-- ARCHIVE SOLUTION --depth D --budget B
abbrev pub asks_repair : List Said → List (Option Said) → Option Asked
asks_repair (text archive ∷ number solution ∷ []) (Some (number moves) ∷ Some (number chains) ∷ []) =
    Some (repairing archive solution moves chains)
asks_repair _ _ = None

-- ARCHIVE SOLUTION --depth D --budget B --jobs J --workers N
abbrev pub asks_solve : List Said → List (Option Said) → Option Asked
asks_solve (text archive ∷ number solution ∷ [])
    (Some (number moves) ∷ Some (number chains) ∷ Some (number count) ∷ Some (number crew) ∷ []) =
    Some (solving archive solution moves chains count)
asks_solve _ _ = None

-- ARCHIVE INSTANCE
abbrev pub asks_construct : List Said → List (Option Said) → Option Asked
asks_construct (text archive ∷ number instance ∷ []) [] = Some (constructing archive instance None)
asks_construct (text archive ∷ number instance ∷ []) (Some (number moves) ∷ Some (number chains) ∷ []) =
    Some (constructing archive instance (Some (moves, chains)))
asks_construct _ _ = None

-- ARCHIVE SOLUTION TIME TYPE
abbrev pub asks_match : List Said → List (Option Said) → Option Asked
asks_match (text archive ∷ number solution ∷ number time ∷ number rtype ∷ []) [] =
    Some (matching archive solution time rtype)
asks_match _ _ = None

-- SEED SIZE [--run]
abbrev pub asks_make : List Said → List (Option Said) → Option Asked
asks_make (number seed ∷ number size ∷ []) (None ∷ []) = Some (making seed size)
asks_make (number seed ∷ number size ∷ []) (Some run ∷ []) = Some (running seed size)
asks_make _ _ = None

abbrev pub evaluate : Command
evaluate = record {
  word = codes "evaluate";
  forms = any ∷ [];
  options = alone (codes "--all") ∷ numbered (codes "--workers") WORKERS ∷ [];
  asks = asks_evaluate;
}

-- a script of lines without ties, or with them
abbrev pub scripted : List ℕ → Bool → Command
scripted word ties = record { word = word; forms = any ∷ below ∷ any ∷ []; options = []; asks = asks_script ties }

abbrev pub script : Command
script = scripted (codes "script") false

abbrev pub tied : Command
tied = scripted (codes "tied") true

abbrev pub check : Command
check = record { word = codes "check"; forms = any ∷ []; options = []; asks = asks_check }

abbrev pub repair : Command
repair = record {
  word = codes "repair";
  forms = any ∷ below ∷ [];
  options = depth ∷ budget ∷ [];
  asks = asks_repair;
}

abbrev pub solve : Command
solve = record {
  word = codes "solve";
  forms = any ∷ below ∷ [];
  options = depth ∷ budget ∷ jobs ∷ workers ∷ [];
  asks = asks_solve;
}

-- a construction alone, and one that is repaired
abbrev pub construct : Command
construct = record { word = codes "construct"; forms = any ∷ below ∷ []; options = []; asks = asks_construct }

abbrev pub construct_repaired : Command
construct_repaired = record {
  word = codes "construct";
  forms = any ∷ below ∷ [];
  options = depth ∷ budget ∷ [];
  asks = asks_construct;
}

abbrev pub match_tasks : Command
match_tasks = record {
  word = codes "match";
  forms = any ∷ below ∷ below ∷ below ∷ [];
  options = [];
  asks = asks_match;
}

abbrev pub make : Command
make = record {
  word = codes "make";
  forms = digits ∷ up_to MADE_EVENTS ∷ [];
  options = alone (codes "--run") ∷ [];
  asks = asks_make;
}

abbrev pub commands : List Command
commands = evaluate ∷ script ∷ tied ∷ check ∷ repair ∷ solve ∷ construct ∷ construct_repaired ∷ match_tasks ∷ make ∷ []
