-- What the words of the command line ask for: a command with its names, numbers and options, each number in its
-- range and each option at most once. Other words ask for nothing.
use Rattle.std.specs.Prelude.{ℕ, ◌&&◌, ◌==◌, Bool, true, false, if◌then◌else◌, nat_le, nat_lt, Option, Some}
use Rattle.std.specs.Prelude.{None, List, [], ◌∷◌}
use Rattle.std.specs.Prelude.{codes, length}
use Rattle.std.specs.List.{list_all}
use Rattle.std.specs.Option.{option_and_then, option_map}
use Rattle.std.specs.Str.{bytes_eq}
use Rattle.khe_base.specs.Digits.{number_of, long_number_of}
use Rattle.khe_base.specs.declared.limits.TheConstants.{BUDGET, CHAIN_MOVES, DIGITS, JOBS, MADE_EVENTS, WORKERS}

-- what is asked for
pub data Asked : Type 0 where
  -- the report of the archive with this name, of all monitors or of those with a deviation; it is the
  -- same for every number of workers
  evaluating : List ℕ → Bool → Asked
  -- the answers to a script on one solution of an archive: the archive's name, the solution's number, the
  -- script's name, and whether its lines may speak of ties
  scripting : List ℕ → ℕ → List ℕ → Bool → Asked
  -- the canonical spelling of the archive with this name
  checking : List ℕ → Asked
  -- the same with one of its solutions repaired: the archive's name, the solution's number, the greatest
  -- number of moves of a chain, and how many chains may be tried
  repairing : List ℕ → ℕ → ℕ → ℕ → Asked
  -- the same with the least result of many such repairs: besides how many jobs there are; it is the same for
  -- every number of workers
  solving : List ℕ → ℕ → ℕ → ℕ → ℕ → Asked
  -- the same with the tasks of one time matched: besides the number of the time, and that of the resource type
  matching : List ℕ → ℕ → ℕ → ℕ → Asked
  -- an archive with a timetable that is constructed: the archive's name, the number of the instance, and where it is
  -- repaired the greatest number of moves of a chain and how many chains may be tried
  constructing : List ℕ → ℕ → Option (ℕ × ℕ) → Asked
  -- the archive that is made from a seed, with a number of events
  making : ℕ → ℕ → Asked
  -- the line on the run of the same
  running : ℕ → ℕ → Asked

-- whether anything is read for it: an archive that is made is not, and nothing is for words without a reading
abbrev pub is_read : Option Asked → Bool
is_read None = false
is_read (Some (evaluating archive all)) = true
is_read (Some (scripting archive number script tied)) = true
is_read (Some (checking archive)) = true
is_read (Some (repairing archive number depth budget)) = true
is_read (Some (solving archive number depth budget jobs)) = true
is_read (Some (matching archive number time rtype)) = true
is_read (Some (constructing archive number chains)) = true
is_read (Some (making seed size)) = false
is_read (Some (running seed size)) = false

-- the name of the archive that is read for it, if one is
abbrev pub archive_of : Option Asked → Option (List ℕ)
archive_of None = None
archive_of (Some (evaluating archive all)) = Some archive
archive_of (Some (scripting archive number script tied)) = Some archive
archive_of (Some (checking archive)) = Some archive
archive_of (Some (repairing archive number depth budget)) = Some archive
archive_of (Some (solving archive number depth budget jobs)) = Some archive
archive_of (Some (matching archive number time rtype)) = Some archive
archive_of (Some (constructing archive number chains)) = Some archive
archive_of (Some (making seed size)) = None
archive_of (Some (running seed size)) = None

-- a number from 1 to a greatest one, by 1 to 18 digits that write it
unfoldable pub number_to : ℕ → List ℕ → Option ℕ
number_to greatest word = option_and_then (λ n. if nat_le 1 n && nat_le n greatest then Some n else None)
    (number_of DIGITS word)

-- the value of an option, the word after it, among words that are options with their values
unfoldable pub value_of : List ℕ → List (List ℕ) → Option (List ℕ)
value_of name [] = None
value_of name (option ∷ []) = None
value_of name (option ∷ value ∷ more) = if bytes_eq name option then Some value else value_of name more

-- the number from 1 to a greatest one that is the value of an option
unfoldable pub number_by : List ℕ → ℕ → List (List ℕ) → Option ℕ
number_by name greatest options = option_and_then (number_to greatest) (value_of name options)

-- a number of workers is at most 64
unfoldable pub workers_of : List ℕ → Option ℕ
workers_of word = number_to WORKERS word

-- a number of workers that is asked for by an option and its value
unfoldable pub workers_by : Bool → List ℕ → List ℕ → Option (Bool × ℕ)
workers_by all option value = if bytes_eq (codes "--workers") option then option_map (λ n. (all, n)) (workers_of value)
    else None

-- one option alone, which asks for all monitors
unfoldable pub all_by : List ℕ → Option (Bool × ℕ)
all_by option = if bytes_eq (codes "--all") option then Some (true, 1) else None

-- both options, the one for all monitors first or last
unfoldable pub both_by : List ℕ → List ℕ → List ℕ → Option (Bool × ℕ)
both_by first second third =
    if bytes_eq (codes "--all") first then workers_by true second third
    else if bytes_eq (codes "--all") third then workers_by true first second
    else None

-- the options of a report, in any order: whether all monitors are asked for, and how many workers, one
-- where none are named
abbrev pub options_by : List (List ℕ) → Option (Bool × ℕ)
options_by [] = Some (false, 1)
options_by (option ∷ []) = all_by option
options_by (option ∷ value ∷ []) = workers_by false option value
options_by (first ∷ second ∷ third ∷ []) = both_by first second third
options_by (first ∷ second ∷ third ∷ fourth ∷ more) = None

-- a script is asked for by the number of the solution, of 1 to 18 digits and below 2^32, and its own name
abbrev pub script_by : Bool → List ℕ → List (List ℕ) → Option Asked
script_by tied archive (solution ∷ script ∷ []) = option_map (λ number. scripting archive number script tied)
    (number_of DIGITS solution)
script_by tied archive _ = None

-- by one of two commands: one of lines without ties, and one of lines with them
unfoldable pub scripted_by : List ℕ → List ℕ → List (List ℕ) → Option Asked
scripted_by command name more =
    if bytes_eq (codes "script") command then script_by false name more
    else if bytes_eq (codes "tied") command then script_by true name more
    else None

-- the canonical spelling of an archive is asked for by its name alone
abbrev pub check_by : List ℕ → List (List ℕ) → Option Asked
check_by archive [] = Some (checking archive)
check_by archive (word ∷ more) = None

-- the depth of a repair, at most 4, and its budget of chains, at most 1,000,000,000
unfoldable pub depth_by : List (List ℕ) → Option ℕ
depth_by options = number_by (codes "--depth") CHAIN_MOVES options

unfoldable pub budget_by : List (List ℕ) → Option ℕ
budget_by options = number_by (codes "--budget") BUDGET options

-- a repair with these options: each of both stands once where both have values in four words
unfoldable pub repair_with : List ℕ → ℕ → List (List ℕ) → Option Asked
repair_with archive solution options =
    if length options == 4
    then option_and_then (λ depth. option_map (λ budget. repairing archive solution depth budget) (budget_by options))
    (depth_by options) else None

-- a repair is asked for by the number of the solution and its options
abbrev pub repair_by : List ℕ → List (List ℕ) → Option Asked
repair_by archive [] = None
repair_by archive (solution ∷ options) = option_and_then (λ number. repair_with archive number options)
    (number_of DIGITS solution)

-- the repairs of a solve: their depth and their budget
unfoldable pub chains_by : List (List ℕ) → Option (ℕ × ℕ)
chains_by options = option_and_then (λ depth. option_map (λ budget. (depth, budget)) (budget_by options))
    (depth_by options)

-- how many jobs there are, at most 10,000, and how many workers do them, at most 64
unfoldable pub jobs_by : List (List ℕ) → Option ℕ
jobs_by options = number_by (codes "--jobs") JOBS options

unfoldable pub crew_by : List (List ℕ) → Option ℕ
crew_by options = number_by (codes "--workers") WORKERS options

unfoldable pub shares_by : List (List ℕ) → Option (ℕ × ℕ)
shares_by options = option_and_then (λ jobs. option_map (λ workers. (jobs, workers)) (crew_by options))
    (jobs_by options)

-- a solve with these options: each of the four stands once where all have values in eight words
unfoldable pub solve_with : List ℕ → ℕ → List (List ℕ) → Option Asked
solve_with archive solution options =
    if length options == 8
    then option_and_then (λ c. option_map (λ s. solving archive solution c.0 c.1 s.0) (shares_by options))
    (chains_by options) else None

-- a solve is asked for by the number of the solution and its options
abbrev pub solve_by : List ℕ → List (List ℕ) → Option Asked
solve_by archive [] = None
solve_by archive (solution ∷ options) = option_and_then (λ number. solve_with archive number options)
    (number_of DIGITS solution)

-- the repair after a construction: none without options, and one with both of them
unfoldable pub after_by : List (List ℕ) → Option (Option (ℕ × ℕ))
after_by options =
    if length options == 0 then Some None
    else if length options == 4 then option_map (λ c. Some c) (chains_by options)
    else None

-- a construction with these options
unfoldable pub construct_with : List ℕ → ℕ → List (List ℕ) → Option Asked
construct_with archive instance options = option_map (λ c. constructing archive instance c) (after_by options)

-- a construction is asked for by the number of the instance and its options
abbrev pub construct_by : List ℕ → List (List ℕ) → Option Asked
construct_by archive [] = None
construct_by archive (instance ∷ options) = option_and_then (λ number. construct_with archive number options)
    (number_of DIGITS instance)

-- what is asked for by a command that changes nothing, the archive's name and the words after it
unfoldable pub told_by : List ℕ → List ℕ → List (List ℕ) → Option Asked
told_by command name more =
    if bytes_eq (codes "evaluate") command then option_map (λ o. evaluating name o.0) (options_by more)
    else if bytes_eq (codes "check") command then check_by name more
    else scripted_by command name more

-- a matching is asked for by the numbers of the solution, of the time and of the resource type
unfoldable pub match_with : List ℕ → List ℕ → List ℕ → List ℕ → Option Asked
match_with archive solution time rtype =
    option_and_then (λ n. option_and_then (λ t. option_map (λ r. matching archive n t r) (number_of DIGITS rtype))
    (number_of DIGITS time)) (number_of DIGITS solution)

abbrev pub match_by : List ℕ → List (List ℕ) → Option Asked
match_by archive (solution ∷ time ∷ rtype ∷ []) = match_with archive solution time rtype
match_by archive _ = None

-- or by a command that constructs a timetable or matches
unfoldable pub placed_by : List ℕ → List ℕ → List (List ℕ) → Option Asked
placed_by command name more =
    if bytes_eq (codes "construct") command then construct_by name more
    else if bytes_eq (codes "match") command then match_by name more
    else told_by command name more

-- and by any command on an archive
unfoldable pub archive_by : List ℕ → List ℕ → List (List ℕ) → Option Asked
archive_by command name more =
    if bytes_eq (codes "repair") command then repair_by name more
    else if bytes_eq (codes "solve") command then solve_by name more
    else placed_by command name more

-- a seed and a number of events, at most MADE_EVENTS
unfoldable pub job_by : List ℕ → List ℕ → Option (ℕ × ℕ)
job_by seed size = option_and_then (λ s. option_map (λ n. (s, n)) (number_to MADE_EVENTS size)) (long_number_of seed)

unfoldable pub made_by : List ℕ → List ℕ → Option Asked
made_by seed size = option_map (λ job. making job.0 job.1) (job_by seed size)

-- and the option to run it
unfoldable pub run_by : List ℕ → List ℕ → List ℕ → Option Asked
run_by seed size option =
    if bytes_eq (codes "--run") option then option_map (λ job. running job.0 job.1) (job_by seed size) else None

-- an archive that is made, or its run
abbrev pub make_by : List ℕ → List (List ℕ) → Option Asked
make_by seed (size ∷ []) = made_by seed size
make_by seed (size ∷ option ∷ []) = run_by seed size option
make_by seed [] = None
make_by seed (size ∷ option ∷ third ∷ more) = None

-- and by any command
unfoldable pub asked_by : List ℕ → List ℕ → List (List ℕ) → Option Asked
asked_by command first more =
    if bytes_eq (codes "make") command then make_by first more else archive_by command first more

-- `evaluate ARCHIVE [--all] [--workers N]`, `script ARCHIVE SOLUTION SCRIPT`, `tied ARCHIVE SOLUTION SCRIPT`,
-- `check ARCHIVE`, `repair ARCHIVE SOLUTION --depth D --budget B`, `solve ARCHIVE SOLUTION --depth D --budget B
-- --jobs J --workers N`, `construct ARCHIVE INSTANCE [--depth D --budget B]` or `match ARCHIVE SOLUTION TIME TYPE`,
-- where the second word is the archive's name, whatever it begins with; or `make SEED SIZE [--run]`
abbrev pub asked : List (List ℕ) → Option Asked
asked (command ∷ first ∷ more) = asked_by command first more
asked _ = None
