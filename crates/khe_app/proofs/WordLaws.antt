-- What words ask for is in its bounds: there is a job, and an archive that is made has some events and not too many.
use Rattle.std.proofs.Common.{ℕ, ◌≡◌, ◌≤◌, refl, Bool, true, false, cond, Option, Some, None, IfSome, List, [], ◌∷◌, arith}
use Rattle.std.specs.Prelude.{◌&&◌, ◌==◌, codes, length, nat_le}
use Rattle.std.specs.Option.{option_and_then, option_map}
use Rattle.std.specs.Str.{bytes_eq}
use Rattle.std.proofs.lemmas.Bool.Decides.{nat_tests}
use Rattle.khe_base.specs.Digits.{long_number_of, number_of}
use Rattle.khe_base.specs.declared.limits.TheConstants.{DIGITS, JOBS, MADE_EVENTS}
use Rattle.command_words.specs.Words.{after_by, construct_by, construct_with, constructing}
use Rattle.command_words.specs.Words.{scripted_by}
use Rattle.command_words.specs.Words.{Asked, archive_by, asked, asked_by, budget_by, chains_by, depth_by, check_by, checking, crew_by, evaluating}
use Rattle.command_words.specs.Words.{match_by, match_with, matching, placed_by}
use Rattle.command_words.specs.Words.{job_by, jobs_by, made_by, make_by, making, number_by, number_to, options_by, repair_by}
use Rattle.command_words.specs.Words.{repair_with, repairing, run_by, running, script_by, scripting, shares_by}
use Rattle.command_words.specs.Words.{solve_by, solve_with, solving, told_by, value_of}

abbrev pub IsAskable : Asked → Type 0
IsAskable (evaluating archive all) = Unit {0}
IsAskable (scripting archive number script tied) = Unit {0}
IsAskable (checking archive) = Unit {0}
IsAskable (repairing archive number depth budget) = Unit {0}
IsAskable (solving archive number depth budget jobs) = 1 ≤ jobs
IsAskable (constructing archive number chains) = Unit {0}
IsAskable (matching archive number time rtype) = Unit {0}
IsAskable (making seed size) = (1 ≤ size) × (size ≤ MADE_EVENTS)
IsAskable (running seed size) = (1 ≤ size) × (size ≤ MADE_EVENTS)

abbrev Fine : Option Asked → Type 0
Fine o = IfSome o IsAskable

-- a choice, and a value made of another
choice : {A : Type 0} (P : A → Type 0) (b : Bool) (x y : A) → P x → P y → P (cond b x y)
choice P true x y f g = f
choice P false x y f g = g

mapped : {A B : Type 0} (P : A → Type 0) (Q : B → Type 0) (f : A → B) (o : Option A) → IfSome o P
    → ((a : A) → P a → Q (f a)) → IfSome (option_map f o) Q
mapped P Q f None h g = tt
mapped P Q f (Some a) h g = g a h

chained : {A B : Type 0} (P : A → Type 0) (Q : B → Type 0) (f : A → Option B) (o : Option A) → IfSome o P
    → ((a : A) → P a → IfSome (f a) Q) → IfSome (option_and_then f o) Q
chained P Q f None h g = tt
chained P Q f (Some a) h g = g a h

any : {A : Type 0} (o : Option A) → IfSome o (λ a. Unit {0})
any None = tt
any (Some a) = tt

-- numbers from 1 on
abbrev InRange : ℕ → ℕ → Type 0
InRange greatest n = (1 ≤ n) × (n ≤ greatest)

ranged : (greatest n : ℕ) → IfSome (cond (nat_le 1 n && nat_le n greatest) (Some n) None) (InRange greatest)
ranged greatest n = by (nat_le 1 n && nat_le n greatest) refl
  where
    by : (b : Bool) → (nat_le 1 n && nat_le n greatest) ≡ b → IfSome (cond b (Some n) None) (InRange greatest)
    by true e = (grind (arith, nat_tests), grind (arith, nat_tests))
    by false e = tt

in_range : (greatest : ℕ) (word : List ℕ) → IfSome (number_to greatest word) (InRange greatest)
unfolding number_to
in_range greatest word =
    chained (λ n. Unit {0}) (InRange greatest) _ (number_of DIGITS word) (any (number_of DIGITS word))
    (λ n h. ranged greatest n)

by_option : (name : List ℕ) (greatest : ℕ) (options : List (List ℕ))
    → IfSome (number_by name greatest options) (InRange greatest)
unfolding number_by
by_option name greatest options =
    chained (λ w. Unit {0}) (InRange greatest) (number_to greatest) (value_of name options) (any (value_of name options))
    (λ w h. in_range greatest w)

-- solves
some_jobs : (options : List (List ℕ)) → IfSome (jobs_by options) (InRange JOBS)
unfolding jobs_by
some_jobs options = by_option (codes "--jobs") JOBS options

shared : (options : List (List ℕ)) → IfSome (shares_by options) (λ s. 1 ≤ s.0)
unfolding shares_by
shared options =
    chained (InRange JOBS) (λ s. 1 ≤ s.0) _ (jobs_by options) (some_jobs options)
    (λ jobs h. mapped (λ w. Unit {0}) (λ (s : ℕ × ℕ). 1 ≤ s.0) (λ workers. (jobs, workers)) (crew_by options)
    (any (crew_by options)) (λ w u. h.0))

solve_fine : (archive : List ℕ) (solution : ℕ) (options : List (List ℕ)) → Fine (solve_with archive solution options)
unfolding solve_with
solve_fine archive solution options =
    choice Fine (length options == 8) _ None
    (chained (λ c. Unit {0}) IsAskable _ (chains_by options) (any (chains_by options))
    (λ c u. mapped (λ (s : ℕ × ℕ). 1 ≤ s.0) IsAskable (λ s. solving archive solution c.0 c.1 s.0) (shares_by options)
    (shared options) (λ s h. h)))
    tt

solves_fine : (archive : List ℕ) (more : List (List ℕ)) → Fine (solve_by archive more)
solves_fine archive [] = tt
solves_fine archive (solution ∷ options) =
    chained (λ n. Unit {0}) IsAskable (λ number. solve_with archive number options) (number_of DIGITS solution)
    (any (number_of DIGITS solution)) (λ n u. solve_fine archive n options)

-- repairs, and what changes nothing
repair_fine : (archive : List ℕ) (solution : ℕ) (options : List (List ℕ)) → Fine (repair_with archive solution options)
unfolding repair_with
repair_fine archive solution options =
    choice Fine (length options == 4) _ None
    (chained (λ d. Unit {0}) IsAskable
    (λ depth. option_map (λ budget. repairing archive solution depth budget) (budget_by options)) (depth_by options)
    (any (depth_by options))
    (λ d u. mapped (λ b. Unit {0}) IsAskable (λ budget. repairing archive solution d budget) (budget_by options)
    (any (budget_by options)) (λ b v. tt)))
    tt

repairs_fine : (archive : List ℕ) (more : List (List ℕ)) → Fine (repair_by archive more)
repairs_fine archive [] = tt
repairs_fine archive (solution ∷ options) =
    chained (λ n. Unit {0}) IsAskable (λ number. repair_with archive number options) (number_of DIGITS solution)
    (any (number_of DIGITS solution)) (λ n u. repair_fine archive n options)

script_fine : (tied : Bool) (archive : List ℕ) (more : List (List ℕ)) → Fine (script_by tied archive more)
script_fine tied archive [] = tt
script_fine tied archive (a ∷ []) = tt
script_fine tied archive (solution ∷ script ∷ []) =
    mapped (λ n. Unit {0}) IsAskable (λ number. scripting archive number script tied) (number_of DIGITS solution)
    (any (number_of DIGITS solution)) (λ n u. tt)
script_fine tied archive (a ∷ b ∷ c ∷ more) = tt

check_fine : (archive : List ℕ) (more : List (List ℕ)) → Fine (check_by archive more)
check_fine archive [] = tt
check_fine archive (a ∷ more) = tt

construct_fine : (archive : List ℕ) (number : ℕ) (options : List (List ℕ))
    → Fine (construct_with archive number options)
unfolding construct_with
construct_fine archive number options =
    mapped (λ c. Unit {0}) IsAskable (λ c. constructing archive number c) (after_by options) (any (after_by options))
    (λ c u. tt)

constructs_fine : (archive : List ℕ) (more : List (List ℕ)) → Fine (construct_by archive more)
constructs_fine archive [] = tt
constructs_fine archive (number ∷ options) =
    chained (λ n. Unit {0}) IsAskable (λ n. construct_with archive n options) (number_of DIGITS number)
    (any (number_of DIGITS number)) (λ n u. construct_fine archive n options)

scripts_fine : (command name : List ℕ) (more : List (List ℕ)) → Fine (scripted_by command name more)
unfolding scripted_by
scripts_fine command name more =
    choice Fine (bytes_eq (codes "script") command) _ _ (script_fine false name more)
    (choice Fine (bytes_eq (codes "tied") command) _ None (script_fine true name more) tt)

told_fine : (command name : List ℕ) (more : List (List ℕ)) → Fine (told_by command name more)
unfolding told_by
told_fine command name more =
    choice Fine (bytes_eq (codes "evaluate") command) _ _
    (mapped (λ o. Unit {0}) IsAskable (λ o. evaluating name o.0) (options_by more) (any (options_by more)) (λ o u. tt))
    (choice Fine (bytes_eq (codes "check") command) _ _ (check_fine name more) (scripts_fine command name more))

match_fine : (archive solution time rtype : List ℕ) → Fine (match_with archive solution time rtype)
unfolding match_with
match_fine archive solution time rtype =
    chained (λ n. Unit {0}) IsAskable _ (number_of DIGITS solution) (any (number_of DIGITS solution))
    (λ n u. chained (λ t. Unit {0}) IsAskable _ (number_of DIGITS time) (any (number_of DIGITS time))
    (λ t v. mapped (λ r. Unit {0}) IsAskable (λ r. matching archive n t r) (number_of DIGITS rtype)
    (any (number_of DIGITS rtype)) (λ r w. tt)))

matches_fine : (archive : List ℕ) (more : List (List ℕ)) → Fine (match_by archive more)
matches_fine archive [] = tt
matches_fine archive (a ∷ []) = tt
matches_fine archive (a ∷ b ∷ []) = tt
matches_fine archive (solution ∷ time ∷ rtype ∷ []) = match_fine archive solution time rtype
matches_fine archive (a ∷ b ∷ c ∷ d ∷ more) = tt

placed_fine : (command name : List ℕ) (more : List (List ℕ)) → Fine (placed_by command name more)
unfolding placed_by
placed_fine command name more =
    choice Fine (bytes_eq (codes "construct") command) _ _ (constructs_fine name more)
    (choice Fine (bytes_eq (codes "match") command) _ _ (matches_fine name more) (told_fine command name more))

archive_fine : (command name : List ℕ) (more : List (List ℕ)) → Fine (archive_by command name more)
unfolding archive_by
archive_fine command name more =
    choice Fine (bytes_eq (codes "repair") command) _ _ (repairs_fine name more)
    (choice Fine (bytes_eq (codes "solve") command) _ _ (solves_fine name more) (placed_fine command name more))

-- what is made
job_fine : (seed size : List ℕ) → IfSome (job_by seed size) (λ j. InRange MADE_EVENTS j.1)
unfolding job_by
job_fine seed size =
    chained (λ s. Unit {0}) (λ (j : ℕ × ℕ). InRange MADE_EVENTS j.1) _ (long_number_of seed) (any (long_number_of seed))
    (λ s u. mapped (InRange MADE_EVENTS) (λ (j : ℕ × ℕ). InRange MADE_EVENTS j.1) (λ n. (s, n))
    (number_to MADE_EVENTS size) (in_range MADE_EVENTS size) (λ n h. h))

made_fine : (seed size : List ℕ) → Fine (made_by seed size)
unfolding made_by
made_fine seed size =
    mapped (λ j. InRange MADE_EVENTS j.1) IsAskable (λ job. making job.0 job.1) (job_by seed size) (job_fine seed size)
    (λ j h. h)

run_fine : (seed size option : List ℕ) → Fine (run_by seed size option)
unfolding run_by
run_fine seed size option =
    choice Fine (bytes_eq (codes "--run") option) _ None
    (mapped (λ j. InRange MADE_EVENTS j.1) IsAskable (λ job. running job.0 job.1) (job_by seed size)
    (job_fine seed size) (λ j h. h))
    tt

make_fine : (seed : List ℕ) (more : List (List ℕ)) → Fine (make_by seed more)
make_fine seed [] = tt
make_fine seed (size ∷ []) = made_fine seed size
make_fine seed (size ∷ option ∷ []) = run_fine seed size option
make_fine seed (size ∷ option ∷ third ∷ more) = tt

asked_fine : (command first : List ℕ) (more : List (List ℕ)) → Fine (asked_by command first more)
unfolding asked_by
asked_fine command first more =
    choice Fine (bytes_eq (codes "make") command) _ _ (make_fine first more) (archive_fine command first more)

pub askable : (words : List (List ℕ)) → IfSome (asked words) IsAskable
askable [] = tt
askable (command ∷ []) = tt
askable (command ∷ first ∷ more) = asked_fine command first more
