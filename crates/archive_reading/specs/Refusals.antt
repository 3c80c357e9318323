-- The line that refuses an archive, or what is asked for of it. It ends with a line feed.
use Rattle.std.specs.Prelude.{ℕ, unwrap_or, List, [], ◌++◌, codes}
use Rattle.std.specs.Fmt.{decimal}
use Rattle.evaluation_report.specs.Lines.{cause_at}
use Rattle.fault_tables.specs.Faults.{fault_name}
use Rattle.fault_tables.specs.Limits.{limit_name}
use Rattle.fault_tables.specs.declared.faults.TheConstants.{LIMIT, TOO_LARGE, NO_SUCH_SOLUTION, INVALID}
use Rattle.fault_tables.specs.declared.faults.TheConstants.{NO_SUCH_TIME, NO_SUCH_TYPE, TOO_MANY_TO_MATCH, NO_SUCH_INSTANCE}
use Rattle.archive_reading.specs.declared.refusals.Refusal.{Refusal}
use Rattle.archive_reading.specs.declared.refusals.Refusal.TheVariants.{Fault, Limit, TooLarge, NoSuchSolution, Invalid}
use Rattle.archive_reading.specs.declared.refusals.Refusal.TheVariants.{NoSuchTime, NoSuchType, TooManyTasks, NoSuchInstance}

-- the name of a kind of fault
unfoldable pub kind_name : ℕ → List ℕ
kind_name kind = unwrap_or (fault_name kind) []

-- the number of a kind of fault, and its name
abbrev pub kind_words : ℕ → List ℕ
kind_words kind = decimal kind ++ codes " " ++ kind_name kind

-- a kind, and the place
abbrev pub fault_words : ℕ → ℕ → List ℕ
fault_words kind at = kind_words kind ++ codes " at " ++ decimal at ++ codes "\n"

-- the name of a limit, between blanks
abbrev pub limit_name_words : ℕ → List ℕ
limit_name_words which = codes " " ++ unwrap_or (limit_name which) [] ++ codes " "

-- a limit by its name, and the value above it
abbrev pub limit_words : ℕ → ℕ → List ℕ
limit_words which value = kind_words LIMIT ++ limit_name_words which ++ decimal value ++ codes "\n"

-- a kind, and how much there is
abbrev pub count_words : ℕ → ℕ → List ℕ
count_words kind count = kind_words kind ++ codes " " ++ decimal count ++ codes "\n"

abbrev pub refusal_words : Refusal → List ℕ
refusal_words (Fault kind at) = fault_words kind at
refusal_words (Limit which value) = limit_words which value
refusal_words TooLarge = kind_words TOO_LARGE ++ codes "\n"
refusal_words NoSuchSolution = kind_words NO_SUCH_SOLUTION ++ codes "\n"
refusal_words NoSuchInstance = kind_words NO_SUCH_INSTANCE ++ codes "\n"
refusal_words (Invalid cause entry) = kind_words INVALID ++ codes " " ++ cause_at cause entry
refusal_words NoSuchTime = kind_words NO_SUCH_TIME ++ codes "\n"
refusal_words NoSuchType = kind_words NO_SUCH_TYPE ++ codes "\n"
refusal_words (TooManyTasks tasks) = count_words TOO_MANY_TO_MATCH tasks

-- why an archive, or its solution, is refused
abbrev pub refusal_line : Refusal → List ℕ
refusal_line refusal = codes "khe: archive refused: " ++ refusal_words refusal
