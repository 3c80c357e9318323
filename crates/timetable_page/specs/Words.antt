-- What the words of `khe-page` ask for.
use Rattle.std.specs.Prelude.{ℕ, Bool, true, false, ◌==◌, ◌||◌, not, nat_lt, if◌then◌else◌, Option, Some, None, List, [], ◌∷◌, codes, map}
use Rattle.std.specs.Prelude.{string_bytes, unwrap_or}
use Rattle.std.specs.Option.{option_and_then, option_map, option_map_or}
use Rattle.std.specs.Str.{bytes_eq}
use Rattle.khe_base.specs.Digits.{number_of}
use Rattle.khe_base.specs.declared.limits.TheConstants.{DIGITS, WORKERS}
use Rattle.timetable_page.specs.declared.words.Choice.{Choice}
use Rattle.timetable_page.specs.declared.words.TheConstants.{SHOWN}
use Rattle.timetable_page.specs.declared.words.Told.{Told}

abbrev is_there : Option ℕ → Bool
is_there None = false
is_there (Some n) = true

-- nothing is said yet
abbrev pub nothing_told : Told
nothing_told = record { most = None; listed = false; workers = None }

-- a solution is named, in place of how many of the first ones
unfoldable pub with_listed : Told → List ℕ → Option Told
with_listed told value = option_and_then (λ n. if is_there told.most then None
    else Some (record { most = None; listed = true; workers = told.workers })) (number_of DIGITS value)

-- how many of the first solutions have timetables is said once, and where none is named
unfoldable pub with_most : Told → List ℕ → Option Told
with_most told value = option_and_then (λ n. if is_there told.most || told.listed then None
    else Some (record { most = Some n; listed = false; workers = told.workers })) (number_of DIGITS value)

-- how many workers there are, from 1 to a greatest number, is said once
unfoldable pub with_workers : Told → List ℕ → Option Told
with_workers told value = option_and_then (λ n. if is_there told.workers || nat_lt n 1 || nat_lt WORKERS n then None
    else Some (record { most = told.most; listed = told.listed; workers = Some n })) (number_of DIGITS value)

-- an option with its value more
unfoldable pub with_option : Told → List ℕ → List ℕ → Option Told
with_option told option value =
    if bytes_eq (codes "--solution") option then with_listed told value
    else if bytes_eq (codes "--solutions") option then with_most told value
    else if bytes_eq (codes "--workers") option then with_workers told value
    else None

-- options with their values, after what is said already
abbrev pub told_by : Told → List (List ℕ) → Option Told
told_by told [] = Some told
told_by told (option ∷ []) = None
told_by told (option ∷ value ∷ more) = option_and_then (λ next. told_by next more) (with_option told option value)

-- whether a word writes a number
unfoldable pub is_number : List ℕ → ℕ → Bool
is_number value number = option_map_or (λ n. n == number) (number_of DIGITS value) false

-- whether an option names the solution with a number
unfoldable pub is_named : List ℕ → List ℕ → ℕ → Bool
is_named option value number = if bytes_eq (codes "--solution") option then is_number value number else false

-- whether one of these options does
abbrev pub is_listed : List (List ℕ) → ℕ → Bool
is_listed [] number = false
is_listed (option ∷ []) number = false
is_listed (option ∷ value ∷ more) number = if is_named option value number then true else is_listed more number

-- whether the solution with a number has timetables, by what options say and by their words
abbrev pub chosen : Told → List (List ℕ) → ℕ → Bool
chosen told options number =
    if told.listed then is_listed options number else nat_lt number (unwrap_or told.most SHOWN)

abbrev pub shows : Choice → ℕ → Bool
shows choice number = chosen choice.told (map string_bytes choice.options.now) number

-- what words ask for: the archive's name, and which solutions have timetables
unfoldable pub asked : List (List ℕ) → Option (List ℕ × (ℕ → Bool))
asked [] = None
asked (archive ∷ options) = option_map (λ told. (archive, chosen told options)) (told_by nothing_told options)
