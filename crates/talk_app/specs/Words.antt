-- What the words of the command line of `khe-talk` ask for.
use Rattle.std.specs.Prelude.{ℕ, Bool, true, false, if◌then◌else◌, Option, Some, None, List, [], ◌∷◌, codes}
use Rattle.std.specs.Option.{option_map, option_and_then}
use Rattle.std.specs.Str.{bytes_eq}
use Rattle.khe_base.specs.Digits.{number_of}
use Rattle.khe_base.specs.declared.limits.TheConstants.{DIGITS}

-- a talk on the solution with a number of the archive under a name, and whether demands are kept
pub record Asked : Type 0 where
  pub archive : List ℕ
  pub solution : ℕ
  pub demands : Bool

-- one word asks for demands, and none for nothing
abbrev pub demands_by : List (List ℕ) → Option Bool
demands_by [] = Some false
demands_by (word ∷ []) = if bytes_eq word (codes "--demands") then Some true else None
demands_by (word ∷ next ∷ more) = None

-- the name, the number of the solution, and what stands after it
abbrev pub asked_by : List ℕ → List ℕ → List (List ℕ) → Option Asked
asked_by archive solution options =
    option_and_then (λ n. option_map (λ d. record { archive = archive; solution = n; demands = d }) (demands_by options))
    (number_of DIGITS solution)

abbrev pub asked : List (List ℕ) → Option Asked
asked [] = None
asked (archive ∷ []) = None
asked (archive ∷ solution ∷ options) = asked_by archive solution options
