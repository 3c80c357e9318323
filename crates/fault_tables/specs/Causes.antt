-- The seven causes for which a solution is invalid, each with its number and its name.
use Rattle.std.specs.Prelude.{ℕ, Option, List, [], ◌∷◌, codes}
use Rattle.fault_tables.specs.Tables.{said_of}
use Rattle.fault_tables.specs.declared.causes.TheConstants.{TOO_LONG, SPLIT_FIXED, FIXED_TIME, OFF_END, BAD_ROLE}
use Rattle.fault_tables.specs.declared.causes.TheConstants.{FIXED_RESOURCE, WRONG_TYPE}

-- the causes with their names
abbrev pub causes : List (ℕ × List ℕ)
causes =
    (TOO_LONG, codes "TooLong")
    ∷ (SPLIT_FIXED, codes "SplitFixed")
    ∷ (FIXED_TIME, codes "FixedTime")
    ∷ (OFF_END, codes "OffEnd")
    ∷ (BAD_ROLE, codes "BadRole")
    ∷ (FIXED_RESOURCE, codes "FixedResource")
    ∷ (WRONG_TYPE, codes "WrongType")
    ∷ []

-- the name of a cause
abbrev pub cause_name : ℕ → Option (List ℕ)
cause_name cause = said_of causes cause
