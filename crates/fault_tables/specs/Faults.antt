-- The kinds of faults for which an archive is refused, each with its number and its name: of the text, of the
-- elements, of names and references, and of the whole.
use Rattle.std.specs.Prelude.{ℕ, Option, List, [], ◌∷◌, codes}
use Rattle.fault_tables.specs.Tables.{said_of}
use Rattle.fault_tables.specs.declared.faults.TheConstants.{NOT_UTF8, BAD_MARKUP, MISMATCHED_END, BAD_REFERENCE}
use Rattle.fault_tables.specs.declared.faults.TheConstants.{UNSUPPORTED, TOO_DEEP, UNKNOWN_ELEMENT, MISSING_CHILD}
use Rattle.fault_tables.specs.declared.faults.TheConstants.{REPEATED_CHILD, BAD_NUMBER, BAD_WORD, DUPLICATE_ID}
use Rattle.fault_tables.specs.declared.faults.TheConstants.{UNKNOWN_REFERENCE, DUPLICATE_ROLE, EVENT_OFF_END}
use Rattle.fault_tables.specs.declared.faults.TheConstants.{LIMIT, TOO_LARGE, NO_SUCH_SOLUTION, INVALID}
use Rattle.fault_tables.specs.declared.faults.TheConstants.{NO_SUCH_INSTANCE, NO_SUCH_TIME, NO_SUCH_TYPE}
use Rattle.fault_tables.specs.declared.faults.TheConstants.{TOO_MANY_TO_MATCH}

-- the kinds with their names
abbrev pub kinds : List (ℕ × List ℕ)
kinds =
    (NOT_UTF8, codes "NotUtf8")
    ∷ (BAD_MARKUP, codes "BadMarkup")
    ∷ (MISMATCHED_END, codes "MismatchedEnd")
    ∷ (BAD_REFERENCE, codes "BadReference")
    ∷ (UNSUPPORTED, codes "Unsupported")
    ∷ (TOO_DEEP, codes "TooDeep")
    ∷ (UNKNOWN_ELEMENT, codes "UnknownElement")
    ∷ (MISSING_CHILD, codes "MissingChild")
    ∷ (REPEATED_CHILD, codes "RepeatedChild")
    ∷ (BAD_NUMBER, codes "BadNumber")
    ∷ (BAD_WORD, codes "BadWord")
    ∷ (DUPLICATE_ID, codes "DuplicateId")
    ∷ (UNKNOWN_REFERENCE, codes "UnknownReference")
    ∷ (DUPLICATE_ROLE, codes "DuplicateRole")
    ∷ (EVENT_OFF_END, codes "EventOffEnd")
    ∷ (LIMIT, codes "Limit")
    ∷ (TOO_LARGE, codes "TooLarge")
    ∷ (NO_SUCH_SOLUTION, codes "NoSuchSolution")
    ∷ (INVALID, codes "Invalid")
    ∷ (NO_SUCH_INSTANCE, codes "NoSuchInstance")
    ∷ (NO_SUCH_TIME, codes "NoSuchTime")
    ∷ (NO_SUCH_TYPE, codes "NoSuchType")
    ∷ (TOO_MANY_TO_MATCH, codes "TooManyTasks")
    ∷ []

-- the name of a kind
abbrev pub fault_name : ℕ → Option (List ℕ)
fault_name kind = said_of kinds kind
