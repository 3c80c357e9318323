-- Lines of words with what they ask for, and lines that are not read.
use Rattle.std.specs.Prelude.{ℕ, ◌==◌, Bool, true, false, Some, None, List, [], ◌∷◌, codes}
use Rattle.command_words.specs.Words.{Asked, checking, constructing, evaluating, making, matching, repairing, running}
use Rattle.command_words.specs.Words.{scripting, solving}
use Rattle.command_words.specs.Table.{HasNoReading, IsReading}

-- a byte before words: one in their first, or a blank before it
abbrev pub put : Bool → ℕ → List (List ℕ) → List (List ℕ)
put true byte words = [] ∷ words
put false byte [] = (byte ∷ []) ∷ []
put false byte (word ∷ words) = (byte ∷ word) ∷ words

-- the words of a line, with one blank between each two
abbrev pub words_of : List ℕ → List (List ℕ)
words_of [] = [] ∷ []
words_of (byte ∷ line) = put (byte == 32) byte (words_of line)

-- a line, and what it asks for
abbrev pub Row : Type 0
Row = List ℕ × Asked

abbrev pub AreRead : List Row → Type 0
AreRead [] = Unit {0}
AreRead (row ∷ rows) = IsReading (words_of row.0) row.1 × AreRead rows

abbrev pub AreNotRead : List (List ℕ) → Type 0
AreNotRead [] = Unit {0}
AreNotRead (line ∷ lines) = HasNoReading (words_of line) × AreNotRead lines

-- an archive's name may begin with anything, and how many workers there are changes nothing
abbrev pub reports : List Row
reports =
    (codes "evaluate a", evaluating (codes "a") false)
    ∷ (codes "evaluate --all", evaluating (codes "--all") false)
    ∷ (codes "evaluate a --all --workers 1", evaluating (codes "a") true)
    ∷ (codes "evaluate a --workers 64 --all", evaluating (codes "a") true)
    ∷ (codes "evaluate a --workers 007", evaluating (codes "a") false)
    ∷ []

abbrev pub scripts : List Row
scripts =
    (codes "script a 0 s", scripting (codes "a") 0 (codes "s") false)
    ∷ (codes "tied a 4294967295 s", scripting (codes "a") 4294967295 (codes "s") true)
    ∷ []

abbrev pub checks : List Row
checks = (codes "check a", checking (codes "a")) ∷ []

abbrev pub repairs : List Row
repairs =
    (codes "repair a 7 --depth 1 --budget 1", repairing (codes "a") 7 1 1)
    ∷ (codes "repair a 7 --budget 1000000000 --depth 4", repairing (codes "a") 7 4 1000000000)
    ∷ []

abbrev pub solves : List Row
solves =
    (codes "solve a 0 --depth 1 --budget 5 --jobs 1 --workers 1", solving (codes "a") 0 1 5 1)
    ∷ (codes "solve a 0 --workers 64 --jobs 10000 --budget 5 --depth 2", solving (codes "a") 0 2 5 10000)
    ∷ []

abbrev pub constructions : List Row
constructions =
    (codes "construct a 1", constructing (codes "a") 1 None)
    ∷ (codes "construct a 1 --budget 3 --depth 2", constructing (codes "a") 1 (Some (2, 3)))
    ∷ []

abbrev pub matchings : List Row
matchings = (codes "match a 0 1 2", matching (codes "a") 0 1 2) ∷ []

abbrev pub makings : List Row
makings =
    (codes "make 999999999999999999 2000", making 999999999999999999 2000)
    ∷ (codes "make 0 1 --run", running 0 1)
    ∷ []

-- an option stands twice
abbrev pub twice : List (List ℕ)
twice =
    codes "evaluate a --all --all"
    ∷ codes "evaluate a --workers 1 --workers 1"
    ∷ codes "repair a 0 --depth 1 --depth 1"
    ∷ codes "solve a 0 --depth 1 --budget 1 --jobs 1 --jobs 1"
    ∷ codes "make 0 1 --run --run"
    ∷ []

-- an option is not the command's, or has no value
abbrev pub unknown : List (List ℕ)
unknown =
    codes "check a --all"
    ∷ codes "evaluate a --every"
    ∷ codes "construct a 0 --depth 1 --jobs 1"
    ∷ codes "repair a 0 --depth 1 --budget 1 --all"
    ∷ codes "evaluate a --workers"
    ∷ []

-- an option that must be there is not
abbrev pub missing : List (List ℕ)
missing =
    codes "repair a 0 --depth 1"
    ∷ codes "solve a 0 --depth 1 --budget 1 --jobs 1"
    ∷ codes "construct a 0 --budget 1"
    ∷ []

-- a number is not in its range
abbrev pub out_of_range : List (List ℕ)
out_of_range =
    codes "evaluate a --workers 0"
    ∷ codes "evaluate a --workers 65"
    ∷ codes "repair a 0 --depth 5 --budget 1"
    ∷ codes "repair a 0 --depth 1 --budget 1000000001"
    ∷ codes "solve a 0 --depth 1 --budget 1 --jobs 10001 --workers 1"
    ∷ codes "make 0 0"
    ∷ codes "make 0 2001"
    ∷ codes "script a 4294967296 s"
    ∷ []

-- a number has a sign, a letter, or more than 18 digits
abbrev pub out_of_form : List (List ℕ)
out_of_form =
    codes "script a +1 s"
    ∷ codes "match a 0 1 x"
    ∷ codes "make 0000000000000000000 1"
    ∷ codes "evaluate a --workers 0000000000000000001"
    ∷ []

-- there is no such command, or its words are others
abbrev pub others : List (List ℕ)
others =
    codes ""
    ∷ codes "help a"
    ∷ codes "check"
    ∷ codes "check a b"
    ∷ codes "script a 0"
    ∷ codes "script a s 0"
    ∷ []
