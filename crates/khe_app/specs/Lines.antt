-- The line in place of the answers to a script that is too large.
use Rattle.std.specs.Prelude.{ℕ, List, codes}

-- what is written in place of a script's answers where it is too large
abbrev pub script_too_large_line : List ℕ
script_too_large_line = codes "script fault 4 TooLarge\n"
