-- The line on words without a reading. It ends with a line feed.
use Rattle.std.specs.Prelude.{ℕ, List, codes}

-- what is written where the words have no reading
abbrev pub not_understood_line : List ℕ
not_understood_line = codes "khe: words not understood\n"
