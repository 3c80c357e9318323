-- The number that decimal digits spell, where there are not too many of them.
use Rattle.std.specs.Prelude.{ℕ, ◌+◌, ◌-◌, ◌*◌, ◌^◌, ◌&&◌, Bool, if◌then◌else◌, nat_lt, nat_le, Option, Some, None}
use Rattle.std.specs.Prelude.{List, [], ◌∷◌, length}
use Rattle.std.specs.List.{list_all}
use Rattle.khe_base.specs.declared.limits.TheConstants.{DIGITS}

-- a decimal digit
abbrev pub is_digit : ℕ → Bool
is_digit byte = nat_le 48 byte && nat_le byte 57

-- the number that digits write, after a number that was written before them
abbrev pub value_after : ℕ → List ℕ → ℕ
value_after before [] = before
value_after before (digit ∷ more) = value_after (before * 10 + (digit - 48)) more

-- the number that 1 to n digits write, where it is below 2^32
unfoldable pub number_of : ℕ → List ℕ → Option ℕ
number_of most word =
    if list_all is_digit word && nat_lt 0 (length word) && nat_le (length word) most && nat_lt (value_after 0 word)
    (2 ^ 32)
    then Some (value_after 0 word) else None

-- the number that 1 to 18 digits write, however great
unfoldable pub long_number_of : List ℕ → Option ℕ
long_number_of word =
    if list_all is_digit word && nat_lt 0 (length word) && nat_le (length word) DIGITS
    then Some (value_after 0 word) else None
