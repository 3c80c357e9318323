-- A set of numbers below a size is a list with one entry for each number, true where it is a member. Its members are
-- listed in ascending order.
use Rattle.std.specs.Prelude.{ℕ, ◌≡◌, ◌^◌, ◌<◌, List, Bool, true, false, count_by, length, replicate, slice_index_or}
use Rattle.std.specs.Prelude.{slice_set}
use Rattle.std.specs.List.{filter, range_with_len}

-- the set of no numbers
abbrev pub no_members : ℕ → List Bool
no_members size = replicate size false

-- whether the number is a member, which no number of the size or more is
abbrev pub has_member : List Bool → ℕ → Bool
has_member numbers n = slice_index_or numbers n false

-- the set with one more member
abbrev pub with_member : List Bool → ℕ → List Bool
with_member numbers n = slice_set numbers n true

-- the members, ascending
abbrev pub members_of : List Bool → List ℕ
members_of numbers = filter (has_member numbers) (range_with_len 0 (length numbers))

-- how many members there are
abbrev pub member_count : List Bool → ℕ
member_count numbers = count_by (λ is_member. is_member) numbers

-- the count is that of the members, and the size is a number of 32 bits
pub record IsCounted (numbers : List Bool) (count : ℕ) : Type 0 where
  pub counted : count ≡ member_count numbers
  pub small : length numbers < 2 ^ 32
