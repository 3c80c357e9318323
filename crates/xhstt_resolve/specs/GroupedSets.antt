-- The members of a group as a set that is kept beside them.
use Rattle.std.specs.Prelude.{ℕ, ◌≡◌, Bool, Option, Some, List, length}
use Rattle.xhstt_resolve.specs.Members.{set_of}

-- where a set is kept, it is the set of these numbers
abbrev pub IsSetOf : Option (List Bool) → List ℕ → Type 0
IsSetOf kept numbers = (s : List Bool) → kept ≡ Some s → s ≡ set_of (length s) numbers
