-- A set that is kept as the list of its members, with their bits where they are many.
use Rattle.std.specs.Prelude.{ℕ, ◌≡◌, ◌==◌, Bool, Option, Some, List, map}
use Rattle.std.specs.List.{list_any, range_with_len}
use Rattle.std.specs.Global.{Box}
use Rattle.khe_base.specs.IdSet.{members_of}

-- whether the number is one of a list
abbrev pub is_listed : List ℕ → ℕ → Bool
is_listed members n = list_any (λ m. m == n) members

-- the set of these numbers, of a given size
abbrev pub set_of_members : List ℕ → ℕ → List Bool
set_of_members members size = map (is_listed members) (range_with_len 0 size)

-- where a set is kept, it is this one
abbrev pub IsKept : Option (Box (List Bool)) → List Bool → Type 0
IsKept kept set = (b : Box (List Bool)) → kept ≡ Some b → b.value ≡ set

-- the list is that of the members, ascending, and what is kept beside it is the set
pub record IsListed (members : List ℕ) (bits : Option (Box (List Bool))) (size : ℕ) : Type 0 where
  pub members_are : members ≡ members_of (set_of_members members size)
  pub bits_are : IsKept bits (set_of_members members size)
