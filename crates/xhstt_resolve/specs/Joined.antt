-- How the members of groups come together item by item: a number goes to the end of the list of each
-- group that the item names, once.
use Rattle.std.specs.Prelude.{ℕ, ◌==◌, Bool, false, if◌then◌else◌, List, [], ◌∷◌, ◌++◌}
use Rattle.khe_base.specs.Names.{is_among_names}

-- whether a list ends with a number
abbrev pub ends_with : ℕ → List ℕ → Bool
ends_with k [] = false
ends_with k (n ∷ []) = n == k
ends_with k (n ∷ m ∷ ns) = ends_with k (m ∷ ns)

-- the list with the number at its end, once
abbrev pub with_last : ℕ → List ℕ → List ℕ
with_last k ns = if ends_with k ns then ns else ns ++ k ∷ []

-- the lists of the groups with these Ids, once an item with a number has joined the groups that it names
abbrev pub joined : ℕ → List (List ℕ) → List (List ℕ) → List (List ℕ) → List (List ℕ)
joined k names [] lists = lists
joined k names (id ∷ ids) [] = []
joined k names (id ∷ ids) (ns ∷ lists) = (if is_among_names id names then with_last k ns else ns) ∷ joined k names ids
    lists
