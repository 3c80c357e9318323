-- The numbers below a bound that pass a test, in order.
use Rattle.std.specs.Prelude.{ℕ, ◌+◌, ◌/◌, Bool, List, [], ◌∷◌, length, slice_index_or}
use Rattle.khe_base.specs.Bits.{words_for}
use Rattle.khe_base.specs.IdSet.{members_of}
use Rattle.demand_matching.specs.declared.domains.Pick.{Pick}
use Rattle.demand_matching.specs.declared.domains.Pick.TheVariants.{One, «Set»}

-- the numbers of a pick
abbrev pub picked : List (List Bool) → Pick → List ℕ
picked sets (One n) = n ∷ []
picked sets («Set» k) = members_of (slice_index_or sets k [])

-- the first word that has a number of the pick, and the word after the last one
abbrev pub first_word : Pick → ℕ
first_word (One n) = n / 64
first_word («Set» k) = 0

abbrev pub end_word : List (List Bool) → Pick → ℕ
end_word sets (One n) = n / 64 + 1
end_word sets («Set» k) = words_for (length (slice_index_or sets k []))
