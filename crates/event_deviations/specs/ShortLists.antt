-- A list of nothing, of one item, or of more, as it is kept.
use Rattle.std.specs.Prelude.{List, [], ◌∷◌}
use Rattle.event_deviations.specs.declared.short_lists.Kept.{Kept}
use Rattle.event_deviations.specs.declared.short_lists.Kept.TheVariants.{Nothing, One, More}

abbrev pub items_in : {T : Type 0} → Kept T → List T
items_in Nothing = []
items_in (One item) = item ∷ []
items_in (More list) = list.items
