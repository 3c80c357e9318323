-- The inverses of a list that is read backwards.
use Rattle.std.proofs.Common.{◌≡◌, List, [], ◌∷◌, ◌++◌, refl, ap, ◌∙◌, map, reverse}
use Rattle.std.proofs.lemmas.Grind.{reverse_onto}
use Rattle.std.proofs.lemmas.List.{map-append}
use Rattle.khe_told.specs.Changes.{inverse, inverses}
use Rattle.khe_told.specs.declared.changes.Change.{Change}

-- the inverses stand in the list read backwards
pub inverses_reversed : (cs : List Change) → map inverse (reverse cs) ≡ inverses cs
inverses_reversed [] = refl
inverses_reversed (c ∷ cs) =
    ap (map inverse) (reverse_onto cs c []) ∙ map-append inverse (reverse cs) (c ∷ [])
    ∙ ap (λ xs. xs ++ inverse c ∷ []) (inverses_reversed cs)
