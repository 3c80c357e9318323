-- A row whose end is reached has no element, and no other row has none.
use Rattle.std.proofs.Common.{◌≡◌, ◌∙◌, sym, arith, rules}
use Rattle.xhstt_text.specs.FlatTable.{flat_table}
use Rattle.xhstt_text.proofs.ForestOfTable.{forest-empty, filled-row}
use Rattle.xhstt_text.proofs.handles.Children.is_empty.Goals as goal

pub returns : goal.returns
returns c =
    let t = flat_table c.self.inside.tree.now in
    let at = c.self.inside.at in
    let to = c.self.inside.to in (
      λ done. let same : at ≡ to = search rules in sym c.self.view_is ∙ forest-empty t at to (omega arith),
      λ none. let same : at ≡ to = filled-row t at to c.self.invariant (c.self.view_is ∙ none) in search rules,
    )
