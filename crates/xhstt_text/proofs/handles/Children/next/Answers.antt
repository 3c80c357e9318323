-- The first element of the rows that are left, and what is left after it.
use Rattle.std.proofs.Common.{◌≡◌, ◌∙◌, ◌+◌, sym, ap, arith}
use Rattle.xhstt_text.specs.Forest.{empty, node}
use Rattle.xhstt_text.specs.FlatTable.{flat_table, info_at, node_at, forest}
use Rattle.xhstt_text.proofs.ForestOfTable.{forest-empty, forest-row, size-others, size-kids}
use Rattle.xhstt_text.proofs.handles.Children.next.Goals as goal

pub returns-then-self-clause-value : goal.returns-then-self-clause-value
returns-then-self-clause-value c =
    let t = flat_table c.self.inside.tree.now in
    let none : c.args.self.now ≡ empty = sym c.self.view_is
    ∙ forest-empty t c.self.inside.at c.self.inside.to (omega arith) in
    (none, none)

pub returns-clause-value : goal.returns-clause-value
returns-clause-value c =
    let t = flat_table c.self.inside.tree.now in
    let at = c.self.inside.at in
    sym c.self.view_is
    ∙ forest-row t at c.self.inside.to c.self.invariant c.if-self.false
    ∙ ap (λ row. node (info_at t at) (forest t (at + 1) (node_at t at).end) (forest t row.end c.self.inside.to))
    (sym c.node_of.ensures)

pub returns-clause-shorter : goal.returns-clause-shorter
returns-clause-shorter c = size-others _ _ _ _ (returns-clause-value c)

pub returns-clause-lower : goal.returns-clause-lower
returns-clause-lower c = size-kids _ _ _ _ (returns-clause-value c)
