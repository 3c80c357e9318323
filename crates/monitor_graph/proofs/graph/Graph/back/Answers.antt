use Rattle.std.proofs.Common.{length, sym, ap, ◌∙◌, subst}
use Rattle.monitor_graph.specs.Boards.{grouping_of}
use Rattle.monitor_graph.specs.Edits.{CanUndo, edited, undone}
use Rattle.monitor_graph.proofs.EditLaws.{back_grouping, back_leads}
use Rattle.monitor_graph.proofs.graph.Graph.back.Goals as goal

pub returns-clause-leads : goal.returns-clause-leads
returns-clause-leads c =
    let s = grouping_of c.args.self.now in
    subst (CanUndo (edited s c.args.edit.now)) (sym c.record_of.ensures)
    (back_leads s c.args.edit.now (length c.args.self.now.lines) c.facts.ensures.groups c.requires.ours
    c.requires.accepted)

pub returns-clause-grouping : goal.returns-clause-grouping
returns-clause-grouping c =
    let s = grouping_of c.args.self.now in
    ap (undone (edited s c.args.edit.now)) c.record_of.ensures
    ∙ back_grouping s c.args.edit.now c.requires.ours c.requires.accepted
