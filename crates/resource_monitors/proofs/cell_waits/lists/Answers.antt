use Rattle.std.proofs.Common.{◌∙◌, sym}
use Rattle.resource_monitors.proofs.ListedLaws.{listed_all, listed_in}
use Rattle.resource_monitors.proofs.cell_waits.lists.Goals as goal

pub returns-then-lists_all : goal.returns-then-lists_all
returns-then-lists_all c = c.if-lists_all.true
    ∙ listed_all c.args._inst.now c.args.monitor c.args.time c.requires.monitor
    (sym c.lists_all.ensures ∙ c.if-lists_all.true)

pub returns-else-lists_all : goal.returns-else-lists_all
returns-else-lists_all c = c.has.ensures
    ∙ listed_in c.args._inst.now c.args.monitor c.args.time c.args.sets.now c.requires.sets c.requires.monitor
    (sym c.lists_all.ensures ∙ c.if-lists_all.false)
