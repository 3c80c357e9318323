use Rattle.std.proofs.Common.{◌≤◌, arith}
use Rattle.set_monitors.specs.declared.least_trees.TheConstants.{NOTHING}
use Rattle.set_monitors.proofs.TreeLaws.{least_of_leaves}
use Rattle.set_monitors.proofs.least_trees.Least.least.Goals as goal

pub returns : goal.returns
returns c =
    let low : c.index.result.now ≤ NOTHING = omega arith in
    least_of_leaves c.self.inside.size c.self.inside.nodes.items c.args.self.now NOTHING c.index.result.now
    c.self.invariant c.self.view_is c.index.ensures low c.if-self-eq0.false
