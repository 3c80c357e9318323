use Rattle.std.proofs.Common.{◌≡◌, ◌<◌, ◌*◌, ◌-◌, length, drop}
use Rattle.set_monitors.specs.LeastTrees.{IsMended}
use Rattle.set_monitors.proofs.least_trees.mend.Given as goal

abbrev pub decreases-loop-i : goal.decreases-loop-i
decreases-loop-i l = l.i - 1

abbrev pub invariant-loop-i : goal.invariant-loop-i
invariant-loop-i l =
    record {
      room : length l.nodes.items ≡ 2 * l.size;
      within : l.i < 2 * l.size;
      mended : IsMended l.size l.nodes.items l.i;
      leaves : drop l.size l.nodes.items ≡ drop l.size l.fn.nodes.items;
    }
