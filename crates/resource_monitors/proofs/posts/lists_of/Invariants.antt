use Rattle.std.proofs.Common.{length, take}
use Rattle.resource_monitors.specs.Posts.{AreLists}
use Rattle.resource_monitors.proofs.posts.lists_of.Given as goal

abbrev pub invariant-loop-k : goal.invariant-loop-k
invariant-loop-k g l = AreLists g.K.CellKinds.serves_kind (length l.inst.resources) (take l.k l.inst.monitors)
    l.lists.items
