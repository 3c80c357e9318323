use Rattle.std.proofs.Common.{length, take}
use Rattle.resource_monitors.specs.Posts.{AreLists}
use Rattle.resource_monitors.specs.Loads.{is_on_workload}
use Rattle.resource_monitors.proofs.load_posts.lists_of.Given as goal

abbrev pub invariant-loop-k : goal.invariant-loop-k
invariant-loop-k l = AreLists is_on_workload (length l.inst.resources) (take l.k l.inst.monitors) l.lists.items
