-- One more monitor.
use Rattle.std.proofs.Common.{arith, length}
use Rattle.std.proofs.lemmas.Option.{get_or_from_slice_get, slice_get_within}
use Rattle.khe_instance.proofs.MadeLemmas.{monitor_made, monitored}
use Rattle.resource_monitors.proofs.ListLaws.{lists_more}
use Rattle.resource_monitors.specs.Loads.{is_on_workload}
use Rattle.resource_monitors.proofs.load_posts.lists_of.Goals as goal

pub add_post-requires : goal.add_post-requires
add_post-requires c = λ r e.
    let a = monitored c.args.inst.now c.monitor-monitor.result r
    (monitor_made c.args.inst.now c.facts.ensures c.loop-k.k c.monitor-monitor.result c.monitor-monitor.ensures)
    e in
    let b = c.loop-k.invariant.resources_all in
    omega (arith, a, b)

pub loop-k-preserved : goal.loop-k-preserved
loop-k-preserved c =
    lists_more is_on_workload (length c.args.inst.now.resources) c.args.inst.now.monitors c.loop-k.k
    c.monitor-monitor.result c.loop-k.lists.items c.add_post.new.lists.items
    (slice_get_within c.args.inst.now.monitors c.loop-k.k c.monitor-monitor.result c.monitor-monitor.ensures)
    (get_or_from_slice_get c.args.inst.now.monitors c.loop-k.k c.monitor-monitor.result c.monitor-monitor.result
    c.monitor-monitor.ensures)
    c.loop-k.invariant c.in_ok-add_post.ensures.amount c.in_ok-add_post.ensures.posts
