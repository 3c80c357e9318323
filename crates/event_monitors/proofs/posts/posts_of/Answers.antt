use Rattle.std.proofs.Common.{◌≡◌, length, subst, arith}
use Rattle.event_monitors.proofs.PostLaws.{AreServed, all_served, served_next}
use Rattle.event_monitors.proofs.posts.posts_of.Goals as goal

pub loop-i-preserved : goal.loop-i-preserved
loop-i-preserved g c =
    served_next c.args.inst.now g.G.Gauge.serves_kind c.loop-i.i c.monitor-monitor.result c.loop-i.posts
    c.monitor-monitor.ensures c.loop-i.invariant _ c.in_ok-add_served.ensures

pub returns : goal.returns
returns g c =
    let all : c.loop-i.i ≡ length c.args.inst.now.monitors = let n = c.monitors-i-end.ensures in let past =
    c.loop-i-test.false in let most = c.loop-i.auto.i-end in omega (arith, n, past, most) in
    all_served c.args.inst.now g.G.Gauge.serves_kind c.loop-i.posts
    (subst (λ n. AreServed c.args.inst.now g.G.Gauge.serves_kind n c.loop-i.posts) all c.loop-i.invariant)
