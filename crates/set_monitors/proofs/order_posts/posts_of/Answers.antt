use Rattle.std.proofs.Common.{◌≡◌, length, sym, subst, arith}
use Rattle.set_monitors.specs.OrderPairs.{is_order}
use Rattle.event_monitors.proofs.PostLaws.{AreServed, all_served, none_served, served_next}
use Rattle.set_monitors.proofs.order_posts.posts_of.Goals as goal

pub loop-i-preserved : goal.loop-i-preserved
loop-i-preserved c =
    served_next c.args.inst.now is_order c.loop-i.i c.monitor-monitor.result c.loop-i.posts c.monitor-monitor.ensures
    c.loop-i.invariant _ c.in_ok-add_post.ensures

pub returns : goal.returns
returns c =
    let all : c.loop-i.i ≡ length c.args.inst.now.monitors = let n = c.monitors-i-end.ensures in let past =
    c.loop-i-test.false in let most = c.loop-i.auto.i-end in omega (arith, n, past, most) in
    all_served c.args.inst.now is_order c.loop-i.posts
    (subst (λ n. AreServed c.args.inst.now is_order n c.loop-i.posts) all c.loop-i.invariant)

pub loop-i-init : goal.loop-i-init
loop-i-init c = subst (AreServed c.args.inst.now is_order 0) (sym c.new-posts.ensures)
    (none_served c.args.inst.now is_order)
