use Rattle.std.proofs.Common.{◌≡◌, ◌∙◌, ◌<◌, ◌+◌, ◌∷◌, [], get_or, length, sym, ap, subst, arith}
use Rattle.std.proofs.lemmas.List.{length-append}
use Rattle.khe_told.specs.Slots.{no_meets}
use Rattle.event_monitors.specs.Posts.{AreKept}
use Rattle.std.proofs.lemmas.Option.{slice_get-get_or}
use Rattle.event_monitors.proofs.KeeperLaws.{kept_more}
use Rattle.event_monitors.proofs.TurnLaws.{no_post}
use Rattle.event_monitors.proofs.posts.gauges_of.Goals as goal
use Rattle.khe_instance.proofs.MadeLemmas.{monitor_made}

pub open-requires-clause-monitor : goal.open-requires-clause-monitor
open-requires-clause-monitor g c = monitor_made c.args.inst.now c.facts.ensures _ _
    (c.requires.each _ _ (slice_get-get_or c.args.posts.now c.loop-post.post-index no_post c.loop-post-test.true)).there

pub open-requires-clause-served : goal.open-requires-clause-served
open-requires-clause-served g c = (c.requires.each _ _
    (slice_get-get_or c.args.posts.now c.loop-post.post-index no_post c.loop-post-test.true)).kind

pub loop-post-preserved : goal.loop-post-preserved
loop-post-preserved g c =
    let posts = c.args.posts.now in
    let xs = c.loop-post.gauges.items in
    let x = c.in_ok-open.field-0 in
    let n = c.loop-post.invariant.amount in
    let l : length xs < length posts = let t = c.loop-post-test.true in omega (arith, n, t) in
    let one = subst (λ i. g.G.Gauge.Keeps x c.args.inst.now (get_or posts i no_post).monitor (no_meets c.args.inst.now))
    (sym n) c.in_ok-open.ensures in
    record {
      amount = ap length c.in_ok-push.ensures.items ∙ length-append xs (x ∷ [])
          ∙ (let z : length xs + 1 ≡ c.loop-post.post-index + 1 = omega (arith, n) in z);
      kept = subst (λ ys. AreKept g.G.Gauge.Keeps c.args.inst.now posts ys (no_meets c.args.inst.now))
          (sym c.in_ok-push.ensures.items) (kept_more g.G.Gauge.Keeps c.args.inst.now posts (no_meets c.args.inst.now)
          xs x no_post l one c.loop-post.invariant.kept);
    }
