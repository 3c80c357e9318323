use Rattle.std.proofs.Common.{◌≡◌, ◌∙◌, [], Some, slice_get, ap, subst}
use Rattle.event_monitors.specs.Effects.{HoldOrWait}
use Rattle.event_monitors.specs.Posts.{posts_at}
use Rattle.event_monitors.proofs.EffectLaws.{listed_kept}
use Rattle.event_monitors.proofs.queueing.queue_affected.Goals as goal

pub returns-clause-keeps : goal.returns-clause-keeps
returns-clause-keeps g c = λ hears s turns.
    let p = c.args.inst.now in
    let posts = c.args.index.now.posts in
    let gauges = c.args.gauges.now in
    let t = c.args.effect.now in
    let same = g.G.Gauge.IsUnaffected in
    listed_kept g.G.Gauge.Keeps p posts gauges g.met.G.Gauge.elsewhere same g.met.G.Gauge.unaffected
    (g.W.Waits.waits c.args.waits.now) (g.W.Waits.waits c.queue_listed.new.waits) s t c.list_of-list.result.now
    (c.list_of-list.ensures ∙ ap (λ e. posts_at p posts e.0) c.event.ensures) turns c.queue_listed.ensures.kept
    (subst (λ ps. HoldOrWait (λ j b. (y : g.row.G.Denot) → slice_get gauges j ≡ Some y → same y p b.monitor t) ps
    c.list_of-list.result.now [] (g.W.Waits.waits c.queue_listed.new.waits)) c.as_slice.ensures
    (c.queue_listed.ensures.unaffected hears))
