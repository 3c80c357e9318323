use Rattle.std.proofs.Common.{◌≡◌, ◌∙◌, [], Some, slice_get, refl, ap, subst}
use Rattle.event_monitors.specs.Effects.{HoldOrWait, IsUncut}
use Rattle.event_monitors.specs.Turns.{has}
use Rattle.event_monitors.proofs.TurnLaws.{listed_as}
use Rattle.event_monitors.proofs.queueing.queue_cut.Goals as goal

pub returns-clause-uncut : goal.returns-clause-uncut
returns-clause-uncut g c = λ hears k a x at here not named.
    let posts = c.args.index.now.posts in
    let e = c.args.event.0 in
    subst (λ ps. HoldOrWait (λ j b. (y : g.row.G.Denot) → slice_get c.args.gauges.now j ≡ Some y
    → IsUncut g.G.Gauge.Keeps g.G.Gauge.value y) ps c.list_of-list.result.now []
    (g.W.Waits.waits c.queue_cut_listed.new.waits)) c.as_slice.ensures (c.queue_cut_listed.ensures.uncut hears) k a
    (ap (λ ks. has ks k) c.list_of-list.ensures ∙ listed_as c.args.inst.now posts e k a at ∙ named) refl at not x here
