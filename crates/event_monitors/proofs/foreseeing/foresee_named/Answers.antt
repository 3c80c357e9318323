use Rattle.std.proofs.Common.{◌≡◌, ◌∙◌, Some, slice_get, ap, subst, sym}
use Rattle.std.proofs.lemmas.Option.{slice_get-get_or}
use Rattle.khe_instance.specs.declared.points.Monitor.{Monitor}
use Rattle.event_monitors.specs.Effects.{HoldAt}
use Rattle.event_monitors.specs.Posts.{posts_at}
use Rattle.event_monitors.proofs.ForeseeLaws.{held_at}
use Rattle.event_monitors.proofs.TurnLaws.{listed_as}
use Rattle.event_monitors.proofs.foreseeing.foresee_named.Goals as goal

pub returns-in-Some : goal.returns-in-Some
returns-in-Some g c = λ found listed k a at named.
    let p = c.args.inst.now in
    let posts = c.args.index.now.posts in
    let e = c.args.event.0 in
    let fact : Monitor → Type 0 = λ m. g.G.Gauge.Foresees p m c.args.effects.now in
    let there : slice_get c.args.index.now.lists e ≡ Some c.in-Some.list.now =
    ap (λ ls. slice_get ls e) (sym c.as_slice.ensures)
    ∙ slice_get-get_or c.as_slice.result.now e c.in-Some.list.now c.in-Some.ensures.lookup.3.0
    ∙ sym (ap Some c.in-Some.ensures.lookup.1) in
    held_at fact posts (posts_at p posts e) k a
    (subst (HoldAt fact posts) (c.as_slice-in-Some-2.ensures ∙ listed.each e c.in-Some.list.now there)
    (subst (λ ps. HoldAt fact ps c.as_slice-in-Some-2.result.now) c.as_slice-in-Some.ensures
    (c.foresee_listed.ensures found)))
    (listed_as p posts e k a at ∙ named) at
