use Rattle.std.proofs.Common.{◌≡◌, ◌∙◌, sym, ap, subst, ◌<◌, length}
use Rattle.event_deviations.specs.Indexed.{duties_by_place}
use Rattle.event_deviations.proofs.Kit.{length_by, read_by}
use Rattle.event_deviations.proofs.index.Index.places.Goals as goal

pub bounds-as_slice-event : goal.bounds-as_slice-event
bounds-as_slice-event c =
    let p = c.self.inside.inst.now in
    let within : c.args.event.0 < length p.events = rw (← c.self.view_is) at c.requires in
    let long : length c.as_slice.result.now ≡ length p.events =
    ap length c.as_slice.ensures ∙ length_by (duties_by_place p.events c.self.inside.duties.now) (length p.events)
    c.self.inside.by_place c.self.invariant.duties_are in
    subst (λ n. c.args.event.0 < n) (sym long) within

pub returns : goal.returns
returns c =
    let p = c.self.inside.inst.now in
    let within : c.args.event.0 < length p.events = rw (← c.self.view_is) at c.requires in
    let found = read_by (duties_by_place p.events c.self.inside.duties.now) (length p.events) c.args.event.0
    c.as_slice.result.now c.index-as_slice-event.result (c.as_slice.ensures ∙ c.self.invariant.duties_are) within
    c.index-as_slice-event.is in
    rw (← c.self.view_is) (c.as_slice-2.ensures ∙ found)
