use Rattle.std.proofs.Common.{◌≡◌, ◌∙◌, sym, ap, subst, ◌<◌, ◌≤◌, List, length, arith}
use Rattle.khe_instance.specs.Lookups.{duration_at}
use Rattle.khe_instance.specs.Running.{meets_of}
use Rattle.khe_instance.specs.declared.states.Meet.{Meet}
use Rattle.event_deviations.specs.Bounded.{AreOfOneEvent}
use Rattle.event_deviations.proofs.EventLemmas.{few}
use Rattle.event_deviations.proofs.Kit.{length_by, read_by}
use Rattle.event_deviations.proofs.Lookups.{of_one_event, short}
use Rattle.event_deviations.proofs.index.Index.meets.Goals as goal

pub bounds-as_slice-event : goal.bounds-as_slice-event
bounds-as_slice-event c =
    let p = c.self.inside.inst.now in
    let ms = c.self.inside.meets.now in
    let within : c.args.event.0 < length p.events = rw (← c.self.view_is) at c.requires in
    let long : length c.as_slice.result.now ≡ length p.events =
    ap length c.as_slice.ensures ∙ length_by (λ e. meets_of e ms) (length p.events) c.self.inside.by_event
    c.self.invariant.meets_are in
    subst (λ n. c.args.event.0 < n) (sym long) within

pub returns-clause-are : goal.returns-clause-are
returns-clause-are c =
    let p = c.self.inside.inst.now in
    let ms = c.self.inside.meets.now in
    let within : c.args.event.0 < length p.events = rw (← c.self.view_is) at c.requires in
    let found = read_by (λ e. meets_of e ms) (length p.events) c.args.event.0 c.as_slice.result.now
    c.index-as_slice-event.result (c.as_slice.ensures ∙ c.self.invariant.meets_are) within
    c.index-as_slice-event.is in
    rw (← c.self.view_is) (c.as_slice-2.ensures ∙ found)

pub returns-clause-bounded : goal.returns-clause-bounded
returns-clause-bounded c =
    let p = c.self.inside.inst.now in
    let ms = c.self.inside.meets.now in
    let within : c.args.event.0 < length p.events = rw (← c.self.view_is) at c.requires in
    let found = read_by (λ e. meets_of e ms) (length p.events) c.args.event.0 c.as_slice.result.now
    c.index-as_slice-event.result (c.as_slice.ensures ∙ c.self.invariant.meets_are) within
    c.index-as_slice-event.is in
    let bounded = of_one_event p ms c.self.inside.duties.now c.self.invariant.made c.self.invariant.state c.args.event.0
    within in
    rw (← c.self.view_is) (subst (AreOfOneEvent (length p.times) (duration_at p.events c.args.event.0))
    (sym (c.as_slice-2.ensures ∙ found)) bounded)

pub returns-clause-few : goal.returns-clause-few
returns-clause-few c =
    let p = c.self.inside.inst.now in
    let ms = c.self.inside.meets.now in
    let within : c.args.event.0 < length p.events = rw (← c.self.view_is) at c.requires in
    let found = read_by (λ e. meets_of e ms) (length p.events) c.args.event.0 c.as_slice.result.now
    c.index-as_slice-event.result (c.as_slice.ensures ∙ c.self.invariant.meets_are) within
    c.index-as_slice-event.is in
    let bounded = of_one_event p ms c.self.inside.duties.now c.self.invariant.made c.self.invariant.state c.args.event.0
    within in
    let own : length (meets_of c.args.event.0 ms) ≤ duration_at p.events c.args.event.0 =
    omega (arith, few (meets_of c.args.event.0 ms) bounded.each, bounded.together) in
    rw (← c.self.view_is) (subst (λ (xs : List Meet). length xs ≤ duration_at p.events c.args.event.0)
    (sym (c.as_slice-2.ensures ∙ found)) own)

pub returns-clause-short : goal.returns-clause-short
returns-clause-short c = rw (← c.self.view_is)
    (short c.self.inside.inst.now c.self.inside.meets.now c.self.inside.duties.now c.self.invariant.made
    c.self.invariant.state c.args.event.0)

pub returns-clause-times : goal.returns-clause-times
returns-clause-times c = rw (← c.self.view_is) c.self.invariant.made.limits.times
