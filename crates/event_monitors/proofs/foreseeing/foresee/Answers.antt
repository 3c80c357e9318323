use Rattle.std.proofs.Common.{◌≡◌, ◌∙◌, Some, None, sym, ap}
use Rattle.std.specs.Option.{option_map}
use Rattle.khe_told.specs.Effects.{effects_of}
use Rattle.event_monitors.specs.Posts.{names}
use Rattle.event_monitors.proofs.ForeseeLaws.{foreseen_one, foreseen_two}
use Rattle.event_monitors.proofs.foreseeing.foresee.Goals as goal

pub returns-in-None : goal.returns-in-None
returns-in-None g c = λ so listed k a at.
    let p = c.args.inst.now in
    foreseen_one g.G.Gauge.Foresees g.met.G.Gauge.foresees_elsewhere p a.monitor c.slots.result.0.now c.args.effects.now
    (ap (λ o. effects_of c.slots.result.0.now (option_map (λ e. e.now) o)) (sym c.in-None.is) ∙ c.slots.ensures)
    (λ named. c.foresee_named.ensures c.if-not-foresee_named.false listed k a at
    (ap (λ e. names p e.0 a.monitor) c.event.ensures ∙ named))

pub returns-in-Some : goal.returns-in-Some
returns-in-Some g c = λ so listed k a at.
    let p = c.args.inst.now in
    foreseen_two g.G.Gauge.Foresees g.met.G.Gauge.foresees_elsewhere p a.monitor c.slots.result.0.now
    c.in-Some.second.now c.args.effects.now
    (ap (λ o. effects_of c.slots.result.0.now (option_map (λ e. e.now) o)) (sym c.in-Some.is) ∙ c.slots.ensures)
    (λ named. c.foresee_named.ensures c.if-not-foresee_named.false listed k a at
    (ap (λ e. names p e.0 a.monitor) c.event.ensures ∙ named))
    (λ named. c.foresee_named-in-Some.ensures so listed k a at
    (ap (λ e. names p e.0 a.monitor) c.event-in-Some.ensures ∙ named))
