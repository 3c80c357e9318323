use Rattle.std.proofs.Common.{◌≡◌, ◌∙◌, Some, None, slice_get, sym, ap, subst, arith}
use Rattle.std.specs.Option.{option_map}
use Rattle.khe_told.specs.Effects.{effects_of, turned_all}
use Rattle.khe_told.specs.Turns.{turned}
use Rattle.khe_told.specs.Waits.{AreUnmoved}
use Rattle.event_monitors.specs.Effects.{AreKeptOrWait}
use Rattle.event_monitors.specs.Posts.{AreKept, names}
use Rattle.event_monitors.proofs.EffectLaws.{all_kept, first_turn, none_of, second_turn, unmoved_cut, unmoved_kept}
use Rattle.event_monitors.proofs.SlotFacts.{turn_event}
use Rattle.event_monitors.proofs.counted.CountedKeeper.queue_affected.Given as given
use Rattle.event_monitors.proofs.counted.CountedKeeper.queue_affected.Goals as goal

pub queue_cut-requires-clause-event : goal.queue_cut-requires-clause-event
queue_cut-requires-clause-event g c =
    let a = turn_event c.args.inst.now c.args.told.now c.slots.result.0.now
    (first_turn c.args.inst.now c.args.told.now c.slots.result.0.now (option_map (λ e. e.now) c.slots.result.1)
    c.args.effects.now c.slots.ensures c.requires.turns) in
    let b = ap (λ e. e.0) c.event.ensures in
    omega (arith, a, b)

pub returns-then-is_cut-clause-unmoved : goal.returns-then-is_cut-clause-unmoved
returns-then-is_cut-clause-unmoved g c = λ hears.
    let p = c.args.inst.now in
    let s = c.args.told.now in
    let k = c.requires.keeps in
    let gauges = c.as_slice-gauges.ensures.value in
    let waits = g.W.Waits.waits c.queue_cut.new.waits in
    unmoved_cut g.G.Gauge.Keeps p c.args.self.now.index.posts c.args.self.now.gauges.items g.G.Gauge.value
    g.met.G.Gauge.exact g.G.Gauge.serves_kind k.0 k.2 g.met.G.Gauge.elsewhere s c.slots.result.0.now
    (option_map (λ e. e.now) c.slots.result.1) c.args.effects.now waits c.slots.ensures
    (c.is_cut.ensures c.if-is_cut.true) c.requires.turns k.3
    (λ i a x at here not named. c.queue_cut.ensures.uncut hears i a x at
    (ap (λ gs. slice_get gs i) gauges ∙ here) not (ap (λ e. names p e.0 a.monitor) c.event.ensures ∙ named))

pub queue_affected-requires-clause-keeps : goal.queue_affected-requires-clause-keeps
queue_affected-requires-clause-keeps g c = (
  c.args.told.now,
  subst (λ gs. AreKept g.G.Gauge.Keeps c.args.inst.now c.args.self.now.index.posts gs c.args.told.now)
      (sym c.as_slice-gauges.ensures.value) c.requires.keeps.3,
)

pub queue_affected-requires-clause-event : goal.queue_affected-requires-clause-event
queue_affected-requires-clause-event g c = turn_event c.args.inst.now c.args.told.now c.slots.result.0.now
    (first_turn c.args.inst.now c.args.told.now c.slots.result.0.now (option_map (λ e. e.now) c.slots.result.1)
    c.args.effects.now c.slots.ensures c.requires.turns)

pub queue_affected-requires-in-Some-clause-keeps : goal.queue_affected-requires-in-Some-clause-keeps
queue_affected-requires-in-Some-clause-keeps g c = (
  c.args.told.now,
  subst (λ gs. AreKept g.G.Gauge.Keeps c.args.inst.now c.args.self.now.index.posts gs c.args.told.now)
      (sym c.as_slice-gauges.ensures.value) c.requires.keeps.3,
)

pub queue_affected-requires-in-Some-clause-event : goal.queue_affected-requires-in-Some-clause-event
queue_affected-requires-in-Some-clause-event g c = turn_event c.args.inst.now
    (turned c.args.told.now c.slots.result.0.now) c.in-Some.second.now
    (second_turn c.args.inst.now c.args.told.now c.slots.result.0.now c.in-Some.second.now c.args.effects.now
    (ap (λ o. effects_of c.slots.result.0.now (option_map (λ e. e.now) o)) (sym c.in-Some.is) ∙ c.slots.ensures)
    c.requires.turns)

pub returns-in-Some-clause-unmoved : goal.returns-in-Some-clause-unmoved
returns-in-Some-clause-unmoved g c = λ hears.
    let p = c.args.inst.now in
    let s = c.args.told.now in
    let k = c.requires.keeps in
    let posts = c.args.self.now.index.posts in
    let a = c.slots.result.0.now in
    let b = c.in-Some.second.now in
    let ts = c.args.effects.now in
    let is : effects_of a (Some b) ≡ ts = ap (λ o. effects_of a (option_map (λ e. e.now) o)) (sym c.in-Some.is)
    ∙ c.slots.ensures in
    let waits = g.W.Waits.waits c.queue_affected-in-Some.new.waits in
    subst (λ us. AreUnmoved p g.G.Gauge.serves_kind waits s (turned_all s us)) is
    (unmoved_kept g.G.Gauge.Keeps p posts c.args.self.now.gauges.items g.G.Gauge.value g.met.G.Gauge.exact
    g.G.Gauge.serves_kind k.0 k.2 s (turned (turned s a) b) waits k.3
    (subst (λ gs. AreKeptOrWait g.G.Gauge.Keeps p posts gs waits (turned (turned s a) b))
    c.as_slice-gauges.ensures.value
    (c.queue_affected-in-Some.ensures.keeps hears (turned s a) (second_turn p s a b ts is c.requires.turns)
    (c.queue_affected.ensures.keeps hears s (first_turn p s a (Some b) ts is c.requires.turns)
    (subst (λ gs. AreKeptOrWait g.G.Gauge.Keeps p posts gs (g.W.Waits.waits c.args.waits.now) s)
    (sym c.as_slice-gauges.ensures.value)
    (all_kept g.G.Gauge.Keeps p posts c.args.self.now.gauges.items (g.W.Waits.waits c.args.waits.now) s k.3))))))

pub returns-in_default-clause-unmoved : goal.returns-in_default-clause-unmoved
returns-in_default-clause-unmoved g c = λ hears.
    let p = c.args.inst.now in
    let s = c.args.told.now in
    let k = c.requires.keeps in
    let posts = c.args.self.now.index.posts in
    let a = c.slots.result.0.now in
    let ts = c.args.effects.now in
    let none : c.slots.result.1 ≡ None = none_of c.slots.result.1 c.in_default.not-Some in
    let is : effects_of a None ≡ ts = ap (λ o. effects_of a (option_map (λ e. e.now) o)) (sym none)
    ∙ c.slots.ensures in
    let waits = g.W.Waits.waits c.queue_affected.new.waits in
    subst (λ us. AreUnmoved p g.G.Gauge.serves_kind waits s (turned_all s us)) is
    (unmoved_kept g.G.Gauge.Keeps p posts c.args.self.now.gauges.items g.G.Gauge.value g.met.G.Gauge.exact
    g.G.Gauge.serves_kind k.0 k.2 s (turned s a) waits k.3
    (subst (λ gs. AreKeptOrWait g.G.Gauge.Keeps p posts gs waits (turned s a))
    c.as_slice-gauges.ensures.value
    (c.queue_affected.ensures.keeps hears s (first_turn p s a None ts is c.requires.turns)
    (subst (λ gs. AreKeptOrWait g.G.Gauge.Keeps p posts gs (g.W.Waits.waits c.args.waits.now) s)
    (sym c.as_slice-gauges.ensures.value)
    (all_kept g.G.Gauge.Keeps p posts c.args.self.now.gauges.items (g.W.Waits.waits c.args.waits.now) s k.3)))))
