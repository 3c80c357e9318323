-- A cut changes no deviation, and otherwise who is on a workload that changes waits.
use Rattle.std.proofs.Common.{◌∙◌, sym, ap, Bor}
use Rattle.std.specs.Option.{option_map}
use Rattle.khe_told.specs.Effects.{effects_of, turned_all}
use Rattle.khe_told.specs.declared.effects.Effect.{Effect}
use Rattle.resource_monitors.proofs.CutLaws.{loads_cut, loads_unmoved}
use Rattle.resource_monitors.proofs.LoadEffectLaws.{both_unmoved, first_unmoved}
use Rattle.resource_monitors.proofs.limit_workload.WorkloadsKeeper.queue_affected.Goals as goal

pub returns-then-is_cut-clause-unmoved : goal.returns-then-is_cut-clause-unmoved
returns-then-is_cut-clause-unmoved g c = λ hears. loads_unmoved c.args.inst.now c.facts.ensures c.args.told.now
    (turned_all c.args.told.now c.args.effects.now) c.args.self.now.loads.items c.args.self.now.lists.items
    c.requires.keeps
    (loads_cut c.args.inst.now c.args.told.now c.args.self.now.loads.items c.args.self.now.lists.items
    c.requires.keeps c.args.effects.now c.requires.turns (c.is_cut.ensures c.if-is_cut.true))
    (g.W.Waits.waits c.args.waits.now)

pub returns-in-Some-clause-unmoved : goal.returns-in-Some-clause-unmoved
returns-in-Some-clause-unmoved g c = λ hears. both_unmoved c.args.inst.now c.facts.ensures c.args.told.now
    c.slots.result.0.now c.in-Some.second.now c.args.effects.now
    (ap (λ o. effects_of c.slots.result.0.now (option_map (λ (e : Bor Effect). e.now) o)) (sym c.in-Some.is)
    ∙ c.slots.ensures)
    c.requires.turns (g.W.Waits.waits c.queue_effect.new.waits) (g.W.Waits.waits c.queue_effect-in-Some.new.waits)
    (c.queue_effect.ensures.queued hears) c.queue_effect-in-Some.ensures.kept
    (c.queue_effect-in-Some.ensures.queued hears)

pub returns-in_default-clause-unmoved : goal.returns-in_default-clause-unmoved
returns-in_default-clause-unmoved g c = λ hears. first_unmoved c.args.inst.now c.facts.ensures c.args.told.now
    c.slots.result.0.now c.args.effects.now
    (ap (λ o. effects_of c.slots.result.0.now (option_map (λ (e : Bor Effect). e.now) o)) (sym c.in_default.is)
    ∙ c.slots.ensures)
    c.requires.turns (g.W.Waits.waits c.queue_effect.new.waits) (c.queue_effect.ensures.queued hears)
