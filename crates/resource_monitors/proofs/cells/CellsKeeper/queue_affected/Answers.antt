-- A cut changes no deviation, and otherwise who is at a cell that changes waits.
use Rattle.std.proofs.Common.{◌∙◌, inl, inr, sym, ap, refl, Bor}
use Rattle.std.specs.Option.{option_map}
use Rattle.khe_told.specs.Effects.{effects_of, turned_all}
use Rattle.khe_told.specs.declared.effects.Effect.{Effect}
use Rattle.resource_monitors.proofs.CellEffectLaws.{both_settled, first_settled}
use Rattle.resource_monitors.proofs.CutLaws.{kept_cut, unmoved_kept}
use Rattle.resource_monitors.proofs.cells.CellsKeeper.queue_affected.Goals as goal

pub returns-then-not-is_short-clause-unmoved : goal.returns-then-not-is_short-clause-unmoved
returns-then-not-is_short-clause-unmoved g c = λ hears. elim c.requires.foreseen [
  | inl cut ↦ unmoved_kept c.args.inst.now c.facts.ensures g.K.CellKinds.serves_kind
      g.met.K.CellKinds.at_cells c.args.told.now (turned_all c.args.told.now c.args.effects.now)
      c.args.self.now.table c.args.self.now.sets c.args.self.now.lists.items c.requires.keeps
      (kept_cut g.K.CellKinds.serves_kind c.args.inst.now c.args.told.now c.args.self.now.table
      c.args.self.now.sets c.args.self.now.lists.items c.requires.keeps c.args.effects.now c.requires.turns cut)
      (g.W.Waits.waits c.args.waits.now)
  | inr few ↦ absurd (c.is_short.ensures.long c.if-not-is_short.true few)
]

pub returns-then-is_cut-clause-unmoved : goal.returns-then-is_cut-clause-unmoved
returns-then-is_cut-clause-unmoved g c = λ hears. unmoved_kept c.args.inst.now c.facts.ensures
    g.K.CellKinds.serves_kind
    g.met.K.CellKinds.at_cells c.args.told.now (turned_all c.args.told.now c.args.effects.now) c.args.self.now.table
    c.args.self.now.sets c.args.self.now.lists.items c.requires.keeps
    (kept_cut g.K.CellKinds.serves_kind c.args.inst.now c.args.told.now c.args.self.now.table c.args.self.now.sets
    c.args.self.now.lists.items c.requires.keeps c.args.effects.now c.requires.turns
    (c.is_cut.ensures c.if-is_cut.true))
    (g.W.Waits.waits c.args.waits.now)

pub returns-in-Some-clause-unmoved : goal.returns-in-Some-clause-unmoved
returns-in-Some-clause-unmoved g c = λ hears. both_settled c.args.inst.now c.facts.ensures g.K.CellKinds.serves_kind
    g.met.K.CellKinds.at_cells c.args.told.now (turned_all c.args.told.now c.args.effects.now)
    c.slots.result.0.now c.in-Some.second.now c.args.effects.now
    (ap (λ o. effects_of c.slots.result.0.now (option_map (λ (e : Bor Effect). e.now) o)) (sym c.in-Some.is)
    ∙ c.slots.ensures) refl
    c.requires.turns (g.W.Waits.waits c.queue_effect.new.waits) (g.W.Waits.waits c.queue_effect-in-Some.new.waits)
    c.queue_effect.ensures.settled c.queue_effect-in-Some.ensures.kept c.queue_effect-in-Some.ensures.settled

pub returns-in_default-clause-unmoved : goal.returns-in_default-clause-unmoved
returns-in_default-clause-unmoved g c = λ hears. first_settled c.args.inst.now c.facts.ensures
    g.K.CellKinds.serves_kind g.met.K.CellKinds.at_cells c.args.told.now
    (turned_all c.args.told.now c.args.effects.now)
    c.slots.result.0.now c.args.effects.now
    (ap (λ o. effects_of c.slots.result.0.now (option_map (λ (e : Bor Effect). e.now) o)) (sym c.in_default.is)
    ∙ c.slots.ensures) refl
    c.requires.turns (g.W.Waits.waits c.queue_effect.new.waits) c.queue_effect.ensures.settled
