-- A cut changes no deviation, and otherwise it is what is measured of the counts after.
use Rattle.std.proofs.Common.{◌≡◌, ◌≤◌, ◌∙◌, inl, inr, true, Some, IfSome, sym, ap, subst}
use Rattle.std.specs.Option.{option_map}
use Rattle.khe_base.specs.declared.limits.TheConstants.{GREATEST_DEVIATION}
use Rattle.khe_instance.specs.declared.points.Monitor.{Monitor}
use Rattle.khe_instance.proofs.MadeLemmas.{monitor_made}
use Rattle.khe_told.specs.Agreement.{deviation_in}
use Rattle.khe_told.specs.Effects.{turned_all}
use Rattle.resource_monitors.proofs.CellEffectLaws.{deviation_small, told_after}
use Rattle.resource_monitors.proofs.CutLaws.{kept_cut}
use Rattle.resource_monitors.proofs.cells.CellsKeeper.deviation_after.Goals as goal

pub returns-then-not-is_short-clause-value : goal.returns-then-not-is_short-clause-value
returns-then-not-is_short-clause-value g c = elim c.requires.foreseen [
  | inl cut ↦ c.deviation.ensures.value (turned_all c.args.told.now c.args.effects.now)
      (kept_cut g.K.CellKinds.serves_kind c.args.inst.now c.args.told.now c.args.self.now.table
      c.args.self.now.sets c.args.self.now.lists.items c.requires.keeps c.args.effects.now c.requires.turns cut)
  | inr few ↦ absurd (c.is_short.ensures.long c.if-not-is_short.true few)
]

pub value_after-requires-clause-monitor : goal.value_after-requires-clause-monitor
value_after-requires-clause-monitor g c = monitor_made c.args.inst.now c.facts.ensures _ _ c.monitor-of.ensures

pub value_after-requires-clause-kind : goal.value_after-requires-clause-kind
value_after-requires-clause-kind g c = g.met.K.CellKinds.at_cells c.monitor-of.result.kind
    (subst (λ o. IfSome o (λ (m : Monitor). g.K.CellKinds.serves_kind m.kind ≡ true)) c.monitor-of.ensures
    c.requires.served)

pub returns-clause-value : goal.returns-clause-value
returns-clause-value g c =
    ap (option_map (deviation_in c.args.inst.now (turned_all c.args.told.now c.args.effects.now))) c.monitor-of.ensures
    ∙ ap Some (sym c.value_after.ensures)

pub returns-clause-small : goal.returns-clause-small
returns-clause-small g c = subst (λ n. n ≤ GREATEST_DEVIATION) (sym c.value_after.ensures)
    (deviation_small c.args.inst.now c.facts.ensures (turned_all c.args.told.now c.args.effects.now)
    (told_after c.args.inst.now c.args.told.now c.args.effects.now c.requires.turns) c.monitor-of.result
    (monitor_made c.args.inst.now c.facts.ensures _ _ c.monitor-of.ensures)
    (g.met.K.CellKinds.at_cells c.monitor-of.result.kind
    (subst (λ o. IfSome o (λ (m : Monitor). g.K.CellKinds.serves_kind m.kind ≡ true)) c.monitor-of.ensures
    c.requires.served)))
