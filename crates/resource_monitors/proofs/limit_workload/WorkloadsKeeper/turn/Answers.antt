-- A turn that gives nothing else, nor for another duration.
use Rattle.std.proofs.Common.{refl}
use Rattle.khe_told.specs.Turns.{turned}
use Rattle.resource_monitors.proofs.LoadFollowLaws.{loads_kept}
use Rattle.resource_monitors.proofs.LoadStepLaws.{unmoved_by}
use Rattle.resource_monitors.proofs.limit_workload.WorkloadsKeeper.turn.Goals as goal

pub returns-then-not-resizes-clause-keeps : goal.returns-then-not-resizes-clause-keeps
returns-then-not-resizes-clause-keeps g c = record {
  told = c.requires.turns.later;
  loads_all = loads_kept c.args.inst.now c.facts.ensures c.args.told.now c.args.turn.now c.requires.turns
      c.args.self.now.loads.items c.requires.keeps.loads_all (c.gives_other.ensures c.if-not-gives_other.true)
      (c.resizes.ensures c.if-not-resizes.true);
  lists_all = c.requires.keeps.lists_all;
}

pub returns-then-not-resizes-clause-unmoved : goal.returns-then-not-resizes-clause-unmoved
returns-then-not-resizes-clause-unmoved g c = λ hears. unmoved_by c.args.inst.now c.facts.ensures c.args.told.now
    (turned c.args.told.now c.args.turn.now) c.args.self.now.loads.items c.args.self.now.loads.items
    (g.W.Waits.waits c.args.waits.now) c.requires.keeps.loads_all
    (loads_kept c.args.inst.now c.facts.ensures c.args.told.now c.args.turn.now c.requires.turns
    c.args.self.now.loads.items c.requires.keeps.loads_all (c.gives_other.ensures c.if-not-gives_other.true)
    (c.resizes.ensures c.if-not-resizes.true))
    (λ i m there served idle. refl)
