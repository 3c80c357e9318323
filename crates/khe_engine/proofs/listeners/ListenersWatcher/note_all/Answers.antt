-- The graph has the values before; who does not wait has them after, and who waits watches one of the changes.
use Rattle.std.proofs.Common.{refl, arith, ◌∙◌}
use Rattle.khe_told.specs.Waits.{waits_in}
use Rattle.khe_engine.proofs.SettleLaws.{left_measured, watchers_few}
use Rattle.khe_engine.proofs.listeners.ListenersWatcher.note_all.Goals as goal

pub settle-requires-clause-others : goal.settle-requires-clause-others
settle-requires-clause-others g c = left_measured c.args.inst.now g.F.Family.serves_kind (waits_in c.turn_all.new.waits)
    (g.F.Family.told c.args.self.now.families) (g.F.Family.told c.turn_all.new.self) c.args.self.now.graph
    c.requires.of.1 c.requires.of.2 (c.turn_all.ensures.unmoved refl)

pub returns-clause-steps : goal.returns-clause-steps
returns-clause-steps g c =
    let t = c.turn_all.ensures in
    let few = watchers_few c.args.inst.now (g.F.Family.told c.args.self.now.families) c.args.changes.now
    c.args.self.now.waiting c.turn_all.new.waits c.requires.of.3 (t.monitors ∙ c.requires.of.3.long) t.watchers
    c.facts.ensures in
    let steps = c.settle.ensures.steps in
    omega (arith, few, steps)
