use Rattle.std.proofs.Common.{sym, subst}
use Rattle.khe_told.specs.Turns.{turned}
use Rattle.set_monitors.specs.AvoidSplitAssignments.{IsShared}
use Rattle.set_monitors.specs.RolePlaces.{AreRolePlaces}
use Rattle.set_monitors.proofs.avoid_split_assignments.HoldersGauge.turn.Goals as goal

pub turned-self-requires-clause-keeps : goal.turned-self-requires-clause-keeps
turned-self-requires-clause-keeps c =
    subst (λ xs. IsShared c.args.inst.now c.args.monitor c.args.told.now xs c.args.self.now.counts.items
    c.args.self.now.above) (sym c.as_slice-candidates.ensures) c.requires.keeps.0

pub turned-self-requires-clause-places : goal.turned-self-requires-clause-places
turned-self-requires-clause-places c =
    subst (AreRolePlaces c.args.inst.now c.args.monitor) (sym c.as_slice-places.ensures) c.requires.keeps.1

pub returns-clause-keeps : goal.returns-clause-keeps
returns-clause-keeps c = (
  subst (λ xs. IsShared c.args.inst.now c.args.monitor (turned c.args.told.now c.args.turn.now) xs
      c.turned-self.new.counts.items c.turned-self.result) c.as_slice-candidates.ensures c.turned-self.ensures.keeps,
  c.requires.keeps.1,
)
