use Rattle.std.proofs.Common.{map}
use Rattle.khe_told.specs.Turns.{turned}
use Rattle.set_monitors.specs.AvoidSplitAssignments.{held, shared_exact}
use Rattle.set_monitors.proofs.CutLaws.{shared_cut}
use Rattle.set_monitors.proofs.avoid_split_assignments.HoldersGauge.observes_cut.Goals as goal

pub returns : goal.returns
returns c = λ same p m s a b cut turns k.
    shared_exact p m (turned (turned s a) b) c.args.self.now.candidates
    (map (held p m (turned (turned s a) b)) c.args.self.now.candidates) c.args.self.now.above
    (shared_cut p s a b cut turns m c.args.self.now.candidates c.args.self.now.counts.items c.args.self.now.above k.0)
