use Rattle.std.proofs.Common.{length}
use Rattle.khe_told.specs.Turns.{turned}
use Rattle.set_monitors.specs.LinkExactLaws.{linked_exact}
use Rattle.set_monitors.proofs.CutLaws.{group_cut}
use Rattle.set_monitors.proofs.link_events.LinksGauge.observes_cut.Goals as goal

pub returns : goal.returns
returns c = λ same p m s a b cut turns k.
    linked_exact p m (turned (turned s a) b) c.args.self.now.table c.args.self.now.events
    c.args.self.now.running.items c.args.self.now.apart k.0 k.1
    (group_cut p s a b cut turns m.point c.args.self.now.table (length c.args.self.now.running.items) k.2) k.3
