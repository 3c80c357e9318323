use Rattle.std.proofs.Common.{length}
use Rattle.khe_told.specs.Turns.{turned}
use Rattle.set_monitors.specs.LinkExactLaws.{linked_exact}
use Rattle.set_monitors.proofs.CutLaws.{group_cut}
use Rattle.set_monitors.proofs.link_events.LinksGauge.observes_cuts.Goals as goal

pub returns : goal.returns
returns c = λ same l p m s a b cut turns k.
    linked_exact p m (turned (turned s a) b) l.table l.events l.running.items l.apart k.0 k.1
    (group_cut p s a b cut turns m.point l.table (length l.running.items) k.2) k.3
