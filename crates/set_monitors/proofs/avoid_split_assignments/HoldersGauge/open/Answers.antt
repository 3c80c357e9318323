use Rattle.set_monitors.proofs.avoid_split_assignments.HoldersGauge.open.Goals as goal

pub returns : goal.returns
returns c = (c.in_ok-counts.ensures, c.in_ok-places.ensures)
