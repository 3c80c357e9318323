use Rattle.hall_report.proofs.SetsOpened.{starts_done, starts_first}
use Rattle.hall_report.proofs.start_sets.start_sets.Goals as goal

pub narrow_all-requires : goal.narrow_all-requires
narrow_all-requires c = starts_first c.args.inst.now c.times.result c.in_ok-sets.sets c.in_ok-entries.entries.items
    c.facts.ensures c.times.ensures c.in_ok-sets.ensures c.in_ok-entries.ensures

pub returns : goal.returns
returns c = starts_done c.args.inst.now c.narrow_all.new.starts.sets c.narrow_all.new.starts.entries.items
    c.facts.ensures c.in_ok-narrow_all.ensures
