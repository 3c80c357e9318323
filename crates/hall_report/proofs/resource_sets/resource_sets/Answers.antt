use Rattle.hall_report.proofs.ResourcesOpened.{resources_done, resources_whole}
use Rattle.hall_report.proofs.resource_sets.resource_sets.Goals as goal

pub narrow_all-requires : goal.narrow_all-requires
narrow_all-requires c = resources_whole c.args.inst.now c.in_ok-sets.sets c.in_ok-entries.entries.items c.facts.ensures
    c.in_ok-sets.ensures c.in_ok-entries.ensures

pub returns : goal.returns
returns c = resources_done c.args.inst.now c.narrow_all.new.found.sets c.narrow_all.new.found.entries.items
    c.facts.ensures c.in_ok-narrow_all.ensures
