use Rattle.repair_moves.proofs.StuckLaws as laws
use Rattle.repair_moves.proofs.stuck.is_stuck.Goals as goal

pub returns-in-AssignTime : goal.returns-in-AssignTime
returns-in-AssignTime c = record {
  stuck = λ h. laws.stuck_time c.args.inst.now c.args.monitor.0 c.monitor-own.result c.monitor-own.ensures
      c.in-AssignTime.is (c.has_fixed_event.ensures h);
}

pub returns-in-PreferTimes : goal.returns-in-PreferTimes
returns-in-PreferTimes c = record {
  stuck = λ h. laws.stuck_times c.args.inst.now c.args.monitor.0 c.monitor-own.result c.monitor-own.ensures
      c.in-PreferTimes.is (c.has_fixed_event-in-PreferTimes.ensures h);
}

pub returns-in-AssignResource : goal.returns-in-AssignResource
returns-in-AssignResource c = record {
  stuck = λ h. laws.stuck_resource c.args.inst.now c.args.monitor.0 c.monitor-own.result c.monitor-own.ensures
      c.in-AssignResource.is (c.has_fixed_place.ensures h);
}

pub returns-in-PreferResources : goal.returns-in-PreferResources
returns-in-PreferResources c = record {
  stuck = λ h. laws.stuck_resources c.args.inst.now c.args.monitor.0 c.monitor-own.result c.monitor-own.ensures
      c.in-PreferResources.is (c.has_fixed_place-in-PreferResources.ensures h);
}
