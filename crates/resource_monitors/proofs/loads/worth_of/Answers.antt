-- What the place and the event of a task are.
use Rattle.std.proofs.Common.{◌∙◌}
use Rattle.khe_instance.proofs.MadeLemmas.{event_made}
use Rattle.resource_monitors.proofs.LoadLaws.{worth_is}
use Rattle.resource_monitors.proofs.loads.worth_of.Goals as goal

pub rate_of-rate-requires : goal.rate_of-rate-requires
rate_of-rate-requires c = (event_made c.args.inst.now c.facts.ensures c.args.event.0 c.event-info.result.now
    c.event-info.ensures).duration.0

pub returns : goal.returns
returns c =
    c.product.ensures
    ∙ worth_is c.args.inst.now c.args.event c.args.duration c.args.place c.event-info.result.now c.as_slice.result.now
    c.workload_at-workload.result c.rate_of-rate.result c.unit.result c.event-info.ensures c.as_slice.ensures
    c.workload_at-workload.ensures c.unit.ensures c.rate_of-rate.ensures
