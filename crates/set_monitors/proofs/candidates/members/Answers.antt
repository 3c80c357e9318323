use Rattle.event_monitors.proofs.Listing.{members_named, members_within}
use Rattle.set_monitors.proofs.RoleLaws.{members_ascending}
use Rattle.set_monitors.proofs.candidates.members.Goals as goal

pub returns-in-EventGroup-clause-named : goal.returns-in-EventGroup-clause-named
returns-in-EventGroup-clause-named c =
    members_named c.args.inst.now c.facts.ensures c.args.monitor c.requires.monitor c.in-EventGroup.group
    c.members.result.now c.in-EventGroup.is c.members.ensures

pub returns-in-EventGroup-clause-each : goal.returns-in-EventGroup-clause-each
returns-in-EventGroup-clause-each c =
    members_within c.args.inst.now c.facts.ensures c.args.monitor c.requires.monitor c.in-EventGroup.group
    c.members.result.now c.in-EventGroup.is c.members.ensures

pub returns-in-EventGroup-clause-ascending : goal.returns-in-EventGroup-clause-ascending
returns-in-EventGroup-clause-ascending c =
    members_ascending c.args.inst.now c.in-EventGroup.group c.members.result.now c.members.ensures
