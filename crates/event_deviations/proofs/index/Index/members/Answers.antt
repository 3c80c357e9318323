use Rattle.event_deviations.proofs.Lookups.{member_list}
use Rattle.event_deviations.proofs.index.Index.members.Goals as goal

pub returns-clause-within : goal.returns-clause-within
returns-clause-within c =
    let m = member_list c.self.inside.inst.now c.self.invariant.made c.args.group c.members.result.now
    c.members.ensures in
    rw (← c.self.view_is) m.within

pub returns-clause-durations : goal.returns-clause-durations
returns-clause-durations c =
    let m = member_list c.self.inside.inst.now c.self.invariant.made c.args.group c.members.result.now
    c.members.ensures in
    rw (← c.self.view_is) m.durations

pub returns-clause-amount : goal.returns-clause-amount
returns-clause-amount c =
    let m = member_list c.self.inside.inst.now c.self.invariant.made c.args.group c.members.result.now
    c.members.ensures in
    m.amount
