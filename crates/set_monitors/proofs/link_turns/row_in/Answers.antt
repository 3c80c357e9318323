use Rattle.std.proofs.Common.{◌∙◌, ◌≤◌, length, slice_get, sym, ap, subst}
use Rattle.khe_base.specs.declared.limits.TheConstants.{EVENTS}
use Rattle.set_monitors.specs.Links.{AreAscending}
use Rattle.set_monitors.specs.MemberLaws.{members_ascend}
use Rattle.set_monitors.proofs.LinkTurnLaws.{member_there, members_few}
use Rattle.set_monitors.proofs.link_turns.row_in.Goals as goal

pub row_of_event-requires-clause-ascending : goal.row_of_event-requires-clause-ascending
row_of_event-requires-clause-ascending c = subst AreAscending (sym c.members.ensures)
    (members_ascend c.args.inst.now c.args.monitor.point)

pub row_of_event-requires-clause-there : goal.row_of_event-requires-clause-there
row_of_event-requires-clause-there c =
    let a = member_there c.args.inst.now c.args.monitor c.args.event.0 c.requires.monitor c.requires.served
    c.requires.named in
    (a.0, ap (λ xs. slice_get xs a.0) c.members.ensures ∙ a.1)

pub row_of_event-requires-clause-few : goal.row_of_event-requires-clause-few
row_of_event-requires-clause-few c = subst (λ xs. length xs ≤ EVENTS) (sym c.members.ensures)
    (members_few c.args.inst.now c.args.monitor.point c.facts.ensures)
