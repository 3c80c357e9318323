use Rattle.std.proofs.Common.{◌∙◌, Some, length, sym, ap, subst, arith}
use Rattle.std.proofs.lemmas.Option.{slice_get_within}
use Rattle.khe_told.specs.Turns.{turned}
use Rattle.timetables.specs.Counts.{count_at}
use Rattle.set_monitors.specs.Links.{AreOfGroup, members_at, runs_in}
use Rattle.set_monitors.specs.LinkRuns.{AreRaised, EndsBy}
use Rattle.set_monitors.proofs.LinkTurnLaws.{after_ends, before_ends, group_turned, room_after, some_before}
use Rattle.set_monitors.proofs.link_turns.follow.Goals as goal

pub free_meet-requires-clause-event : goal.free_meet-requires-clause-event
free_meet-requires-clause-event c =
    let l = slice_get_within (members_at c.args.inst.now c.args.monitor.point) c.row_in-row.result.0 c.event.result.0
    c.row_in-row.ensures in
    let amount = c.requires.of.amount in
    omega (arith, l, amount)

pub free_meet-requires-clause-times : goal.free_meet-requires-clause-times
free_meet-requires-clause-times c =
    let p = c.args.inst.now in
    let turn = c.args.turn.now in
    subst (λ o. EndsBy o (length c.args.links.now.running.items)) (sym c.before-old.ensures)
    (subst (EndsBy turn.before.span) (sym c.requires.of.all) (before_ends p c.args.told.now turn c.requires.turns))

pub free_meet-requires-clause-some : goal.free_meet-requires-clause-some
free_meet-requires-clause-some c = λ u run.
    let at = c.row_in-row.ensures ∙ ap (λ e. Some e.0) c.event.ensures in
    some_before c.args.inst.now c.args.told.now c.args.turn.now c.requires.turns c.args.monitor.point
    c.args.links.now.table (length c.args.links.now.running.items) c.row_in-row.result.0 c.requires.of at u
    (ap (λ o. runs_in o u) (sym c.before-old.ensures) ∙ run)

pub fill_meet-requires-clause-event : goal.fill_meet-requires-clause-event
fill_meet-requires-clause-event c =
    let l = slice_get_within (members_at c.args.inst.now c.args.monitor.point) c.row_in-row.result.0 c.event.result.0
    c.row_in-row.ensures in
    let amount = c.requires.of.amount in
    let same = c.free_meet.ensures.events in
    omega (arith, l, amount, same)

pub fill_meet-requires-clause-times : goal.fill_meet-requires-clause-times
fill_meet-requires-clause-times c =
    let p = c.args.inst.now in
    let turn = c.args.turn.now in
    subst (λ o. EndsBy o (length c.free_meet.new.links.running.items)) (sym c.after-new.ensures)
    (subst (EndsBy turn.after.span) (sym (c.free_meet.ensures.times ∙ c.requires.of.all))
    (after_ends p c.args.told.now turn c.requires.turns))

pub fill_meet-requires-clause-room : goal.fill_meet-requires-clause-room
fill_meet-requires-clause-room c = λ u run.
    let at = c.row_in-row.ensures ∙ ap (λ e. Some e.0) c.event.ensures in
    room_after c.args.inst.now c.args.told.now c.args.turn.now c.requires.turns c.args.monitor.point
    c.args.links.now.table (length c.args.links.now.running.items) c.row_in-row.result.0 c.requires.of at
    c.free_meet.new.links.table c.facts.ensures
    (subst (λ o. AreRaised c.row_in-row.result.0 (runs_in o) (count_at c.free_meet.new.links.table)
    (count_at c.args.links.now.table)) c.before-old.ensures c.free_meet.ensures.counts) u

pub returns-clause-of : goal.returns-clause-of
returns-clause-of c =
    let p = c.args.inst.now in
    let s = c.args.told.now in
    let turn = c.args.turn.now in
    let point = c.args.monitor.point in
    let old = c.args.links.now in
    let mid = c.free_meet.new.links in
    let new = c.fill_meet.new.links in
    let r = c.row_in-row.result.0 in
    let at = c.row_in-row.ensures ∙ ap (λ e. Some e.0) c.event.ensures in
    subst (AreOfGroup p point (turned s turn) new.table)
    (sym (c.fill_meet.ensures.times ∙ c.free_meet.ensures.times))
    (group_turned p s turn c.requires.turns point old.table (length old.running.items) r c.requires.of at mid.table
    new.table c.free_meet.ensures.events c.fill_meet.ensures.events
    (subst (λ o. AreRaised r (runs_in o) (count_at mid.table) (count_at old.table)) c.before-old.ensures
    c.free_meet.ensures.counts)
    (subst (λ o. AreRaised r (runs_in o) (count_at mid.table) (count_at new.table)) c.after-new.ensures
    c.fill_meet.ensures.counts))
