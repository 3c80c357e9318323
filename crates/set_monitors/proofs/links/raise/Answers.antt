use Rattle.std.proofs.Common.{◌≡◌, ◌∙◌, ◌+◌, sym, ap, subst, arith, slice_index}
use Rattle.timetables.specs.Counts.{count_at, with_count}
use Rattle.set_monitors.specs.LinkCounts.{AreLinked}
use Rattle.set_monitors.proofs.LinkCountLaws.{apart_few, apart_part, linked_anew, raised_still, room_for, starts}
use Rattle.set_monitors.proofs.LinkCountLaws.{there_is}
use Rattle.set_monitors.proofs.links.raise.Goals as goal

pub returns-then-runs-clause-linked : goal.returns-then-runs-clause-linked
returns-then-runs-clause-linked c =
    let rows = c.args.table.now in
    let running = c.args.running.now.items in
    subst (λ rows. AreLinked rows c.args.events running c.args.apart) (sym c.rise.ensures)
    (raised_still rows c.args.event.0 c.args.time.0 c.requires.event c.args.events running c.args.apart
    c.requires.linked c.requires.time (sym c.busy-runs.ensures ∙ c.if-runs.true))

pub overflow_add-now : goal.overflow_add-now
overflow_add-now c =
    let running = c.args.running.now.items in
    let now : c.index.result.now ≡ slice_index running c.args.time.0 =
    c.index.ensures ∙ there_is running c.args.time.0 c.index.result.now c.requires.time in
    let room = room_for c.args.table.now c.args.event.0 c.args.time.0 c.requires.event c.args.events running
    c.args.apart c.requires.linked c.requires.time (sym c.busy-runs.ensures ∙ c.if-runs.false) in
    let fits = c.ranges.events.fits in
    omega (arith, now, room, fits)

pub recount-requires-clause-apart : goal.recount-requires-clause-apart
recount-requires-clause-apart c = apart_part c.args.table.now c.args.events c.args.running.now.items c.args.apart
    c.args.time.0 c.requires.linked c.requires.time

pub recount-requires-clause-small : goal.recount-requires-clause-small
recount-requires-clause-small c = apart_few c.args.table.now c.args.events c.args.running.now.items c.args.apart
    c.requires.linked

pub returns-clause-linked : goal.returns-clause-linked
returns-clause-linked c =
    let rows = c.args.table.now in
    let r = c.args.event.0 in
    let t = c.args.time.0 in
    let running = c.args.running.now.items in
    let count = count_at rows r t + 1 in
    let now : c.index.result.now ≡ slice_index running t =
    c.index.ensures ∙ there_is running t c.index.result.now c.requires.time in
    let is = ap (λ n. n + 1) now ∙ starts rows r t c.requires.event c.args.events running c.args.apart c.requires.linked
    c.requires.time (sym c.busy-runs.ensures ∙ c.if-runs.false) in
    subst (λ rows. AreLinked rows c.args.events c.recount.new.running.items c.recount.result) (sym c.rise.ensures)
    (subst (λ xs. AreLinked (with_count rows r t count) c.args.events xs c.recount.result)
    (sym c.recount.ensures.running)
    (linked_anew rows r t count c.requires.event c.args.events running c.args.apart (c.index.result.now + 1)
    c.recount.result c.requires.linked c.requires.time is c.recount.ensures.apart))
