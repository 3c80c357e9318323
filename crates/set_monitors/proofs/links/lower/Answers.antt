use Rattle.std.proofs.Common.{◌≡◌, ◌∙◌, ◌-◌, sym, ap, subst, slice_index}
use Rattle.timetables.specs.Counts.{count_at, with_count, is_busy, row_of}
use Rattle.set_monitors.specs.LinkCounts.{AreLinked}
use Rattle.set_monitors.proofs.LinkCountLaws.{apart_few, apart_part, linked_anew, ends, is_above, lowered_still}
use Rattle.set_monitors.proofs.LinkCountLaws.{row_then}
use Rattle.set_monitors.proofs.LinkCountLaws.{there_is}
use Rattle.set_monitors.proofs.links.lower.Goals as goal

pub returns-then-busy-clause-linked : goal.returns-then-busy-clause-linked
returns-then-busy-clause-linked c =
    let rows = c.args.table.now in
    let running = c.args.running.now.items in
    subst (λ rows. AreLinked rows c.args.events running c.args.apart) (sym c.fall.ensures)
    (lowered_still rows c.args.event.0 c.args.time.0 c.requires.event c.args.events running c.args.apart
    c.requires.linked c.requires.time c.requires.some
    (ap (λ rs. is_busy (row_of rs c.args.event.0) c.args.time.0) (sym c.fall.ensures) ∙ sym c.busy.ensures
    ∙ c.if-busy.true))

pub recount-requires-clause-apart : goal.recount-requires-clause-apart
recount-requires-clause-apart c = apart_part c.args.table.now c.args.events c.args.running.now.items c.args.apart
    c.args.time.0 c.requires.linked c.requires.time

pub recount-requires-clause-small : goal.recount-requires-clause-small
recount-requires-clause-small c = apart_few c.args.table.now c.args.events c.args.running.now.items c.args.apart
    c.requires.linked

pub returns-clause-linked : goal.returns-clause-linked
returns-clause-linked c =
    let rows = c.args.table.now in
    let r = c.args.event.0 in
    let t = c.args.time.0 in
    let running = c.args.running.now.items in
    let count = count_at rows r t - 1 in
    let now : c.index.result.now ≡ slice_index running t =
    c.index.ensures ∙ there_is running t c.index.result.now c.requires.time in
    let quiet = ap (λ x. is_busy x t) (sym (row_then rows r t c.requires.event c.args.events running c.args.apart
    c.requires.linked c.requires.time count)) ∙ ap (λ rs. is_busy (row_of rs r) t) (sym c.fall.ensures)
    ∙ sym c.busy.ensures ∙ c.if-busy.false in
    let is = ap (λ n. n - 1) now ∙ (ends rows r t c.requires.event c.args.events running c.args.apart c.requires.linked
    c.requires.time (is_above (count_at rows r t) c.requires.some) quiet).1 in
    subst (λ rows. AreLinked rows c.args.events c.recount.new.running.items c.recount.result) (sym c.fall.ensures)
    (subst (λ xs. AreLinked (with_count rows r t count) c.args.events xs c.recount.result)
    (sym c.recount.ensures.running)
    (linked_anew rows r t count c.requires.event c.args.events running c.args.apart (c.index.result.now - 1)
    c.recount.result c.requires.linked c.requires.time is c.recount.ensures.apart))
