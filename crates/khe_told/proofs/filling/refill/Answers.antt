-- The slot's row has room for what its places are given, and takes one after the other.
use Rattle.std.proofs.Common.{◌+◌, None, arith, length, set}
use Rattle.std.specs.Prelude.{slice_index_or}
use Rattle.std.proofs.lemmas.Option.{slice_get-get_or}
use Rattle.khe_told.specs.Stored.{slots_in}
use Rattle.khe_told.proofs.PuttingLaws.{put_more, put_over, put_start}
use Rattle.khe_told.proofs.StoredLaws.{row_to}
use Rattle.khe_told.proofs.filling.refill.Goals as goal

pub loop-place-init : goal.loop-place-init
loop-place-init c =
    let rows = c.args.rows.now.items in
    let given = c.args.given.now.items in
    let row = c.index-row.result.now in
    put_over (set rows c.args.meet.0 (record row { span = c.args.span })) given (slots_in 0 rows given) c.args.meet.0
    c.args.span c.args.resources.now row 0 c.next-place.result c.next-place.ensures.from
    (put_start rows given c.args.meet.0 c.args.span c.args.resources.now row c.requires.order c.requires.there
    c.requires.many c.index-row.ensures)
    (λ j a b. c.requires.elsewhere j (c.next-place.ensures.none j a b))

pub index_mut-requires-in-loop-place : goal.index_mut-requires-in-loop-place
index_mut-requires-in-loop-place c =
    let i = c.loop-place.invariant in
    let row = c.index-row.result.now in
    let l = row_to 0 (length c.loop-place.given.items)
    (set c.args.rows.now.items c.args.meet.0 (record row { span = c.args.span }))
    c.args.meet.0 (record row { span = c.args.span }) i.order i.found in
    let few = i.few in
    let n = c.loop-place.given.ok.0 in
    let k = c.loop-place-test.true in
    omega (arith, l, few, n, k)

pub loop-place-preserved : goal.loop-place-preserved
loop-place-preserved c =
    let rows = c.args.rows.now.items in
    let s = slots_in 0 rows c.args.given.now.items in
    let row = c.index-row.result.now in
    let turned = set rows c.args.meet.0 (record row { span = c.args.span }) in
    let k = c.loop-place.place in
    let v = slice_index_or c.args.resources.now k None in
    put_over turned (set c.loop-place.given.items (row.first_task + k) v) s c.args.meet.0 c.args.span
    c.args.resources.now row (k + 1) c.next-place-in-loop-place.result c.next-place-in-loop-place.ensures.from
    (put_more turned c.loop-place.given.items s c.args.meet.0 c.args.span c.args.resources.now row k v
    c.loop-place.invariant (slice_get-get_or c.args.resources.now k None c.loop-place-test.true))
    (λ j a b. c.requires.elsewhere j (c.next-place-in-loop-place.ensures.none j a b))
