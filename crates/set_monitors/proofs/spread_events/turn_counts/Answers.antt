use Rattle.std.proofs.Common.{◌≡◌, ◌<◌, ◌∙◌, Some, length, slice_get, sym, ap, arith}
use Rattle.std.proofs.lemmas.Option.{slice_get-get_or, slice_get_within}
use Rattle.set_monitors.proofs.SpreadLaws.{turned_next}
use Rattle.set_monitors.proofs.spread_events.turn_counts.Goals as goal

pub turn_count-total-requires-clause-few : goal.turn_count-total-requires-clause-few
turn_count-total-requires-clause-few c =
    let so = c.loop-i.invariant in
    let i = c.loop-i.i in
    let n = c.index_mut.result.now in
    let l : i < length c.loop-i.counts.items = let a = so.amount in let b = c.requires.amount in let d =
    c.loop-i-test.true in omega (arith, a, b, d) in
    let here : slice_get c.loop-i.counts.items i ≡ Some n = slice_get-get_or c.loop-i.counts.items i n l
    ∙ ap Some (sym c.index_mut.ensures.value) in
    c.requires.few i n (sym (so.rest i (omega arith)) ∙ here)

pub loop-i-preserved : goal.loop-i-preserved
loop-i-preserved c =
    let so = c.loop-i.invariant in
    let i = c.loop-i.i in
    let q = c.index-spreads-i.result in
    let n = c.index_mut.result.now in
    let l : i < length c.loop-i.counts.items = let a = so.amount in let b = c.requires.amount in let d =
    c.loop-i-test.true in omega (arith, a, b, d) in
    let here : slice_get c.loop-i.counts.items i ≡ Some n = slice_get-get_or c.loop-i.counts.items i n l
    ∙ ap Some (sym c.index_mut.ensures.value) in
    let at : slice_get c.args.spreads.now i ≡ Some q = slice_get-get_or c.args.spreads.now i q c.loop-i-test.true
    ∙ ap Some (sym c.index-spreads-i.is) in
    let one = c.turn_count-total.ensures in
    turned_next c.args.before c.args.after c.args.spreads.now c.args.counts.now.items c.loop-i.counts.items
    c.args.outside c.loop-i.total i q n c.turn_count-total.new.count c.turn_count-total.result at here one.count
    one.outside one.bound so

pub returns-clause-counts : goal.returns-clause-counts
returns-clause-counts c = λ f are k q h.
    (let l = slice_get_within c.args.spreads.now k q h in
    c.loop-i.invariant.done k (f q.group) q (let past = c.loop-i-test.false in omega (arith, l, past)) (are k q h) h)
