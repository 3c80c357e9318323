-- The total changes as the count's part does.
use Rattle.std.proofs.Common.{◌≡◌, ◌<◌, ◌+◌, ◌-◌, ◌∙◌, length, set, slice_index, ap, subst, arith}
use Rattle.timetables.specs.Counts.{with_count, count_at}
use Rattle.resource_monitors.specs.Clashes.{HasClashes}
use Rattle.resource_monitors.proofs.ClashLaws.{read_at, total_small, total_turned}
use Rattle.resource_monitors.proofs.tables.recount.Goals as goal

pub overflow_add-total : goal.overflow_add-total
overflow_add-total c =
    let totals = c.args.clashes.now.items in
    let r = c.args.r.0 in
    let within : r < length totals = let a = c.requires.totals.amount in let b = c.requires.resource in
    omega (arith, a, b) in
    let total : c.index-total.result.now ≡ slice_index totals r =
    read_at totals r c.index-total.result.now within c.index-total.ensures in
    let small = total_small c.args.table.now totals c.requires.totals r in
    let beyond = c.from-beyond.ensures in
    let fits = c.ranges.count.fits in
    omega (arith, total, small, beyond, fits)

pub returns : goal.returns
returns c =
    let rows = c.args.table.now in
    let totals = c.args.clashes.now.items in
    let r = c.args.r.0 in
    let t = c.args.t.0 in
    let within : r < length totals = let a = c.requires.totals.amount in let b = c.requires.resource in
    omega (arith, a, b) in
    let total : c.index-total.result.now ≡ slice_index totals r =
    read_at totals r c.index-total.result.now within c.index-total.ensures in
    let beyond : c.from-beyond.result ≡ c.args.count - 1 = c.from-beyond.ensures ∙ c.saturating_sub-2.ensures in
    let before : c.from-before.result ≡ count_at rows r t - 1 =
    c.from-before.ensures ∙ c.saturating_sub.ensures ∙ ap (λ n. n - 1) c.count.ensures in
    let sum : slice_index totals r + (c.args.count - 1) - (count_at rows r t - 1)
    ≡ c.index-total.result.now + c.from-beyond.result - c.from-before.result =
    omega (arith, total, beyond, before) in
    subst (λ n. HasClashes (with_count rows r t c.args.count) (set totals r n)) sum
    (total_turned rows totals c.requires.totals r t c.requires.resource c.requires.time c.args.count c.requires.few)
