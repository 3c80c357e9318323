-- By the busy times before and after.
use Rattle.std.proofs.Common.{length, arith}
use Rattle.timetables.specs.Counts.{count_at, row_of}
use Rattle.resource_monitors.proofs.ClashShiftLaws.{clashes_small, clashes_then, first_gained, first_lost, row_beyond}
use Rattle.resource_monitors.proofs.ClashShiftLaws.{second_gained, second_lost, there_small}
use Rattle.resource_monitors.proofs.shifts.clashes_after.Goals as goal

pub total_of-lost-requires-clause-order : goal.total_of-lost-requires-clause-order
total_of-lost-requires-clause-order c = c.requires.can.first.emptied_order

pub total_of-lost-requires-clause-small : goal.total_of-lost-requires-clause-small
total_of-lost-requires-clause-small c = let a = first_lost c.args.shifts (length (row_of c.args.table.now c.args.r.0))
    (count_at c.args.table.now c.args.r.0) c.requires.can in let b = c.requires.few in omega (arith, a, b)

pub total_of-lost_then-requires-clause-order : goal.total_of-lost_then-requires-clause-order
total_of-lost_then-requires-clause-order c = c.requires.can.second.emptied_order

pub total_of-lost_then-requires-clause-small : goal.total_of-lost_then-requires-clause-small
total_of-lost_then-requires-clause-small c = let a = second_lost c.args.shifts
    (length (row_of c.args.table.now c.args.r.0))
    (count_at c.args.table.now c.args.r.0) c.requires.can in let b = c.requires.few in omega (arith, a, b)

pub total_of-gained-requires-clause-order : goal.total_of-gained-requires-clause-order
total_of-gained-requires-clause-order c = c.requires.can.first.filled_order

pub total_of-gained-requires-clause-small : goal.total_of-gained-requires-clause-small
total_of-gained-requires-clause-small c = let a = first_gained c.args.shifts
    (length (row_of c.args.table.now c.args.r.0))
    (count_at c.args.table.now c.args.r.0) c.requires.can in let b = c.requires.few in omega (arith, a, b)

pub total_of-gained_then-requires-clause-order : goal.total_of-gained_then-requires-clause-order
total_of-gained_then-requires-clause-order c = c.requires.can.second.filled_order

pub total_of-gained_then-requires-clause-small : goal.total_of-gained_then-requires-clause-small
total_of-gained_then-requires-clause-small c = let a = second_gained c.args.shifts
    (length (row_of c.args.table.now c.args.r.0))
    (count_at c.args.table.now c.args.r.0) c.requires.can in let b = c.requires.few in omega (arith, a, b)

pub overflow_add-there : goal.overflow_add-there
overflow_add-there c =
    let n = length (row_of c.args.table.now c.args.r.0) in
    let k = count_at c.args.table.now c.args.r.0 in
    let t = clashes_then c.args.shifts n k c.requires.can c.args.before c.args.after c.ranges.before.fits
    c.ranges.after.fits c.requires.few (λ u l. row_beyond (row_of c.args.table.now c.args.r.0) u l) c.requires.before
    c.requires.after in
    let a = first_gained c.args.shifts n k c.requires.can in
    let b = second_gained c.args.shifts n k c.requires.can in
    let d = clashes_small c.args.shifts n k c.requires.can in
    let e = c.requires.few in
    let f = c.clashes.ensures in
    let g = c.total_of-lost.ensures in
    let h = c.total_of-lost_then.ensures in
    let i = c.total_of-gained.ensures in
    let j = c.total_of-gained_then.ensures in
    let o = c.from.ensures in
    let r = there_small c.args.shifts n k c.requires.can c.args.before c.ranges.before.fits c.requires.few
    (λ u l. row_beyond (row_of c.args.table.now c.args.r.0) u l) c.requires.before in
    omega (arith, t, a, b, d, e, f, g, h, i, j, o, r)

pub overflow_add-there-2 : goal.overflow_add-there-2
overflow_add-there-2 c =
    let n = length (row_of c.args.table.now c.args.r.0) in
    let k = count_at c.args.table.now c.args.r.0 in
    let t = clashes_then c.args.shifts n k c.requires.can c.args.before c.args.after c.ranges.before.fits
    c.ranges.after.fits c.requires.few (λ u l. row_beyond (row_of c.args.table.now c.args.r.0) u l) c.requires.before
    c.requires.after in
    let a = first_gained c.args.shifts n k c.requires.can in
    let b = second_gained c.args.shifts n k c.requires.can in
    let d = clashes_small c.args.shifts n k c.requires.can in
    let e = c.requires.few in
    let f = c.clashes.ensures in
    let g = c.total_of-lost.ensures in
    let h = c.total_of-lost_then.ensures in
    let i = c.total_of-gained.ensures in
    let j = c.total_of-gained_then.ensures in
    let o = c.from.ensures in
    let r = there_small c.args.shifts n k c.requires.can c.args.before c.ranges.before.fits c.requires.few
    (λ u l. row_beyond (row_of c.args.table.now c.args.r.0) u l) c.requires.before in
    omega (arith, t, a, b, d, e, f, g, h, i, j, o, r)

pub overflow_add-there-3 : goal.overflow_add-there-3
overflow_add-there-3 c =
    let n = length (row_of c.args.table.now c.args.r.0) in
    let k = count_at c.args.table.now c.args.r.0 in
    let t = clashes_then c.args.shifts n k c.requires.can c.args.before c.args.after c.ranges.before.fits
    c.ranges.after.fits c.requires.few (λ u l. row_beyond (row_of c.args.table.now c.args.r.0) u l) c.requires.before
    c.requires.after in
    let a = first_gained c.args.shifts n k c.requires.can in
    let b = second_gained c.args.shifts n k c.requires.can in
    let d = clashes_small c.args.shifts n k c.requires.can in
    let e = c.requires.few in
    let f = c.clashes.ensures in
    let g = c.total_of-lost.ensures in
    let h = c.total_of-lost_then.ensures in
    let i = c.total_of-gained.ensures in
    let j = c.total_of-gained_then.ensures in
    let o = c.from.ensures in
    let r = there_small c.args.shifts n k c.requires.can c.args.before c.ranges.before.fits c.requires.few
    (λ u l. row_beyond (row_of c.args.table.now c.args.r.0) u l) c.requires.before in
    omega (arith, t, a, b, d, e, f, g, h, i, j, o, r)

pub overflow_sub-result : goal.overflow_sub-result
overflow_sub-result c =
    let n = length (row_of c.args.table.now c.args.r.0) in
    let k = count_at c.args.table.now c.args.r.0 in
    let t = clashes_then c.args.shifts n k c.requires.can c.args.before c.args.after c.ranges.before.fits
    c.ranges.after.fits c.requires.few (λ u l. row_beyond (row_of c.args.table.now c.args.r.0) u l) c.requires.before
    c.requires.after in
    let a = first_gained c.args.shifts n k c.requires.can in
    let b = second_gained c.args.shifts n k c.requires.can in
    let d = clashes_small c.args.shifts n k c.requires.can in
    let e = c.requires.few in
    let f = c.clashes.ensures in
    let g = c.total_of-lost.ensures in
    let h = c.total_of-lost_then.ensures in
    let i = c.total_of-gained.ensures in
    let j = c.total_of-gained_then.ensures in
    let o = c.from.ensures in
    let r = there_small c.args.shifts n k c.requires.can c.args.before c.ranges.before.fits c.requires.few
    (λ u l. row_beyond (row_of c.args.table.now c.args.r.0) u l) c.requires.before in
    let q = c.from-2.ensures in
    omega (arith, t, a, b, d, e, f, g, h, i, j, o, r, q)

pub overflow_sub-result-2 : goal.overflow_sub-result-2
overflow_sub-result-2 c =
    let n = length (row_of c.args.table.now c.args.r.0) in
    let k = count_at c.args.table.now c.args.r.0 in
    let t = clashes_then c.args.shifts n k c.requires.can c.args.before c.args.after c.ranges.before.fits
    c.ranges.after.fits c.requires.few (λ u l. row_beyond (row_of c.args.table.now c.args.r.0) u l) c.requires.before
    c.requires.after in
    let a = first_gained c.args.shifts n k c.requires.can in
    let b = second_gained c.args.shifts n k c.requires.can in
    let d = clashes_small c.args.shifts n k c.requires.can in
    let e = c.requires.few in
    let f = c.clashes.ensures in
    let g = c.total_of-lost.ensures in
    let h = c.total_of-lost_then.ensures in
    let i = c.total_of-gained.ensures in
    let j = c.total_of-gained_then.ensures in
    let o = c.from.ensures in
    let r = there_small c.args.shifts n k c.requires.can c.args.before c.ranges.before.fits c.requires.few
    (λ u l. row_beyond (row_of c.args.table.now c.args.r.0) u l) c.requires.before in
    let q = c.from-2.ensures in
    omega (arith, t, a, b, d, e, f, g, h, i, j, o, r, q)

pub overflow_sub-result-3 : goal.overflow_sub-result-3
overflow_sub-result-3 c =
    let n = length (row_of c.args.table.now c.args.r.0) in
    let k = count_at c.args.table.now c.args.r.0 in
    let t = clashes_then c.args.shifts n k c.requires.can c.args.before c.args.after c.ranges.before.fits
    c.ranges.after.fits c.requires.few (λ u l. row_beyond (row_of c.args.table.now c.args.r.0) u l) c.requires.before
    c.requires.after in
    let a = first_gained c.args.shifts n k c.requires.can in
    let b = second_gained c.args.shifts n k c.requires.can in
    let d = clashes_small c.args.shifts n k c.requires.can in
    let e = c.requires.few in
    let f = c.clashes.ensures in
    let g = c.total_of-lost.ensures in
    let h = c.total_of-lost_then.ensures in
    let i = c.total_of-gained.ensures in
    let j = c.total_of-gained_then.ensures in
    let o = c.from.ensures in
    let r = there_small c.args.shifts n k c.requires.can c.args.before c.ranges.before.fits c.requires.few
    (λ u l. row_beyond (row_of c.args.table.now c.args.r.0) u l) c.requires.before in
    let q = c.from-2.ensures in
    omega (arith, t, a, b, d, e, f, g, h, i, j, o, r, q)

pub returns : goal.returns
returns c =
    let n = length (row_of c.args.table.now c.args.r.0) in
    let k = count_at c.args.table.now c.args.r.0 in
    let t = clashes_then c.args.shifts n k c.requires.can c.args.before c.args.after c.ranges.before.fits
    c.ranges.after.fits c.requires.few (λ u l. row_beyond (row_of c.args.table.now c.args.r.0) u l) c.requires.before
    c.requires.after in
    let a = first_gained c.args.shifts n k c.requires.can in
    let b = second_gained c.args.shifts n k c.requires.can in
    let d = clashes_small c.args.shifts n k c.requires.can in
    let e = c.requires.few in
    let f = c.clashes.ensures in
    let g = c.total_of-lost.ensures in
    let h = c.total_of-lost_then.ensures in
    let i = c.total_of-gained.ensures in
    let j = c.total_of-gained_then.ensures in
    let o = c.from.ensures in
    let r = there_small c.args.shifts n k c.requires.can c.args.before c.ranges.before.fits c.requires.few
    (λ u l. row_beyond (row_of c.args.table.now c.args.r.0) u l) c.requires.before in
    let q = c.from-2.ensures in
    omega (arith, t, a, b, d, e, f, g, h, i, j, o, r, q)
