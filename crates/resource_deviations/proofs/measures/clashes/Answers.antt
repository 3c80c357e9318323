-- One time more.
use Rattle.std.proofs.Common.{◌≡◌, ◌+◌, ◌-◌, ℕ, arith, slice_index, sum_by}
use Rattle.std.specs.List.{range_with_len}
use Rattle.timetables.specs.Counts.{row_of}
use Rattle.khe_instance.proofs.SumsLemmas.{sum_by_range_more}
use Rattle.resource_deviations.proofs.measures.clashes.Goals as goal

pub loop-t-preserved : goal.loop-t-preserved
loop-t-preserved c =
    let beyond : ℕ → ℕ = λ t. slice_index (row_of c.args.table.now c.args.r.0) t - 1 in
    let more : sum_by beyond (range_with_len 0 (c.loop-t.t + 1))
    ≡ sum_by beyond (range_with_len 0 c.loop-t.t) + beyond c.loop-t.t = sum_by_range_more beyond c.loop-t.t in
    record { value = omega (arith, more); small = omega arith }
