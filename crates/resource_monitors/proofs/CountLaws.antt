-- What counts are of.
use Rattle.std.proofs.Common.{◌≤◌, ℕ, Bool, List, length, arith}
use Rattle.std.specs.List.{range_with_len}
use Rattle.std.proofs.lemmas.List.Sums.{count_by-le-length}
use Rattle.std.proofs.lemmas.List.FromFn.{length-range_with_len}
use Rattle.khe_base.specs.Busy.{is_idle_time}
use Rattle.khe_base.specs.IdSet.{has_member}
use Rattle.timetables.specs.Counts.{is_busy, idle_times}

-- no set has more idle times than times
pub idle_few : (row : List ℕ) (set : List Bool) → idle_times row set ≤ length set
idle_few row set =
    let l = count_by-le-length (is_idle_time (has_member set) (is_busy row) (length set))
    (range_with_len 0 (length set)) in
    let e = length-range_with_len 0 (length set) in
    omega arith
