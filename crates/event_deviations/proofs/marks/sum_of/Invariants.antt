use Rattle.std.proofs.Common.{◌≡◌, ◌*◌, ◌≤◌, take, sum_by, slice_index, if◌then◌else◌}
use Rattle.khe_base.specs.IdSet.{has_member}
use Rattle.event_deviations.proofs.marks.sum_of.Given as goal

abbrev pub invariant-loop-n : goal.invariant-loop-n
invariant-loop-n l = record {
  exact : l.total ≡ sum_by (λ n. if has_member l.set n then slice_index l.values n else 0) (take l.n-index l.numbers);
  bound : l.total ≤ l.n-index * 4294967295;
}
