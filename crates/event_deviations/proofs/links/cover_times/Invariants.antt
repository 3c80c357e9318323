use Rattle.std.proofs.Common.{◌≡◌, ◌≤◌, ◌+◌, length}
use Rattle.event_deviations.specs.Links.{is_between, Joins, Advances, count_at}
use Rattle.event_deviations.proofs.links.cover_times.Given as goal

abbrev pub invariant-loop-time : goal.invariant-loop-time
invariant-loop-time l = record {
  some_long : length l.some ≡ length l.fn.some;
  leading_long : length l.leading ≡ length l.fn.leading;
  joins : Joins l.fn.some l.some (is_between l.first l.time);
  advances : Advances l.rank l.fn.leading l.leading (is_between l.first l.time);
  count : count_at (l.rank + 1) l.fn.leading + l.count ≡ count_at (l.rank + 1) l.leading;
  few : l.count ≤ l.time;
}
