use Rattle.std.proofs.Common.{◌≡◌, ◌+◌, length, take}
use Rattle.std.specs.List.{list_any}
use Rattle.khe_instance.specs.Running.{runs}
use Rattle.event_deviations.specs.Links.{Joins, Advances, count_at}
use Rattle.event_deviations.proofs.links.cover.Given as goal

abbrev pub invariant-loop-meet : goal.invariant-loop-meet
invariant-loop-meet l = record {
  some_long : length l.some ≡ length l.fn.some;
  leading_long : length l.leading ≡ length l.fn.leading;
  joins : Joins l.fn.some l.some (λ t. list_any (λ m. runs m t) (take l.meet-index l.meets));
  advances : Advances l.rank l.fn.leading l.leading (λ t. list_any (λ m. runs m t) (take l.meet-index l.meets));
  count : l.count ≡ count_at (l.rank + 1) l.leading;
}
