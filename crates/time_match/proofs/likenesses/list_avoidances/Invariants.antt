use Rattle.std.proofs.Common.{◌≡◌}
use Rattle.std.specs.List.{filter, range_with_len}
use Rattle.time_match.specs.Leaders.{is_avoidance_at}
use Rattle.time_match.proofs.likenesses.list_avoidances.Given as goal

abbrev pub invariant-loop-number : goal.invariant-loop-number
invariant-loop-number l = l.numbers ≡ filter (is_avoidance_at l.inst) (range_with_len 0 l.number)
