use Rattle.std.proofs.Common.{◌≡◌, drop}
use Rattle.std.specs.List.{list_any}
use Rattle.time_match.specs.Leaders.{unites_event}
use Rattle.time_match.proofs.likenesses.is_single.Given as goal

abbrev pub invariant-loop-number : goal.invariant-loop-number
invariant-loop-number l = list_any (unites_event l.inst l.event.0) (drop l.number-index l.numbers)
    ≡ list_any (unites_event l.inst l.event.0) l.numbers
