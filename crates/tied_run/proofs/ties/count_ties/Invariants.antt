use Rattle.std.proofs.Common.{◌≡◌, ◌≤◌, ◌+◌, ◌-◌, length}
use Rattle.std.specs.Prelude.{is_some}
use Rattle.std.specs.List.{count_by}
use Rattle.tied_run.proofs.TieLaws.{count_from}
use Rattle.tied_run.proofs.ties.count_ties.Given as goal

abbrev pub invariant-loop-meet : goal.invariant-loop-meet
invariant-loop-meet g l =
    let ties = l.tied.now.ties in
    record {
      few : l.count ≤ l.next.0;
      counted : l.count + count_from ties l.next.0 ≡ count_by is_some ties;
    }

abbrev pub decreases-loop-meet : goal.decreases-loop-meet
decreases-loop-meet g l = length l.tied.now.ties - l.next.0
