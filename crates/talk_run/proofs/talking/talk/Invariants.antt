-- What was taken so far and what the lines ahead are answered is what all lines are.
use Rattle.std.proofs.Common.{◌≡◌, ◌+◌, ◌-◌, ◌^◌}
use Rattle.talk_run.specs.Between.{IsTalking}
use Rattle.talk_run.proofs.talking.talk.Given as goal

abbrev pub invariant-loop-number : goal.invariant-loop-number
invariant-loop-number g l = record {
  talking : IsTalking (g.R.Read.remaining l.fn.lines.reader) (g.R.Read.remaining l.lines.reader) (g.K.Sink.taken l.fn.out)
      (g.K.Sink.taken l.out) (g.T.Talker.said l.talker (l.number + 1)) (g.T.Talker.said l.fn.talker 1);
  faultless : g.K.Sink.faults l.out ≡ g.K.Sink.faults l.fn.out;
  read : l.lines.faults ≡ l.fn.lines.faults;
}

abbrev pub decreases-loop-number : goal.decreases-loop-number
decreases-loop-number g l = 2 ^ 64 - 1 - l.number
