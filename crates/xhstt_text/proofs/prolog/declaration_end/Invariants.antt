use Rattle.std.proofs.Common.{◌≡◌, ◌≤◌, [], false, length}
use Rattle.xhstt_text.specs.Machine.{in_declaration, run}
use Rattle.xhstt_text.specs.Reading.{read_of}
use Rattle.xhstt_text.proofs.prolog.declaration_end.Given as goal

abbrev pub invariant-bytes : goal.invariant-bytes
invariant-bytes l = record {
  follows : run (in_declaration false) (read_of [] [] []) l.fn.from.at l.fn.from.rest.now
      ≡ run (in_declaration l.seen) (read_of [] [] []) l.here.at l.here.rest.now;
  place : l.fn.from.at ≤ l.here.at;
}

abbrev pub decreases-bytes : goal.decreases-bytes
decreases-bytes l = length l.here.rest.now
