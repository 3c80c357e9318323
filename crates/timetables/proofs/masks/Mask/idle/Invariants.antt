-- The free times so far are counted, and the span goes from the first busy time so far to the last.
use Rattle.std.proofs.Common.{◌≡◌, ◌*◌, ◌&&◌, not}
use Rattle.khe_base.specs.Bits.{is_set}
use Rattle.khe_base.specs.Busy.{count_below}
use Rattle.timetables.proofs.Spans.{IsSpan}
use Rattle.timetables.proofs.masks.Mask.idle.Given as goal

abbrev pub invariant-loop-k : goal.invariant-loop-k
invariant-loop-k l = record {
  counted : l.unbusy ≡ count_below (λ t. is_set l.self-inside.words.items t && not (is_set l.row t)) (64 * l.k);
  span : IsSpan (λ t. is_set l.self-inside.words.items t && is_set l.row t)
      (λ t. is_set l.self-inside.words.items t && not (is_set l.row t)) (64 * l.k) l.span;
}
