use Rattle.std.proofs.Common.{◌≡◌, take}
use Rattle.std.specs.Prelude.{All}
use Rattle.time_match.specs.Wishes.{IsSmallWish, wishes_among}
use Rattle.time_match.proofs.wishes.wishes_among.Given as goal

abbrev pub invariant-loop-number : goal.invariant-loop-number
invariant-loop-number g l = record {
  are : l.wishes ≡ wishes_among l.engine.parts l.engine.state l.event.0 l.place l.duration
      (take l.number-index l.numbers);
  small : All IsSmallWish l.wishes;
}
