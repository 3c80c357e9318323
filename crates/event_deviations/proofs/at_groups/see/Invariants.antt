use Rattle.std.proofs.Common.{◌≡◌, ◌||◌, ℕ, length, take}
use Rattle.event_deviations.specs.Groups.{some_has}
use Rattle.event_deviations.specs.Marked.{is_marked}
use Rattle.event_deviations.proofs.at_groups.see.Given as goal

abbrev pub invariant-loop-duty : goal.invariant-loop-duty
invariant-loop-duty l = record {
  long : length l.seen ≡ length l.fn.seen;
  marked : (r : ℕ) → is_marked l.seen r ≡ (is_marked l.fn.seen r || some_has (take l.duty-index l.duties) r);
}
