use Rattle.std.proofs.Common.{◌≡◌, ◌||◌, ℕ, length}
use Rattle.std.specs.List.{list_any, range_with_len}
use Rattle.event_deviations.specs.Groups.{has_duty_at}
use Rattle.event_deviations.specs.Marked.{is_marked}
use Rattle.event_deviations.proofs.at_groups.see_event.Given as goal

abbrev pub invariant-loop-number : goal.invariant-loop-number
invariant-loop-number l = record {
  long : length l.seen ≡ length l.fn.seen;
  marked : (r : ℕ) → is_marked l.seen r ≡ (is_marked l.fn.seen r || list_any
      (has_duty_at l.index.parts.events l.index.duties l.role r l.event.0) (range_with_len 0 l.number));
}
