use Rattle.std.proofs.Common.{◌≡◌, ℕ, length, take}
use Rattle.event_deviations.specs.Groups.{has_duty_among}
use Rattle.event_deviations.specs.Marked.{is_marked}
use Rattle.event_deviations.proofs.at_groups.avoid_split_assignments.Given as goal

abbrev pub invariant-loop-event : goal.invariant-loop-event
invariant-loop-event l = record {
  long : length l.seen ≡ length l.fn.seen;
  marked : (r : ℕ) → is_marked l.seen r ≡ has_duty_among l.index.parts.events l.index.duties l.role
      (take l.event-index l.events) r;
}
