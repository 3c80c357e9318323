use Rattle.std.proofs.Common.{◌≡◌, ◌≤◌, ℕ, Bool, List, length, slice_index, sum_by, take}
use Rattle.khe_instance.specs.Lookups.{duration_at}
use Rattle.event_deviations.specs.Groups.{starting_in}
use Rattle.event_deviations.specs.Marked.{sum_in}
use Rattle.event_deviations.proofs.starts.count_starts.Given as goal

abbrev pub invariant-loop-event : goal.invariant-loop-event
invariant-loop-event l = record {
  long : length l.starts ≡ length l.fn.starts;
  exact : (times : List Bool) → sum_in l.starts times ≡ starting_in l.index.meets times (take l.event-index l.events);
  bound : (times : List Bool) → sum_in l.starts times ≤ sum_by (duration_at l.index.parts.events) (take l.event-index l.events);
  few : (t : ℕ) → slice_index l.starts t ≤ sum_by (duration_at l.index.parts.events) (take l.event-index l.events);
}
