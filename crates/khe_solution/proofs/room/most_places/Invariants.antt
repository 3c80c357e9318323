use Rattle.std.proofs.Common.{ℕ, ◌≡◌, ◌≤◌, ◌<◌, Some, length, slice_get}
use Rattle.khe_base.specs.declared.limits.TheConstants.{TASKS}
use Rattle.khe_instance.specs.declared.parts.EventInfo.{EventInfo}
use Rattle.khe_solution.proofs.room.most_places.Given as goal

abbrev pub invariant-loop-e : goal.invariant-loop-e
invariant-loop-e l = record {
  few : l.most ≤ TASKS;
  each : (k : ℕ) (event : EventInfo) → k < l.e → slice_get l.inst.events k ≡ Some event → length event.places ≤ l.most;
}
