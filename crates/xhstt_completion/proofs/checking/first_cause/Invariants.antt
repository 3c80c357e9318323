-- The first cause stands at an entry that is left, and what is left of each event is what the
-- entries so far have not used.
use Rattle.std.proofs.Common.{◌≡◌, ◌+◌, ◌≤◌, ℕ, [], Some, length, take, drop, get_or, slice_get}
use Rattle.std.specs.List.{sum_by}
use Rattle.khe_base.specs.declared.limits.TheConstants.{DURATION}
use Rattle.khe_instance.specs.declared.parts.EventInfo.{EventInfo}
use Rattle.xhstt_completion.specs.Causes.{first_cause, used_by}
use Rattle.xhstt_completion.proofs.checking.first_cause.Given as goal

abbrev pub invariant-loop-number : goal.invariant-loop-number
invariant-loop-number l = record {
  many : length l.left.items ≡ length l.inst.events;
  few : l.number + sum_by (λ x. x) l.left.items ≤ DURATION;
  left : (e : ℕ) (event : EventInfo) → slice_get l.inst.events e ≡ Some event
      → get_or l.left.items e 0 + used_by l.inst e event (take l.number l.entries) ≡ event.duration;
  rest : first_cause l.inst (take l.number l.entries) (drop l.number l.entries) ≡ first_cause l.inst [] l.entries;
}
