-- None of the times so far is listed.
use Rattle.std.proofs.Common.{◌≡◌, ◌*◌, ◌-◌, ◌<◌, ◌≤◌, false, ℕ}
use Rattle.khe_instance.specs.Watching.{lists_time}
use Rattle.khe_instance.proofs.by_time.lists_in.Given as goal

abbrev pub invariant-loop-time : goal.invariant-loop-time
invariant-loop-time l = (t : ℕ) → 64 * l.word ≤ t → t < l.time → lists_time l.rule t ≡ false
