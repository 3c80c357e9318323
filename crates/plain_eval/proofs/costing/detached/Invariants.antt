-- The monitors that were put in, and those that are left, are the detached ones.
use Rattle.std.proofs.Common.{◌≡◌, ◌==◌, ◌||◌, ℕ, length, drop}
use Rattle.std.specs.List.{list_any}
use Rattle.khe_base.specs.IdSet.{has_member}
use Rattle.khe_instance.specs.Evaluated.{is_detached}
use Rattle.plain_eval.proofs.costing.detached.Given as goal

abbrev pub invariant-loop-monitor : goal.invariant-loop-monitor
invariant-loop-monitor l = record {
  size : length l.detached ≡ length l.fn.inst.monitors;
  members : (m : ℕ) → (has_member l.detached m || list_any (λ d. d.0 == m) (drop l.monitor-index l.fn.plain.detached))
      ≡ is_detached l.fn.plain m;
}
