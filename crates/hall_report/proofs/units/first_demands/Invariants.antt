use Rattle.std.proofs.Common.{◌≡◌, ◌<◌, ℕ, length, get_or}
use Rattle.khe_instance.specs.Slots.{first_task}
use Rattle.hall_report.proofs.units.first_demands.Given as goal

abbrev pub invariant-loop-unit : goal.invariant-loop-unit
invariant-loop-unit l = (length l.tasks.items ≡ l.unit)
    × ((u : ℕ) → u < l.unit → get_or l.tasks.items u 0 ≡ first_task l.inst.events u)
