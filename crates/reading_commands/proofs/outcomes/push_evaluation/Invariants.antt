-- The lines so far and those of the monitors that are left are those of all monitors.
use Rattle.std.proofs.Common.{◌≡◌, ◌++◌, [], drop}
use Rattle.std.specs.List.{enumerate_from, flat_map}
use Rattle.khe_instance.specs.declared.states.Plain.{Plain}
use Rattle.parallel_solve.specs.Verdicts.{values_of}
use Rattle.reading_commands.specs.Report.{monitor_text}
use Rattle.reading_commands.proofs.outcomes.push_evaluation.Given as goal

abbrev pub invariant-loop-number : goal.invariant-loop-number
invariant-loop-number l = (s : Plain) → l.fn.values ≡ values_of l.fn.inst s → s.detached ≡ []
    → l.text ++ flat_map (monitor_text l.fn.all l.fn.inst s)
    (enumerate_from l.number (drop l.number l.fn.inst.monitors))
    ≡ l.fn.text ++ flat_map (monitor_text l.fn.all l.fn.inst s) (enumerate_from 0 l.fn.inst.monitors)
