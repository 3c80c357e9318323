use Rattle.std.proofs.Common.{sym, ◌∙◌, ap}
use Rattle.khe_solution.specs.Refusing.{refusal, checked}
use Rattle.khe_solution.proofs.checks.check.Goals as goal

pub returns-in-SwapMeets : goal.returns-in-SwapMeets
unfolding refusal
returns-in-SwapMeets c = record {
  answer = c.check_swap_meets.ensures
      ∙ ap (λ e. checked (refusal c.args.inst.now c.args.told.now e)) (sym c.in-SwapMeets.is);
}
