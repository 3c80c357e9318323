use Rattle.std.proofs.Common.{◌+◌, ◌∷◌, ap, sym, ◌∙◌, refl}
use Rattle.khe_told.specs.declared.edits.Edit.TheVariants.{SwapTasks}
use Rattle.repair_moves.specs.Moves.{choices, choices_from, edit_of, is_accepted}
use Rattle.repair_moves.specs.declared.parts.Part.TheVariants.{TradeMoves}
use Rattle.repair_moves.proofs.ChoiceLaws.{accepted_is}
use Rattle.repair_moves.proofs.WalkLaws as walks
use Rattle.repair_moves.proofs.walking.next_of_trade.Goals as goal

pub returns-in_err-other-clause-next : goal.returns-in_err-other-clause-next
unfolding choices
returns-in_err-other-clause-next c =
    rw c.from_residual.ensures (walks.choice_none c.args.inst.now c.args.solution.now.slots c.args.point TradeMoves
    c.args.item c.args.from c.in_err-other.ensures.next)

pub returns-clause-next : goal.returns-clause-next
unfolding choices edit_of
returns-clause-next c =
    let k = c.in_ok-other.other.slot in
    let e = c.in_ok-other.ensures.next in
    record {
      choice = k + 1;
      spot = refl;
      next = walks.choice_some c.args.inst.now c.args.solution.now.slots c.args.point TradeMoves c.args.item
          c.args.from k (e.0, e.1, e.2, e.3)
          ∙ ap (λ x. x ∷ choices_from c.args.inst.now c.args.solution.now.slots c.args.point TradeMoves c.args.item
          (k + 1)) (λ i. SwapTasks (sym c.task_at-task.ensures i) (sym e.4 i));
    }

pub returns-clause-moves : goal.returns-clause-moves
unfolding edit_of
returns-clause-moves c =
    let e = c.in_ok-other.ensures.next in (
      accepted_is c.args.inst.now c.args.solution.now.slots (SwapTasks c.task_at-task.result c.in_ok-other.other.task)
          (ap (is_accepted c.args.inst.now c.args.solution.now.slots)
          (λ i. SwapTasks (c.task_at-task.ensures i) (e.4 i)) ∙ e.2),
      refl,
    )
