use Rattle.std.proofs.Common.{◌+◌, ◌∷◌, ap, sym, ◌∙◌, refl}
use Rattle.khe_base.specs.declared.numbers.TaskId.{TaskId}
use Rattle.repair_moves.specs.Moves.{choices, choices_from, edit_of, is_accepted, task_move}
use Rattle.repair_moves.specs.declared.parts.Part.TheVariants.{TaskMoves}
use Rattle.repair_moves.proofs.ChoiceLaws.{accepted_is}
use Rattle.repair_moves.proofs.WalkLaws as walks
use Rattle.repair_moves.proofs.walking.next_of_task.Goals as goal

pub returns-in_err-choice-clause-next : goal.returns-in_err-choice-clause-next
unfolding choices
returns-in_err-choice-clause-next c =
    rw c.from_residual.ensures (walks.choice_none c.args.inst.now c.args.solution.now.slots c.args.point TaskMoves
    c.args.item c.args.from c.in_err-choice.ensures.next)

pub returns-clause-next : goal.returns-clause-next
unfolding choices edit_of
returns-clause-next c =
    let k = c.in_ok-choice.choice in
    record {
      choice = k + 1;
      spot = refl;
      next = walks.choice_some c.args.inst.now c.args.solution.now.slots c.args.point TaskMoves c.args.item
          c.args.from k c.in_ok-choice.ensures.next
          ∙ ap (λ e. e ∷ choices_from c.args.inst.now c.args.solution.now.slots c.args.point TaskMoves c.args.item
          (k + 1)) (sym (c.task_move.ensures.edit
          ∙ ap (λ (t : TaskId). task_move c.args.solution.now.slots t k) c.task_at-task.ensures));
    }

pub returns-clause-moves : goal.returns-clause-moves
unfolding edit_of
returns-clause-moves c =
    let passes = c.in_ok-choice.ensures.next.2 in (
      accepted_is c.args.inst.now c.args.solution.now.slots c.task_move.result
          (ap (is_accepted c.args.inst.now c.args.solution.now.slots) (c.task_move.ensures.edit
          ∙ ap (λ (t : TaskId). task_move c.args.solution.now.slots t c.in_ok-choice.choice) c.task_at-task.ensures)
          ∙ passes),
      c.task_move.ensures.ours,
    )
