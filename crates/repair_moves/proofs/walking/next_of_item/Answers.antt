use Rattle.std.proofs.Common.{◌+◌, ◌∷◌, ap, sym, ◌∙◌, refl}
use Rattle.repair_moves.specs.Moves.{choices_from, is_accepted}
use Rattle.repair_moves.proofs.ChoiceLaws.{accepted_is}
use Rattle.repair_moves.proofs.WalkLaws as walks
use Rattle.repair_moves.proofs.walking.next_of_item.Goals as goal

pub returns-in_err-choice-clause-next : goal.returns-in_err-choice-clause-next
returns-in_err-choice-clause-next c =
    rw c.from_residual.ensures (walks.choice_none c.args.inst.now c.args.solution.now.slots c.args.point c.args.part
    c.args.item c.args.from c.in_err-choice.ensures.next)

pub returns-clause-next : goal.returns-clause-next
returns-clause-next c =
    let k = c.in_ok-choice.choice in
    record {
      choice = k + 1;
      spot = refl;
      next = walks.choice_some c.args.inst.now c.args.solution.now.slots c.args.point c.args.part c.args.item
          c.args.from k c.in_ok-choice.ensures.next
          ∙ ap (λ e. e ∷ choices_from c.args.inst.now c.args.solution.now.slots c.args.point c.args.part c.args.item
          (k + 1)) (sym c.edit_of.ensures.edit);
    }

pub returns-clause-moves : goal.returns-clause-moves
returns-clause-moves c =
    let passes = c.in_ok-choice.ensures.next.2 in (
      accepted_is c.args.inst.now c.args.solution.now.slots c.edit_of.result
          (ap (is_accepted c.args.inst.now c.args.solution.now.slots) c.edit_of.ensures.edit ∙ passes),
      c.edit_of.ensures.ours,
    )
