use Rattle.std.proofs.Common.{◌≡◌, sym, ap, ◌∙◌, arith}
use Rattle.repair_moves.specs.Moves.{is_accepted, is_choice}
use Rattle.repair_moves.specs.declared.parts.Part.TheVariants.{Gives}
use Rattle.repair_moves.proofs.ChoiceLaws as laws
use Rattle.repair_moves.proofs.choosing.next_give.Goals as goal
use Rattle.khe_told.specs.declared.edits.Edit.TheVariants.{Give}

pub returns-then-accepts-clause-next : goal.returns-then-accepts-clause-next
returns-then-accepts-clause-next c =
    let z : c.args.from ≡ 0 = let q = c.if-from-gt0.false in omega (arith, q) in (
      omega (arith, z),
      omega (arith),
      laws.Gives_is c.args.inst.now c.args.solution.now.slots c.args.point c.args.item 0
          ∙ (λ i. is_accepted c.args.inst.now c.args.solution.now.slots
          (Give (sym c.task_at.ensures i) (sym c.resource_of.ensures i))) ∙ sym c.accepts.ensures ∙ c.if-accepts.true,
      λ k a b. absurd (omega (arith, b)),
    )

pub returns-else-accepts-clause-next : goal.returns-else-accepts-clause-next
returns-else-accepts-clause-next c = λ k a b. (let z : k ≡ 0 = omega (arith, b) in
    ap (is_choice c.args.inst.now c.args.solution.now.slots c.args.point Gives c.args.item) z
    ∙ laws.Gives_is c.args.inst.now c.args.solution.now.slots c.args.point c.args.item 0
    ∙ (λ i. is_accepted c.args.inst.now c.args.solution.now.slots
    (Give (sym c.task_at.ensures i) (sym c.resource_of.ensures i))) ∙ sym c.accepts.ensures ∙ c.if-accepts.false)
