use Rattle.std.proofs.Common.{refl, ap, sym, ◌∙◌, arith}
use Rattle.khe_engine.specs.States.{edited}
use Rattle.khe_engine.specs.Worlds.{World}
use Rattle.ejection_repair.proofs.EndLaws as ends
use Rattle.ejection_repair.proofs.endings.try_one.Goals as goal

pub returns-then-left-eq0-clause-looks : goal.returns-then-left-eq0-clause-looks
returns-then-left-eq0-clause-looks g c =
    (ends.one_spent _ _ _ _ _ c.if-left-eq0.true, refl, refl, c.if-left-eq0.true)

pub returns-then-is_lower_after-clause-looks : goal.returns-then-is_lower_after-clause-looks
returns-then-is_lower_after-clause-looks g c =
    let w = c.args.engine.now in
    ends.one_found w c.args.edit c.args.aim.now.lowest c.args.left.now _
    (c.keep.ensures.state ∙ c.make.ensures.state
    ∙ ap (λ (v : World). edited v.state c.args.edit) c.is_lower_after.ensures.same) (omega arith)
    (sym c.is_lower_after.ensures.lower ∙ c.if-is_lower_after.true)

pub returns-clause-looks : goal.returns-clause-looks
returns-clause-looks g c =
    let w = c.args.engine.now in (
      ends.one_through w c.args.edit c.args.aim.now.lowest c.args.left.now (omega arith)
          (sym c.is_lower_after.ensures.lower ∙ c.if-is_lower_after.false),
      ap (λ (v : World). v.state) c.is_lower_after.ensures.same,
      ap (λ (v : World). v.saved) c.is_lower_after.ensures.same,
    )
