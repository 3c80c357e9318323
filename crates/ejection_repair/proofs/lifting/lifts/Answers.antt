use Rattle.std.proofs.Common.{Some, ap, sym, ◌∙◌}
use Rattle.ejection_repair.proofs.LiftLaws.{same_moved}
use Rattle.ejection_repair.proofs.lifting.lifts.Goals as goal

pub returns-in-Some : goal.returns-in-Some
returns-in-Some c =
    λ h. sym c.lifted_by.ensures ∙ c.in-Some.is
    ∙ ap Some (same_moved c.in-Some.own c.args.moved (sym c.is_same.ensures ∙ h))
