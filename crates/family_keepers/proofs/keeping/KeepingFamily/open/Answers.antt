-- Both states are without meets, which is told.
use Rattle.std.proofs.Common.{◌∙◌, subst, sym}
use Rattle.khe_told.specs.Fits.{AreTold}
use Rattle.khe_told.proofs.FreeSlots.{told_opened}
use Rattle.family_keepers.proofs.keeping.KeepingFamily.open.Goals as goal

pub returns-clause-of : goal.returns-clause-of
returns-clause-of g c =
    let p = c.args.inst.now in
    let none = sym (c.in_ok-told.ensures) in (
      subst (g.K.Keeper.Keeps c.in_ok-keeper.keeper p) none (c.in_ok-keeper.ensures),
      c.in_ok-ahead.ensures ∙ none,
      subst (AreTold p) none (told_opened p),
    )
