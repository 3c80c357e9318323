use Rattle.std.proofs.Common.{sym, arith, subst}
use Rattle.set_monitors.specs.Handings.{IsHanded}
use Rattle.set_monitors.proofs.HandingLaws.{handed_nothing}
use Rattle.set_monitors.proofs.holder_effects.above_after.Goals as goal

pub returns : goal.returns
returns c = λ f mid are handed.
    let a = c.above_with-once.ensures.value f f are
    (subst (λ h. IsHanded f h f) (sym c.no_handing.ensures) (handed_nothing f)) in
    let b = c.above_with.ensures.value f mid are handed in
    omega (arith, a, b)
