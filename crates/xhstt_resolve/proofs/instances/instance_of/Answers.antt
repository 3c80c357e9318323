-- An instance that keeps its limits is well made.
use Rattle.std.proofs.Common.{subst, sym}
use Rattle.khe_instance.specs.WellMade.{AreWellMade}
use Rattle.xhstt_resolve.proofs.WellMade.{parts-well-made}
use Rattle.xhstt_resolve.proofs.instances.instance_of.Goals as goal

pub new-requires : goal.new-requires
new-requires c =
    let i = c.args.raw.now in
    subst AreWellMade (sym c.in_ok-parts.ensures.made)
    (parts-well-made i c.requires.sound c.in_ok-parts.ensures.within c.requires.formed)
