use Rattle.std.proofs.Common.{subst, sym}
use Rattle.followers.specs.Carrying.{MayCarry}
use Rattle.followers.proofs.carrying.carry.Goals as goal

pub carry_all-requires-clause-may : goal.carry_all-requires-clause-may
carry_all-requires-clause-may g c = subst
    (λ ties. MayCarry c.args.engine.now.parts c.args.engine.now.state.slots ties c.args.leader.0 c.args.start)
    (sym c.links-links.ensures.ties) c.requires.may
