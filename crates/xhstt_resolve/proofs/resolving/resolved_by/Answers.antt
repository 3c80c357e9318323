-- The archive's instances are in form.
use Rattle.std.proofs.Common.{All, subst, sym}
use Rattle.xhstt_resolve.proofs.resolving.resolved_by.Goals as goal
use Rattle.xhstt_shape.specs.WellFormed.{IsInstance}

pub made_instances-requires : goal.made_instances-requires
made_instances-requires c = subst (All IsInstance) (sym c.as_slice.ensures) c.requires.formed.instances
