-- The role leads to its event resources.
use Rattle.std.proofs.Common.{◌∙◌}
use Rattle.xhstt_resolve.proofs.points.follow_events.Goals as goal

pub follow_role-requires-clause-places : goal.follow_role-requires-clause-places
follow_role-requires-clause-places g c = c.with_role-places.ensures ∙ c.requires.roles.places c.in-Some.role.now
