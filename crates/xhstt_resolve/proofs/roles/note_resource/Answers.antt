-- An event resource without a role is in no list.
use Rattle.std.proofs.Common.{◌∙◌}
use Rattle.std.proofs.lemmas.Result.{on_ok_weaker}
use Rattle.xhstt_resolve.specs.Roles.{held}
use Rattle.xhstt_resolve.proofs.RolesLemmas.{no_role_noted, role_noted}
use Rattle.xhstt_resolve.proofs.roles.note_resource.Goals as goal

pub returns-in-Some-clause-added : goal.returns-in-Some-clause-added
returns-in-Some-clause-added c =
    on_ok_weaker c.note_role.result
    (λ h role. h role ∙ role_noted role (held c.args.names.now c.args.lists.now.items role) c.args.place
    c.args.resource.now.role c.in-Some.role c.in-Some.is) c.note_role.ensures.added

pub returns-in-None-clause-added : goal.returns-in-None-clause-added
returns-in-None-clause-added c = λ role.
    no_role_noted role (held c.args.names.now c.args.lists.now.items role) c.args.place c.args.resource.now.role c.in-None.is
