-- One that is left is given for the role, if any is.
use Rattle.std.proofs.Common.{◌≡◌, drop}
use Rattle.std.specs.List.{list_any}
use Rattle.khe_base.specs.Text.{characters}
use Rattle.khe_instance.specs.Lookups.{is_role}
use Rattle.xhstt_completion.specs.Entries.{role_of}
use Rattle.xhstt_completion.proofs.causes.is_any_given_for.Given as goal

abbrev pub invariant-loop-other : goal.invariant-loop-other
invariant-loop-other l =
    list_any (λ other. is_role (characters l.role) (role_of other)) (drop l.other-index l.given)
    ≡ list_any (λ other. is_role (characters l.role) (role_of other)) l.given
