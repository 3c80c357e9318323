-- Nothing is named.
use Rattle.std.proofs.Common.{◌∙◌, sym, ap}
use Rattle.std.specs.Option.{option_copied, option_to_list}
use Rattle.xhstt_resolve.specs.Joined.{joined}
use Rattle.xhstt_resolve.specs.Members.{named}
use Rattle.xhstt_resolve.proofs.JoinedLemmas.{joined-nil}
use Rattle.xhstt_resolve.proofs.members.join_optional.Goals as goal

pub returns-in-None : goal.returns-in-None
returns-in-None c =
    sym (ap (λ r. joined c.args.number (named (option_to_list (option_copied r))) c.args.names.now
    c.args.lists.now.items) c.in-None.is
    ∙ joined-nil c.args.number c.args.names.now c.args.lists.now.items)
