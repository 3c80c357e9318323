-- The group that is named is found by its number.
use Rattle.std.proofs.Common.{◌∙◌, sym}
use Rattle.std.proofs.lemmas.Result.{on_ok_weaker}
use Rattle.xhstt_resolve.proofs.JoinedLemmas.{joined-numbered, joined-unnumbered}
use Rattle.xhstt_resolve.proofs.members.join_one.Goals as goal

pub returns-in-Some : goal.returns-in-Some
returns-in-Some c =
    on_ok_weaker c.add_last.result
    (λ e. e ∙ sym (joined-numbered c.args.number c.in-Some.group c.args.reference.now.id c.args.names.now
    c.args.lists.now.items (sym c.in-Some.ensures) c.requires.distinct c.requires.same))
    c.add_last.ensures

pub returns-in-None : goal.returns-in-None
returns-in-None c = sym (joined-unnumbered c.args.number c.args.reference.now.id c.args.names.now c.args.lists.now.items
    (sym c.in-None.ensures))
