-- The last number is read at the end of the list.
use Rattle.xhstt_resolve.proofs.JoinedLemmas.{ends_with_at}
use Rattle.xhstt_resolve.proofs.members.is_last.Goals as goal

pub returns-in-Some : goal.returns-in-Some
returns-in-Some c = ends_with_at c.args.number c.in-Some.last.now c.args.numbers.now c.in-Some.ensures.value
