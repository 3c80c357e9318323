use Rattle.std.proofs.Common.{Some, ◌+◌, arith, subst, sym, set, get_or}
use Rattle.followers.specs.Links.{AreLinked}
use Rattle.followers.proofs.LinkLaws.{count_small, linked_tied}
use Rattle.followers.proofs.table.link.Goals as goal

pub overflow_add-counts : goal.overflow_add-counts
overflow_add-counts c =
    let h = count_small c.args.ties.now c.args.first.now c.args.next.now c.args.prev.now c.args.counts.now
    c.args.tie.leader.0 c.requires.linked c.requires.leader in
    omega (arith, h, c.requires.few)

pub returns-clause-linked : goal.returns-clause-linked
returns-clause-linked c =
    let at = get_or c.args.first.now c.args.tie.leader.0 0 in
    subst (λ xs. AreLinked (set c.args.ties.now c.args.meet (Some c.args.tie))
    (set c.args.first.now c.args.tie.leader.0 c.args.meet) (set c.args.next.now c.args.meet at) xs
    (set c.args.counts.now c.args.tie.leader.0 (get_or c.args.counts.now c.args.tie.leader.0 0 + 1)))
    (sym c.write.ensures)
    (linked_tied c.args.ties.now c.args.first.now c.args.next.now c.args.prev.now c.args.counts.now c.args.meet
    c.args.tie c.requires.linked c.requires.there c.requires.leader c.requires.free)
