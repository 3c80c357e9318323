use Rattle.std.proofs.Common.{◌<◌, None, cond, arith, ap, get_or, length, set}
use Rattle.std.proofs.lemmas.Bool.{le-ltb, lt-ltb}
use Rattle.std.proofs.lemmas.List.{length-set}
use Rattle.followers.proofs.LinkLaws.{count_some, to_leader, untied_linked}
use Rattle.followers.proofs.table.untie.Goals as goal

pub bounds-counts-leader : goal.bounds-counts-leader
bounds-counts-leader c =
    let k : c.in-Some.old.leader.0 < length c.args.ties.now = c.requires.linked.leaders c.in-Some.old.leader.0
    c.args.meet (to_leader c.args.ties.now c.args.meet c.in-Some.old c.in-Some.is) in
    omega (arith, k, c.requires.linked.long_counts)

pub overflow_sub-counts : goal.overflow_sub-counts
overflow_sub-counts c = count_some c.args.ties.now c.args.first.now c.args.next.now c.args.prev.now c.args.counts.now
    c.args.meet c.in-Some.old.leader.0 c.requires.linked c.requires.there
    (to_leader c.args.ties.now c.args.meet c.in-Some.old c.in-Some.is)

pub bounds-counts-leader-2 : goal.bounds-counts-leader-2
bounds-counts-leader-2 c =
    let k : c.in-Some.old.leader.0 < length c.args.ties.now = c.requires.linked.leaders c.in-Some.old.leader.0
    c.args.meet (to_leader c.args.ties.now c.args.meet c.in-Some.old c.in-Some.is) in
    omega (arith, k, c.requires.linked.long_counts)

pub bounds-first-leader : goal.bounds-first-leader
bounds-first-leader c =
    let k : c.in-Some.old.leader.0 < length c.args.ties.now = c.requires.linked.leaders c.in-Some.old.leader.0
    c.args.meet (to_leader c.args.ties.now c.args.meet c.in-Some.old c.in-Some.is) in
    omega (arith, k, c.requires.linked.long_first)

pub returns-then-before-ties-clause-linked : goal.returns-then-before-ties-clause-linked
returns-then-before-ties-clause-linked c =
    let l = c.in-Some.old.leader.0 in
    let after = get_or c.args.next.now c.args.meet 0 in
    let long = length-set c.args.ties.now c.args.meet None in
    untied_linked c.args.ties.now c.args.first.now c.args.next.now c.args.prev.now c.args.counts.now
    (set c.args.first.now l after) c.write.new.row c.write-2.new.row c.args.meet l c.requires.linked c.requires.there
    (to_leader c.args.ties.now c.args.meet c.in-Some.old c.in-Some.is)
    (ap (λ b. cond b c.args.first.now (set c.args.first.now l after))
    (le-ltb (get_or c.args.prev.now c.args.meet 0) (length c.args.ties.now) (omega (arith, long, c.if-before-ties.true))))
    c.write.ensures c.write-2.ensures

pub returns-else-before-ties-clause-linked : goal.returns-else-before-ties-clause-linked
returns-else-before-ties-clause-linked c =
    let l = c.in-Some.old.leader.0 in
    let after = get_or c.args.next.now c.args.meet 0 in
    let long = length-set c.args.ties.now c.args.meet None in
    untied_linked c.args.ties.now c.args.first.now c.args.next.now c.args.prev.now c.args.counts.now
    c.args.first.now c.write.new.row c.write-2.new.row c.args.meet l c.requires.linked c.requires.there
    (to_leader c.args.ties.now c.args.meet c.in-Some.old c.in-Some.is)
    (ap (λ b. cond b c.args.first.now (set c.args.first.now l after))
    (lt-ltb (get_or c.args.prev.now c.args.meet 0) (length c.args.ties.now) (omega (arith, long, c.if-before-ties.false))))
    c.write.ensures c.write-2.ensures
