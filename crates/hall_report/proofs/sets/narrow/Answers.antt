use Rattle.std.proofs.Common.{◌∙◌, length, set, ap, sym, subst}
use Rattle.khe_base.specs.IdSet.{has_member}
use Rattle.hall_report.specs.Sets.{AreSets, has_both}
use Rattle.hall_report.proofs.NarrowLaws.{owned, pushed, pushed_at, read_at}
use Rattle.hall_report.proofs.sets.narrow.Goals as goal

pub returns-in_ok-push-clause-sets : goal.returns-in_ok-push-clause-sets
returns-in_ok-push-clause-sets c =
    let read = read_at c.args.shared (length c.args.allowed.now) c.args.entry c.index-number.result.now c.args.sets.now
    c.as_slice.result.now c.args.entries.now.items c.index-as_slice-number.result c.requires.sets c.requires.entry
    c.index-number.ensures c.as_slice.ensures c.index-as_slice-number.is in
    pushed c.args.shared (length c.args.allowed.now) c.len-own.result c.args.entry c.args.sets.now c.push.new.self
    c.args.entries.now.items c.in_ok-set.set c.requires.sets c.requires.entry (c.in_ok-set.ensures.size ∙ read.1)
    c.len-own.ensures c.in_ok-push.ensures.ok

pub returns-in_ok-push-clause-narrowed : goal.returns-in_ok-push-clause-narrowed
returns-in_ok-push-clause-narrowed c = λ n.
    let read = read_at c.args.shared (length c.args.allowed.now) c.args.entry c.index-number.result.now c.args.sets.now
    c.as_slice.result.now c.args.entries.now.items c.index-as_slice-number.result c.requires.sets c.requires.entry
    c.index-number.ensures c.as_slice.ensures c.index-as_slice-number.is in
    ap (λ z. has_member z n) (pushed_at c.len-own.result c.args.entry c.args.sets.now c.push.new.self
    c.args.entries.now.items c.in_ok-set.set c.requires.entry c.len-own.ensures c.in_ok-push.ensures.ok)
    ∙ c.in_ok-set.ensures.members n
    ∙ ap (λ z. has_both z c.args.allowed.now n) read.0

pub returns-else-number-shared-clause-sets : goal.returns-else-number-shared-clause-sets
returns-else-number-shared-clause-sets c =
    let read = read_at c.args.shared (length c.args.allowed.now) c.args.entry c.index-number.result.now c.args.sets.now
    c.as_slice.result.now c.args.entries.now.items c.index-as_slice-number.result c.requires.sets c.requires.entry
    c.index-number.ensures c.as_slice.ensures c.index-as_slice-number.is in
    subst (λ k. AreSets c.args.shared (length c.args.allowed.now) (set k c.index-number.result.now c.in_ok-set.set)
    c.args.entries.now.items) (sym c.sets.view_is)
    (owned c.args.shared (length c.args.allowed.now) c.index-number.result.now c.args.sets.now c.args.entries.now.items
    c.in_ok-set.set c.requires.sets (c.in_ok-set.ensures.size ∙ read.1))
