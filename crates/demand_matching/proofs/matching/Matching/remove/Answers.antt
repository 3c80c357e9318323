use Rattle.std.proofs.Common.{◌<◌, ◌≡◌, true, not, sym, ap, ◌∙◌, arith, None}
use Rattle.std.specs.Prelude.{is_some}
use Rattle.demand_matching.specs.Table.{demands_in}
use Rattle.demand_matching.proofs.Keeps.{present_read}
use Rattle.demand_matching.proofs.Ready.{leaves_marked, leaves_unseen, leaves_unmark, ready_closed, ready_open}
use Rattle.demand_matching.proofs.Ready.{ready_outside, ready_left}
use Rattle.demand_matching.proofs.Removals.{Drops, leaves_from, far_from, leaves_search, leaves_some}
use Rattle.demand_matching.proofs.Shut.{same_count}
use Rattle.demand_matching.proofs.matching.Matching.remove.Goals as goal

pub set_bit-requires : goal.set_bit-requires
set_bit-requires c =
    let near : c.args.demand < demands_in c.self.inside.table = rw (← c.self.view_is) at c.requires in
    let max = c.self.invariant.maximum in
    omega (
      arith,
      max.table.matching.supply c.args.demand c.in-Some.supply (sym c.in-Some.ensures.result),
      c.self.invariant.marked.room,
    )

pub search-requires-clause-search : goal.search-requires-clause-search
search-requires-clause-search c =
    let near : c.args.demand < demands_in c.self.inside.table = rw (← c.self.view_is) at c.requires in
    let e = c.in-Some.ensures in
    let drops : Drops c.self.inside.table c.drop_domain.new.self c.args.demand =
    record { below = near; table = e.table; domains = e.domains; none = e.none; others = e.others } in
    let p = c.put-in-Some.ensures in
    let it = leaves_from c.self.inside.table c.drop_domain.new.self c.self.inside.order c.put-in-Some.new.self
    c.args.demand c.self.inside.left c.self.inside.met c.in-Some.supply c.index-2.result.now
    c.self.invariant.maximum drops (sym e.result) c.index-2.ensures c.if-inside.true
    (record { order = p.order; met_from = p.met_from; change = p.change }) in
    leaves_search c.self.inside.table c.drop_domain.new.self c.self.inside.order c.put-in-Some.new.self c.args.demand
    c.self.inside.left c.self.inside.met c.in-Some.supply it

pub search-requires-clause-marked : goal.search-requires-clause-marked
search-requires-clause-marked c =
    let near : c.args.demand < demands_in c.self.inside.table = rw (← c.self.view_is) at c.requires in
    let e = c.in-Some.ensures in
    let drops : Drops c.self.inside.table c.drop_domain.new.self c.args.demand =
    record { below = near; table = e.table; domains = e.domains; none = e.none; others = e.others } in
    let p = c.put-in-Some.ensures in
    let it = leaves_from c.self.inside.table c.drop_domain.new.self c.self.inside.order c.put-in-Some.new.self
    c.args.demand c.self.inside.left c.self.inside.met c.in-Some.supply c.index-2.result.now
    c.self.invariant.maximum drops (sym e.result) c.index-2.ensures c.if-inside.true
    (record { order = p.order; met_from = p.met_from; change = p.change }) in
    leaves_unseen c.self.inside.table c.drop_domain.new.self c.self.inside.order c.put-in-Some.new.self
    c.self.inside.unseen.items c.args.demand c.self.inside.left c.self.inside.met c.in-Some.supply it
    c.self.invariant.all_set

pub unmark-requires-clause-marked : goal.unmark-requires-clause-marked
unmark-requires-clause-marked c =
    let near : c.args.demand < demands_in c.self.inside.table = rw (← c.self.view_is) at c.requires in
    let e = c.in-Some.ensures in
    let drops : Drops c.self.inside.table c.drop_domain.new.self c.args.demand =
    record { below = near; table = e.table; domains = e.domains; none = e.none; others = e.others } in
    let p = c.put-in-Some.ensures in
    let it = leaves_from c.self.inside.table c.drop_domain.new.self c.self.inside.order c.put-in-Some.new.self
    c.args.demand c.self.inside.left c.self.inside.met c.in-Some.supply c.index-2.result.now
    c.self.invariant.maximum drops (sym e.result) c.index-2.ensures c.if-inside.true
    (record { order = p.order; met_from = p.met_from; change = p.change }) in
    let marked = leaves_marked c.self.inside.table c.drop_domain.new.self c.self.inside.order c.put-in-Some.new.self
    c.self.inside.outside.items c.set_bit.new.words.items c.args.demand c.self.inside.left c.self.inside.met
    c.in-Some.supply it c.self.invariant.marked c.set_bit.ensures.length c.set_bit.ensures.bits in
    leaves_unmark c.self.inside.table c.drop_domain.new.self c.self.inside.order c.put-in-Some.new.self
    c.search.new.order c.set_bit.new.words.items c.search.new.unseen.items c.args.demand c.self.inside.left
    c.self.inside.met c.in-Some.supply c.in-Closed.less it c.in-Closed.ensures marked

pub unmark-requires-clause-to : goal.unmark-requires-clause-to
unmark-requires-clause-to c =
    let near : c.args.demand < demands_in c.self.inside.table = rw (← c.self.view_is) at c.requires in
    omega (
      arith,
      c.self.invariant.maximum.shut.fits,
      same_count c.self.inside.table c.drop_domain.new.self
          c.args.demand None c.in-Some.ensures.domains,
    )

pub invariant_of-self-in-Closed : goal.invariant_of-self-in-Closed
invariant_of-self-in-Closed c =
    let near : c.args.demand < demands_in c.self.inside.table = rw (← c.self.view_is) at c.requires in
    let e = c.in-Some.ensures in
    let drops : Drops c.self.inside.table c.drop_domain.new.self c.args.demand =
    record { below = near; table = e.table; domains = e.domains; none = e.none; others = e.others } in
    let p = c.put-in-Some.ensures in
    let it = leaves_from c.self.inside.table c.drop_domain.new.self c.self.inside.order c.put-in-Some.new.self
    c.args.demand c.self.inside.left c.self.inside.met c.in-Some.supply c.index-2.result.now
    c.self.invariant.maximum drops (sym e.result) c.index-2.ensures c.if-inside.true
    (record { order = p.order; met_from = p.met_from; change = p.change }) in
    rw (c.swap.ensures.x_after, c.swap.ensures.y_after)
    (ready_closed c.self.inside.table c.drop_domain.new.self c.self.inside.order c.put-in-Some.new.self
    c.search.new.order c.unmark.new.unseen.items c.search.new.unseen.items c.args.demand c.self.inside.left
    c.self.inside.met c.in-Some.supply c.in-Closed.less it c.in-Closed.ensures c.unmark.ensures)

pub overflow_sub-self-in-Open : goal.overflow_sub-self-in-Open
overflow_sub-self-in-Open c =
    let near : c.args.demand < demands_in c.self.inside.table = rw (← c.self.view_is) at c.requires in
    let e = c.in-Some.ensures in
    let drops : Drops c.self.inside.table c.drop_domain.new.self c.args.demand =
    record { below = near; table = e.table; domains = e.domains; none = e.none; others = e.others } in
    let p = c.put-in-Some.ensures in
    let it = leaves_from c.self.inside.table c.drop_domain.new.self c.self.inside.order c.put-in-Some.new.self
    c.args.demand c.self.inside.left c.self.inside.met c.in-Some.supply c.index-2.result.now
    c.self.invariant.maximum drops (sym e.result) c.index-2.ensures c.if-inside.true
    (record { order = p.order; met_from = p.met_from; change = p.change }) in
    let q = c.shift-served.ensures in
    leaves_some c.self.inside.table c.drop_domain.new.self c.shift-served.new.self c.self.inside.order
    c.put-in-Some.new.self c.search.new.order c.search.new.unseen.items c.args.demand c.self.inside.left
    c.self.inside.met c.in-Some.supply c.in-Open.place c.in-Open.supply c.shift-served.result it c.in-Open.ensures
    q.table q.domains q.one

pub invariant_of-self-in-Open : goal.invariant_of-self-in-Open
invariant_of-self-in-Open c =
    let near : c.args.demand < demands_in c.self.inside.table = rw (← c.self.view_is) at c.requires in
    let e = c.in-Some.ensures in
    let drops : Drops c.self.inside.table c.drop_domain.new.self c.args.demand =
    record { below = near; table = e.table; domains = e.domains; none = e.none; others = e.others } in
    let p = c.put-in-Some.ensures in
    let it = leaves_from c.self.inside.table c.drop_domain.new.self c.self.inside.order c.put-in-Some.new.self
    c.args.demand c.self.inside.left c.self.inside.met c.in-Some.supply c.index-2.result.now
    c.self.invariant.maximum drops (sym e.result) c.index-2.ensures c.if-inside.true
    (record { order = p.order; met_from = p.met_from; change = p.change }) in
    let marked = leaves_marked c.self.inside.table c.drop_domain.new.self c.self.inside.order c.put-in-Some.new.self
    c.self.inside.outside.items c.set_bit.new.words.items c.args.demand c.self.inside.left c.self.inside.met
    c.in-Some.supply it c.self.invariant.marked c.set_bit.ensures.length c.set_bit.ensures.bits in
    let q = c.shift-served.ensures in
    let r = c.put-in-Open.ensures in
    ready_open c.self.inside.table c.drop_domain.new.self c.shift-served.new.self c.self.inside.order
    c.put-in-Some.new.self c.search.new.order c.put-in-Open.new.self c.set_bit.new.words.items
    c.search.new.unseen.items c.args.demand c.self.inside.left c.self.inside.met c.in-Some.supply c.in-Open.place
    c.in-Open.supply c.shift-served.result it c.in-Open.ensures q.table q.domains q.one
    (record { order = r.order; met_from = r.met_from; change = r.change }) marked

pub invariant_of-self-else-inside : goal.invariant_of-self-else-inside
invariant_of-self-else-inside c =
    let near : c.args.demand < demands_in c.self.inside.table = rw (← c.self.view_is) at c.requires in
    let e = c.in-Some.ensures in
    let drops : Drops c.self.inside.table c.drop_domain.new.self c.args.demand =
    record { below = near; table = e.table; domains = e.domains; none = e.none; others = e.others } in
    ready_outside c.self.inside.table c.drop_domain.new.self c.self.inside.order c.self.inside.outside.items
    c.self.inside.unseen.items c.args.demand c.self.inside.left c.self.inside.met _ c.self.invariant drops
    (sym e.result)
    (far_from c.self.inside.table c.self.inside.order c.args.demand c.self.inside.left c.self.inside.met
    c.index-2.result.now c.self.invariant.maximum near c.index-2.ensures c.if-inside.false)

pub invariant_of-self : goal.invariant_of-self
invariant_of-self c =
    let near : c.args.demand < demands_in c.self.inside.table = rw (← c.self.view_is) at c.requires in
    let e = c.in-None.ensures in
    let p = c.put.ensures in
    let q = c.put-in-None.ensures in
    let some : is_some c.index.result.now ≡ true = c.is_none.ensures ∙ ap not c.if-is_none.false in
    ready_left c.self.inside.table c.drop_domain.new.self c.self.inside.order c.put.new.self c.put-in-None.new.self
    c.self.inside.outside.items c.self.inside.unseen.items c.args.demand c.self.inside.left c.self.inside.met
    c.self.invariant
    (record {
      maximum = c.self.invariant.maximum;
      drops = record { below = near; table = e.table; domains = e.domains; none = e.none; others = e.others };
      here = present_read c.self.inside.table c.args.demand c.index.result.now near c.index.ensures some;
      none = sym e.result;
      first = record { order = p.order; met_from = p.met_from; change = p.change };
      second = record { order = q.order; met_from = q.met_from; change = q.change };
    })
