use Rattle.std.proofs.Common.{◌+◌, ◌<◌, get_or, sym, ap, ◌∙◌, arith}
use Rattle.std.specs.Prelude.{is_some}
use Rattle.std.proofs.lemmas.Bool.{false≢true}
use Rattle.demand_matching.specs.Table.{domains_of, demands_in}
use Rattle.demand_matching.proofs.Fences.{within_less}
use Rattle.demand_matching.proofs.Searches.{goes_on_trans, domain_read, search_more, search_shorter}
use Rattle.demand_matching.proofs.Supplies.{may_is}
use Rattle.demand_matching.proofs.table.Table.search.Goals as goal

pub unreachable-requires : goal.unreachable-requires
unreachable-requires c =
    let t = c.args.self.now in
    let order = c.loop-place.order.demands.items in
    let inv = c.loop-place.invariant in
    let search = inv.goes_on.search in
    let near : c.loop-place.place < demands_in t = omega (arith, search.len_fits) in
    let read = domain_read t order c.loop-place.place c.index-demand.result.now c.index.result.now
    (omega (arith, search.order.order_length)) (search.order.order_below c.loop-place.place near)
    c.index-demand.ensures c.index.ensures in
    let some = search.there c.loop-place.place c.loop-place-test.true in
    false≢true (sym (ap is_some (sym read ∙ c.in_default.is)) ∙ some)

pub free_in-requires-clause-domain : goal.free_in-requires-clause-domain
free_in-requires-clause-domain c =
    let t = c.args.self.now in
    let order = c.loop-place.order.demands.items in
    let inv = c.loop-place.invariant in
    let search = inv.goes_on.search in
    let near : c.loop-place.place < demands_in t = omega (arith, search.len_fits) in
    let read = domain_read t order c.loop-place.place c.index-demand.result.now c.index.result.now
    (omega (arith, search.order.order_length)) (search.order.order_below c.loop-place.place near)
    c.index-demand.ensures c.index.ensures in
    c.requires.table.in_range (get_or order c.loop-place.place 0) c.in-Some.domain (sym read ∙ c.in-Some.is)

pub meet_all-met-requires-clause-domain : goal.meet_all-met-requires-clause-domain
meet_all-met-requires-clause-domain c =
    let t = c.args.self.now in
    let order = c.loop-place.order.demands.items in
    let inv = c.loop-place.invariant in
    let search = inv.goes_on.search in
    let near : c.loop-place.place < demands_in t = omega (arith, search.len_fits) in
    let read = domain_read t order c.loop-place.place c.index-demand.result.now c.index.result.now
    (omega (arith, search.order.order_length)) (search.order.order_below c.loop-place.place near)
    c.index-demand.ensures c.index.ensures in
    sym read ∙ c.in-Some.is

pub meet_all-met-requires-clause-taken : goal.meet_all-met-requires-clause-taken
meet_all-met-requires-clause-taken c =
    let t = c.args.self.now in
    let order = c.loop-place.order.demands.items in
    let inv = c.loop-place.invariant in
    let search = inv.goes_on.search in
    let near : c.loop-place.place < demands_in t = omega (arith, search.len_fits) in
    let read = domain_read t order c.loop-place.place c.index-demand.result.now c.index.result.now
    (omega (arith, search.order.order_length)) (search.order.order_below c.loop-place.place near)
    c.index-demand.ensures c.index.ensures in
    λ s may free. c.in-None.ensures s (sym (may_is (domains_of t) c.in-Some.domain (get_or order c.loop-place.place 0) s
    (sym read ∙ c.in-Some.is)) ∙ may) free

pub returns-in-Some-free_in : goal.returns-in-Some-free_in
returns-in-Some-free_in c =
    let t = c.args.self.now in
    let order = c.loop-place.order.demands.items in
    let inv = c.loop-place.invariant in
    let search = inv.goes_on.search in
    let near : c.loop-place.place < demands_in t = omega (arith, search.len_fits) in
    let read = domain_read t order c.loop-place.place c.index-demand.result.now c.index.result.now
    (omega (arith, search.order.order_length)) (search.order.order_below c.loop-place.place near)
    c.index-demand.ensures c.index.ensures in
    let g = inv.goes_on in
    let it = c.in-Some-free_in.ensures in
    record {
      search = search_shorter t c.args.head order c.loop-place.order.spots.items c.loop-place.order.met_from.items
          c.loop-place.met (c.loop-place.place + 1) (omega arith) search;
      keeps = g.keeps;
      within = within_less t c.args.order.now c.loop-place.order c.args.left c.loop-place.met g.within;
      marked = c.unmark.ensures;
      after = inv.from_head;
      below = it.below;
      free = it.free;
      allowed = may_is (domains_of t) c.in-Some.domain (get_or order c.loop-place.place 0) c.in-Some-free_in.supply
          (sym read ∙ c.in-Some.is) ∙ it.admitted;
    }

pub loop-place-preserved : goal.loop-place-preserved
loop-place-preserved c =
    let t = c.args.self.now in
    let inv = c.loop-place.invariant in
    let g = c.meet_all-met.ensures.goes_on in
    record {
      from_head = omega (arith, inv.from_head);
      within = omega (arith, g.longer);
      goes_on = goes_on_trans t c.args.head c.args.order.now c.loop-place.order c.meet_all-met.new.order
          c.loop-place.unseen.items c.meet_all-met.new.unseen.items c.args.left c.loop-place.met c.meet_all-met.result
          c.requires.table inv.goes_on g;
      closed = search_more t c.loop-place.order c.meet_all-met.new.order c.meet_all-met.new.unseen.items c.args.head
          c.loop-place.place c.loop-place.met c.meet_all-met.result c.loop-place-test.true g inv.closed
          c.meet_all-met.ensures.reached;
    }
