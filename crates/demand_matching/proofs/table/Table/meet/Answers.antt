use Rattle.std.proofs.Common.{◌<◌, ◌≤◌, length, arith, get_or, set, ap}
use Rattle.demand_matching.specs.Table.{demands_in}
use Rattle.demand_matching.proofs.Fences.{owner_below}
use Rattle.demand_matching.proofs.Looks.{met_before, met_now}
use Rattle.demand_matching.proofs.Searches.{owner_read, spot_read}
use Rattle.demand_matching.proofs.table.Table.meet.Goals as goal

pub index-requires-2 : goal.index-requires-2
index-requires-2 c =
    let owner = owner_read c.args.self.now c.args.supply c.in-Some.demand c.index.result.now c.requires.table
    c.requires.supply c.index.ensures c.in-Some.is in
    omega (
      arith,
      c.requires.search.order.spots_length,
      owner_below c.args.self.now c.args.supply c.in-Some.demand
          c.requires.table owner,
    )

pub put-requires-clause-demand : goal.put-requires-clause-demand
put-requires-clause-demand c =
    let owner = owner_read c.args.self.now c.args.supply c.in-Some.demand c.index.result.now c.requires.table
    c.requires.supply c.index.ensures c.in-Some.is in
    omega (
      arith,
      c.requires.search.order.order_length,
      owner_below c.args.self.now c.args.supply c.in-Some.demand
          c.requires.table owner,
    )

pub put-requires-clause-place : goal.put-requires-clause-place
put-requires-clause-place c =
    let owner = owner_read c.args.self.now c.args.supply c.in-Some.demand c.index.result.now c.requires.table
    c.requires.supply c.index.ensures c.in-Some.is in
    let below : c.in-Some.demand < demands_in c.args.self.now =
    owner_below c.args.self.now c.args.supply c.in-Some.demand c.requires.table owner in
    let within : c.in-Some.demand < length c.args.order.now.spots.items =
    omega (arith, c.requires.search.order.spots_length) in
    omega (
      arith,
      c.requires.search.order.order_length,
      c.requires.search.order.spot_below c.in-Some.demand below,
      spot_read c.args.order.now.spots.items c.in-Some.demand c.index-2.result.now within c.index-2.ensures,
    )

pub returns-then-index-len : goal.returns-then-index-len
returns-then-index-len c =
    let t = c.args.self.now in
    let owner = owner_read t c.args.supply c.in-Some.demand c.index.result.now c.requires.table c.requires.supply
    c.index.ensures c.in-Some.is in
    let below : c.in-Some.demand < demands_in t = owner_below t c.args.supply c.in-Some.demand c.requires.table owner in
    let within : c.in-Some.demand < length c.args.order.now.spots.items =
    omega (arith, c.requires.search.order.spots_length) in
    let near : get_or c.args.order.now.spots.items c.in-Some.demand 0 < c.args.len =
    omega (
      arith,
      spot_read c.args.order.now.spots.items c.in-Some.demand c.index-2.result.now within
          c.index-2.ensures,
      c.if-index-len.true,
    ) in
    record {
      goes_on = met_before t c.args.stage.head c.args.order.now c.args.unseen.now.items c.clear_bit.new.words.items
          c.args.supply c.in-Some.demand c.args.len c.requires.search c.requires.marked c.clear_bit.ensures.length
          c.clear_bit.ensures.bits owner near;
      reached = record { by = c.in-Some.demand; owner = owner; within = near };
    }

pub returns : goal.returns
returns c =
    let t = c.args.self.now in
    let owner = owner_read t c.args.supply c.in-Some.demand c.index.result.now c.requires.table c.requires.supply
    c.index.ensures c.in-Some.is in
    let below : c.in-Some.demand < demands_in t = owner_below t c.args.supply c.in-Some.demand c.requires.table owner in
    let within : c.in-Some.demand < length c.args.order.now.spots.items =
    omega (arith, c.requires.search.order.spots_length) in
    let far : c.args.len ≤ get_or c.args.order.now.spots.items c.in-Some.demand 0 =
    omega (
      arith,
      spot_read c.args.order.now.spots.items c.in-Some.demand c.index-2.result.now within
          c.index-2.ensures,
      c.if-index-len.false,
    ) in
    record {
      goes_on =
          met_now t c.args.stage.head c.args.order.now _ c.args.unseen.now.items c.clear_bit.new.words.items
          c.in-Some.demand
          c.args.stage.place c.args.len c.args.supply c.requires.table c.requires.search c.requires.marked
          c.put.ensures.order c.put.ensures.change
          (ap (λ v. set v.items c.in-Some.demand c.args.stage.place) c.put.ensures.met_from) owner c.requires.head
          c.requires.place far c.requires.allowed c.clear_bit.ensures.length c.clear_bit.ensures.bits;
      reached = record { by = c.in-Some.demand; owner = owner; within = omega (arith, c.put.ensures.change.moved) };
    }
