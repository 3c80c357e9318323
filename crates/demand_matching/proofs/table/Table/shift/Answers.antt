use Rattle.std.proofs.Common.{◌*◌, ◌<◌, ◌≡◌, None, Some, length, get_or, sym, ap, ◌∙◌, arith, inl, inr}
use Rattle.std.specs.Prelude.{is_none}
use Rattle.demand_matching.specs.Table.{domains_of, may_take, supply_of, demands_in}
use Rattle.demand_matching.proofs.Counting.{cases_eqb}
use Rattle.demand_matching.proofs.Duality.{some_not_none}
use Rattle.demand_matching.proofs.Searches.{spot_read}
use Rattle.demand_matching.proofs.Shifts.{shift_met, not_supply, apart}
use Rattle.demand_matching.proofs.table.Table.shift.Goals as goal

pub loop-freed-smaller : goal.loop-freed-smaller
loop-freed-smaller c =
    let inv = c.loop-freed.invariant in
    let search = c.requires.search in
    let near : c.loop-freed.place < demands_in c.args.self.now = omega (arith, search.len_fits) in
    let in_order : c.loop-freed.place < length c.args.order.now.demands.items =
    omega (arith, search.order.order_length) in
    let is : c.index-demand.result.now ≡ get_or c.args.order.now.demands.items c.loop-freed.place 0 =
    spot_read c.args.order.now.demands.items c.loop-freed.place c.index-demand.result.now in_order
    c.index-demand.ensures in
    let met = shift_met c.args.self.now c.loop-freed.self c.args.head c.args.order.now.demands.items
    c.args.order.now.spots.items c.args.order.now.met_from.items c.index-demand.result.now c.loop-freed.place
    c.args.place c.in-Some.freed search inv.high inv.near (inv.same c.loop-freed.place (omega arith)) is
    (sym c.in-Some.ensures.result) in
    let in_met : c.index-demand.result.now < length c.args.order.now.met_from.items =
    omega (arith, search.met_length, search.order.order_below c.loop-freed.place near) in
    omega (
      arith,
      spot_read c.args.order.now.met_from.items c.index-demand.result.now c.index-place.result.now in_met
          c.index-place.ensures,
      ap (λ v. get_or c.args.order.now.met_from.items v 0) is,
      met.before,
    )

pub loop-freed-preserved : goal.loop-freed-preserved
loop-freed-preserved c =
    let inv = c.loop-freed.invariant in
    let search = c.requires.search in
    let t = c.give.new.self in
    let order = c.args.order.now.demands.items in
    let near : c.loop-freed.place < demands_in c.args.self.now = omega (arith, search.len_fits) in
    let in_order : c.loop-freed.place < length c.args.order.now.demands.items =
    omega (arith, search.order.order_length) in
    let is : c.index-demand.result.now ≡ get_or c.args.order.now.demands.items c.loop-freed.place 0 =
    spot_read c.args.order.now.demands.items c.loop-freed.place c.index-demand.result.now in_order
    c.index-demand.ensures in
    let owns : supply_of c.loop-freed.self c.index-demand.result.now ≡ Some c.in-Some.freed =
    sym c.in-Some.ensures.result in
    let met = shift_met c.args.self.now c.loop-freed.self c.args.head c.args.order.now.demands.items
    c.args.order.now.spots.items c.args.order.now.met_from.items c.index-demand.result.now c.loop-freed.place
    c.args.place c.in-Some.freed search inv.high inv.near (inv.same c.loop-freed.place (omega arith)) is owns in
    let in_met : c.index-demand.result.now < length c.args.order.now.met_from.items =
    omega (arith, search.met_length, search.order.order_below c.loop-freed.place near) in
    let next : c.index-place.result.now ≡ get_or c.args.order.now.met_from.items
    (get_or c.args.order.now.demands.items c.loop-freed.place 0) 0 =
    spot_read c.args.order.now.met_from.items c.index-demand.result.now c.index-place.result.now in_met
    c.index-place.ensures ∙ ap (λ v. get_or c.args.order.now.met_from.items v 0) is in
    let less : c.index-place.result.now < c.loop-freed.place = omega (arith, met.before) in
    let domains : domains_of c.give.new.self ≡ domains_of c.args.self.now =
    c.give.ensures.domains ∙ c.release-old.ensures.domains ∙ inv.domains in
    record {
      high = omega (arith, met.after);
      near = omega (arith, inv.near);
      table = c.give.ensures.table;
      domains = domains;
      below = omega (arith, c.in-Some.ensures.freed.0, ap (λ w. w.width * w.last) c.give.ensures.domains);
      free = c.give.ensures.owners c.in-Some.freed (not_supply c.loop-freed.self c.index-demand.result.now
          c.in-Some.freed c.loop-freed.supply inv.table owns inv.free) ∙ c.in-Some.ensures.freed.1;
      allowed = ap (λ w. may_take w (get_or c.args.order.now.demands.items c.index-place.result.now 0) c.in-Some.freed)
          domains ∙ ap (λ v. may_take (domains_of c.args.self.now) (get_or c.args.order.now.demands.items v 0)
          c.in-Some.freed) next ∙ met.allowed;
      same = λ k l.
          let ne = apart (demands_in c.args.self.now) c.args.order.now.demands.items c.args.order.now.spots.items k
          c.loop-freed.place c.index-demand.result.now search.order (omega arith) near is in
          c.give.ensures.others _ ne ∙ c.release-old.ensures.others _ ne ∙ inv.same k (omega arith);
      others = λ e. elim (cases_eqb e c.index-demand.result.now) [
        | inl x ↦
            ap (λ v. is_none (supply_of c.give.new.self v)) x ∙ some_not_none _ _ c.give.ensures.given
            ∙ sym (some_not_none _ _ owns) ∙ ap (λ v. is_none (supply_of c.loop-freed.self v)) (sym x) ∙ inv.others e
        | inr x ↦ ap is_none (c.give.ensures.others e x ∙ c.release-old.ensures.others e x) ∙ inv.others e
      ];
    }

pub returns-in_default-clause-one : goal.returns-in_default-clause-one
returns-in_default-clause-one c =
    let inv = c.loop-freed.invariant in
    let search = c.requires.search in
    let near : c.loop-freed.place < demands_in c.args.self.now = omega (arith, search.len_fits) in
    let in_order : c.loop-freed.place < length c.args.order.now.demands.items =
    omega (arith, search.order.order_length) in
    let is : c.index-demand.result.now ≡ get_or c.args.order.now.demands.items c.loop-freed.place 0 =
    spot_read c.args.order.now.demands.items c.loop-freed.place c.index-demand.result.now in_order
    c.index-demand.ensures in
    let free : supply_of c.loop-freed.self c.index-demand.result.now ≡ None =
    sym c.release-old.ensures.result ∙ c.in_default.is in
    record {
      below = omega (arith, is, search.order.order_below c.loop-freed.place near);
      had_none =
          ap (λ v. supply_of c.args.self.now v) is ∙ sym (inv.same c.loop-freed.place (omega arith))
          ∙ ap (λ v. supply_of c.loop-freed.self v) (sym is) ∙ free;
      has_one = some_not_none _ _ c.give.ensures.given;
      others = λ e ne. ap is_none (c.give.ensures.others e ne ∙ c.release-old.ensures.others e ne) ∙ inv.others e;
    }
