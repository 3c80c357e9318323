use Rattle.std.proofs.Common.{ℕ, ◌-◌, ◌<◌, ◌*◌, ◌/◌, ◌%◌, ◌&&◌, sym, ◌∙◌, arith, leb, zero, suc}
use Rattle.std.proofs.lemmas.Bool.{and_from, le-leb}
use Rattle.demand_matching.specs.Domains.{is_picked}
use Rattle.demand_matching.proofs.Shifts.{supply_known}
use Rattle.demand_matching.proofs.table.Table.is_served.Goals as goal

-- where there is a supply, there is a time
some_time : (supply width last : ℕ) → supply < width * last → 0 < last
some_time supply width zero h = absurd (omega arith)
some_time supply width (suc last) h = omega arith

pub nonzero_div-resource : goal.nonzero_div-resource
nonzero_div-resource c =
    some_time c.in-Some.supply c.args.self.now.width c.args.self.now.last
    (c.requires.table.matching.supply c.args.demand c.in-Some.supply
    (supply_known c.args.self.now c.args.demand c.in-Some.supply c.index.result.now c.requires.table
    c.requires.demand c.index.ensures c.in-Some.is))

pub nonzero_rem-time : goal.nonzero_rem-time
nonzero_rem-time c =
    some_time c.in-Some.supply c.args.self.now.width c.args.self.now.last
    (c.requires.table.matching.supply c.args.demand c.in-Some.supply
    (supply_known c.args.self.now c.args.demand c.in-Some.supply c.index.result.now c.requires.table
    c.requires.demand c.index.ensures c.in-Some.is))

pub returns-then-has : goal.returns-then-has
returns-then-has c =
    let t = c.args.self.now in
    let d = c.args.domain in
    let time : ℕ = c.in-Some.supply % t.last in
    λ h. record {
      supply = c.in-Some.supply;
      owned = supply_known t c.args.demand c.in-Some.supply c.index.result.now c.requires.table c.requires.demand
          c.index.ensures c.in-Some.is;
      admitted =
          and_from (is_picked t.resources d.resources (c.in-Some.supply / t.last))
          (leb d.shift time && is_picked t.times d.times (time - d.shift)) (sym c.has.ensures ∙ c.if-has.true)
          (and_from (leb d.shift time) (is_picked t.times d.times (time - d.shift)) (le-leb d.shift time (omega arith))
          (sym c.has-then-has.ensures ∙ h));
    }
