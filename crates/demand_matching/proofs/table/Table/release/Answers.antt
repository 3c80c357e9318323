use Rattle.std.proofs.Common.{arith}
use Rattle.demand_matching.proofs.Shifts.{supply_known}
use Rattle.demand_matching.proofs.table.Table.release.Goals as goal

pub index_mut-requires-2 : goal.index_mut-requires-2
index_mut-requires-2 c =
    omega (
      arith,
      c.requires.table.owners_length,
      c.requires.table.matching.supply c.args.demand c.in_ok-supply.supply
          (supply_known c.args.self.now c.args.demand c.in_ok-supply.supply c.index.result.now c.requires.table
          c.requires.demand c.index.ensures c.in_ok-supply.was),
    )
