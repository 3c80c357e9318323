use Rattle.std.proofs.Common.{refl, Some}
use Rattle.std.specs.Vec.{with_item}
use Rattle.demand_matching.proofs.Tables.{given_table}
use Rattle.demand_matching.proofs.table.Table.give.Goals as goal

pub returns-clause-table : goal.returns-clause-table
returns-clause-table c =
    given_table c.args.self.now (with_item c.args.self.now.supplies c.args.demand (Some c.args.supply))
    (with_item c.args.self.now.owners c.args.supply (Some c.args.demand)) c.clear_bit.new.words c.args.demand
    c.args.supply c.requires.table c.requires.demand c.requires.supply c.requires.none c.requires.free
    c.requires.allowed
    refl refl c.clear_bit.ensures.length c.clear_bit.ensures.bits
