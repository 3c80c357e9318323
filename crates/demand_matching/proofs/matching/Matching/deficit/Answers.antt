use Rattle.demand_matching.specs.Table.{supply_of}
use Rattle.demand_matching.proofs.Keeps.{deficit_is, assigned, supply_parts}
use Rattle.demand_matching.proofs.matching.Matching.deficit.Goals as goal

pub returns-clause-greatest : goal.returns-clause-greatest
returns-clause-greatest c = rw (← c.self.view_is)
    (deficit_is c.self.inside.table c.self.inside.order c.self.inside.left c.self.inside.met c.self.invariant.maximum)

pub returns-clause-served : goal.returns-clause-served
returns-clause-served c =
    rw (← c.self.view_is) (
      (λ d. supply_parts c.self.inside.table.last (supply_of c.self.inside.table d)),
      assigned
          c.self.inside.table c.self.inside.order c.self.inside.left c.self.inside.met c.self.invariant.maximum,
    )
