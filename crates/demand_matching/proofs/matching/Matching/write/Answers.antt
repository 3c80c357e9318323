use Rattle.std.proofs.Common.{◌<◌, ap, ◌∙◌}
use Rattle.demand_matching.specs.Table.{domains_of, admits_supply, demands_in, supply_of}
use Rattle.demand_matching.proofs.Ready.{ready_write}
use Rattle.demand_matching.proofs.Duality.{same_some}
use Rattle.demand_matching.proofs.Removals.{far_from}
use Rattle.demand_matching.proofs.matching.Matching.write.Goals as goal

pub put_domain-requires-clause-supply : goal.put_domain-requires-clause-supply
put_domain-requires-clause-supply c =
    let it = c.is_served.ensures c.if-not-is_served.false in
    λ supply h. ap (λ s. admits_supply (domains_of c.self.inside.table) c.args.domain s)
    (same_some supply it.supply (supply_of c.self.inside.table c.args.demand) h it.owned) ∙ it.admitted

pub invariant_of-self : goal.invariant_of-self
invariant_of-self c =
    let near : c.args.demand < demands_in c.self.inside.table = rw (← c.self.view_is) at c.requires.demand in
    let it = c.is_served.ensures c.if-not-is_served.false in
    let e = c.put_domain.ensures in
    ready_write c.self.inside.table c.put_domain.new.self c.self.inside.order c.self.inside.outside.items
    c.self.inside.unseen.items c.args.demand c.self.inside.left c.self.inside.met it.supply c.args.domain
    c.self.invariant
    (record { below = near; table = e.table; domains = e.domains; supplies = e.supplies; owners = e.owners }) it.owned
    (far_from c.self.inside.table c.self.inside.order c.args.demand c.self.inside.left c.self.inside.met
    c.index.result.now c.self.invariant.maximum near c.index.ensures c.if-index-self.false)
