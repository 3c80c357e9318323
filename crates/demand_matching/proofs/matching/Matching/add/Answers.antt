use Rattle.std.proofs.Common.{◌<◌, ◌≡◌, None, ap, ◌∙◌}
use Rattle.demand_matching.specs.Domains.{domain_of}
use Rattle.demand_matching.specs.Table.{domains_of, demands_in}
use Rattle.demand_matching.proofs.Additions.{Joins, joins_search}
use Rattle.demand_matching.proofs.Changes.{absent_none}
use Rattle.demand_matching.proofs.Ready.{joins_marked, ready_joined, ready_left_out}
use Rattle.demand_matching.proofs.matching.Matching.add.Goals as goal

pub put_domain-requires-clause-supply : goal.put_domain-requires-clause-supply
put_domain-requires-clause-supply c =
    let near : c.args.demand < demands_in c.self.inside.table = rw (← c.self.view_is) at c.requires.demand in
    let gone : domain_of (domains_of c.self.inside.table) c.args.demand ≡ None =
    ap (λ w. domain_of w c.args.demand) c.self.view_is ∙ c.requires.absent in
    let none = absent_none c.self.inside.table c.args.demand c.self.invariant.maximum.table gone in
    λ supply h. absurd cc

pub search-requires-clause-search : goal.search-requires-clause-search
search-requires-clause-search c =
    let near : c.args.demand < demands_in c.self.inside.table = rw (← c.self.view_is) at c.requires.demand in
    let gone : domain_of (domains_of c.self.inside.table) c.args.demand ≡ None =
    ap (λ w. domain_of w c.args.demand) c.self.view_is ∙ c.requires.absent in
    let e = c.put_domain.ensures in
    let p = c.put.ensures in
    let it : Joins c.self.inside.table c.put_domain.new.self c.self.inside.order c.put.new.self c.args.demand
    c.self.inside.left c.self.inside.met c.args.domain = record {
      maximum = c.self.invariant.maximum;
      gains = record { below = near; table = e.table; domains = e.domains; supplies = e.supplies; owners = e.owners };
      absent = gone;
      moves = record { order = p.order; met_from = p.met_from; change = p.change };
    } in
    joins_search c.self.inside.table c.put_domain.new.self c.self.inside.order c.put.new.self c.args.demand
    c.self.inside.left c.self.inside.met c.args.domain it

pub search-requires-clause-marked : goal.search-requires-clause-marked
search-requires-clause-marked c =
    let near : c.args.demand < demands_in c.self.inside.table = rw (← c.self.view_is) at c.requires.demand in
    let gone : domain_of (domains_of c.self.inside.table) c.args.demand ≡ None =
    ap (λ w. domain_of w c.args.demand) c.self.view_is ∙ c.requires.absent in
    let e = c.put_domain.ensures in
    let p = c.put.ensures in
    let it : Joins c.self.inside.table c.put_domain.new.self c.self.inside.order c.put.new.self c.args.demand
    c.self.inside.left c.self.inside.met c.args.domain = record {
      maximum = c.self.invariant.maximum;
      gains = record { below = near; table = e.table; domains = e.domains; supplies = e.supplies; owners = e.owners };
      absent = gone;
      moves = record { order = p.order; met_from = p.met_from; change = p.change };
    } in
    joins_marked c.self.inside.table c.put_domain.new.self c.self.inside.order c.put.new.self
    c.self.inside.outside.items c.args.demand c.self.inside.left c.self.inside.met c.args.domain it
    c.self.invariant.marked

pub invariant_of-self-in-Closed : goal.invariant_of-self-in-Closed
invariant_of-self-in-Closed c =
    let near : c.args.demand < demands_in c.self.inside.table = rw (← c.self.view_is) at c.requires.demand in
    let gone : domain_of (domains_of c.self.inside.table) c.args.demand ≡ None =
    ap (λ w. domain_of w c.args.demand) c.self.view_is ∙ c.requires.absent in
    let e = c.put_domain.ensures in
    let p = c.put.ensures in
    let it : Joins c.self.inside.table c.put_domain.new.self c.self.inside.order c.put.new.self c.args.demand
    c.self.inside.left c.self.inside.met c.args.domain = record {
      maximum = c.self.invariant.maximum;
      gains = record { below = near; table = e.table; domains = e.domains; supplies = e.supplies; owners = e.owners };
      absent = gone;
      moves = record { order = p.order; met_from = p.met_from; change = p.change };
    } in
    let q = c.put-in-Closed.ensures in
    ready_left_out c.self.inside.table c.put_domain.new.self c.self.inside.order c.put.new.self c.search.new.order
    c.put-in-Closed.new.self c.search.new.unseen.items c.self.inside.unseen.items c.args.demand c.self.inside.left
    c.self.inside.met c.in-Closed.more c.args.domain it c.in-Closed.ensures
    (record { order = q.order; met_from = q.met_from; change = q.change }) c.self.invariant.all_set

pub invariant_of-self : goal.invariant_of-self
invariant_of-self c =
    let near : c.args.demand < demands_in c.self.inside.table = rw (← c.self.view_is) at c.requires.demand in
    let gone : domain_of (domains_of c.self.inside.table) c.args.demand ≡ None =
    ap (λ w. domain_of w c.args.demand) c.self.view_is ∙ c.requires.absent in
    let e = c.put_domain.ensures in
    let p = c.put.ensures in
    let it : Joins c.self.inside.table c.put_domain.new.self c.self.inside.order c.put.new.self c.args.demand
    c.self.inside.left c.self.inside.met c.args.domain = record {
      maximum = c.self.invariant.maximum;
      gains = record { below = near; table = e.table; domains = e.domains; supplies = e.supplies; owners = e.owners };
      absent = gone;
      moves = record { order = p.order; met_from = p.met_from; change = p.change };
    } in
    let q = c.shift.ensures in
    ready_joined c.self.inside.table c.put_domain.new.self c.shift.new.self c.self.inside.order c.put.new.self
    c.search.new.order c.search.new.unseen.items c.self.inside.unseen.items c.args.demand c.self.inside.left
    c.self.inside.met c.in-Open.place c.in-Open.supply c.shift.result c.args.domain it c.in-Open.ensures q.table
    q.domains q.one q.after c.self.invariant.all_set
