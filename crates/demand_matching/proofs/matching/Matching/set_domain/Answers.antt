use Rattle.std.proofs.Common.{None, ap, ◌∙◌}
use Rattle.demand_matching.specs.Domains.{with_domain}
use Rattle.demand_matching.proofs.Keeps.{domain_twice}
use Rattle.demand_matching.proofs.matching.Matching.set_domain.Goals as goal

pub returns-then-not-write : goal.returns-then-not-write
returns-then-not-write c =
    domain_twice c.args.self.now c.remove-then-not-write.new.self c.add.new.self c.args.demand c.in-Some.domain
    c.args.domain
    (c.remove-then-not-write.ensures ∙ ap (λ w. with_domain w c.args.demand None)
    (c.write.ensures.same c.if-not-write.true)) c.add.ensures c.in-Some.is
