use Rattle.std.proofs.Common.{◌∙◌, get_or, refl, sym, ap}
use Rattle.monitor_graph.specs.Groups.{has_child}
use Rattle.monitor_graph.specs.Seating.{Seating, groups_on}
use Rattle.monitor_graph.proofs.AloneLaws.{alone_bare, alone_clear}
use Rattle.monitor_graph.proofs.groups.Groups.is_alone.Goals as goal

pub returns-then-self-eq0 : goal.returns-then-self-eq0
returns-then-self-eq0 c h g =
    let s = c.self.inside in
    sym (ap (λ (v : Seating). has_child v.groups g c.args.child.0) c.self.view_is)
    ∙ alone_bare (groups_on s.benches.items) s.monitors s.many s.held.items c.args.child.0 c.self.invariant.0
    c.if-self-eq0.true g

pub returns : goal.returns
returns c h g =
    let s = c.self.inside in
    sym (ap (λ (v : Seating). has_child v.groups g c.args.child.0) c.self.view_is)
    ∙ alone_clear (groups_on s.benches.items) s.monitors s.many s.held.items c.args.child.0 _ c.self.invariant.0 refl
    (λ n f l. ap (λ xs. get_or xs n 0) (sym c.as_slice.ensures.value) ∙ c.is_clear.ensures h n f l) g
