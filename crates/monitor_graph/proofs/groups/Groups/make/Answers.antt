use Rattle.std.proofs.Common.{◌≡◌, Some, None, [], slice_get, set, sym, subst, ap, ◌∙◌}
use Rattle.monitor_graph.specs.Seating.{Seating}
use Rattle.monitor_graph.proofs.BenchLaws.{comes}
use Rattle.monitor_graph.proofs.groups.Groups.make.Goals as goal

pub invariant_of-self : goal.invariant_of-self
invariant_of-self c =
    let s = c.self.inside in
    let free = subst (λ (v : Seating). slice_get v.groups c.args.group.0 ≡ Some None) (sym c.self.view_is)
    c.requires.free in
    let t = comes s.benches.items c.args.group.0 c.index_mut.result.now c.take.new.self s.monitors s.many s.held.items
    c.self.invariant.0 c.self.invariant.1 free c.index_mut.ensures.value c.take.ensures in
    (t.kept, t.room)

pub returns-clause-groups : goal.returns-clause-groups
returns-clause-groups c =
    let s = c.self.inside in
    let free = subst (λ (v : Seating). slice_get v.groups c.args.group.0 ≡ Some None) (sym c.self.view_is)
    c.requires.free in
    (comes s.benches.items c.args.group.0 c.index_mut.result.now c.take.new.self s.monitors s.many s.held.items
    c.self.invariant.0 c.self.invariant.1 free c.index_mut.ensures.value c.take.ensures).groups
    ∙ ap (λ (v : Seating). set v.groups c.args.group.0 (Some [])) c.self.view_is

pub returns-clause-seats : goal.returns-clause-seats
returns-clause-seats c =
    let s = c.self.inside in
    let free = subst (λ (v : Seating). slice_get v.groups c.args.group.0 ≡ Some None) (sym c.self.view_is)
    c.requires.free in
    (comes s.benches.items c.args.group.0 c.index_mut.result.now c.take.new.self s.monitors s.many s.held.items
    c.self.invariant.0 c.self.invariant.1 free c.index_mut.ensures.value c.take.ensures).seats
    ∙ ap (λ (v : Seating). v.seats) c.self.view_is
