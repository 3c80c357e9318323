use Rattle.std.proofs.Common.{Some, set, subst, sym, ap, ◌∙◌, arith}
use Rattle.std.specs.List.{insert}
use Rattle.monitor_graph.specs.Groups.{children_at}
use Rattle.monitor_graph.specs.Seating.{Seating, groups_on}
use Rattle.monitor_graph.proofs.BenchLaws.{CanSit, benches_long, known_bench, sits}
use Rattle.monitor_graph.proofs.SeatLaws.{many_few}
use Rattle.monitor_graph.proofs.groups.Groups.insert.Goals as goal

pub overflow_add-self : goal.overflow_add-self
overflow_add-self c =
    let s = c.self.inside in
    let few = many_few (groups_on s.benches.items) s.monitors s.many s.held.items c.self.invariant.0 in
    omega (arith, few)

pub set_bit-requires : goal.set_bit-requires
set_bit-requires c =
    let s = c.self.inside in
    let low = known_bench s.benches.items c.args.self.now.groups c.args.group.0
    (ap (λ (v : Seating). v.groups) c.self.view_is) c.requires.there in
    let long = benches_long s.benches.items in
    let numbers = c.self.invariant.0.numbers in
    let room = c.self.invariant.0.room in
    let monitors = ap (λ (v : Seating). v.monitors) c.self.view_is in
    let known = c.requires.known in
    omega (arith, low, long, numbers, room, monitors, known)

pub invariant_of-self : goal.invariant_of-self
invariant_of-self c =
    let s = c.self.inside in
    let can = subst (λ v. CanSit v c.args.group.0 c.args.place c.args.child) (sym c.self.view_is) (record {
      there = c.requires.there;
      known = c.requires.known;
      place = c.requires.place;
      fresh = c.requires.fresh;
      room = c.requires.room;
    }) in
    let t = sits s.benches.items c.args.group.0 c.args.place c.args.child c.index_mut.result.now c.insert.new.self
    s.monitors s.many s.held.items c.set_bit.new.words.items c.self.invariant.0 c.self.invariant.1 can
    c.index_mut.ensures.value c.insert.ensures c.set_bit.ensures.length c.set_bit.ensures.bits in
    (t.kept, t.room)

pub returns-clause-groups : goal.returns-clause-groups
returns-clause-groups c =
    let s = c.self.inside in
    let can = subst (λ v. CanSit v c.args.group.0 c.args.place c.args.child) (sym c.self.view_is) (record {
      there = c.requires.there;
      known = c.requires.known;
      place = c.requires.place;
      fresh = c.requires.fresh;
      room = c.requires.room;
    }) in
    (sits s.benches.items c.args.group.0 c.args.place c.args.child c.index_mut.result.now c.insert.new.self
    s.monitors s.many s.held.items c.set_bit.new.words.items c.self.invariant.0 c.self.invariant.1 can
    c.index_mut.ensures.value c.insert.ensures c.set_bit.ensures.length c.set_bit.ensures.bits).groups
    ∙ ap (λ (v : Seating). set v.groups c.args.group.0
    (Some (insert (children_at v.groups c.args.group.0) c.args.place c.args.child))) c.self.view_is

pub returns-clause-seats : goal.returns-clause-seats
returns-clause-seats c =
    let s = c.self.inside in
    let can = subst (λ v. CanSit v c.args.group.0 c.args.place c.args.child) (sym c.self.view_is) (record {
      there = c.requires.there;
      known = c.requires.known;
      place = c.requires.place;
      fresh = c.requires.fresh;
      room = c.requires.room;
    }) in
    (sits s.benches.items c.args.group.0 c.args.place c.args.child c.index_mut.result.now c.insert.new.self
    s.monitors s.many s.held.items c.set_bit.new.words.items c.self.invariant.0 c.self.invariant.1 can
    c.index_mut.ensures.value c.insert.ensures c.set_bit.ensures.length c.set_bit.ensures.bits).seats
    ∙ ap (λ (v : Seating). v.seats) c.self.view_is
