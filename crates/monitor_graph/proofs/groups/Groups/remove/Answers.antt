use Rattle.std.proofs.Common.{◌≡◌, Some, true, length, set, subst, sym, ap, ◌∙◌, arith}
use Rattle.monitor_graph.specs.Groups.{children_at, has_child, without}
use Rattle.monitor_graph.specs.Seating.{Seating, groups_on}
use Rattle.monitor_graph.proofs.BenchLaws.{known_bench, leaves, left_by, sitting_at}
use Rattle.monitor_graph.proofs.SeatLaws.{child_in_group, child_place, seated_at}
use Rattle.monitor_graph.proofs.groups.Groups.remove.Goals as goal

pub remove-requires-clause-place : goal.remove-requires-clause-place
remove-requires-clause-place c =
    let s = c.self.inside in
    let gs = c.args.self.now.groups in
    let g = c.args.group.0 in
    let seen = ap (λ (v : Seating). v.groups) c.self.view_is in
    let low = known_bench s.benches.items gs g seen (child_in_group gs g c.args.child.0 c.requires.there) in
    let same = ap length (sitting_at s.benches.items gs g c.index_mut.result.now seen low c.index_mut.ensures.value) in
    let at = (child_place (children_at gs g) c.args.child.0 c.args.child c.requires.there).0 in
    let place = c.place-place.ensures in
    omega (arith, same, at, place)

pub overflow_sub-self : goal.overflow_sub-self
overflow_sub-self c =
    let s = c.self.inside in
    let g = c.args.group.0 in
    let there = subst (λ (v : Seating). has_child v.groups g c.args.child.0 ≡ true) (sym c.self.view_is)
    c.requires.there in
    let at = (child_place (children_at (groups_on s.benches.items) g) c.args.child.0 c.args.child there).0 in
    let many = seated_at (groups_on s.benches.items) g in
    let counted = c.self.invariant.0.counted in
    omega (arith, at, many, counted)

pub invariant_of-self : goal.invariant_of-self
invariant_of-self c =
    let s = c.self.inside in
    let g = c.args.group.0 in
    let there = subst (λ (v : Seating). has_child v.groups g c.args.child.0 ≡ true) (sym c.self.view_is)
    c.requires.there in
    let seen = ap (λ (v : Seating). v.groups) c.self.view_is in
    let low = known_bench s.benches.items c.args.self.now.groups g seen
    (child_in_group c.args.self.now.groups g c.args.child.0 c.requires.there) in
    let same = sitting_at s.benches.items c.args.self.now.groups g c.index_mut.result.now seen low
    c.index_mut.ensures.value in
    let left = left_by c.index_mut.result.now c.remove.new.self c.place-place.result c.args.child.0
    (children_at c.args.self.now.groups g) same c.place-place.ensures c.remove.ensures in
    let t = leaves s.benches.items g c.args.child c.index_mut.result.now c.remove.new.self s.monitors s.many
    s.held.items c.clear_bit.new.words.items c.self.invariant.0 c.self.invariant.1 there
    c.index_mut.ensures.value left c.clear_bit.ensures.length c.clear_bit.ensures.bits in
    (t.kept, t.room)

pub returns-clause-groups : goal.returns-clause-groups
returns-clause-groups c =
    let s = c.self.inside in
    let g = c.args.group.0 in
    let there = subst (λ (v : Seating). has_child v.groups g c.args.child.0 ≡ true) (sym c.self.view_is)
    c.requires.there in
    let seen = ap (λ (v : Seating). v.groups) c.self.view_is in
    let low = known_bench s.benches.items c.args.self.now.groups g seen
    (child_in_group c.args.self.now.groups g c.args.child.0 c.requires.there) in
    let same = sitting_at s.benches.items c.args.self.now.groups g c.index_mut.result.now seen low
    c.index_mut.ensures.value in
    let left = left_by c.index_mut.result.now c.remove.new.self c.place-place.result c.args.child.0
    (children_at c.args.self.now.groups g) same c.place-place.ensures c.remove.ensures in
    (leaves s.benches.items g c.args.child c.index_mut.result.now c.remove.new.self s.monitors s.many
    s.held.items c.clear_bit.new.words.items c.self.invariant.0 c.self.invariant.1 there
    c.index_mut.ensures.value left c.clear_bit.ensures.length c.clear_bit.ensures.bits).groups
    ∙ ap (λ (v : Seating). set v.groups g (Some (without c.args.child.0 (children_at v.groups g)))) c.self.view_is

pub returns-clause-seats : goal.returns-clause-seats
returns-clause-seats c =
    let s = c.self.inside in
    let g = c.args.group.0 in
    let there = subst (λ (v : Seating). has_child v.groups g c.args.child.0 ≡ true) (sym c.self.view_is)
    c.requires.there in
    let seen = ap (λ (v : Seating). v.groups) c.self.view_is in
    let low = known_bench s.benches.items c.args.self.now.groups g seen
    (child_in_group c.args.self.now.groups g c.args.child.0 c.requires.there) in
    let same = sitting_at s.benches.items c.args.self.now.groups g c.index_mut.result.now seen low
    c.index_mut.ensures.value in
    let left = left_by c.index_mut.result.now c.remove.new.self c.place-place.result c.args.child.0
    (children_at c.args.self.now.groups g) same c.place-place.ensures c.remove.ensures in
    (leaves s.benches.items g c.args.child c.index_mut.result.now c.remove.new.self s.monitors s.many
    s.held.items c.clear_bit.new.words.items c.self.invariant.0 c.self.invariant.1 there
    c.index_mut.ensures.value left c.clear_bit.ensures.length c.clear_bit.ensures.bits).seats
    ∙ ap (λ (v : Seating). v.seats) c.self.view_is
