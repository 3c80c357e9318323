use Rattle.std.proofs.Common.{◌<◌, false, length, set, refl, subst, sym, ap, ◌∙◌, arith}
use Rattle.std.proofs.lemmas.Bool.{both_ways}
use Rattle.monitor_graph.specs.Groups.{seats_at, HaveRoom}
use Rattle.monitor_graph.specs.Seating.{Seating, Sitting, groups_on, seats_on, AreSeated}
use Rattle.monitor_graph.proofs.BenchLaws.{children_turned, more_seats, room_kept, same_groups, seats_bench, seats_turned}
use Rattle.monitor_graph.proofs.BenchLaws.{sitting_at}
use Rattle.monitor_graph.proofs.groups.Groups.reserve.Goals as goal

pub invariant_of-self : goal.invariant_of-self
invariant_of-self c =
    let s = c.self.inside in
    let bs = s.benches.items in
    let g = c.args.group.0 in
    let old = c.index_mut.result.now in
    let new = c.reserve.new.self in
    let low : g < length bs = omega arith in
    let same = same_groups bs g old new low c.index_mut.ensures.value c.in_ok-reserve.ensures.group in
    let more = more_seats bs g old new low c.index_mut.ensures.value c.in_ok-reserve.ensures.kept in (
      subst (λ x. AreSeated x s.monitors s.many s.held.items) (sym same) c.self.invariant.0,
      room_kept (groups_on (set bs g new)) (seats_on bs) (seats_on (set bs g new))
          (subst (λ x. HaveRoom x (seats_on bs)) (sym same) c.self.invariant.1) more,
    )

pub returns-in_err-reserve-clause-there : goal.returns-in_err-reserve-clause-there
returns-in_err-reserve-clause-there c h =
    let bs = c.self.inside.benches.items in
    let g = c.args.group.0 in
    let old = c.index_mut.result.now in
    let low : g < length bs = omega arith in
    let same = ap length (sitting_at bs c.args.self.now.groups g old (ap (λ (v : Seating). v.groups) c.self.view_is) low
    c.index_mut.ensures.value) in
    let seats = ap (λ (v : Seating). seats_at v.seats g) (sym c.self.view_is) ∙ seats_bench bs g old low
    ∙ ap (λ (x : Sitting). x.seats) (sym c.index_mut.ensures.value) in
    absurd (both_ways false refl (c.in_err-reserve.ensures.there (omega (arith, h, same, seats))))

pub returns-in_ok-reserve-clause-groups : goal.returns-in_ok-reserve-clause-groups
returns-in_ok-reserve-clause-groups c =
    let bs = c.self.inside.benches.items in
    let g = c.args.group.0 in
    let low : g < length bs = omega arith in
    same_groups bs g c.index_mut.result.now c.reserve.new.self low c.index_mut.ensures.value
    c.in_ok-reserve.ensures.group
    ∙ ap (λ (v : Seating). v.groups) c.self.view_is

pub returns-in_ok-reserve-clause-kept : goal.returns-in_ok-reserve-clause-kept
returns-in_ok-reserve-clause-kept c k =
    let bs = c.self.inside.benches.items in
    let g = c.args.group.0 in
    let low : g < length bs = omega arith in
    let more = more_seats bs g c.index_mut.result.now c.reserve.new.self low c.index_mut.ensures.value
    c.in_ok-reserve.ensures.kept k in
    let same = ap (λ (v : Seating). seats_at v.seats k) c.self.view_is in
    omega (arith, more, same)

pub returns-in_ok-reserve-clause-ok : goal.returns-in_ok-reserve-clause-ok
returns-in_ok-reserve-clause-ok c number =
    let bs = c.self.inside.benches.items in
    let g = c.args.group.0 in
    let new = c.reserve.new.self in
    let low : g < length bs = omega arith in
    let children = ap length (children_turned bs g new low) in
    let seats = seats_turned bs g new low in
    let room = c.in_ok-reserve.ensures.ok in
    omega (arith, children, seats, room)
