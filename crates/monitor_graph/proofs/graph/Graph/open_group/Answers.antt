use Rattle.std.proofs.Common.{◌≡◌, Some, None, [], length, set, set-set, slice_get, sym, subst, ap, ◌∙◌, arith}
use Rattle.std.proofs.lemmas.List.{length-set}
use Rattle.std.proofs.lemmas.Option.{slice_get_within}
use Rattle.monitor_graph.specs.Boards.{Board}
use Rattle.monitor_graph.specs.GroupCosts.{AreGroupCosts}
use Rattle.monitor_graph.specs.Groups.{Groups, has_group, seats_at}
use Rattle.monitor_graph.proofs.GroupCostLaws.{set_there}
use Rattle.monitor_graph.proofs.graph.Graph.open_group.Goals as goal

pub put_all-requires-clause-room : goal.put_all-requires-clause-room
put_all-requires-clause-room c number =
    let room = c.in_ok-reserve.ensures.ok number in
    let seats = ap (λ x. seats_at x c.args.group.now.group.0) c.make.ensures.seats in
    let long = ap length c.as_slice.ensures in
    omega (arith, room, seats, long)

pub returns-clause-groups : goal.returns-clause-groups
returns-clause-groups c =
    let g = c.args.group.now.group.0 in
    let children = c.args.group.now.children in
    let same : c.reserve.new.self.groups ≡ c.args.self.now.groups =
    c.in_ok-reserve.ensures.groups ∙ ap (λ (b : Board). b.groups) c.self.view_is in
    c.put_all.ensures.groups ∙ (λ i. set (c.make.ensures.groups i) g (Some (c.as_slice.ensures i)))
    ∙ set-set c.reserve.new.self.groups g (Some []) (Some children)
    ∙ ap (λ (gs : Groups). set gs g (Some children)) same

pub renew-requires-clause-costs : goal.renew-requires-clause-costs
renew-requires-clause-costs c =
    let s = c.self.inside in
    let g = c.args.group.now.group.0 in
    let children = c.args.group.now.children in
    let old = c.reserve.new.self.groups in (
      old,
      Some children,
      subst (λ x. AreGroupCosts c.as_slice-2.result.now x s.costs.hard.items s.costs.soft.items)
          (sym c.in_ok-reserve.ensures.groups)
          (subst (λ xs. AreGroupCosts xs s.groups.groups s.costs.hard.items s.costs.soft.items)
          (sym c.as_slice-2.ensures.value) c.self.invariant.4),
      c.put_all.ensures.groups ∙ (λ i. set (c.make.ensures.groups i) g (Some (c.as_slice.ensures i)))
          ∙ set-set old g (Some []) (Some children),
    )

pub renew-requires-clause-there : goal.renew-requires-clause-there
renew-requires-clause-there c =
    let g = c.args.group.now.group.0 in
    let same : c.reserve.new.self.groups ≡ c.args.self.now.groups =
    c.in_ok-reserve.ensures.groups ∙ ap (λ (b : Board). b.groups) c.self.view_is in
    let free = subst (λ (gs : Groups). slice_get gs g ≡ Some None) (sym same) c.requires.free in
    ap (λ (gs : Groups). has_group gs g) c.put_all.ensures.groups
    ∙ set_there c.make.new.self.groups g c.as_slice.result.now (length c.reserve.new.self.groups)
    (ap length c.make.ensures.groups ∙ length-set c.reserve.new.self.groups g (Some [])) (slice_get_within c.reserve.new.self.groups g None free)

pub invariant_of-self : goal.invariant_of-self
invariant_of-self c =
    let s = c.self.inside in
    let i = c.self.invariant in (
      i.0,
      i.1,
      i.2,
      c.in_err-reserve.ensures.monitors ∙ i.3,
      subst (λ x. AreGroupCosts s.lines.items x s.costs.hard.items s.costs.soft.items)
          (sym c.in_err-reserve.ensures.groups) i.4,
      i.5,
    )
