-- One group more.
use Rattle.std.proofs.Common.{◌≡◌, ◌∙◌, ◌<◌, ◌≤◌, sym, ap, subst, length, get_or, arith}
use Rattle.std.proofs.lemmas.List.{length-map}
use Rattle.khe_base.specs.declared.limits.TheConstants.{RESOURCES}
use Rattle.xhstt_resolve.specs.Members.{resources_in}
use Rattle.xhstt_resolve.specs.Parts.{group_places, member_place}
use Rattle.xhstt_resolve.proofs.SizesLemmas.{length_step}
use Rattle.xhstt_resolve.proofs.sizes.place_count.Goals as goal

pub loop-group-preserved : goal.loop-group-preserved
loop-group-preserved c =
    let i = c.args.lookup.now.instance.now in
    let e = c.args.event.now in
    let table = c.requires.tables.resources in
    let k = c.loop-group.group-index in
    let r = c.group-item.result in
    let items = c.as_slice-group-items.ensures in
    let within : k < length e.resource_groups = subst (λ xs. k < length xs) items c.loop-group-test.true in
    let at : r ≡ get_or e.resource_groups k r = c.group-item.is ∙ ap (λ xs. get_or xs k r) items in
    let own : length (group_places i e r) ≡ length c.members.result.now =
    length-map (resources_in i r.id) (member_place i e)
    ∙ ap length (sym (c.members.ensures ∙ ap (λ f. f r.id) table.members))
    in
    let step = length_step (group_places i e) e.resource_groups k r within at in
    let bound : length c.members.result.now ≤ RESOURCES =
    omega (
      arith,
      ap length c.members.ensures,
      table.table.bounded r.id,
      ap length table.names,
      length-map i.resources
          (λ x. x.id.text),
      c.requires.counts.resources,
    )
    in
    record {
      counted = omega (arith, step, own, c.loop-group.invariant.counted);
      small =
          omega (arith, bound, c.loop-group.invariant.small);
    }
