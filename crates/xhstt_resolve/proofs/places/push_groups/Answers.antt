-- One group's members come after those of the groups before it.
use Rattle.std.proofs.Common.{◌≡◌, ◌∙◌, ◌<◌, ◌++◌, ap, subst, length, map, get_or}
use Rattle.xhstt_resolve.specs.Parts.{member_place, group_places}
use Rattle.xhstt_resolve.proofs.StepsLemmas.{flat_map_step}
use Rattle.xhstt_resolve.proofs.places.push_groups.Goals as goal

pub loop-group-preserved : goal.loop-group-preserved
loop-group-preserved c =
    let i = c.args.lookup.now.instance.now in
    let e = c.args.event.now in
    let k = c.loop-group.group-index in
    let r = c.group-item.result in
    let items = c.as_slice-group-items.ensures in
    let within : k < length e.resource_groups = subst (λ xs. k < length xs) items c.loop-group-test.true in
    let at : r ≡ get_or e.resource_groups k r = c.group-item.is ∙ ap (λ xs. get_or xs k r) items in
    let added : c.push_members.new.places ≡ c.loop-group.places ++ group_places i e r =
    c.in_ok-push_members.ensures ∙ ap (λ ns. c.loop-group.places ++ map (member_place i e) ns)
    (c.members-members.ensures ∙ ap (λ f. f r.id) c.requires.tables.resources.members)
    in
    flat_map_step (group_places i e) c.loop-group.places c.push_members.new.places e.resource_groups k r within at added
    ∙ c.loop-group.invariant
