-- One group more.
use Rattle.std.proofs.Common.{◌≡◌, ◌∙◌, ◌<◌, ◌++◌, ◌∷◌, [], sym, ap, subst, length, map, take, get_or}
use Rattle.std.proofs.lemmas.List.{map_more}
use Rattle.khe_instance.specs.declared.parts.GroupInfo.{GroupInfo}
use Rattle.xhstt_resolve.specs.Parts.{group_of}
use Rattle.xhstt_resolve.proofs.TablesLemmas.{event_set-at}
use Rattle.xhstt_resolve.proofs.resources.groups_of.Goals as goal

pub loop-group-preserved : goal.loop-group-preserved
loop-group-preserved c =
    let i = c.args.lookup.now.instance.now in
    let t = c.args.lookup.now.tables.events in
    let k = c.loop-group.group-index in
    let r = c.group-item.result in
    let gs = i.event_groups in
    let items = c.as_slice-group-items.ensures in
    let within : k < length gs = subst (λ xs. k < length xs) items c.loop-group-test.true in
    let at : r ≡ get_or gs k r = c.group-item.is ∙ ap (λ xs. get_or xs k r) items in
    let info : GroupInfo = record { id = c.in_ok-id.id; events = c.in_ok-events.events } in
    let set = c.in_ok-events.ensures ∙ event_set-at i t c.requires.tables.events r.id.text in
    let made : info ≡ group_of i r = λ j. record { id = c.in_ok-id.ensures j; events = set j } in
    c.in_ok-push.ensures.ok
    ∙ (λ j. c.loop-group.invariant j ++ made j ∷ [])
    ∙ ap (λ x. map (group_of i) (take k gs) ++ group_of i x ∷ []) at
    ∙ sym (map_more (group_of i) gs k r within)
