-- Event after event.
use Rattle.std.proofs.Common.{◌≡◌, ◌∙◌, ◌+◌, ◌<◌, ◌≤◌, ◌++◌, sym, ap, subst, drop, get_or, length, map, arith}
use Rattle.std.proofs.lemmas.List.{append-nil, drop_all}
use Rattle.khe_base.proofs.ListLemmas.{drop-next}
use Rattle.xhstt_resolve.specs.Members.{numbers_where}
use Rattle.xhstt_resolve.specs.Points.{has_role}
use Rattle.xhstt_resolve.specs.Roles.{held, places_from, role_place}
use Rattle.xhstt_resolve.proofs.RolesLemmas.{event_more}
use Rattle.xhstt_resolve.proofs.roles.roles_of.Goals as goal

pub loop-event-init : goal.loop-event-init
loop-event-init c = record {
  whole = ap length c.new-names.ensures ∙ sym (ap length c.new-lists.ensures.items);
  added = λ role j. held (c.new-names.ensures j) (c.new-lists.ensures.items j) role
      ++ places_from role 0 c.args.instance.now.events;
}

pub note_event-requires-clause-few : goal.note_event-requires-clause-few
note_event-requires-clause-few c =
    let events = c.args.instance.now.events in
    let k = c.loop-event.event in
    let x = c.raw-item.result in
    let items = c.as_slice-raw-items.ensures in
    let within : k < length events = subst (λ xs. k < length xs) items c.loop-event-test.true in
    let at : x ≡ get_or events k x = c.raw-item.is ∙ ap (λ xs. get_or xs k x) items in
    omega (
      arith,
      c.requires.places.places k x within,
      ap (λ e. length e.resources) at,
      ap length c.as_slice.ensures,
    )

pub loop-event-preserved : goal.loop-event-preserved
loop-event-preserved c =
    let events = c.args.instance.now.events in
    let k = c.loop-event.event in
    let x = c.raw-item.result in
    let items = c.as_slice-raw-items.ensures in
    let within : k < length events = subst (λ xs. k < length xs) items c.loop-event-test.true in
    let at : x ≡ get_or events k x = c.raw-item.is ∙ ap (λ xs. get_or xs k x) items in
    record {
      whole = c.in_ok-note_event.ensures.whole;
      added = λ role. event_more (held c.loop-event.names c.loop-event.lists.items role)
          (held c.note_event.new.names c.note_event.new.lists.items role) k role x (drop (k + 1) events)
          (drop k events) (drop-next events k x within at)
          (c.in_ok-note_event.ensures.added role
          ∙ ap (λ rs. held c.loop-event.names c.loop-event.lists.items role
          ++ map (role_place k) (numbers_where (has_role role) rs)) c.as_slice.ensures)
          ∙ c.loop-event.invariant.added role;
    }

pub returns : goal.returns
returns c = record {
  places = λ role.
      (let events = c.args.instance.now.events in
      let k = c.loop-event.event in
      let so_far = held c.loop-event.names c.loop-event.lists.items role in
      let all = subst (λ xs. length xs ≤ k) c.as_slice-raw-items.ensures c.loop-event-test.false in
      sym (append-nil so_far)
      ∙ ap (λ xs. so_far ++ places_from role k xs) (sym (drop_all k events all))
      ∙ c.loop-event.invariant.added role);
}
