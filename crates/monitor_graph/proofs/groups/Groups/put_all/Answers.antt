use Rattle.std.proofs.Common.{Some, length, take, get_or, set, refl, ap, ◌∙◌, arith}
use Rattle.std.specs.Prelude.{is_some}
use Rattle.std.specs.List.{insert}
use Rattle.std.specs.Option.{option_and_then}
use Rattle.std.proofs.lemmas.List.{length-take}
use Rattle.khe_base.specs.declared.numbers.MonitorId.{MonitorId}
use Rattle.monitor_graph.specs.Groups.{Groups, children_at, has_group, has_child, is_among, seats_at}
use Rattle.monitor_graph.proofs.OpenLaws.{put_none, put_at, put_children, put_fresh, put_more}
use Rattle.monitor_graph.proofs.groups.Groups.put_all.Goals as goal

pub loop-place-init : goal.loop-place-init
loop-place-init c = record {
  groups = put_none c.args.self.now.groups c.args.group.0 c.requires.empty;
  monitors = refl;
  seats = refl;
}

pub append-requires-clause-there : goal.append-requires-clause-there
append-requires-clause-there c =
    ap (λ (gs : Groups). has_group gs c.args.group.0) c.loop-place.invariant.groups
    ∙ ap (λ o. is_some (option_and_then (λ x. x) o))
    (put_at c.args.self.now.groups c.args.group.0 (take c.loop-place.place c.args.children.now) c.requires.empty)

pub append-requires-clause-known : goal.append-requires-clause-known
append-requires-clause-known c =
    let low = c.requires.known c.loop-place.place (record { 0 = 0 }) c.loop-place-test.true in
    let same = c.loop-place.invariant.monitors in
    omega (arith, low, same)

pub append-requires-clause-place : goal.append-requires-clause-place
append-requires-clause-place c =
    let xs = c.args.children.now in
    let k = c.loop-place.place in
    let e = ap (λ (gs : Groups). length (children_at gs c.args.group.0)) c.loop-place.invariant.groups
    ∙ ap length (put_children c.args.self.now.groups c.args.group.0 (take k xs) c.requires.empty) in
    let long = length-take k xs in
    omega (arith, e, long)

pub append-requires-clause-fresh : goal.append-requires-clause-fresh
append-requires-clause-fresh c =
    let xs = c.args.children.now in
    let k = c.loop-place.place in
    let first : MonitorId = record { 0 = 0 } in
    ap (λ (gs : Groups). has_child gs c.args.group.0 (get_or xs k first).0) c.loop-place.invariant.groups
    ∙ ap (is_among (get_or xs k first).0) (put_children c.args.self.now.groups c.args.group.0 (take k xs)
    c.requires.empty)
    ∙ put_fresh xs k first c.requires.once c.loop-place-test.true

pub append-requires-clause-room : goal.append-requires-clause-room
append-requires-clause-room c number =
    let xs = c.args.children.now in
    let k = c.loop-place.place in
    let e = ap (λ (gs : Groups). length (children_at gs c.args.group.0)) c.loop-place.invariant.groups
    ∙ ap length (put_children c.args.self.now.groups c.args.group.0 (take k xs) c.requires.empty) in
    let long = length-take k xs in
    let seats = ap (λ x. seats_at x c.args.group.0) c.loop-place.invariant.seats in
    let room = c.requires.room number in
    omega (arith, e, long, seats, room)

pub loop-place-preserved : goal.loop-place-preserved
loop-place-preserved c =
    let xs = c.args.children.now in
    let k = c.loop-place.place in
    let first : MonitorId = record { 0 = 0 } in
    record {
      groups = c.append.ensures.groups ∙ ap (λ (gs : Groups). set gs c.args.group.0
          (Some (insert (children_at gs c.args.group.0) k (get_or xs k first)))) c.loop-place.invariant.groups
          ∙ put_more c.args.self.now.groups c.args.group.0 k xs first c.requires.empty c.loop-place-test.true;
      monitors = c.append.ensures.monitors ∙ c.loop-place.invariant.monitors;
      seats = c.append.ensures.seats ∙ c.loop-place.invariant.seats;
    }
