-- The list of a place's resource.
use Rattle.std.proofs.Common.{◌≡◌, ◌∙◌, length, sym, ap, arith}
use Rattle.resource_monitors.specs.Cells.{is_due, is_due_if, is_low}
use Rattle.resource_monitors.specs.Posts.{posts_of}
use Rattle.resource_monitors.proofs.PlaceLaws.{added_alike, added_for, added_none, are_posts, due_at, list_at}
use Rattle.resource_monitors.proofs.cell_waits.add_place.Goals as goal

pub bounds-lists-r : goal.bounds-lists-r
bounds-lists-r g c = let a = c.requires.resource c.in-Some.r c.in-Some.is in let b =
    c.requires.lists.resources_all in
    omega (arith, a, b)

pub add_due-requires-clause-posts : goal.add_due-requires-clause-posts
add_due-requires-clause-posts g c = are_posts c.args.audience.now.inst.now g.K.CellKinds.serves_kind c.in-Some.r.0
    c.as_slice-list.result.now (list_at g.K.CellKinds.serves_kind (length c.args.audience.now.inst.now.resources)
    c.args.audience.now.inst.now.monitors c.args.audience.now.lists.now c.in-Some.r.0 c.index-lists-r.result
    c.as_slice-list.result.now
    c.requires.lists (c.requires.resource c.in-Some.r c.in-Some.is) c.index-lists-r.is c.as_slice-list.ensures)

pub returns-clause-added : goal.returns-clause-added
returns-clause-added g c =
    let p = c.args.audience.now.inst.now in
    let served = g.K.CellKinds.serves_kind in
    let r = c.in-Some.r in
    let list = c.as_slice-list.result.now in
    let is : list ≡ posts_of served p.monitors r.0 =
    list_at served (length p.resources) p.monitors c.args.audience.now.lists.now r.0 c.index-lists-r.result list
    c.requires.lists
    (c.requires.resource r c.in-Some.is) c.index-lists-r.is c.as_slice-list.ensures in
    let low : is_low c.args.table.now c.args.run.start c.args.run.end c.args.limit r.0 ≡ c.is_low-low.result =
    sym c.is_low-low.ensures in
    added_for p.monitors (is_due p c.args.table.now c.args.run.start c.args.run.end c.args.limit) served c.args.place r
    list
    (g.W.Waits.waits c.args.waits.now) (g.W.Waits.waits c.add_due.new.waits) c.in-Some.is is
    (added_alike (is_due_if p c.args.run.start c.args.run.end c.is_low-low.result)
    (is_due p c.args.table.now c.args.run.start c.args.run.end c.args.limit) list (length list) _ _
    (λ j a h. due_at p served c.args.table.now c.args.run.start c.args.run.end c.args.limit r list is j a h
    ∙ ap (λ b. is_due_if p c.args.run.start c.args.run.end b a.monitor) low)
    c.add_due.ensures.added)

pub returns-in_default-clause-added : goal.returns-in_default-clause-added
returns-in_default-clause-added g c = added_none c.args.audience.now.inst.now.monitors
    (is_due c.args.audience.now.inst.now c.args.table.now c.args.run.start c.args.run.end c.args.limit)
    g.K.CellKinds.serves_kind
    c.args.place (g.W.Waits.waits c.args.waits.now) c.in_default.is
