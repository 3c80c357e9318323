-- The meet's row has room for its tasks, and takes one after the other.
use Rattle.std.proofs.Common.{◌<◌, ◌∙◌, None, ap, arith, length, map, set}
use Rattle.std.specs.Option.{option_map}
use Rattle.std.specs.Prelude.{slice_index_or}
use Rattle.std.proofs.lemmas.List.{length-map}
use Rattle.std.proofs.lemmas.Option.{slice_get-get_or, slice_get-map}
use Rattle.khe_instance.specs.declared.states.Task.{Task}
use Rattle.khe_told.specs.Stored.{slots_in}
use Rattle.khe_told.proofs.PuttingLaws.{put_more, put_start, resource_of, span_of}
use Rattle.khe_told.proofs.StoredLaws.{row_to}
use Rattle.khe_told.proofs.filling.put.Goals as goal

pub loop-place-init : goal.loop-place-init
loop-place-init c = put_start c.args.rows.now.items c.args.given.now.items c.args.meet.now.meet.0
    (span_of c.args.meet.now) (map resource_of c.args.tasks.now) c.index-row.result.now c.requires.order
    c.requires.there (length-map c.args.tasks.now resource_of ∙ c.requires.many) c.index-row.ensures

pub index_mut-requires-in-loop-place : goal.index_mut-requires-in-loop-place
index_mut-requires-in-loop-place c =
    let i = c.loop-place.invariant in
    let row = c.index-row.result.now in
    let l = row_to 0 (length c.loop-place.given.items)
    (set c.args.rows.now.items c.args.meet.now.meet.0 (record row { span = span_of c.args.meet.now }))
    c.args.meet.now.meet.0 (record row { span = span_of c.args.meet.now }) i.order i.found in
    let few = i.few in
    let many = length-map c.args.tasks.now resource_of in
    let n = c.loop-place.given.ok.0 in
    omega (arith, l, few, many, n)

pub loop-place-preserved : goal.loop-place-preserved
loop-place-preserved c =
    let none : Task = record { task = record { meet = record { 0 = 0 }; place = 0 }; resource = None } in
    let k = c.loop-place.place in
    let within : k < length c.args.tasks.now = omega arith in
    let t = slice_index_or c.args.tasks.now k none in
    put_more (set c.args.rows.now.items c.args.meet.now.meet.0
    (record c.index-row.result.now { span = span_of c.args.meet.now })) c.loop-place.given.items
    (slots_in 0 c.args.rows.now.items c.args.given.now.items) c.args.meet.now.meet.0 (span_of c.args.meet.now)
    (map resource_of c.args.tasks.now) c.index-row.result.now k t.resource c.loop-place.invariant
    (slice_get-map resource_of c.args.tasks.now k
    ∙ ap (option_map resource_of) (slice_get-get_or c.args.tasks.now k none within))
