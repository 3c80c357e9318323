-- The event that the search found has the task.
use Rattle.std.proofs.Common.{◌≡◌, ap, arith, length}
use Rattle.khe_instance.specs.declared.parts.EventInfo.{EventInfo}
use Rattle.khe_instance.proofs.TasksLemmas.{firsts-ascend, firsts-many, found-task}
use Rattle.khe_instance.proofs.slots.TaskTable.task.Goals as goal

pub event_of-event-requires-clause-ordered : goal.event_of-event-requires-clause-ordered
event_of-event-requires-clause-ordered c =
    firsts-ascend c.args.events.now c.args.self.now.firsts.items c.requires.table.firsts_are

pub offset_bounds-events-event : goal.offset_bounds-events-event
offset_bounds-events-event c =
    let many = firsts-many c.args.events.now c.args.self.now.firsts.items c.requires.table.firsts_are in
    omega (arith, many, c.event_of-event.ensures.within, c.requires.events)

pub bounds-events-event : goal.bounds-events-event
bounds-events-event c =
    let many = firsts-many c.args.events.now c.args.self.now.firsts.items c.requires.table.firsts_are in
    omega (arith, many, c.event_of-event.ensures.within)

pub nonzero_div-result : goal.nonzero_div-result
nonzero_div-result c =
    let x = c.index-events-event.result in
    let many : c.len-places.result ≡ length x.places =
    omega (arith, c.len-places.ensures, ap (λ (y : EventInfo). length y.places) c.index-events-event.is) in
    let it = found-task c.args.events.now c.args.self.now.firsts.items c.args.number c.event_of-event.result x
    c.index.result.now c.len-places.result c.requires.made c.requires.table.firsts_are c.requires.task
    c.event_of-event.ensures c.index-events-event.is c.index.ensures many in
    it.some

pub overflow_add-result : goal.overflow_add-result
overflow_add-result c =
    let x = c.index-events-event.result in
    let many : c.len-places.result ≡ length x.places =
    omega (arith, c.len-places.ensures, ap (λ (y : EventInfo). length y.places) c.index-events-event.is) in
    let it = found-task c.args.events.now c.args.self.now.firsts.items c.args.number c.event_of-event.result x
    c.index.result.now c.len-places.result c.requires.made c.requires.table.firsts_are c.requires.task
    c.event_of-event.ensures c.index-events-event.is c.index.ensures many in
    omega (arith, it.slot, c.requires.slots)

pub nonzero_rem-result : goal.nonzero_rem-result
nonzero_rem-result c =
    let x = c.index-events-event.result in
    let many : c.len-places.result ≡ length x.places =
    omega (arith, c.len-places.ensures, ap (λ (y : EventInfo). length y.places) c.index-events-event.is) in
    let it = found-task c.args.events.now c.args.self.now.firsts.items c.args.number c.event_of-event.result x
    c.index.result.now c.len-places.result c.requires.made c.requires.table.firsts_are c.requires.task
    c.event_of-event.ensures c.index-events-event.is c.index.ensures many in
    it.some

pub returns : goal.returns
returns c =
    let x = c.index-events-event.result in
    let many : c.len-places.result ≡ length x.places =
    omega (arith, c.len-places.ensures, ap (λ (y : EventInfo). length y.places) c.index-events-event.is) in
    let it = found-task c.args.events.now c.args.self.now.firsts.items c.args.number c.event_of-event.result x
    c.index.result.now c.len-places.result c.requires.made c.requires.table.firsts_are c.requires.task
    c.event_of-event.ensures c.index-events-event.is c.index.ensures many in
    it.task
