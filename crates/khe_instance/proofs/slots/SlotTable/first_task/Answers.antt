-- The slots of the event before this one have as many tasks as the event has places.
use Rattle.std.proofs.Common.{◌≡◌, ◌∙◌, ◌*◌, ◌-◌, ◌+◌, ap, arith, length}
use Rattle.khe_instance.specs.declared.parts.EventInfo.{EventInfo}
use Rattle.khe_instance.proofs.TasksLemmas.{firsts-at, firsts-many, owner-below, slot-owner, start-of, table-slots}
use Rattle.khe_instance.proofs.slots.SlotTable.first_task.Goals as goal

pub index-requires : goal.index-requires
index-requires c =
    let many = table-slots c.args.events.now c.args.self.now c.requires.table in
    omega (arith, many, c.args.self.now.events.ok, c.requires.slot)

pub bounds-events-event : goal.bounds-events-event
bounds-events-event c =
    let own = slot-owner c.args.events.now c.args.self.now.events.items c.args.meet.0 c.index.result.now
    c.requires.table.slots_are c.requires.made c.requires.slot c.index.ensures in
    owner-below c.args.events.now c.args.meet.0 c.index.result.now own

pub overflow_sub-before : goal.overflow_sub-before
overflow_sub-before c =
    let own = slot-owner c.args.events.now c.args.self.now.events.items c.args.meet.0 c.index.result.now
    c.requires.table.slots_are c.requires.made c.requires.slot c.index.ensures in
    (start-of c.args.events.now c.args.meet.0 c.index.result.now c.index-events-event.result
    (length c.index-events-event.result.places) c.requires.made own c.index-events-event.is
    (λ i. length c.index-events-event.result.places)).low

pub overflow_mul-before : goal.overflow_mul-before
overflow_mul-before c =
    let own = slot-owner c.args.events.now c.args.self.now.events.items c.args.meet.0 c.index.result.now
    c.requires.table.slots_are c.requires.made c.requires.slot c.index.ensures in
    let x = c.index-events-event.result in
    let many : c.len.result ≡ length x.places =
    omega (arith, c.len.ensures, ap (λ (y : EventInfo). length y.places) c.index-events-event.is) in
    let start = start-of c.args.events.now c.args.meet.0 c.index.result.now x c.len.result c.requires.made own
    c.index-events-event.is many in
    omega (arith, start.before, start.few, c.requires.tasks)

pub index-requires-2 : goal.index-requires-2
index-requires-2 c =
    let own = slot-owner c.args.events.now c.args.self.now.events.items c.args.meet.0 c.index.result.now
    c.requires.table.slots_are c.requires.made c.requires.slot c.index.ensures in
    let below = owner-below c.args.events.now c.args.meet.0 c.index.result.now own in
    let many = firsts-many c.args.events.now c.args.self.now.tasks.firsts.items
    c.requires.table.tasks_are.firsts_are in
    omega (arith, many, below, c.args.self.now.tasks.firsts.ok)

pub overflow_cast-result : goal.overflow_cast-result
overflow_cast-result c =
    let own = slot-owner c.args.events.now c.args.self.now.events.items c.args.meet.0 c.index.result.now
    c.requires.table.slots_are c.requires.made c.requires.slot c.index.ensures in
    let x = c.index-events-event.result in
    let many : c.len.result ≡ length x.places =
    omega (arith, c.len.ensures, ap (λ (y : EventInfo). length y.places) c.index-events-event.is) in
    let start = start-of c.args.events.now c.args.meet.0 c.index.result.now x c.len.result c.requires.made own
    c.index-events-event.is many in
    omega (arith, start.before, start.few, c.requires.tasks)

pub overflow_add-result : goal.overflow_add-result
overflow_add-result c =
    let own = slot-owner c.args.events.now c.args.self.now.events.items c.args.meet.0 c.index.result.now
    c.requires.table.slots_are c.requires.made c.requires.slot c.index.ensures in
    let x = c.index-events-event.result in
    let many : c.len.result ≡ length x.places =
    omega (arith, c.len.ensures, ap (λ (y : EventInfo). length y.places) c.index-events-event.is) in
    let start = start-of c.args.events.now c.args.meet.0 c.index.result.now x c.len.result c.requires.made own
    c.index-events-event.is many in
    let first = c.index-2.ensures ∙ firsts-at c.args.events.now c.args.self.now.tasks.firsts.items
    c.requires.table.tasks_are.firsts_are c.index.result.now c.index-2.result.now
    (owner-below c.args.events.now c.args.meet.0 c.index.result.now own) in
    omega (arith, start.before, start.few, c.requires.tasks, first)

pub returns : goal.returns
returns c =
    let own = slot-owner c.args.events.now c.args.self.now.events.items c.args.meet.0 c.index.result.now
    c.requires.table.slots_are c.requires.made c.requires.slot c.index.ensures in
    let x = c.index-events-event.result in
    let many : c.len.result ≡ length x.places =
    omega (arith, c.len.ensures, ap (λ (y : EventInfo). length y.places) c.index-events-event.is) in
    let start = start-of c.args.events.now c.args.meet.0 c.index.result.now x c.len.result c.requires.made own
    c.index-events-event.is many in
    let first = c.index-2.ensures ∙ firsts-at c.args.events.now c.args.self.now.tasks.firsts.items
    c.requires.table.tasks_are.firsts_are c.index.result.now c.index-2.result.now
    (owner-below c.args.events.now c.args.meet.0 c.index.result.now own) in
    ap (λ n. n + (c.args.meet.0 - x.first_meet) * c.len.result) first ∙ start.before
