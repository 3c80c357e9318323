-- Each meet has its slot, which is free, and its tasks are the next ones.
use Rattle.std.proofs.Common.{◌≡◌, ◌+◌, ◌-◌, ◌∙◌, None, arith, ap, drop, get_or, length, set, subst, take}
use Rattle.khe_instance.specs.Lookups.{places_at}
use Rattle.khe_instance.specs.declared.states.Meet.{Meet}
use Rattle.khe_told.specs.Filled.{filled}
use Rattle.khe_told.specs.Slots.{slot_at}
use Rattle.khe_told.specs.Stored.{slots_in}
use Rattle.khe_told.proofs.FillingLaws.{IsReady, amid_done, amid_more, amid_start, meet_read, next_ready, places_read}
use Rattle.khe_told.proofs.FillingLaws.{ready}
use Rattle.khe_told.proofs.StoredLaws.{length-slots_in}
use Rattle.khe_told.proofs.filling.put_all.Goals as goal

abbrev none : Meet
none = record { meet = record { 0 = 0 }; event = record { 0 = 0 }; duration = 0; start = None }

pub loop-meet-init : goal.loop-meet-init
loop-meet-init c = (
  c.requires.order,
  amid_start c.args.inst.now c.args.plain.now.meets c.args.plain.now.tasks
      (slots_in 0 c.args.rows.now.items c.args.given.now.items) c.requires.free c.requires.told,
)

pub event-requires : goal.event-requires
event-requires c =
    let ms = c.as_slice-meet-items.result.now in
    let m = get_or ms c.loop-meet.meet-index none in
    let s = slots_in 0 c.loop-meet.rows.items c.loop-meet.given.items in
    let at = meet_read c.args.plain.now.meets ms c.loop-meet.meet-index none c.as_slice-meet-items.ensures
    (omega arith) in
    let next = next_ready c.args.inst.now c.args.plain.now.meets c.args.plain.now.tasks s c.loop-meet.meet-index
    c.loop-meet.next m c.facts.ensures.first_meets c.requires.told c.loop-meet.invariant.1 at in
    next.event

pub overflow_add-next : goal.overflow_add-next
overflow_add-next c =
    let ms = c.as_slice-meet-items.result.now in
    let m = get_or ms c.loop-meet.meet-index none in
    let s = slots_in 0 c.loop-meet.rows.items c.loop-meet.given.items in
    let at = meet_read c.args.plain.now.meets ms c.loop-meet.meet-index none c.as_slice-meet-items.ensures
    (omega arith) in
    let next = next_ready c.args.inst.now c.args.plain.now.meets c.args.plain.now.tasks s c.loop-meet.meet-index
    c.loop-meet.next m c.facts.ensures.first_meets c.requires.told c.loop-meet.invariant.1 at in
    let places = places_read c.args.inst.now.events m.event.0 c.len-places.result c.event.result.now c.event.ensures
    c.len-places.ensures in
    let room = next.room in
    let same = ap length c.as_slice-tasks.ensures in
    omega (arith, room, places, same)

pub slice_bounds-put-end : goal.slice_bounds-put-end
slice_bounds-put-end c =
    let ms = c.as_slice-meet-items.result.now in
    let m = get_or ms c.loop-meet.meet-index none in
    let s = slots_in 0 c.loop-meet.rows.items c.loop-meet.given.items in
    let at = meet_read c.args.plain.now.meets ms c.loop-meet.meet-index none c.as_slice-meet-items.ensures
    (omega arith) in
    let next = next_ready c.args.inst.now c.args.plain.now.meets c.args.plain.now.tasks s c.loop-meet.meet-index
    c.loop-meet.next m c.facts.ensures.first_meets c.requires.told c.loop-meet.invariant.1 at in
    let places = places_read c.args.inst.now.events m.event.0 c.len-places.result c.event.result.now c.event.ensures
    c.len-places.ensures in
    let room = next.room in
    let same = ap length c.as_slice-tasks.ensures in
    omega (arith, room, places, same)

pub put-requires-clause-there : goal.put-requires-clause-there
put-requires-clause-there c =
    let ms = c.as_slice-meet-items.result.now in
    let m = get_or ms c.loop-meet.meet-index none in
    let s = slots_in 0 c.loop-meet.rows.items c.loop-meet.given.items in
    let at = meet_read c.args.plain.now.meets ms c.loop-meet.meet-index none c.as_slice-meet-items.ensures
    (omega arith) in
    let next = next_ready c.args.inst.now c.args.plain.now.meets c.args.plain.now.tasks s c.loop-meet.meet-index
    c.loop-meet.next m c.facts.ensures.first_meets c.requires.told c.loop-meet.invariant.1 at in
    let there = next.there in
    let many = length-slots_in 0 c.loop-meet.rows.items c.loop-meet.given.items in
    omega (arith, there, many)

pub put-requires-clause-many : goal.put-requires-clause-many
put-requires-clause-many c =
    let ms = c.as_slice-meet-items.result.now in
    let m = get_or ms c.loop-meet.meet-index none in
    let s = slots_in 0 c.loop-meet.rows.items c.loop-meet.given.items in
    let at = meet_read c.args.plain.now.meets ms c.loop-meet.meet-index none c.as_slice-meet-items.ensures
    (omega arith) in
    let next = next_ready c.args.inst.now c.args.plain.now.meets c.args.plain.now.tasks s c.loop-meet.meet-index
    c.loop-meet.next m c.facts.ensures.first_meets c.requires.told c.loop-meet.invariant.1 at in
    let places = places_read c.args.inst.now.events m.event.0 c.len-places.result c.event.result.now c.event.ensures
    c.len-places.ensures in
    let n : c.loop-meet.next + c.len-places.result - c.loop-meet.next ≡ places_at c.args.inst.now.events m.event.0 =
    omega (arith, places) in
    (λ i. length (take (n i) (drop c.loop-meet.next (c.as_slice-tasks.ensures i)))) ∙ next.many

pub loop-meet-preserved : goal.loop-meet-preserved
loop-meet-preserved c =
    let ms = c.as_slice-meet-items.result.now in
    let m = get_or ms c.loop-meet.meet-index none in
    let s = slots_in 0 c.loop-meet.rows.items c.loop-meet.given.items in
    let at = meet_read c.args.plain.now.meets ms c.loop-meet.meet-index none c.as_slice-meet-items.ensures
    (omega arith) in
    let places = places_read c.args.inst.now.events m.event.0 c.len-places.result c.event.result.now c.event.ensures
    c.len-places.ensures in
    let ready_now = ready c.args.inst.now c.args.plain.now.meets c.args.plain.now.tasks s c.loop-meet.meet-index
    c.loop-meet.next m c.facts.ensures.first_meets c.requires.told c.loop-meet.invariant.1 at in
    let n : c.loop-meet.next + c.len-places.result - c.loop-meet.next ≡ c.len-places.result = omega arith in
    let put = c.put.ensures.slots ∙ (λ i. set s m.meet.0
    (filled (slot_at s m.meet.0) m (take (n i) (drop c.loop-meet.next (c.as_slice-tasks.ensures i))))) in (
      c.put.ensures.order,
      amid_more c.args.inst.now c.args.plain.now.meets c.args.plain.now.tasks s
          (slots_in 0 c.put.new.rows.items c.put.new.given.items) c.loop-meet.meet-index c.loop-meet.next
          c.len-places.result m
          c.requires.told c.loop-meet.invariant.1 at
          (subst (IsReady c.args.inst.now c.args.plain.now.meets c.args.plain.now.tasks s c.loop-meet.meet-index
          c.loop-meet.next m) places ready_now) put,
    )

pub returns-clause-filled : goal.returns-clause-filled
returns-clause-filled c =
    let many = ap length c.as_slice-meet-items.ensures in
    amid_done c.args.inst.now c.args.plain.now.meets c.args.plain.now.tasks
    (slots_in 0 c.loop-meet.rows.items c.loop-meet.given.items) c.loop-meet.meet-index c.loop-meet.next
    (omega (arith, many)) c.loop-meet.invariant.1
