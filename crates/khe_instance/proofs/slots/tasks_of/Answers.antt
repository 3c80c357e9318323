-- The tasks of one more event.
use Rattle.std.proofs.Common.{ℕ, ◌*◌, ◌++◌, ◌∷◌, [], ◌∙◌, ap, sym, arith, length}
use Rattle.std.proofs.lemmas.List.FromFn.{map-range_with_len_more}
use Rattle.std.proofs.lemmas.List.Sums.{sum_by_more}
use Rattle.khe_instance.specs.SlotTables.{tasks_before}
use Rattle.khe_instance.specs.declared.parts.EventInfo.{EventInfo}
use Rattle.khe_instance.proofs.slots.tasks_of.Goals as goal

pub loop-event-preserved : goal.loop-event-preserved
loop-event-preserved c =
    let events = c.args.events.now in
    let e = c.loop-event.event-index in
    let count = c.loop-event.invariant.1 in
    let many : EventInfo → ℕ = λ x. x.duration * length x.places in (
      c.in_ok-push.ensures.items
          ∙ (λ i. c.loop-event.invariant.0 i ++ count i ∷ [])
          ∙ sym (map-range_with_len_more (tasks_before events) 0 e e (omega arith)),
      (omega (
        arith,
        count,
        ap many c.event-item.is,
        ap (λ n. c.event-item.result.duration * n) c.len.ensures,
        sum_by_more many events e c.event-item.result c.loop-event-test.true,
      )),
    )
