-- One event more.
use Rattle.std.proofs.Common.{◌≡◌, ◌∙◌, ◌+◌, ◌<◌, ◌∷◌, ap, sym, subst, length, drop, slice_get}
use Rattle.std.specs.List.{enumerate_from, flat_map}
use Rattle.xhstt_completion.specs.Completed.{meets_at, tasks_at}
use Rattle.xhstt_completion.proofs.PartsLemmas.{element-there, append-step}
use Rattle.xhstt_completion.proofs.states.state_of.Goals as goal
use Rattle.khe_base.proofs.ListLemmas.{drop-next}

pub chained-requires-clause-many : goal.chained-requires-clause-many
chained-requires-clause-many c = ap length c.as_slice.ensures ∙ c.requires.many

pub chained-requires-clause-events : goal.chained-requires-clause-events
chained-requires-clause-events c = λ i entry n at_entry at_n.
    (c.requires.each i entry n at_entry (ap (λ ns. slice_get ns i) (sym c.as_slice.ensures) ∙ at_n)).event

pub push_event-requires-clause-own : goal.push_event-requires-clause-own
push_event-requires-clause-own c =
    let e = c.loop-event.event in
    let within : e < length c.args.inst.now.events =
    subst (λ k. e < k) c.events-event-end.ensures c.loop-event-test.true in
    c.in_ok-chains.ensures.chains e within

pub loop-event-preserved : goal.loop-event-preserved
loop-event-preserved c =
    let p = c.args.inst.now in
    let entries = c.args.entries.now in
    let e = c.loop-event.event in
    let within : e < length p.events = subst (λ k. e < k) c.events-event-end.ensures c.loop-event-test.true in
    let there = element-there p.events e within in
    let event = there.value in
    let next : enumerate_from e (drop e p.events) ≡ (e, event) ∷ enumerate_from (e + 1) (drop (e + 1) p.events) =
    ap (enumerate_from e) (drop-next p.events e event within there.at)
    in
    record {
      meets = append-step _ c.loop-event.timetable.meets (meets_at p entries (e, event))
          (flat_map (meets_at p entries) (enumerate_from (e + 1) (drop (e + 1) p.events))) _ _
          (c.in_ok-push_event.ensures.meets event there.found)
          (ap (flat_map (meets_at p entries)) next)
          c.loop-event.invariant.meets;
      tasks = append-step _ c.loop-event.timetable.tasks (tasks_at p entries (e, event))
          (flat_map (tasks_at p entries) (enumerate_from (e + 1) (drop (e + 1) p.events))) _ _
          (c.in_ok-push_event.ensures.tasks event there.found)
          (ap (flat_map (tasks_at p entries)) next)
          c.loop-event.invariant.tasks;
    }
