use Rattle.std.proofs.Common.{ap, ◌++◌}
use Rattle.std.proofs.lemmas.List.{drop_more}
use Rattle.std.proofs.lemmas.Option.{slice_get_within}
use Rattle.khe_instance.specs.Running.{duties}
use Rattle.event_deviations.proofs.Beside.{Beside-from_told, Beside-step, duties-step, enough-step, places_there}
use Rattle.event_deviations.proofs.tasks.duties.Goals as goal

pub loop-meet-init : goal.loop-meet-init
loop-meet-init c = record {
  made = ap (λ l. l ++ duties c.args.meets.now c.args.tasks.now) c.in_ok-duties.ensures;
  beside = Beside-from_told c.args.inst.now c.args.meets.now c.args.tasks.now c.requires;
}

pub event-requires : goal.event-requires
event-requires c =
    let slot = (c.requires.meets c.loop-meet.meet-index _ c.loop-meet-test.true).slot in
    slice_get_within c.args.inst.now.events _ slot.0 slot.1

pub split_at-requires : goal.split_at-requires
split_at-requires c =
    let xs = c.args.meets.now in
    let i = c.loop-meet.meet-index in
    enough-step c.args.inst.now xs i _ c.loop-meet.rest.now (drop_more xs i _ c.loop-meet-test.true)
    c.loop-meet.invariant.beside _
    (places_there c.args.inst.now.events _ _ c.event.result.now c.event.ensures c.len-places.ensures)

pub loop-meet-preserved : goal.loop-meet-preserved
loop-meet-preserved c =
    let xs = c.args.meets.now in
    let i = c.loop-meet.meet-index in
    let here = drop_more xs i _ c.loop-meet-test.true in
    let places = places_there c.args.inst.now.events _ _ c.event.result.now c.event.ensures c.len-places.ensures in
    record {
      made = rw (c.in_ok-push_duties.ensures, c.split_at.ensures.front, c.split_at.ensures.back)
          (duties-step c.args.inst.now xs i _ c.loop-meet.rest.now here c.loop-meet.invariant.beside _ places _ _
          c.loop-meet.invariant.made);
      beside = rw c.split_at.ensures.back (Beside-step c.args.inst.now xs i _ c.loop-meet.rest.now here
          c.loop-meet.invariant.beside _ places);
    }
