-- Meets and their duties, side by side.
use Rattle.std.proofs.Common.{◌≡◌, ◌∙◌, ◌<◌, ◌++◌, All, ap, ap₂, length, map, subst, sym}
use Rattle.std.proofs.lemmas.List.{drop_more}
use Rattle.std.proofs.lemmas.List.Elements.{All-drop}
use Rattle.std.proofs.lemmas.Option.{slice_get_within}
use Rattle.khe_instance.specs.Running.{duties}
use Rattle.khe_instance.specs.States.{IsGiven}
use Rattle.event_deviations.proofs.Beside.{Beside-from_told, places_there}
use Rattle.xhstt_entries.specs.Spelled.{entry_of}
use Rattle.xhstt_entries.proofs.Own.{all_own, enough_left, one_more, own_taken, stands_on, told_of}
use Rattle.xhstt_entries.proofs.spelling.entries.Goals as goal

pub loop-meet-init : goal.loop-meet-init
loop-meet-init c =
    let p = c.args.inst.now in
    let xs = c.as_slice-meets.result.now in
    let ts = c.as_slice.result.now in
    let rest = c.as_slice-rest.result.now in
    let found : rest ≡ duties xs ts = c.as_slice-rest.ensures ∙ c.in_ok-owned.ensures in
    let same : duties xs ts ≡ duties c.args.plain.now.meets c.args.plain.now.tasks =
    ap₂ duties c.as_slice-meets.ensures c.as_slice.ensures in
    record {
      made = ap (λ l. l ++ map (entry_of p rest) xs) c.new-entries.ensures
          ∙ ap₂ (λ r l. map (entry_of p r) l) (found ∙ same) c.as_slice-meets.ensures;
      stands = record {
        tasks = ts;
        beside = Beside-from_told p xs ts (told_of p c.args.plain.now.meets xs c.args.plain.now.tasks ts
            c.as_slice-meets.ensures c.as_slice.ensures c.requires);
        is = found;
      };
      given = subst (All (IsGiven p)) (sym (found ∙ same)) c.requires.given;
    }

pub event-requires : goal.event-requires
event-requires c =
    let told = told_of c.args.inst.now c.args.plain.now.meets c.as_slice-meets.result.now c.args.plain.now.tasks
    c.as_slice.result.now c.as_slice-meets.ensures c.as_slice.ensures c.requires in
    let slot = (told.meets c.loop-meet.meet-index _ c.loop-meet-test.true).slot in
    slice_get_within c.args.inst.now.events _ slot.0 slot.1

pub split_at-requires : goal.split_at-requires
split_at-requires c =
    let xs = c.as_slice-meets.result.now in
    let i = c.loop-meet.meet-index in
    enough_left c.args.inst.now xs i _ c.loop-meet.rest.now (drop_more xs i _ c.loop-meet-test.true)
    c.loop-meet.invariant.stands _
    (places_there c.args.inst.now.events _ _ c.event.result.now c.event.ensures c.len-places.ensures)

pub entry-requires-clause-event : goal.entry-requires-clause-event
entry-requires-clause-event c =
    let told = told_of c.args.inst.now c.args.plain.now.meets c.as_slice-meets.result.now c.args.plain.now.tasks
    c.as_slice.result.now c.as_slice-meets.ensures c.as_slice.ensures c.requires in
    let slot = (told.meets c.loop-meet.meet-index _ c.loop-meet-test.true).slot in
    slice_get_within c.args.inst.now.events _ slot.0 slot.1

pub entry-requires-clause-events : goal.entry-requires-clause-events
entry-requires-clause-events c =
    let p = c.args.inst.now in
    let xs = c.as_slice-meets.result.now in
    let i = c.loop-meet.meet-index in
    let told = told_of p c.args.plain.now.meets xs c.args.plain.now.tasks c.as_slice.result.now c.as_slice-meets.ensures
    c.as_slice.ensures c.requires in
    let slot = (told.meets i _ c.loop-meet-test.true).slot in
    let there = slice_get_within p.events _ slot.0 slot.1 in
    let places = places_there p.events _ _ c.event.result.now c.event.ensures c.len-places.ensures in
    subst (All (λ d. d.meet.event.0 < length p.events))
    (sym (c.split_at.ensures.front ∙ own_taken p xs i _ c.loop-meet.rest.now (drop_more xs i _ c.loop-meet-test.true)
    c.loop-meet.invariant.stands _ places))
    (all_own (λ m. m.event.0 < length p.events) _ there _)

pub loop-meet-preserved : goal.loop-meet-preserved
loop-meet-preserved c =
    let p = c.args.inst.now in
    let xs = c.as_slice-meets.result.now in
    let i = c.loop-meet.meet-index in
    let rest = c.loop-meet.rest.now in
    let here = drop_more xs i _ c.loop-meet-test.true in
    let places = places_there p.events _ _ c.event.result.now c.event.ensures c.len-places.ensures in
    record {
      made = rw (c.in_ok-push.ensures.ok, c.in_ok-made.ensures, c.split_at.ensures.front, c.split_at.ensures.back)
          (one_more p xs i _ rest here c.loop-meet.invariant.stands _ places _ _ c.loop-meet.invariant.made);
      stands = rw c.split_at.ensures.back (stands_on p xs i _ rest here c.loop-meet.invariant.stands _ places);
      given = rw c.split_at.ensures.back (All-drop (IsGiven p) c.len-places.result rest c.loop-meet.invariant.given);
    }
