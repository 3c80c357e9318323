-- One more duration.
use Rattle.std.proofs.Common.{◌∙◌, ◌++◌, ◌∷◌, [], sym, ap, map, take}
use Rattle.std.proofs.lemmas.List.{map_more}
use Rattle.std.proofs.lemmas.Option.{get_or_from_slice_get, slice_get_within}
use Rattle.khe_instance.specs.declared.parts.EventInfo.{EventInfo}
use Rattle.xhstt_completion.proofs.checking.durations_of.Goals as goal

pub loop-number-preserved : goal.loop-number-preserved
loop-number-preserved c =
    let events = c.args.inst.now.events in
    let n = c.loop-number.number in
    let event = c.event.result.now in
    c.in_ok-push.ensures.items
    ∙ ap (λ xs. xs ++ event.duration ∷ []) c.loop-number.invariant
    ∙ ap (λ (x : EventInfo). map (λ e. e.duration) (take n events) ++ x.duration ∷ [])
    (sym (get_or_from_slice_get events n event event c.event.ensures))
    ∙ sym (map_more (λ (x : EventInfo). x.duration) events n event (slice_get_within events n event c.event.ensures))
