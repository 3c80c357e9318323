-- The sets of one more constraint.
use Rattle.std.proofs.Common.{◌≡◌, ◌++◌, ◌∷◌, [], ◌∙◌, ap, sym, map, take, get_or, List, Bool}
use Rattle.std.proofs.lemmas.List.{take_more, map-append}
use Rattle.std.proofs.lemmas.Option.{get_or_from_slice_get, slice_get_within}
use Rattle.khe_instance.specs.declared.rules.Constraint.{Constraint}
use Rattle.resource_monitors.specs.Sets.{sets_of}
use Rattle.resource_monitors.proofs.rooms.TimeSets.open.Goals as goal

pub loop-number-preserved : goal.loop-number-preserved
loop-number-preserved c =
    let sets : Constraint → List (List Bool) = λ x. sets_of x.rule in
    let all = c.args.inst.now.constraints in
    let k = c.loop-number.number in
    let x = c.constraint.result.now in
    let at : get_or all k x ≡ x = get_or_from_slice_get all k x x c.constraint.ensures in
    c.in_ok-push.ensures.items
    ∙ (λ j. c.loop-number.invariant j ++ c.in_ok-new.ensures j ∷ [])
    ∙ sym (map-append sets (take k all) (x ∷ []))
    ∙ ap (λ y. map sets (take k all ++ y ∷ [])) (sym at)
    ∙ sym (ap (map sets) (take_more all k x (slice_get_within all k x c.constraint.ensures)))
