-- One constraint more.
use Rattle.std.proofs.Common.{◌≡◌, ◌∙◌, ap, sym, map, take, ◌++◌, ◌∷◌, [], get_or, List, ℕ}
use Rattle.std.proofs.lemmas.List.{map_more}
use Rattle.std.proofs.lemmas.Option.{get_or_from_slice_get, slice_get_within}
use Rattle.khe_instance.specs.ByTime.{words_in}
use Rattle.khe_instance.specs.declared.rules.Constraint.{Constraint}
use Rattle.khe_instance.proofs.by_time.listed_words.Goals as goal

pub loop-constraint-preserved : goal.loop-constraint-preserved
loop-constraint-preserved c =
    let xs = c.args.inst.now.constraints in
    let k = c.loop-constraint.constraint in
    let x = c.constraint.result.now in
    let made : Constraint → List ℕ = λ y. words_in c.args.words y.rule in
    c.in_ok-push.ensures.ok
    ∙ (λ j. c.loop-constraint.invariant j ++ c.in_ok-words_of.ensures j ∷ [])
    ∙ ap (λ y. map made (take k xs) ++ made y ∷ []) (sym (get_or_from_slice_get xs k x x c.constraint.ensures))
    ∙ sym (map_more made xs k x (slice_get_within xs k x c.constraint.ensures))
