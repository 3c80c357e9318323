-- One more place.
use Rattle.std.proofs.Common.{◌∙◌, ◌||◌, Some, None, ap, sym, subst, take}
use Rattle.std.specs.List.{list_any}
use Rattle.std.proofs.lemmas.List.Folds.{list_any_more}
use Rattle.khe_instance.specs.WellMade.{IsPlace}
use Rattle.xhstt_completion.specs.Causes.{is_place_for}
use Rattle.xhstt_completion.proofs.many.unnamed_of.Goals as goal

pub note-requires-clause-place : goal.note-requires-clause-place
note-requires-clause-place c =
    subst (IsPlace c.args.inst.now) (sym c.place-item.is)
    (c.requires c.loop-place.place-index c.place-item.result c.loop-place-test.true)

pub loop-place-preserved : goal.loop-place-preserved
loop-place-preserved c =
    let i = c.loop-place.place-index in
    let places = c.args.places.now in
    let place = c.place-item.result in
    record {
      many = c.note.ensures.many;
      has = λ r.
          let test = is_place_for (Some (record { 0 = r })) None in
          c.note.ensures.has r ∙ ap (λ b. b || test place) (c.loop-place.invariant.has r)
          ∙ ap (λ x. list_any test (take i places) || test x) c.place-item.is
          ∙ sym (list_any_more test places i place c.loop-place-test.true);
    }
