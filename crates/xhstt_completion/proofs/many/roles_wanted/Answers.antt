-- One more place.
use Rattle.std.proofs.Common.{◌++◌, ◌∷◌, ◌∙◌, [], subst, sym, ap, take}
use Rattle.khe_instance.specs.declared.parts.Place.{Place}
use Rattle.xhstt_completion.specs.Tables.{Finds, wanted_role, wanted_roles}
use Rattle.xhstt_completion.proofs.TableLemmas.{mapped-next, mapped-long}
use Rattle.xhstt_completion.proofs.many.roles_wanted.Goals as goal

pub loop-number-preserved : goal.loop-number-preserved
loop-number-preserved c =
    let given = c.args.given.now in
    let places = c.args.places.now in
    let i = c.loop-number.number in
    let place = c.index-places-number.result in
    let before = wanted_roles given (take i places) in
    subst (Finds c.push.new.self)
    (ap (λ r. before ++ r ∷ []) c.wanted_role.ensures
    ∙ sym (mapped-next (λ (x : Place). wanted_role given x.role) places i place c.loop-number-test.true
    c.index-places-number.is))
    (c.in_ok-push.ensures before
    (mapped-long (λ (x : Place). wanted_role given x.role) places i c.loop-number-test.true) c.loop-number.invariant)
