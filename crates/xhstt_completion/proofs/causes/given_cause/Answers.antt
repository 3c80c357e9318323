-- The place has the cause.
use Rattle.std.proofs.Common.{◌≡◌, ◌∙◌, sym, ap, Some, false}
use Rattle.std.specs.Prelude.{find}
use Rattle.xhstt_completion.specs.Causes.{place_for, came_before, is_place_for}
use Rattle.xhstt_completion.specs.Entries.{role_of}
use Rattle.xhstt_completion.proofs.CausesLemmas.{given_cause-place}
use Rattle.xhstt_completion.proofs.FoundLemmas.{resource-below}
use Rattle.xhstt_completion.proofs.causes.given_cause.Goals as goal

pub place_cause-requires : goal.place_cause-requires
place_cause-requires c = resource-below c.args.inst.now c.args.given.now.reference.id c.args.resource c.requires

pub returns : goal.returns
returns c =
    let p = c.args.inst.now in
    let event = c.args.event.now in
    let given = c.args.given.now in
    let r = c.args.resource in
    let place = c.in-Some.place.now in
    let found : place_for p event given ≡ Some place =
    ap (λ x. find (is_place_for x (role_of given)) event.places) c.requires
    ∙ sym c.in-Some.ensures
    in
    let fresh : came_before c.args.before.now given ≡ false = sym c.came_before.ensures ∙ c.if-came_before.false in
    c.place_cause.ensures ∙ sym (given_cause-place p event c.args.before.now given r place
    c.requires found fresh)
