-- The place has the cause.
use Rattle.std.proofs.Common.{◌≡◌, ◌∙◌, sym, take, Some, false}
use Rattle.khe_base.specs.Text.{characters}
use Rattle.xhstt_completion.specs.Tables.{is_given}
use Rattle.xhstt_completion.proofs.ManyLemmas.{named-place}
use Rattle.xhstt_completion.proofs.many.named_cause.Goals as goal

pub returns : goal.returns
returns c =
    let before = take c.args.number c.args.given.now in
    let fresh : is_given before (characters c.args.role.now) ≡ false = sym c.came_earlier.ensures ∙ c.if-came_earlier.false in
    c.place_cause.ensures
    ∙ sym (named-place c.args.inst.now c.args.event.now before (characters c.args.role.now) (Some c.args.resource)
    c.in-Some.place.now (sym c.in-Some.ensures) fresh)
