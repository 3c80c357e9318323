-- There is a cause where no place has the resource.
use Rattle.std.proofs.Common.{◌≡◌, ◌∙◌, ap, sym, Some, None, true, false, if◌then◌else◌}
use Rattle.std.specs.List.{list_any}
use Rattle.xhstt_completion.specs.Causes.{is_place_for}
use Rattle.fault_tables.specs.declared.causes.TheConstants.{BAD_ROLE}
use Rattle.xhstt_completion.proofs.ManyLemmas.{unnamed-known}
use Rattle.xhstt_completion.proofs.many.unnamed_cause.Goals as goal

pub returns-then-has : goal.returns-then-has
returns-then-has c =
    let event = c.args._event.now in
    let r = c.args.resource in
    let has : list_any (is_place_for (Some r) None) event.places ≡ true =
    sym (c.requires.wanted.unnamed r.0) ∙ sym c.has.ensures.below ∙ c.if-has.true in
    sym (unnamed-known c.args._inst.now event r c.requires.event ∙ ap (λ b. if b then None else Some BAD_ROLE) has)

pub returns-else-has : goal.returns-else-has
returns-else-has c =
    let event = c.args._event.now in
    let r = c.args.resource in
    let has : list_any (is_place_for (Some r) None) event.places ≡ false =
    sym (c.requires.wanted.unnamed r.0) ∙ sym c.has.ensures.below ∙ c.if-has.false in
    sym (unnamed-known c.args._inst.now event r c.requires.event ∙ ap (λ b. if b then None else Some BAD_ROLE) has)
