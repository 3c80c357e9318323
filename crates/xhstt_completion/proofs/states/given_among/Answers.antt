-- The first one that is given for the role.
use Rattle.std.proofs.Common.{◌≡◌, ◌∙◌, ◌+◌, true, ap, sym, drop}
use Rattle.khe_base.proofs.ListLemmas.{drop-next}
use Rattle.khe_instance.specs.Lookups.{is_role}
use Rattle.xhstt_completion.specs.Completed.{given_for}
use Rattle.xhstt_completion.specs.Entries.{role_of}
use Rattle.xhstt_completion.proofs.FoundLemmas.{given-first, given-taken}
use Rattle.xhstt_completion.proofs.states.given_among.Goals as goal

pub returns-then-is_given_for : goal.returns-then-is_given_for
returns-then-is_given_for c =
    let p = c.args._inst.now in
    let given = c.args.given.now in
    let role = c.args.role.now in
    let i = c.loop-number.number in
    let one = c.index-given-number.result in
    let mine : is_role role (role_of one) ≡ true = ap (λ r. is_role r (role_of one)) (sym c.spelling.ensures) ∙ sym c.is_given_for.ensures ∙ c.if-is_given_for.true in
    sym (given-taken p given c.args.resources.now i one (record { 0 = 0 }) c.requires c.loop-number-test.true
    c.index-given-number.is)
    ∙ sym (given-first p one (drop (i + 1) given) role mine)
    ∙ ap (λ xs. given_for p xs role) (sym (drop-next given i one c.loop-number-test.true c.index-given-number.is))
    ∙ c.loop-number.invariant
