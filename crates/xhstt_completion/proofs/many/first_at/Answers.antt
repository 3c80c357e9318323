-- The next resource has the first cause, or those after it have.
use Rattle.std.proofs.Common.{◌≡◌, ◌∙◌, ◌+◌, ◌++◌, ◌∷◌, [], sym, ap, arith, true, false, take, drop, refl}
use Rattle.std.proofs.lemmas.Option.{slice_get_read}
use Rattle.std.specs.Prelude.{is_some}
use Rattle.xhstt_completion.specs.Causes.{given_cause, first_given_cause}
use Rattle.xhstt_completion.proofs.CausesLemmas.{first_given_cause-drop, option_or-some, option_or-none, take-next}
use Rattle.xhstt_completion.proofs.FoundLemmas.{as-many, given-taken}
use Rattle.xhstt_completion.proofs.many.first_at.Goals as goal

pub cause_at-cause-requires-clause-there : goal.cause_at-cause-requires-clause-there
cause_at-cause-requires-clause-there c =
    slice_get_read c.args.given.now _ c.loop-number.number c.index-given-number.result refl c.loop-number-test.true
    c.index-given-number.is

pub cause_at-cause-requires-clause-resource : goal.cause_at-cause-requires-clause-resource
cause_at-cause-requires-clause-resource c =
    given-taken c.args.inst.now c.args.given.now c.args.resources.now c.loop-number.number c.index-given-number.result
    (record { 0 = 0 }) c.requires.resources c.loop-number-test.true c.index-given-number.is

pub bounds-resources-number : goal.bounds-resources-number
bounds-resources-number c =
    omega (arith, as-many c.args.inst.now c.args.given.now c.args.resources.now c.requires.resources, c.loop-number-test.true)

pub returns-then-is_some : goal.returns-then-is_some
returns-then-is_some c =
    let p = c.args.inst.now in
    let event = c.args.event.now in
    let given = c.args.given.now in
    let i = c.loop-number.number in
    let one = c.index-given-number.result in
    let cause : c.cause_at-cause.result ≡ given_cause p event (take i given) one = c.cause_at-cause.ensures in
    let some : is_some (given_cause p event (take i given) one) ≡ true =
    ap is_some (sym cause) ∙ sym c.is_some.ensures ∙ c.if-is_some.true in
    cause ∙ sym (option_or-some _ (first_given_cause p event (take i given ++ one ∷ []) (drop (i + 1) given)) some)
    ∙ sym (first_given_cause-drop p event (take i given) given i one c.loop-number-test.true c.index-given-number.is)
    ∙ c.loop-number.invariant

pub loop-number-preserved : goal.loop-number-preserved
loop-number-preserved c =
    let p = c.args.inst.now in
    let event = c.args.event.now in
    let given = c.args.given.now in
    let i = c.loop-number.number in
    let one = c.index-given-number.result in
    let cause : c.cause_at-cause.result ≡ given_cause p event (take i given) one = c.cause_at-cause.ensures in
    let none : is_some (given_cause p event (take i given) one) ≡ false =
    ap is_some (sym cause) ∙ sym c.is_some.ensures ∙ c.if-is_some.false in
    ap (λ before. first_given_cause p event before (drop (i + 1) given))
    (take-next given i one c.loop-number-test.true c.index-given-number.is)
    ∙ sym (option_or-none _ (first_given_cause p event (take i given ++ one ∷ []) (drop (i + 1) given)) none)
    ∙ sym (first_given_cause-drop p event (take i given) given i one c.loop-number-test.true c.index-given-number.is)
    ∙ c.loop-number.invariant
