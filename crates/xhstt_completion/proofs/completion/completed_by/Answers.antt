-- The state is valid.
use Rattle.std.proofs.Common.{◌≡◌, ◌∙◌, [], sym, subst, None}
use Rattle.std.specs.Prelude.{All}
use Rattle.khe_instance.specs.States.{IsValid}
use Rattle.xhstt_completion.specs.Causes.{first_cause}
use Rattle.xhstt_completion.specs.Entries.{IsEntry}
use Rattle.xhstt_completion.proofs.FitLemmas.{event-fits}
use Rattle.xhstt_completion.proofs.Valid.{state-valid}
use Rattle.xhstt_completion.proofs.completion.completed_by.Goals as goal

pub state_of-requires-clause-fit : goal.state_of-requires-clause-fit
state_of-requires-clause-fit c =
    let p = c.args.inst.now in
    let entries = c.args.entries.now in
    let none : first_cause p [] entries ≡ None = sym (c.in_ok-cause.ensures) ∙ c.in_default.is in
    event-fits p entries none

pub returns-clause-valid : goal.returns-clause-valid
returns-clause-valid c =
    let p = c.args.inst.now in
    let entries = c.args.entries.now in
    let none : first_cause p [] entries ≡ None = sym (c.in_ok-cause.ensures) ∙ c.in_default.is in
    let named : All (IsEntry p) entries = subst (All (IsEntry p)) (sym c.requires.entries) c.requires.solution in
    subst (IsValid p) (sym (c.in_ok-state_of.ensures)) (state-valid p entries c.facts.ensures named none)
