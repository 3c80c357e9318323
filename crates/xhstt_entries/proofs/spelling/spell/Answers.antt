-- The entries are those of the timetable, and say it again.
use Rattle.std.proofs.Common.{◌≡◌, [], All, subst, sym}
use Rattle.std.specs.Prelude.{Ok}
use Rattle.xhstt_completion.specs.Causes.{first_cause}
use Rattle.xhstt_completion.specs.Completed.{state_of, unless}
use Rattle.xhstt_completion.specs.Entries.{IsEntry}
use Rattle.xhstt_entries.specs.Renumbered.{renumbered}
use Rattle.xhstt_entries.proofs.EntryLaws.{each_entry}
use Rattle.xhstt_entries.proofs.ReadBack.{read_again}
use Rattle.xhstt_entries.proofs.spelling.spell.Goals as goal

pub returns-clause-solution : goal.returns-clause-solution
returns-clause-solution c = subst (All (IsEntry c.args.inst.now)) (sym c.in_ok-entries.ensures)
    (each_entry c.args.inst.now c.args.plain.now c.facts.ensures c.requires)

pub returns-clause-read_again : goal.returns-clause-read_again
returns-clause-read_again c = λ valid.
    let p = c.args.inst.now in
    subst (λ entries. unless (first_cause p [] entries) (state_of p entries) ≡ Ok (renumbered p c.args.plain.now))
    (sym c.in_ok-entries.ensures) (read_again p c.args.plain.now c.facts.ensures valid c.args.old.now)
