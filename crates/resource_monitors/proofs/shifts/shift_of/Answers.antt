-- What is read of the effect.
use Rattle.std.proofs.Common.{◌∙◌, ap}
use Rattle.resource_monitors.specs.Cells.{given_to}
use Rattle.resource_monitors.specs.Runs.{run_of}
use Rattle.resource_monitors.specs.Shifts.{times_for}
use Rattle.resource_monitors.proofs.FollowLaws.{below_after, below_before}
use Rattle.resource_monitors.proofs.ShiftLaws.{amount_is, is_below}
use Rattle.resource_monitors.proofs.shifts.shift_of.Goals as goal

pub times_at-emptied-requires : goal.times_at-emptied-requires
times_at-emptied-requires c = below_before c.args.inst.now c.facts.ensures c.requires.0 c.args.effect.now c.requires.1
    c.before-2.result c.before-2.ensures

pub times_at-filled-requires : goal.times_at-filled-requires
times_at-filled-requires c = below_after c.args.inst.now c.facts.ensures c.requires.0 c.args.effect.now c.requires.1
    c.after.result c.after.ensures

pub returns-clause-shift : goal.returns-clause-shift
returns-clause-shift c = record {
  lost = amount_is c.args.effect.now.before.span c.args.effect.now.before.given c.args.r.0 c.count_given-lost.result
      c.times_at-emptied.result (c.count_given-lost.ensures ∙ ap (given_to c.args.r.0) c.given_before-before.ensures)
      c.times_at-emptied.ensures.none
      (λ h. c.times_at-emptied.ensures.some h ∙ ap (λ o. times_for (run_of o)) c.before-2.ensures);
  gained = amount_is c.args.effect.now.after.span c.args.effect.now.after.given c.args.r.0 c.count_given-gained.result
      c.times_at-filled.result (c.count_given-gained.ensures ∙ ap (given_to c.args.r.0) c.given_after-regiven.ensures)
      c.times_at-filled.ensures.none
      (λ h. c.times_at-filled.ensures.some h ∙ ap (λ o. times_for (run_of o)) c.after.ensures);
}

pub returns-clause-below : goal.returns-clause-below
returns-clause-below c = is_below c.args.inst.now c.facts.ensures c.requires.0 c.args.effect.now c.requires.1 _
    c.times_at-emptied.ensures.none
    (λ h. c.times_at-emptied.ensures.some h ∙ ap (λ o. times_for (run_of o)) c.before-2.ensures)
    c.times_at-filled.ensures.none
    (λ h. c.times_at-filled.ensures.some h ∙ ap (λ o. times_for (run_of o)) c.after.ensures)
