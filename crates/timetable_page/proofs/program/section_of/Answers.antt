-- A section says what comes of its solution.
use Rattle.std.proofs.Common.{ap, sym, subst, ◌∙◌, IfOk}
use Rattle.parallel_solve.specs.Verdicts.{verdict_of}
use Rattle.parallel_solve.specs.declared.verdicts.Verdict.TheVariants.{Valid}
use Rattle.timetable_page.specs.Pages.{IsSection}
use Rattle.timetable_page.proofs.PageLemmas.{same_values, valued-long}
use Rattle.timetable_page.proofs.program.section_of.Goals as goal

pub valid_section-requires : goal.valid_section-requires
valid_section-requires c =
    let v = c.in_ok-values-in-Ok.values in
    valued-long c.args.inst.now c.in-Ok.plain v
    (same_values c.args.inst.now c.in-Ok.plain v c.in_ok-values-in-Ok.ensures.deviations c.in_ok-values-in-Ok.ensures.costs
    c.in_ok-values-in-Ok.ensures.totals)

pub returns-in_ok-values-in-Ok : goal.returns-in_ok-values-in-Ok
returns-in_ok-values-in-Ok c =
    let p = c.args.inst.now in
    let s = c.in-Ok.plain in
    let v = c.in_ok-values-in-Ok.values in
    let same = same_values p s v c.in_ok-values-in-Ok.ensures.deviations c.in_ok-values-in-Ok.ensures.costs
    c.in_ok-values-in-Ok.ensures.totals in
    subst (λ x. IfOk c.valid_section.result (IsSection x))
    (ap Valid same ∙ sym (ap (verdict_of p) c.in-Ok.ensures.exact)) c.valid_section.ensures
