-- The watcher and the timetable were told the same.
use Rattle.std.proofs.Common.{◌≡◌, ◌∙◌, List, subst, sym}
use Rattle.khe_base.proofs.ResultLemmas.{if_ok}
use Rattle.khe_solution.specs.Timetables.{Timetable}
use Rattle.khe_told.specs.Fits.{AreTold}
use Rattle.khe_told.specs.Lists.{meets_in, tasks_in}
use Rattle.khe_told.specs.declared.slots.Slot.{Slot}
use Rattle.engine_tests.proofs.SameLaws.{same_told}
use Rattle.engine_tests.proofs.watched_solutions.Hand.open.Goals as goal

pub invariant_of-result : goal.invariant_of-result
invariant_of-result c =
    let p = c.args.inst.now in
    let plain = c.args.plain.now in
    let first = c.in_ok-solution.ensures.0 in
    let second = c.in_ok-solution.ensures.1 in
    let parts = if_ok _ _ (λ (s : Timetable). s.parts ≡ p) first c.open-solution.ensures.parts in
    let meets = if_ok _ _ (λ (s : Timetable). meets_in s.slots ≡ plain.meets) first c.open-solution.ensures.meets in
    let tasks = if_ok _ _ (λ (s : Timetable). tasks_in s.slots ≡ plain.tasks) first c.open-solution.ensures.tasks in
    let told = if_ok _ _ (λ (t : List Slot). AreTold p t) second c.from_plain-told.ensures.told in
    let own_meets = if_ok _ _ (λ (t : List Slot). meets_in t ≡ plain.meets) second c.from_plain-told.ensures.meets in
    let own_tasks = if_ok _ _ (λ (t : List Slot). tasks_in t ≡ plain.tasks) second c.from_plain-told.ensures.tasks in
    same_told p c.in_ok-solution.told c.in_ok-solution.solution.slots c.facts.ensures.first_meets told
    (subst (λ q. AreTold q c.in_ok-solution.solution.slots) parts c.facts-2.ensures.told) (own_meets ∙ sym meets)
    (own_tasks ∙ sym tasks)
