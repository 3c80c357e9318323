-- The references of a solution name parts of its instance, and were followed.
use Rattle.std.proofs.Common.{◌≡◌, ◌∙◌, ◌<◌, Some, All, ap, sym, subst, refl, arith, slice_get, length}
use Rattle.std.proofs.lemmas.Option.{slice_get_read}
use Rattle.xhstt_completion.proofs.Resolved.{is_solution, is_followed}
use Rattle.xhstt_completion.specs.Found.{AreFound}
use Rattle.xhstt_completion.proofs.completion.numbered_solution.Goals as goal

pub bounds-followed-number : goal.bounds-followed-number
bounds-followed-number c =
    let is = is_followed c.args.resolved.now c.args.number c.args.raw.now c.args.inst.now c.requires.one
    c.requires.instance in
    omega (arith, is.there, ap length c.as_slice-followed.ensures)

pub completed_by-requires-clause-solution : goal.completed_by-requires-clause-solution
completed_by-requires-clause-solution c =
    is_solution c.args.resolved.now c.args.number c.args.raw.now c.args.inst.now c.requires.one c.requires.instance

pub completed_by-requires-clause-many : goal.completed_by-requires-clause-many
completed_by-requires-clause-many c =
    let f = c.index-followed-number.result in
    let k = c.args.number in
    let row = c.as_slice-followed.result.now in
    let is = is_followed c.args.resolved.now k c.args.raw.now c.args.inst.now c.requires.one c.requires.instance in
    let low : k < length row = omega (arith, is.there, ap length c.as_slice-followed.ensures) in
    let found : slice_get c.args.resolved.now.followed k ≡ Some f =
    ap (λ xs. slice_get xs k) (sym c.as_slice-followed.ensures)
    ∙ slice_get_read row _ k f refl low c.index-followed-number.is in
    is.many f found ∙ ap length (sym c.in_ok-list.ensures) ∙ ap length (sym c.as_slice-entries.ensures)

pub completed_by-requires-clause-each : goal.completed_by-requires-clause-each
completed_by-requires-clause-each c =
    let f = c.index-followed-number.result in
    let k = c.args.number in
    let row = c.as_slice-followed.result.now in
    let is = is_followed c.args.resolved.now k c.args.raw.now c.args.inst.now c.requires.one c.requires.instance in
    let low : k < length row = omega (arith, is.there, ap length c.as_slice-followed.ensures) in
    let found : slice_get c.args.resolved.now.followed k ≡ Some f =
    ap (λ xs. slice_get xs k) (sym c.as_slice-followed.ensures)
    ∙ slice_get_read row _ k f refl low c.index-followed-number.is in
    subst (λ es. AreFound c.args.inst.now es f.named f.given) (sym c.in_ok-list.ensures ∙ sym c.as_slice-entries.ensures)
    (is.each f found)
