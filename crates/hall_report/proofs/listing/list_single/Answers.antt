use Rattle.std.proofs.Common.{◌+◌, ◌∙◌, true, false, sym, ap, arith, get_or}
use Rattle.khe_base.specs.IdSet.{has_member}
use Rattle.hall_report.specs.Listing.{is_marked}
use Rattle.hall_report.proofs.ListingLaws.{nil_end, single_more}
use Rattle.hall_report.proofs.UnitLaws.{walk_zero}
use Rattle.hall_report.proofs.listing.list_single.Goals.{then-has+in_ok-push, else-has}
use Rattle.hall_report.proofs.listing.list_single.Goals as goal

pub first_demand-first-requires : goal.first_demand-first-requires
first_demand-first-requires c =
    let a = c.requires.task 0 (omega arith) in
    let b = c.first.ensures ∙ sym (walk_zero c.args.units.now.next.items
    (get_or c.args.units.now.held.items c.args.meet.0 0)) in
    omega (arith, a, b)

pub overflow_add-first : goal.overflow_add-first
overflow_add-first c =
    let a = c.requires.number c.loop-place.place 0 c.loop-place-test.true (omega arith) in
    let u = c.first.ensures ∙ sym (walk_zero c.args.units.now.next.items
    (get_or c.args.units.now.held.items c.args.meet.0 0)) in
    let b = c.first_demand-first.ensures ∙ ap (λ v. get_or c.args.units.now.tasks.items v 0) u in
    omega (arith, a, b)

pub loop-place-preserved : goal.loop-place-preserved
loop-place-preserved c =
    let u = c.first.ensures ∙ sym (walk_zero c.args.units.now.next.items
    (get_or c.args.units.now.held.items c.args.meet.0 0)) in
    let b = c.has.ensures.below ∙ ap (λ n. has_member c.args.marks.now (n + c.loop-place.place))
    (c.first_demand-first.ensures ∙ ap (λ v. get_or c.args.units.now.tasks.items v 0) u) in
    elim c.if-has.branch [
      | then-has+in_ok-push w ↦ single_more (is_marked c.args.units.now c.args.marks.now) _ c.loop-place.list
          c.args.list.now c.args.meet c.loop-place.place true c.loop-place.invariant (sym w.if-has.true ∙ b)
          (w.list-is ∙ w.in_ok-push.ensures.ok)
      | else-has w ↦ single_more (is_marked c.args.units.now c.args.marks.now) _ c.loop-place.list c.args.list.now
          c.args.meet c.loop-place.place false c.loop-place.invariant (sym w.if-has.false ∙ b)
          (w.list-is ∙ sym (nil_end c.loop-place.list))
    ]
