use Rattle.std.proofs.Common.{◌+◌, ◌∙◌, sym, ap, arith, get_or}
use Rattle.hall_report.specs.Listing.{is_marked}
use Rattle.khe_base.specs.IdSet.{has_member}
use Rattle.hall_report.proofs.ListingLaws.{nil_end, place_more}
use Rattle.hall_report.proofs.UnitLaws.{walk_next, walk_zero}
use Rattle.hall_report.proofs.listing.list_place.Goals as goal

pub loop-offset-init : goal.loop-offset-init
loop-offset-init c = (
  sym (nil_end c.args.list.now),
  c.first-unit.ensures
      ∙ sym (walk_zero c.args.units.now.next.items (get_or c.args.units.now.held.items c.args.meet.0 0)),
)

pub overflow_add-first_demand : goal.overflow_add-first_demand
overflow_add-first_demand c =
    let a = c.requires.number c.args.place c.loop-offset.offset (omega arith) c.loop-offset-test.true in
    let b = c.first_demand.ensures ∙ ap (λ v. get_or c.args.units.now.tasks.items v 0) c.loop-offset.invariant.1 in
    omega (arith, a, b)

pub loop-offset-preserved : goal.loop-offset-preserved
loop-offset-preserved c =
    let b = c.first_demand.ensures ∙ ap (λ v. get_or c.args.units.now.tasks.items v 0) c.loop-offset.invariant.1 in (
      place_more (is_marked c.args.units.now c.args.marks.now) _ c.loop-offset.list c.args.list.now c.args.meet
          c.args.place c.loop-offset.offset _ c.loop-offset.invariant.0
          (c.has-is_marked.ensures.below ∙ ap (λ n. has_member c.args.marks.now (n + c.args.place)) b)
          c.in_ok-push_if.ensures,
      c.next-unit.ensures ∙ ap (λ v. get_or c.args.units.now.next.items v 0) c.loop-offset.invariant.1
          ∙ sym (walk_next c.args.units.now.next.items (get_or c.args.units.now.held.items c.args.meet.0 0)
          c.loop-offset.offset),
    )
