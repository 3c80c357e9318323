use Rattle.std.proofs.Common.{◌+◌, ◌∙◌, sym, ap, arith, get_or}
use Rattle.khe_told.specs.Slots.{slot_at}
use Rattle.hall_report.specs.Kept.{number_of}
use Rattle.hall_report.specs.Picks.{domain_in}
use Rattle.hall_report.proofs.Renewals.{none_offsets, offset_renewed, still_writable}
use Rattle.hall_report.proofs.UnitLaws.{walk_next, walk_zero}
use Rattle.hall_report.proofs.renewing.renew.Goals as goal

pub loop-offset-init : goal.loop-offset-init
loop-offset-init c = (
  c.first-unit.ensures ∙ sym (walk_zero c.args.units.now.next.items
      (get_or c.args.units.now.held.items c.args.meet.0 0)),
  none_offsets c.args.matching.now (number_of c.args.units.now c.args.meet.0)
      (domain_in c.args.choices.now.inst.now.events c.args.choices.now.picks.now.starts.items
      c.args.choices.now.picks.now.resources.items
      (slot_at c.args.choices.now.told.now c.args.meet.0)) c.args.from c.args.end,
)

pub renew_unit-requires-clause-number : goal.renew_unit-requires-clause-number
renew_unit-requires-clause-number c = λ k l.
    let a = c.requires.readable.number k c.loop-offset.offset l c.loop-offset-test.true in
    let b = c.first_demand-first.ensures ∙ ap (λ v. get_or c.args.units.now.tasks.items v 0)
    c.loop-offset.invariant.0 in
    omega (arith, a, b)

pub renew_unit-requires-clause-writable : goal.renew_unit-requires-clause-writable
renew_unit-requires-clause-writable c =
    let b = c.first_demand-first.ensures ∙ ap (λ v. get_or c.args.units.now.tasks.items v 0)
    c.loop-offset.invariant.0 in
    still_writable c.args.matching.now c.loop-offset.matching (number_of c.args.units.now c.args.meet.0)
    (λ k o. c.first_demand-first.result + k) (domain_in c.args.choices.now.inst.now.events
    c.args.choices.now.picks.now.starts.items
    c.args.choices.now.picks.now.resources.items (slot_at c.args.choices.now.told.now c.args.meet.0)) c.args.from
    c.args.end
    c.loop-offset.offset c.args.duration
    c.requires.writable c.loop-offset.invariant.1.same c.loop-offset-test.true (λ k l. ap (λ n. n + k) (sym b))

pub loop-offset-preserved : goal.loop-offset-preserved
loop-offset-preserved c =
    let b = c.first_demand-first.ensures ∙ ap (λ v. get_or c.args.units.now.tasks.items v 0)
    c.loop-offset.invariant.0 in (
      c.next-unit.ensures ∙ ap (λ v. get_or c.args.units.now.next.items v 0) c.loop-offset.invariant.0
          ∙ sym (walk_next c.args.units.now.next.items (get_or c.args.units.now.held.items c.args.meet.0 0)
          c.loop-offset.offset),
      offset_renewed c.args.matching.now c.loop-offset.matching _ (number_of c.args.units.now c.args.meet.0)
          (domain_in c.args.choices.now.inst.now.events c.args.choices.now.picks.now.starts.items
          c.args.choices.now.picks.now.resources.items
          (slot_at c.args.choices.now.told.now c.args.meet.0)) c.args.from c.args.end c.loop-offset.offset
          c.args.duration
          c.first_demand-first.result
          c.loop-offset.invariant.1 c.renew_unit.ensures (λ k l. ap (λ n. n + k) (sym b)) c.requires.apart
          c.loop-offset-test.true,
    )
