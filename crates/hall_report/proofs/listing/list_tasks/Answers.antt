use Rattle.std.proofs.Common.{arith}
use Rattle.hall_report.specs.Listing.{is_marked}
use Rattle.hall_report.proofs.ListingLaws.{slots_more}
use Rattle.hall_report.proofs.listing.list_tasks.Goals as goal

pub loop-number-preserved : goal.loop-number-preserved
loop-number-preserved c =
    slots_more (is_marked c.args.units.now c.args.marks.now) _ c.loop-number.list c.args.list.now c.args.told.now
    c.loop-number.number (let a = c.loop-number-test.true in let b = c.len-number-end.ensures in
    omega (arith, a, b)) c.loop-number.invariant c.in_ok-list_slot.ensures
