use Rattle.std.proofs.Common.{map, arith}
use Rattle.std.specs.List.{range_with_len}
use Rattle.hall_report.specs.Listing.{is_marked}
use Rattle.hall_report.specs.declared.demand.Demand.TheVariants.{Task}
use Rattle.hall_report.proofs.ListingLaws.{places_more}
use Rattle.hall_report.proofs.listing.list_meet.Goals as goal

pub list_place-requires : goal.list_place-requires
list_place-requires c = record {
  few = (let a = c.requires.few in let b = c.loop-place-test.true in omega (arith, a, b));
  first = c.requires.first;
  unit = c.requires.unit;
  task = c.requires.task;
  number = λ k o a b. c.requires.number k o (let d = c.loop-place-test.true in omega (arith, a, d)) b;
}

pub loop-place-preserved : goal.loop-place-preserved
loop-place-preserved c =
    places_more (is_marked c.args.units.now c.args.marks.now) _ c.loop-place.list c.args.list.now
    (λ k. map (λ o. Task c.args.meet k o) (range_with_len 0 c.args.duration)) c.loop-place.place
    c.loop-place.invariant c.in_ok-list_place.ensures
