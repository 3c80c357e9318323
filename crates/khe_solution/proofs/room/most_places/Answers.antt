use Rattle.std.proofs.Common.{arith}
use Rattle.khe_base.specs.declared.limits.TheConstants.{TASKS}
use Rattle.khe_solution.proofs.RoomLaws.{places_few, most_more, most_all}
use Rattle.khe_solution.proofs.room.most_places.Goals as goal

pub loop-e-preserved : goal.loop-e-preserved
loop-e-preserved c =
    let f = places_few c.args.inst.now c.loop-e.e c.event.result.now c.facts.ensures c.event.ensures in
    record {
      few = c.larger-most.ensures.least TASKS c.loop-e.invariant.few (omega (arith, f));
      each = most_more c.args.inst.now c.loop-e.e c.loop-e.most _ c.event.result.now c.loop-e.invariant.each
          c.event.ensures c.larger-most.ensures.first (omega arith);
    }

pub returns-clause-each : goal.returns-clause-each
returns-clause-each c = most_all c.args.inst.now c.loop-e.e c.loop-e.most (omega arith) c.loop-e.invariant.each
