-- The tasks of one more meet.
use Rattle.std.proofs.Common.{◌++◌, ap, arith}
use Rattle.khe_told.specs.Lists.{tasks_in}
use Rattle.construct.proofs.BeginLaws.{on_all, tasks_end, tasks_next}
use Rattle.construct.proofs.beginning.add_tasks.Goals as goal

pub loop-number-init : goal.loop-number-init
loop-number-init c = ap (λ s. c.args.tasks.now ++ tasks_in s) (on_all c.args._event.0 c.args.info.now c.args.amount)

pub loop-number-preserved : goal.loop-number-preserved
loop-number-preserved c =
    tasks_next c.args._event.0 c.args.info.now c.args.amount c.loop-number.number _ _ _
    c.loop-number-test.true c.requires.few c.in_ok-add_places.ensures c.loop-number.invariant

pub returns : goal.returns
returns c =
    tasks_end c.args._event.0 c.args.info.now c.args.amount c.loop-number.number _ _ (omega arith)
    c.loop-number.invariant
