-- One more meet.
use Rattle.std.proofs.Common.{◌++◌, ap, arith}
use Rattle.khe_told.specs.Lists.{meets_in}
use Rattle.construct.proofs.BeginLaws.{meets_end, meets_next, on_all}
use Rattle.construct.proofs.beginning.add_meets.Goals as goal

pub loop-number-init : goal.loop-number-init
loop-number-init c = ap (λ s. c.args.meets.now ++ meets_in s) (on_all c.args.event.0 c.args.info.now c.args.amount)

pub loop-number-preserved : goal.loop-number-preserved
loop-number-preserved c =
    meets_next c.args.event.0 c.args.info.now c.args.amount c.loop-number.number _ _ _ c.meet_of.result
    c.loop-number-test.true c.requires.few c.meet_of.ensures c.in_ok-push.ensures.ok c.loop-number.invariant

pub returns : goal.returns
returns c =
    meets_end c.args.event.0 c.args.info.now c.args.amount c.loop-number.number _ _ (omega arith)
    c.loop-number.invariant
