-- Each task has what the choice gives it.
use Rattle.std.proofs.Common.{◌+◌, refl, subst, sym, get_or, arith}
use Rattle.khe_engine.specs.Worlds.{World}
use Rattle.time_match.specs.Costs.{no_resource, no_task}
use Rattle.time_match.proofs.GiveLaws.{AreGiven, give_accepted, give_done, give_made, give_passed}
use Rattle.time_match.proofs.making.give.Goals as goal
use Rattle.time_match.proofs.making.give.Goals.{in-Some, in_default}

pub make-requires-clause-accepted : goal.make-requires-clause-accepted
make-requires-clause-accepted g c =
    let ts = c.args.tasks.now in
    let rs = c.args.resources.now in
    give_accepted c.args.engine.now c.loop-k.engine rs ts c.args.choice.now c.loop-k.k (get_or ts c.loop-k.k no_task)
    no_task (get_or rs c.in-Some.place no_resource) c.in-Some.place c.loop-k.invariant c.loop-k-test.true
    (c.requires.range c.loop-k.k c.in-Some.place c.in-Some.is) refl refl

pub loop-k-preserved : goal.loop-k-preserved
loop-k-preserved g c =
    let ts = c.args.tasks.now in
    let rs = c.args.resources.now in
    let cs = c.args.choice.now in
    let k = c.loop-k.k in
    let P = λ (u : World). AreGiven c.args.engine.now u rs ts cs (k + 1) in
    elim c.match-choice-k.branch [
      | in-Some w ↦ subst P (sym w.engine-is)
          (give_made c.args.engine.now c.loop-k.engine w.make.new.engine rs ts cs k (get_or ts k no_task) no_task
          (get_or rs w.in-Some.place no_resource) w.in-Some.place c.loop-k.invariant c.loop-k-test.true c.requires.each
          w.in-Some.is refl refl w.make.ensures.parts w.make.ensures.state w.make.ensures.inside w.make.ensures.spare)
      | in_default w ↦ subst P (sym w.engine-is)
          (give_passed c.args.engine.now c.loop-k.engine rs ts cs k no_task c.loop-k.invariant c.loop-k-test.true
          c.requires.each w.in_default.is)
    ]

pub returns-clause-state : goal.returns-clause-state
returns-clause-state g c =
    let low = c.loop-k.auto.k-end in
    let end = c.loop-k-test.false in
    give_done c.args.engine.now c.loop-k.engine c.args.resources.now c.args.tasks.now c.args.choice.now c.loop-k.k
    c.loop-k.invariant (omega (arith, low, end))
