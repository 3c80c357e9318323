-- What the tasks so far led to, and what those from here on will, is the whole.
use Rattle.std.proofs.Common.{◌≡◌, [], length}
use Rattle.khe_told.specs.Slots.{slot_at}
use Rattle.khe_instance.specs.Slots.{slot_tasks}
use Rattle.construct.specs.Constructed.{staffed}
use Rattle.construct.proofs.TurnLaws.{tasks_on}
use Rattle.construct.proofs.constructing.give_meet.Given as goal

abbrev pub invariant-loop-place : goal.invariant-loop-place
invariant-loop-place g l =
    let w = l.fn.engine in
    let n = length (slot_at w.state.slots l.meet.0).given in
    record {
      rest : staffed w.parts l.engine.state (tasks_on l.meet.0 l.place n)
          ≡ staffed w.parts w.state (slot_tasks l.meet.0 n);
      parts : l.engine.parts ≡ w.parts;
      marks : l.engine.saved ≡ [];
    }
