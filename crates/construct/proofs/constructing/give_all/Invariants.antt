-- What the tasks so far led to, and what those from here on will, is the whole.
use Rattle.std.proofs.Common.{◌≡◌, [], drop}
use Rattle.construct.specs.Constructed.{staffed}
use Rattle.construct.specs.Orders.{tasks_of}
use Rattle.construct.proofs.constructing.give_all.Given as goal

abbrev pub invariant-loop-meet : goal.invariant-loop-meet
invariant-loop-meet g l =
    let w = l.fn.engine in
    record {
      rest : staffed w.parts l.engine.state (tasks_of w.state.slots (drop l.meet-index l.meets))
          ≡ staffed w.parts w.state (tasks_of w.state.slots l.meets);
      parts : l.engine.parts ≡ w.parts;
      marks : l.engine.saved ≡ [];
    }
