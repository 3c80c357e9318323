use Rattle.std.proofs.Common.{◌≡◌, ◌≤◌, ◌+◌, length}
use Rattle.undo_paths.specs.Stack.{inner, outer}
use Rattle.khe_engine.specs.States.{state_of}
use Rattle.khe_engine.specs.Records.{undone_all, MarksLead, records, undo_cost}
use Rattle.khe_engine.proofs.undoing.unwind.Given as goal

abbrev pub invariant-loop-back : goal.invariant-loop-back
invariant-loop-back g l =
    let p = l.inst in
    let now = state_of l.solution.slots (g.N.GraphWatcher.board l.listeners) in
    let then = state_of l.fn.solution.slots (g.N.GraphWatcher.board l.fn.listeners) in
    record {
      parts : l.solution.parts ≡ p;
      state : undone_all now (inner l.journal.since) ≡ undone_all then (inner l.fn.journal.since);
      leads : MarksLead p (g.N.GraphWatcher.board l.listeners).seats now l.journal.since;
      outer : outer l.journal.since ≡ outer l.fn.journal.since;
      marks : length l.journal.since ≡ length l.fn.journal.since;
      spare : l.journal.spare + records l.journal.since ≡ l.fn.journal.spare + records l.fn.journal.since;
      of : g.N.Watcher.IsOf l.listeners p;
      told : g.N.Watcher.told l.listeners ≡ l.solution.slots;
      marked : (g.N.GraphWatcher.board l.listeners).marked ≡ (g.N.GraphWatcher.board l.fn.listeners).marked;
      seats : (g.N.GraphWatcher.board l.listeners).seats ≡ (g.N.GraphWatcher.board l.fn.listeners).seats;
      steps : l.steps + g.N.Watcher.owed l.listeners p + undo_cost p now (inner l.journal.since)
          ≤ l.fn.steps + g.N.Watcher.owed l.fn.listeners p + undo_cost p then (inner l.fn.journal.since);
    }

abbrev pub decreases-loop-back : goal.decreases-loop-back
decreases-loop-back g l = length (inner l.journal.since)
