use Rattle.std.proofs.Common.{◌≡◌, ◌≤◌, ◌+◌, ◌-◌, length}
use Rattle.khe_engine.specs.States.{state_of}
use Rattle.khe_engine.specs.Worlds.{from_mark, trails_cost}
use Rattle.khe_engine.specs.Records.{saved_of, MarksLead, records}
use Rattle.khe_engine.proofs.undoing.unwind_to.Given as goal

abbrev pub invariant-loop-solution : goal.invariant-loop-solution
invariant-loop-solution g l =
    let p = l.inst in
    let now = state_of l.solution.slots (g.N.GraphWatcher.board l.listeners) in
    let then = state_of l.fn.solution.slots (g.N.GraphWatcher.board l.fn.listeners) in
    record {
      parts : l.solution.parts ≡ p;
      saved : from_mark l.k (saved_of now l.journal.since) ≡ from_mark l.k (saved_of then l.fn.journal.since);
      leads : MarksLead p (g.N.GraphWatcher.board l.listeners).seats now l.journal.since;
      marks : (1 ≤ l.k) × (l.k ≤ length l.journal.since);
      of : g.N.Watcher.IsOf l.listeners p;
      told : g.N.Watcher.told l.listeners ≡ l.solution.slots;
      marked : (g.N.GraphWatcher.board l.listeners).marked ≡ (g.N.GraphWatcher.board l.fn.listeners).marked;
      seats : (g.N.GraphWatcher.board l.listeners).seats ≡ (g.N.GraphWatcher.board l.fn.listeners).seats;
      spare : l.fn.journal.spare + records l.fn.journal.since ≤ l.journal.spare + records l.journal.since;
      steps : l.steps + g.N.Watcher.owed l.listeners p + trails_cost p (length l.journal.since + 1 - l.k)
          (saved_of now l.journal.since)
          ≤ l.fn.steps + g.N.Watcher.owed l.fn.listeners p + trails_cost p (length l.fn.journal.since + 1 - l.k)
          (saved_of then l.fn.journal.since);
    }

abbrev pub decreases-loop-solution : goal.decreases-loop-solution
decreases-loop-solution g l = length l.journal.since
