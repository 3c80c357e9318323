use Rattle.std.proofs.Common.{◌≡◌, length}
use Rattle.timetables.specs.Counts.{count_at}
use Rattle.set_monitors.specs.LinkCounts.{AreLinked}
use Rattle.set_monitors.specs.LinkRuns.{AreRaised, in_run}
use Rattle.set_monitors.proofs.link_runs.free.Given as goal

abbrev pub invariant-loop-t : goal.invariant-loop-t
invariant-loop-t l =
    record {
      counts : AreRaised l.event.0 (in_run l.fn.start l.t) (count_at l.links.table) (count_at l.fn.links.table);
      events : length l.links.table ≡ length l.fn.links.table;
      times : length l.links.running.items ≡ length l.fn.links.running.items;
      linked : AreLinked l.links.table l.links.events l.links.running.items l.links.apart;
    }
