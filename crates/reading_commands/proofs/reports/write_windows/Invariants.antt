-- What was written and what waits, with the solutions that are left, of which each turn leaves fewer.
use Rattle.std.proofs.Common.{ℕ, ◌≡◌, ◌-◌, List, Option, map, length}
use Rattle.std.specs.List.{flat_map}
use Rattle.khe_io.specs.Amid.{IsAmid}
use Rattle.reading_commands.specs.Report.{left_text, row_text}
use Rattle.parallel_solve.specs.Batches.{IsWindow}
use Rattle.reading_commands.proofs.reports.write_windows.Given as goal

abbrev pub invariant-loop-first : goal.invariant-loop-first
invariant-loop-first g l =
    let groups = map (λ x. x.now) l.fn.parts.groups.now in
    let raws = map (λ x. x.now) l.fn.parts.raws.now in
    let all = l.fn.parts.all in
    record {
      window : IsWindow (flat_map (row_text all l.fn.parts.resolved.now groups)) raws l.first l.window.next l.window.made.items;
      amid : (before : Option (List ℕ)) (whole : List ℕ)
          → IsAmid before (g.K.Sink.taken l.fn.out) l.fn.text (left_text all l.fn.parts.resolved.now groups 0 raws) whole
          → IsAmid before (g.K.Sink.taken l.out) l.text (left_text all l.fn.parts.resolved.now groups l.first raws) whole;
      faultless : g.K.Sink.faults l.out ≡ g.K.Sink.faults l.fn.out;
    }

abbrev pub decreases-loop-first : goal.decreases-loop-first
decreases-loop-first g l = length l.fn.parts.raws.now - l.first
