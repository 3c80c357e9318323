-- So many rows stand, with every count 0.
use Rattle.std.proofs.Common.{◌≡◌, replicate}
use Rattle.timetables.proofs.tables.Timetable.open.Given as goal

abbrev pub invariant-loop : goal.invariant-loop
invariant-loop l = l.rows.items ≡ replicate l.counter (replicate l.times 0)
