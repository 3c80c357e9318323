-- So many of the tasks are put.
use Rattle.std.proofs.Common.{map}
use Rattle.khe_told.specs.Stored.{slots_in}
use Rattle.khe_told.proofs.PuttingLaws.{IsPut, resource_of, span_of}
use Rattle.khe_told.proofs.filling.put.Given as goal

abbrev pub invariant-loop-place : goal.invariant-loop-place
invariant-loop-place l = IsPut l.rows.items l.given.items (slots_in 0 l.fn.rows.items l.fn.given.items) l.meet.meet.0
    (span_of l.meet) (map resource_of l.tasks) l.row l.place
