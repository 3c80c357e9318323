-- So many empty lists so far.
use Rattle.std.proofs.Common.{◌≡◌, [], replicate}
use Rattle.timetable_page.proofs.busy.empty_lists.Given as goal

abbrev pub invariant-loop : goal.invariant-loop
invariant-loop g l = l.lists ≡ replicate l.counter []
