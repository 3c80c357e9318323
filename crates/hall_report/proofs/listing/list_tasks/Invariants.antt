use Rattle.std.proofs.Common.{◌≡◌, ◌++◌, take}
use Rattle.std.specs.List.{filter}
use Rattle.hall_report.specs.Demands.{task_demands}
use Rattle.hall_report.specs.Listing.{is_marked}
use Rattle.hall_report.proofs.listing.list_tasks.Given as goal

abbrev pub invariant-loop-number : goal.invariant-loop-number
invariant-loop-number l = l.list ≡ l.fn.list ++ filter (is_marked l.units l.marks) (task_demands (take l.number l.told))
