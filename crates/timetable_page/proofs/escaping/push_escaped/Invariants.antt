-- What was added is what the characters so far are written as.
use Rattle.std.proofs.Common.{◌≡◌, ◌++◌}
use Rattle.timetable_page.specs.Escape.{escaped}
use Rattle.timetable_page.proofs.escaping.push_escaped.Given as goal

abbrev pub invariant-loop-character : goal.invariant-loop-character
invariant-loop-character l = l.page ≡ l.fn.page ++ escaped l.yielded
