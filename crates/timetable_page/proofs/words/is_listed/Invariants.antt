-- The options that are left name the solution, or none does.
use Rattle.std.proofs.Common.{◌≡◌, length, map, string_bytes}
use Rattle.timetable_page.specs.Words.{is_listed}
use Rattle.timetable_page.proofs.words.is_listed.Given as goal

abbrev pub invariant-loop-rest : goal.invariant-loop-rest
invariant-loop-rest l =
    is_listed (map string_bytes l.rest) l.number ≡ is_listed (map string_bytes l.initial.rest) l.number

abbrev pub decreases-loop-rest : goal.decreases-loop-rest
decreases-loop-rest l = length l.rest
