-- The options that are left say the rest.
use Rattle.std.proofs.Common.{◌≡◌, length, map, string_bytes}
use Rattle.timetable_page.specs.Words.{nothing_told, told_by}
use Rattle.timetable_page.proofs.words.told_by.Given as goal

abbrev pub invariant-loop-rest : goal.invariant-loop-rest
invariant-loop-rest l =
    told_by l.told (map string_bytes l.rest) ≡ told_by nothing_told (map string_bytes l.initial.rest)

abbrev pub decreases-loop-rest : goal.decreases-loop-rest
decreases-loop-rest l = length l.rest
