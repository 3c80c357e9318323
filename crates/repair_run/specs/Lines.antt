-- The line on a repair, or on many, a comment after the archive. It ends with a line feed.
use Rattle.std.specs.Prelude.{ℕ, List, ◌++◌, codes}
use Rattle.std.specs.Fmt.{decimal}
use Rattle.ejection_repair.specs.declared.outcome.Outcome.{Outcome}
use Rattle.ejection_repair.specs.declared.outcome.Outcome.TheVariants.{Done, Spent}
use Rattle.khe_base.specs.declared.sums.Totals.{Totals}

-- how many chains were taken and how many were tried
abbrev pub count_words : ℕ → ℕ → List ℕ
count_words accepted tried = codes " accepted " ++ decimal accepted ++ codes " tried " ++ decimal tried

-- how it ended; where the budget was spent, with the number of moves to which the timetable is settled
abbrev pub outcome_words : Outcome → List ℕ
outcome_words (Done accepted tried) = codes "done" ++ count_words accepted tried
outcome_words (Spent accepted tried settled) =
    codes "spent" ++ count_words accepted tried ++ codes " settled " ++ decimal settled

-- what the timetable costs
abbrev pub totals_words : Totals → List ℕ
totals_words t = codes " hard " ++ decimal t.hard ++ codes " soft " ++ decimal t.soft ++ codes " -->\n"

abbrev pub repair_line : Outcome → Totals → List ℕ
repair_line o t = codes "<!-- khe repair " ++ outcome_words o ++ totals_words t

-- the job with the least result, and what its timetable costs
abbrev pub solve_line : ℕ → Totals → List ℕ
solve_line job t = codes "<!-- khe solve job " ++ decimal job ++ totals_words t
