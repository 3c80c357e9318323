-- The line on a construction, a comment after the archive. It ends with a line feed.
use Rattle.std.specs.Prelude.{ℕ, List, ◌++◌, codes}
use Rattle.std.specs.Fmt.{decimal}
use Rattle.khe_base.specs.declared.sums.Totals.{Totals}
use Rattle.repair_run.specs.Lines.{totals_words}

-- how many meets there are, and what the timetable costs
abbrev pub construct_line : ℕ → Totals → List ℕ
construct_line meets t = codes "<!-- khe construct meets " ++ decimal meets ++ totals_words t
