-- The line on a run. It ends with a line feed.
use Rattle.std.specs.Prelude.{ℕ, List, ◌++◌, codes, length}
use Rattle.std.specs.Fmt.{decimal}
use Rattle.hall_report.specs.Shortages.{deficit_of}
use Rattle.khe_base.specs.declared.sums.Totals.{Totals}
use Rattle.khe_engine.specs.Values.{totals}
use Rattle.khe_instance.specs.declared.parts.Parts.{Parts}
use Rattle.made_run.specs.Courses.{Course}

-- the seed and the size
abbrev pub job_words : ℕ → ℕ → List ℕ
job_words seed size = codes "made seed " ++ decimal seed ++ codes " size " ++ decimal size

-- how many resources and monitors the instance has
abbrev pub instance_words : Parts → List ℕ
instance_words p = codes " resources " ++ decimal (length p.resources) ++ codes " monitors " ++ decimal
    (length p.monitors)

-- how many edits were accepted and how many refused
abbrev pub count_words : ℕ → ℕ → List ℕ
count_words accepted refused = codes " accepted " ++ decimal accepted ++ codes " refused " ++ decimal refused

-- what the timetable costs
abbrev pub totals_words : Totals → List ℕ
totals_words t = codes " hard " ++ decimal t.hard ++ codes " soft " ++ decimal t.soft

-- and how many demands no assignment can serve
abbrev pub deficit_words : ℕ → List ℕ
deficit_words deficit = codes " deficit " ++ decimal deficit ++ codes "\n"

-- the line on a run that went so, all values being those of the state that it left
unfoldable pub made_line : ℕ → ℕ → Parts → Course → List ℕ
made_line seed size p c =
    job_words seed size ++ instance_words p ++ count_words c.accepted c.refused
    ++ totals_words (totals p c.play.state) ++ deficit_words (deficit_of p c.play.state.slots)
