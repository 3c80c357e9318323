-- The lines that say what is short. Each ends with a line feed.
use Rattle.std.specs.Prelude.{ℕ, List, ◌++◌, codes}
use Rattle.std.specs.Fmt.{decimal}
use Rattle.hall_report.specs.declared.demand.Demand.{Demand}
use Rattle.hall_report.specs.declared.demand.Demand.TheVariants.{Task, Unavailable}

-- the deficit, and how many demands compete
abbrev pub deficit_line : ℕ → ℕ → List ℕ
deficit_line deficit demands = codes "deficit " ++ decimal deficit ++ codes " demands " ++ decimal demands ++ codes "\n"

-- a demand: a task at one of the times of its meet, or a time at which a resource is to be free
unfoldable pub demand_line : Demand → List ℕ
demand_line (Task m k o) = codes "demand " ++ decimal m.0 ++ codes " " ++ decimal k ++ codes " " ++ decimal o
    ++ codes "\n"
demand_line (Unavailable r t) = codes "unavailable " ++ decimal r.0 ++ codes " " ++ decimal t.0 ++ codes "\n"
