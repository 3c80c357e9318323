-- The lines on a matching, comments after the archive. Each ends with a line feed.
use Rattle.std.specs.Prelude.{ℕ, ◌==◌, ◌&&◌, Bool, if◌then◌else◌, Option, Some, None, List, [], ◌∷◌, ◌++◌, codes}
use Rattle.std.specs.Prelude.{length}
use Rattle.std.specs.Prelude.{slice_index_or, unsigned_abs}
use Rattle.std.specs.Fmt.{decimal, signed_decimal}
use Rattle.khe_base.specs.declared.numbers.ResourceId.{ResourceId}
use Rattle.khe_base.specs.declared.numbers.TaskId.{TaskId}
use Rattle.khe_base.specs.declared.sums.Totals.{Totals}
use Rattle.resource_match.specs.declared.prices.Price.{Price}
use Rattle.time_match.specs.Costs.{no_resource}
use Rattle.time_match.specs.declared.outcomes.Matched.{Matched}

-- a price, and the end of a line
abbrev pub price_words : Price → List ℕ
price_words p = codes " price " ++ signed_decimal p.hard ++ codes " " ++ signed_decimal p.soft ++ codes " -->\n"

-- the number of the resource that a choice gives, or a dash
abbrev pub choice_words : List ResourceId → Option ℕ → List ℕ
choice_words rs None = codes "-"
choice_words rs (Some k) = decimal (slice_index_or rs k no_resource).0

abbrev pub given_words : List ResourceId → Option ℕ → List ℕ
given_words rs c = codes " resource " ++ choice_words rs c

-- a task, by its meet and place, with what it is given and its price
abbrev pub number_words : TaskId → List ℕ
number_words t = decimal t.meet.0 ++ codes " " ++ decimal t.place

abbrev pub task_words : TaskId → List ℕ
task_words t = codes "<!-- khe task " ++ number_words t

abbrev pub task_line : List ResourceId → TaskId → Option ℕ → Price → List ℕ
task_line rs t c p = task_words t ++ given_words rs c ++ price_words p

unfoldable pub task_lines : List ResourceId → List TaskId → List (Option ℕ) → List Price → List ℕ
task_lines rs [] cs ps = []
task_lines rs (t ∷ ts) [] ps = []
task_lines rs (t ∷ ts) (c ∷ cs) [] = []
task_lines rs (t ∷ ts) (c ∷ cs) (p ∷ ps) = task_line rs t c p ++ task_lines rs ts cs ps

-- a resource with its price, and nothing where that is 0
abbrev pub is_nothing : Price → Bool
is_nothing p = (unsigned_abs p.hard == 0) && (unsigned_abs p.soft == 0)

abbrev pub resource_line : ResourceId → Price → List ℕ
resource_line r p = if is_nothing p then [] else codes "<!-- khe resource " ++ decimal r.0 ++ price_words p

unfoldable pub resource_lines : List ResourceId → List Price → List ℕ
resource_lines [] ps = []
resource_lines (r ∷ rs) [] = []
resource_lines (r ∷ rs) (p ∷ ps) = resource_line r p ++ resource_lines rs ps

-- what a choice costs, and a timetable
abbrev pub totals_words : Totals → List ℕ
totals_words t = codes " hard " ++ decimal t.hard ++ codes " soft " ++ decimal t.soft

-- how many tasks there are, the sum, whether the choice was taken, and what the timetable costs
abbrev pub taken_words : Bool → List ℕ
taken_words taken = if taken then codes " taken" else codes " kept"

abbrev pub many_words : ℕ → List ℕ
many_words count = codes "<!-- khe match tasks " ++ decimal count

abbrev pub sum_words : ℕ → Totals → List ℕ
sum_words count sum = many_words count ++ codes " sum" ++ totals_words sum

abbrev pub last_line : ℕ → Totals → Bool → Totals → List ℕ
last_line count sum taken t =
    sum_words count sum ++ taken_words taken ++ totals_words t ++ codes " -->\n"

abbrev pub match_lines : Matched → Totals → List ℕ
match_lines m t =
    task_lines m.resources m.tasks m.cheapest.chosen m.cheapest.task_prices
    ++ resource_lines m.resources m.cheapest.resource_prices
    ++ last_line (length m.tasks) m.sum m.taken t
