-- The state in which the matched tasks have no resources, what each then costs with none and with each, and the
-- state that a choice leaves.
use Rattle.std.specs.Prelude.{ℕ, if◌then◌else◌, is_some, Option, Some, None, List, [], ◌∷◌, map, length, replicate}
use Rattle.std.specs.Prelude.{slice_index_or}
use Rattle.std.specs.List.{flat_map}
use Rattle.khe_base.specs.declared.numbers.ResourceId.{ResourceId}
use Rattle.khe_base.specs.declared.numbers.TaskId.{TaskId}
use Rattle.khe_base.specs.declared.sums.Totals.{Totals}
use Rattle.khe_engine.specs.States.{State, edited}
use Rattle.khe_engine.specs.Values.{totals}
use Rattle.khe_instance.specs.declared.parts.Parts.{Parts}
use Rattle.khe_solution.specs.Reading.{resource_at}
use Rattle.khe_told.specs.declared.edits.Edit.TheVariants.{Give, Take}
use Rattle.resource_match.specs.declared.choices.Costs.{Costs}

-- a task without the resource that it may have
abbrev pub stripped : State → TaskId → State
stripped s t = if is_some (resource_at s.slots t) then edited s (Take t) else s

-- all tasks without theirs: the bare state
unfoldable pub bare : State → List TaskId → State
bare s [] = s
bare s (t ∷ ts) = bare (stripped s t) ts

-- what the bare state costs once a resource is given to a task alone, and with each resource
abbrev pub cost_with : Parts → State → TaskId → ResourceId → Totals
cost_with p b t r = totals p (edited b (Give t r))

abbrev pub row : Parts → State → List ResourceId → TaskId → List Totals
row p b rs t = map (cost_with p b t) rs

-- with no resource a task costs what the bare state costs
unfoldable pub costs_in : Parts → State → List TaskId → List ResourceId → Costs
costs_in p b ts rs = record {
  tasks = length ts;
  resources = length rs;
  none = replicate (length ts) (totals p b);
  pairs = flat_map (row p b rs) ts;
}

-- the state in which each task has what a choice gives it, which names resources by their places in a list
abbrev pub no_resource : ResourceId
no_resource = record { 0 = 0 }

-- what stands for a task beyond the last
abbrev pub no_task : TaskId
no_task = record { meet = record { 0 = 0 }; place = 0 }

abbrev pub given : State → List ResourceId → TaskId → Option ℕ → State
given s rs t None = s
given s rs t (Some k) = edited s (Give t (slice_index_or rs k no_resource))

unfoldable pub chosen : State → List ResourceId → List TaskId → List (Option ℕ) → State
chosen s rs [] choice = s
chosen s rs (t ∷ ts) [] = s
chosen s rs (t ∷ ts) (c ∷ cs) = chosen (given s rs t c) rs ts cs
