-- A matching of the tasks of one time with the resources of one type: a certified choice, and the timetable with it
-- where that costs less.
use Rattle.std.specs.Prelude.{ℕ, ◌≡◌, ◌<◌, ◌≤◌, if◌then◌else◌, Option, List}
use Rattle.khe_base.specs.Totals.{is_lower}
use Rattle.khe_engine.specs.States.{State}
use Rattle.khe_engine.specs.Values.{totals}
use Rattle.khe_instance.specs.declared.parts.Parts.{Parts}
use Rattle.resource_match.specs.Choices.{IsCertified, choice_sum}
use Rattle.resource_match.specs.declared.choices.Costs.{Costs}
use Rattle.resource_match.specs.declared.choices.TheConstants.{MATCHED_TASKS}
use Rattle.time_match.specs.Costs.{bare, chosen, costs_in}
use Rattle.time_match.specs.Tasks.{matched, resources_of}
use Rattle.time_match.specs.declared.outcomes.MatchFault.{MatchFault}
use Rattle.time_match.specs.declared.outcomes.MatchFault.TheVariants.{TooManyTasks, NoMemory}
use Rattle.time_match.specs.declared.outcomes.Matched.{Matched}

-- what the tasks cost with no resource and with each
abbrev pub costs_at : Parts → State → ℕ → ℕ → Costs
costs_at p s time rtype = let ts = matched p s.slots time rtype in costs_in p (bare s ts) ts (resources_of p rtype)

-- the bare state with a whole choice
abbrev pub whole : Parts → State → ℕ → ℕ → List (Option ℕ) → State
whole p s time rtype choice = let ts = matched p s.slots time rtype in
    chosen (bare s ts) (resources_of p rtype) ts choice

-- the choice is certified for the costs, and taken where the state with the whole of it costs less
pub record IsMatched (p : Parts) (s : State) (time rtype : ℕ) (m : Matched) : Type 0 where
  pub tasks : m.tasks ≡ matched p s.slots time rtype
  pub resources : m.resources ≡ resources_of p rtype
  pub certified : IsCertified (costs_at p s time rtype) m.cheapest
  pub sum : m.sum ≡ choice_sum (costs_at p s time rtype) m.cheapest.chosen
  pub taken : m.taken ≡ is_lower (totals p (whole p s time rtype m.cheapest.chosen)) (totals p s)

-- the state that it leaves
abbrev pub left_by : Parts → State → ℕ → ℕ → Matched → State
left_by p s time rtype m = if m.taken then whole p s time rtype m.cheapest.chosen else s

-- why there is none, where n tasks run at the time
abbrev pub IsFaultFor : ℕ → MatchFault → Type 0
IsFaultFor many (TooManyTasks n) = (n ≡ many) × (MATCHED_TASKS < many)
IsFaultFor many NoMemory = many ≤ MATCHED_TASKS
