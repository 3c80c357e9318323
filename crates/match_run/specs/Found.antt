-- What a matching leaves: a certified choice with its prices, the timetable, and what that costs; or how many tasks
-- are too many.
use Rattle.std.specs.Prelude.{ℕ, ◌≡◌, ◌<◌, ◌≤◌, length}
use Rattle.khe_engine.specs.Openings.{IsStateOf}
use Rattle.khe_engine.specs.States.{State}
use Rattle.khe_engine.specs.Values.{totals}
use Rattle.khe_instance.specs.States.{IsValid}
use Rattle.khe_instance.specs.declared.parts.Parts.{Parts}
use Rattle.khe_instance.specs.declared.states.Plain.{Plain}
use Rattle.resource_match.specs.declared.choices.TheConstants.{MATCHED_TASKS}
use Rattle.time_match.specs.Matching.{IsMatched, left_by}
use Rattle.time_match.specs.Tasks.{matched}
use Rattle.time_match.specs.declared.outcomes.MatchFault.{MatchFault}
use Rattle.time_match.specs.declared.outcomes.MatchFault.TheVariants.{TooManyTasks, NoMemory}
use Rattle.match_run.specs.declared.finding.Found.{Found}

-- the certified choice and its prices, and the timetable of the state that is left, which is valid, with what it costs
pub record IsFound (p : Parts) (plain : Plain) (time rtype : ℕ) (f : Found) : Type 0 where
  pub state : State
  pub begins : IsStateOf p plain state
  pub few : length (matched p state.slots time rtype) ≤ MATCHED_TASKS
  pub matched_is : IsMatched p state time rtype f.matched
  pub listed : IsStateOf p f.plain (left_by p state time rtype f.matched)
  pub valid : IsValid p f.plain
  pub totals_are : f.totals ≡ totals p (left_by p state time rtype f.matched)

-- n tasks run at the time, more than can be matched
pub record AreTooMany (p : Parts) (plain : Plain) (time rtype n : ℕ) : Type 0 where
  pub state : State
  pub begins : IsStateOf p plain state
  pub many : n ≡ length (matched p state.slots time rtype)
  pub more : MATCHED_TASKS < n

abbrev pub IsFaultOf : Parts → Plain → ℕ → ℕ → MatchFault → Type 0
IsFaultOf p plain time rtype (TooManyTasks n) = AreTooMany p plain time rtype n
IsFaultOf p plain time rtype NoMemory = Unit {0}
