-- What job j of a solve comes to: a repair from the start with diversifier j.
use Rattle.std.specs.Prelude.{ℕ, ◌≡◌, ◌≤◌, [], ◌∷◌}
use Rattle.khe_base.specs.declared.limits.TheConstants.{CHAIN_MOVES}
use Rattle.ejection_repair.specs.Repaired.{repaired}
use Rattle.khe_engine.specs.States.{State}
use Rattle.khe_engine.specs.Values.{totals}
use Rattle.khe_engine.specs.Worlds.{World, fresh}
use Rattle.khe_instance.specs.States.{IsValid}
use Rattle.khe_instance.specs.declared.parts.Parts.{Parts}
use Rattle.khe_instance.specs.declared.states.Plain.{Plain}
use Rattle.parallel_repair.specs.Listed.{listed, state_in}
use Rattle.parallel_repair.specs.declared.answers.Answer.{Answer}

-- a state's timetable with its totals
unfoldable pub answer_at : Parts → State → Answer
answer_at p s = record { totals = totals p s; plain = listed s }

-- what a job comes to from a state: its number is the diversifier of a repair
unfoldable pub job_from : Parts → State → ℕ → ℕ → ℕ → Answer
job_from p s depth budget n = answer_at p (repaired p s depth budget n).state

-- and from a timetable
unfoldable pub job_answer : Parts → Plain → ℕ → ℕ → ℕ → Answer
job_answer p start depth budget n = job_from p (state_in p start) depth budget n

-- a repair may begin at the timetable, to this depth and budget
pub record IsRepair (p : Parts) (start : Plain) (depth budget : ℕ) : Type 0 where
  pub valid : IsValid p start
  pub depth_is : (1 ≤ depth) × (depth ≤ CHAIN_MOVES)
  pub budget_is : 1 ≤ budget

-- an engine is at a state, with one mark, which is there
pub record IsMarkedAt (s : State) (w : World) : Type 0 where
  pub state : w.state ≡ s
  pub saved : w.saved ≡ fresh s ∷ []

-- an engine of an instance is at a timetable, with one mark, which is there
pub record IsDesk (p : Parts) (start : Plain) (w : World) : Type 0 where
  pub parts : w.parts ≡ p
  pub marked : IsMarkedAt (state_in p start) w
