-- What is true of a repaired timetable, and of the least result of many repairs.
use Rattle.std.specs.Prelude.{ℕ, ◌≡◌, ◌<◌, ◌⊎◌, true, false}
use Rattle.ejection_repair.specs.Repaired.{repaired}
use Rattle.ejection_repair.specs.Settled.{IsSettled, accepted_of, settled_to}
use Rattle.khe_base.specs.Totals.{is_lower}
use Rattle.khe_engine.specs.Openings.{IsStateOf}
use Rattle.khe_engine.specs.States.{State}
use Rattle.khe_engine.specs.Values.{totals}
use Rattle.khe_instance.specs.declared.parts.Parts.{Parts}
use Rattle.khe_instance.specs.declared.states.Plain.{Plain}
use Rattle.parallel_repair.specs.declared.answers.Solved.{Solved}
use Rattle.repair_run.specs.declared.mending.Mended.{Mended}

-- it costs what the timetable before it did, and nothing was accepted; or it costs less, and something was
pub record IsNoDearer (p : Parts) (plain : Plain) (m : Mended) : Type 0 where
  pub before : State
  pub begins : IsStateOf p plain before
  pub cost : ((accepted_of m.outcome ≡ 0) × (m.totals ≡ totals p before))
      ⊎ ((0 < accepted_of m.outcome) × (is_lower m.totals (totals p before) ≡ true))

-- no chain of at most `depth` moves leaves it cheaper
pub record IsSettledTo (p : Parts) (depth : ℕ) (m : Mended) : Type 0 where
  pub after : State
  pub listed : IsStateOf p m.plain after
  pub costs : m.totals ≡ totals p after
  pub settled : IsSettled p after (settled_to depth m.outcome)

-- it costs no more than the state that each job begins with, and no job leaves a state that costs less
pub record IsLeast (p : Parts) (before : State) (depth budget jobs : ℕ) (s : Solved) : Type 0 where
  pub cost : (s.totals ≡ totals p before) ⊎ (is_lower s.totals (totals p before) ≡ true)
  pub least : (n : ℕ) → n < jobs → is_lower (totals p (repaired p before depth budget n).state) s.totals ≡ false
