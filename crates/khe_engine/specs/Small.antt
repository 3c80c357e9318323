-- The greatest deviations, costs, totals and group costs that a state may have, which the limits give.
use Rattle.std.specs.Prelude.{ℕ, ◌≤◌, List, slice_index}
use Rattle.khe_base.specs.declared.limits.TheConstants.{GREATEST_COST, GREATEST_DEVIATION, GREATEST_TOTAL}
use Rattle.khe_base.specs.declared.sums.Totals.{Totals}
use Rattle.khe_engine.specs.States.{State}
use Rattle.khe_engine.specs.Values as engine
use Rattle.khe_instance.specs.declared.parts.Parts.{Parts}

-- no number of a list is above a greatest one
abbrev pub AreUpTo : ℕ → List ℕ → Type 0
AreUpTo greatest xs = (n : ℕ) → slice_index xs n ≤ greatest

-- both parts of totals are within the greatest total
pub record AreSmall (t : Totals) : Type 0 where
  pub hard : t.hard ≤ GREATEST_TOTAL
  pub soft : t.soft ≤ GREATEST_TOTAL

-- each deviation, each cost and both totals are within the limits
pub record AreWithin (deviations costs : List ℕ) (totals : Totals) : Type 0 where
  pub deviations_ : AreUpTo GREATEST_DEVIATION deviations
  pub costs_ : AreUpTo GREATEST_COST costs
  pub totals_ : AreSmall totals

-- those of a state, and what each of its groups costs
pub record CostsLittle (p : Parts) (s : State) : Type 0 where
  pub all : AreWithin (engine.deviations_in p s.slots) (engine.costs p s) (engine.totals p s)
  pub groups : (g : ℕ) → AreSmall (engine.group_totals p s g)
