-- A look at chains in order, for the first that leaves lower totals.
use Rattle.std.specs.Prelude.{ℕ, zero, suc, ◌≡◌, if◌then◌else◌, List, [], ◌∷◌}
use Rattle.khe_base.specs.declared.sums.Totals.{Totals}
use Rattle.khe_instance.specs.declared.parts.Parts.{Parts}
use Rattle.khe_engine.specs.States.{State}
use Rattle.khe_engine.specs.Worlds.{World}
use Rattle.ejection_repair.specs.Chains.{Chain}
use Rattle.ejection_repair.specs.Trails.{moved_of}
use Rattle.ejection_repair.specs.Values.{totals_at, are_lower}
use Rattle.ejection_repair.specs.declared.looked.Looked.{Looked}
use Rattle.ejection_repair.specs.declared.looked.Looked.TheVariants.{Through, Found, Spent}
use Rattle.ejection_repair.specs.declared.trails.Trail.{Trail}

-- all were looked at, and how many tries are left; the first that is lower, and how many are left
-- after it; or there is one more than there were tries
pub data Looking : Type 0 where
  through : ℕ → Looking
  found : State → ℕ → Looking
  spent : Looking

unfoldable pub look : Parts → Totals → ℕ → List Chain → Looking
look p t left [] = through left
look p t zero (c ∷ cs) = spent
look p t (suc left) (c ∷ cs) = if are_lower (totals_at p c.state) t then found c.state left else look p t left cs

-- what a search answers, with the worlds before and after it and the tries that are left
abbrev pub Looks : Looked → Looking → World → World → ℕ → Type 0
Looks Through l w v left = (l ≡ through left) × (v.state ≡ w.state) × (v.saved ≡ w.saved)
Looks Found l w v left = l ≡ found v.state left
Looks Spent l w v left = (l ≡ spent) × (v.state ≡ w.state) × (v.saved ≡ w.saved) × (left ≡ 0)

-- the chain that a world stands at
abbrev pub chain_at : Trail → World → Chain
chain_at t w = record { moved = moved_of t; state = w.state }
