-- What a repair comes to. The first chain that leaves lower totals is taken, and the trials begin again; it ends
-- where none does, or where one more than the budget would be tried.
use Rattle.std.specs.Prelude.{ℕ, zero, suc, ◌≡◌, ◌+◌, ◌-◌, ◌≤◌, ◌<◌, if◌then◌else◌, List, [], ◌∷◌, ◌++◌, map}
use Rattle.khe_instance.specs.declared.parts.Parts.{Parts}
use Rattle.khe_engine.specs.States.{State}
use Rattle.khe_engine.specs.Worlds.{World}
use Rattle.ejection_repair.specs.Chains.{Chain, chains}
use Rattle.ejection_repair.specs.Values.{totals_at, are_lower}
use Rattle.ejection_repair.specs.declared.outcome.Outcome.{Outcome}
use Rattle.ejection_repair.specs.declared.outcome.Outcome.TheVariants.{Done, Spent}
use Rattle.ejection_repair.specs.declared.outcome.Round.{Round}
use Rattle.ejection_repair.specs.declared.outcome.Round.TheVariants.{Settled, Taken, Spent as RoundSpent}

-- a chain that is to be looked at: the state that it leaves, and how many lengths were gone through
-- whole before it
pub record Try : Type 0 where
  pub state : State
  pub gone : ℕ

abbrev pub try_at : ℕ → Chain → Try
try_at gone c = record { state = c.state; gone = gone }

-- what is to be looked at in a state by further lengths, after the lengths that were gone through
unfoldable pub tries_from : Parts → State → ℕ → ℕ → ℕ → List Try
tries_from p s v gone zero = []
tries_from p s v gone (suc n) = map (try_at gone) (chains p s v (gone + 1)) ++ tries_from p s v (gone + 1) n

-- all that is to be looked at in a state: the chains of at most one move, of at most two, up to the depth
abbrev pub tries : Parts → State → ℕ → ℕ → List Try
tries p s v depth = tries_from p s v 0 depth

-- a state, and how it was come to
pub record Repaired : Type 0 where
  pub state : State
  pub outcome : Outcome

-- looks at what is ahead in a state: the first that is lower is taken, and it goes on from there
unfoldable pub run : Parts → ℕ → ℕ → ℕ → ℕ → ℕ → State → List Try → Repaired
run p depth v zero accepted tried s [] = record { state = s; outcome = Done accepted tried }
run p depth v zero accepted tried s (x ∷ xs) = record { state = s; outcome = Spent accepted tried x.gone }
run p depth v (suc left) accepted tried s [] = record { state = s; outcome = Done accepted tried }
run p depth v (suc left) accepted tried s (x ∷ xs) =
    if are_lower (totals_at p x.state) (totals_at p s)
    then run p depth v left (accepted + 1) (tried + 1) x.state (tries_from p x.state v 0 depth)
    else run p depth v left accepted (tried + 1) s xs

-- what repair of a state comes to, by a depth, a budget of tries and a diversifier
unfoldable pub repaired : Parts → State → ℕ → ℕ → ℕ → Repaired
repaired p s depth budget v = run p depth v budget 0 0 s (tries_from p s v 0 depth)

-- from a state with a number of tries left, all that is ahead
abbrev pub runs_from : Parts → ℕ → ℕ → ℕ → ℕ → ℕ → State → Repaired
runs_from p depth v left accepted tried s = run p depth v left accepted tried s (tries_from p s v 0 depth)

-- what one round comes to, with the worlds and the tries that are left before and after it
abbrev pub Goes : Round → ℕ → ℕ → World → World → ℕ → ℕ → Type 0
Goes Settled depth v w u n m =
    (u.state ≡ w.state) × (m ≤ n) × ((a t : ℕ) → runs_from w.parts depth v n a t w.state
    ≡ record { state = w.state; outcome = Done a (t + (n - m)) })
Goes Taken depth v w u n m =
    (m < n) × ((a t : ℕ) → runs_from w.parts depth v n a t w.state
    ≡ runs_from w.parts depth v m (a + 1) (t + (n - m)) u.state)
Goes (RoundSpent k) depth v w u n m =
    (u.state ≡ w.state) × (m ≡ 0) × ((a t : ℕ) → runs_from w.parts depth v n a t w.state
    ≡ record { state = w.state; outcome = Spent a (t + n) k })
