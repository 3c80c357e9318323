-- The one mark that a matching has open around what it tries.
use Rattle.std.specs.Prelude.{ℕ, ◌≡◌, ◌+◌, ◌≤◌, List, [], ◌∷◌}
use Rattle.khe_engine.specs.Worlds.{World}
use Rattle.khe_told.specs.declared.changes.Change.{Change}

-- a world is inside the only mark, which was opened at another
pub record IsInside (w v : World) : Type 0 where
  pub parts : v.parts ≡ w.parts
  pub trail : List Change
  pub records : ℕ
  pub saved : v.saved ≡ record { state = w.state; trail = trail; records = records } ∷ []
  pub room : w.spare ≤ v.spare + records

-- a world is back there, with no mark
pub record IsBack (w v : World) : Type 0 where
  pub parts : v.parts ≡ w.parts
  pub state : v.state ≡ w.state
  pub saved : v.saved ≡ []
  pub room : w.spare ≤ v.spare
