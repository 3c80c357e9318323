-- What a search leaves of an engine's world.
use Rattle.std.specs.Prelude.{ℕ, ◌+◌, ◌≡◌, ◌≤◌, List, ◌∷◌, map, length}
use Rattle.khe_told.specs.declared.changes.Change.{Change}
use Rattle.khe_engine.specs.States.{State}
use Rattle.khe_engine.specs.Worlds.{World, Saved, kept}

-- the states that were saved
abbrev pub states : List Saved → List State
states saved = map (λ (x : Saved). x.state) saved

-- how many records are kept, or can be without memory
abbrev pub room : World → ℕ
room w = w.spare + kept w.saved

-- the instance, the saved states and the marked costs stay
pub record IsKept (w v : World) : Type 0 where
  pub parts : v.parts ≡ w.parts
  pub saved : states v.saved ≡ states w.saved
  pub count : length v.saved ≡ length w.saved
  pub marked : v.marked ≡ w.marked

-- a world is inside a mark that was opened at another, by one edit
pub record IsInside (w v : World) : Type 0 where
  pub parts : v.parts ≡ w.parts
  pub marked : v.marked ≡ w.marked
  pub room : room w ≤ room v
  pub trail : List Change
  pub saved : v.saved ≡ record { state = w.state; trail = trail; records = 1 } ∷ w.saved

-- a world is back where it was
pub record IsBack (w v : World) : Type 0 where
  pub parts : v.parts ≡ w.parts
  pub marked : v.marked ≡ w.marked
  pub room : room w ≤ room v
  pub state : v.state ≡ w.state
  pub saved : v.saved ≡ w.saved
