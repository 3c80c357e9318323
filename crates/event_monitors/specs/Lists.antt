-- Lists of places by events, while places are added to them.
use Rattle.std.specs.Prelude.{ℕ, ◌≡◌, ◌<◌, ◌+◌, ◌++◌, ◌∷◌, [], if◌then◌else◌, Bool, false, Some, List, drop, length}
use Rattle.std.specs.Prelude.{slice_get, slice_index_or}
use Rattle.khe_instance.specs.declared.rules.EventPair.{EventPair}
use Rattle.khe_instance.specs.declared.rules.Rule.{Rule}
use Rattle.khe_instance.specs.declared.rules.Rule.TheVariants.{OrderEvents}
use Rattle.event_monitors.specs.Turns.{has}

-- the place came to the end of the lists of the events that pass the test
pub record AreAdded (test : ℕ → Bool) (place : ℕ) (old new : List (List ℕ)) : Type 0 where
  pub rows : length new ≡ length old
  pub each : (e : ℕ) → e < length old → slice_index_or new e [] ≡ slice_index_or old e []
      ++ (if test e then place ∷ [] else [])

-- no number comes twice
abbrev pub AreOnce : List ℕ → Type 0
AreOnce list = (i j : ℕ) → slice_get list i ≡ Some j → has (drop (i + 1) list) j ≡ false

-- the pair with this number, where a rule has pairs, is there and is of events below the number
abbrev pub HasPair : Rule → ℕ → ℕ → Type 0
HasPair (OrderEvents pairs) k events = (k < length pairs)
    × ((i : ℕ) (q : EventPair) → slice_get pairs i ≡ Some q → (q.first.0 < events) × (q.second.0 < events))
HasPair _ k events = Unit {0}
