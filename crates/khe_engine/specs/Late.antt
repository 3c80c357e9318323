-- Changes that an engine that is put off has yet to tell its families.
use Rattle.std.specs.Prelude.{◌≡◌, ◌≤◌, ◌+◌, ◌⊎◌, List, [], ◌∷◌, ◌++◌}
use Rattle.khe_instance.specs.declared.parts.Parts.{Parts}
use Rattle.khe_told.specs.Changes.{after_all, inverse}
use Rattle.khe_told.specs.Fits.{AllFit, AreTold}
use Rattle.khe_told.specs.Watchers.{watcher_counts}
use Rattle.khe_told.specs.declared.changes.Change.{Change}
use Rattle.khe_told.specs.declared.slots.Slot.{Slot}

-- changes that can be told, one after the other, of a told state
pub record IsBehind (p : Parts) (s : List Slot) (cs : List Change) : Type 0 where
  pub told : AreTold p s
  pub fit : AllFit p s cs

-- a change was added to a list, or taken back in it
abbrev pub IsPut : List Change → Change → List Change → Type 0
IsPut cs c ds = (ds ≡ cs ++ c ∷ []) ⊎ ((d : Change) × (cs ≡ ds ++ d ∷ []) × (c ≡ inverse d))

-- a list leads where another does and then these changes, and has no more watchers than those have together
abbrev pub LeadAlike : List Change → List Change → List Change → Type 0
LeadAlike cs more ds = (p : Parts) (s : List Slot) → IsBehind p s cs → AllFit p (after_all s cs) more → IsBehind p s ds
    × (after_all s ds ≡ after_all (after_all s cs) more)
    × (watcher_counts p s ds ≤ watcher_counts p s cs + watcher_counts p (after_all s cs) more)
