-- How many steps an engine owes that is put off: the watchers of the changes that it has not measured yet.
use Rattle.std.specs.Prelude.{◌≡◌, ◌+◌, ◌⊎◌, List, [], ◌∷◌}
use Rattle.khe_engine.specs.Late.{IsPut}
use Rattle.khe_instance.specs.declared.parts.Parts.{Parts}
use Rattle.khe_told.specs.Changes.{after_all, inverse}
use Rattle.khe_told.specs.Watchers.{watcher_counts}
use Rattle.khe_told.specs.declared.changes.Change.{Change}
use Rattle.khe_told.specs.declared.slots.Slot.{Slot}

-- where a change is put to others, more is owed by its watchers; or it takes the last one back, and less is owed by those
abbrev pub OwedAsPut : Type 0
OwedAsPut = (p : Parts) (s : List Slot) (cs ds : List Change) (c : Change) → IsPut cs c ds
    → (watcher_counts p s ds ≡ watcher_counts p s cs + watcher_counts p (after_all s cs) (c ∷ []))
    ⊎ ((d : Change) × (c ≡ inverse d)
    × (watcher_counts p s ds + watcher_counts p (after_all s ds) (d ∷ []) ≡ watcher_counts p s cs))
