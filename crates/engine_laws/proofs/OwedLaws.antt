-- What is owed as changes are put to others or taken back.
use Rattle.std.proofs.Common.{◌≡◌, ◌+◌, ◌⊎◌, List, [], ◌∷◌, ap, inl, inr, sym, ◌∙◌}
use Rattle.khe_engine.specs.Late.{IsPut}
use Rattle.khe_instance.specs.declared.parts.Parts.{Parts}
use Rattle.khe_told.proofs.WatcherLaws.{watchers_both}
use Rattle.khe_told.specs.Changes.{after_all, inverse}
use Rattle.khe_told.specs.Watchers.{watcher_counts}
use Rattle.khe_told.specs.declared.changes.Change.{Change}
use Rattle.khe_told.specs.declared.slots.Slot.{Slot}

pub owed_put : (p : Parts) (s : List Slot) (cs ds : List Change) (c : Change) → IsPut cs c ds
    → (watcher_counts p s ds ≡ watcher_counts p s cs + watcher_counts p (after_all s cs) (c ∷ []))
    ⊎ ((d : Change) × (c ≡ inverse d)
    × (watcher_counts p s ds + watcher_counts p (after_all s ds) (d ∷ []) ≡ watcher_counts p s cs))
owed_put p s cs ds c (inl e) = inl (ap (watcher_counts p s) e ∙ watchers_both p s cs (c ∷ []))
owed_put p s cs ds c (inr (d, e, back)) =
    inr (d, back, sym (ap (watcher_counts p s) e ∙ watchers_both p s ds (d ∷ [])))
