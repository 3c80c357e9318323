-- The watchers of changes that are of kinds that are served: where every kind is, these are all watchers. So the
-- bounds of an engine's steps, whose families serve every kind, count monitors that watch and are served.
use Rattle.std.specs.Prelude.{ℕ, ◌≡◌, ◌+◌, Bool, if◌then◌else◌, List, [], ◌∷◌}
use Rattle.std.specs.List.{sum_by}
use Rattle.khe_engine.specs.Values.{ServesAll}
use Rattle.khe_instance.specs.declared.parts.Parts.{Parts}
use Rattle.khe_instance.specs.declared.points.Monitor.{Monitor}
use Rattle.khe_instance.specs.declared.rules.Kind.{Kind}
use Rattle.khe_told.specs.Changes.{after, meet_of}
use Rattle.khe_told.specs.Slots.{slot_at}
use Rattle.khe_told.specs.Watchers.{watch_count, watcher_counts}
use Rattle.khe_told.specs.declared.changes.Change.{Change}
use Rattle.khe_told.specs.declared.slots.Slot.{Slot}

-- how many watchers a change has whose kind is served, with repeats
unfoldable pub served_count : (Kind → Bool) → Parts → List Slot → Change → ℕ
served_count served p s c =
    sum_by (λ (m : Monitor). if served m.kind then watch_count p (slot_at s (meet_of c)) c m else 0) p.monitors

-- and how many a list of changes has, each in the state that those before it leave
abbrev pub served_counts : (Kind → Bool) → Parts → List Slot → List Change → ℕ
served_counts served p s [] = 0
served_counts served p s (c ∷ cs) = served_count served p s c + served_counts served p (after s c) cs

-- where every kind is served, all watchers are
abbrev pub WatchersAreServed : Type 0
WatchersAreServed = (served : Kind → Bool) → ServesAll served → (p : Parts) (s : List Slot) (cs : List Change)
    → served_counts served p s cs ≡ watcher_counts p s cs
