-- Where every kind is served, so is each watcher of a change.
use Rattle.std.proofs.Common.{ℕ, ◌≡◌, ◌+◌, Bool, cond, List, [], ◌∷◌, refl, ap}
use Rattle.std.specs.List.{sum_by}
use Rattle.engine_laws.specs.Served.{served_count, served_counts}
use Rattle.khe_engine.specs.Values.{ServesAll}
use Rattle.khe_instance.specs.declared.parts.Parts.{Parts}
use Rattle.khe_instance.specs.declared.points.Monitor.{Monitor}
use Rattle.khe_instance.specs.declared.rules.Kind.{Kind}
use Rattle.khe_told.specs.Changes.{after, meet_of}
use Rattle.khe_told.specs.Slots.{slot_at}
use Rattle.khe_told.specs.Watchers.{watch_count, watcher_count, watcher_counts}
use Rattle.khe_told.specs.declared.changes.Change.{Change}
use Rattle.khe_told.specs.declared.slots.Slot.{Slot}

one_change : (served : Kind → Bool) → ServesAll served → (p : Parts) (s : List Slot) (c : Change)
    → served_count served p s c ≡ watcher_count p s c
unfolding served_count watcher_count
one_change served all p s c = λ i. sum_by (λ (m : Monitor). each m i) p.monitors
  where
    each : (m : Monitor) → cond (served m.kind) (watch_count p (slot_at s (meet_of c)) c m) 0
        ≡ watch_count p (slot_at s (meet_of c)) c m
    each m = ap (λ b. cond b (watch_count p (slot_at s (meet_of c)) c m) 0) (all m.kind)

pub watchers_served : (served : Kind → Bool) → ServesAll served → (p : Parts) (s : List Slot) (cs : List Change)
    → served_counts served p s cs ≡ watcher_counts p s cs
watchers_served served all p s [] = refl
watchers_served served all p s (c ∷ cs) =
    let rest = watchers_served served all p (after s c) cs in
    λ i. one_change served all p s c i + rest i
