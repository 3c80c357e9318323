-- The watchers of a change, counted for each monitor: once where it names the change's event, once for each
-- time on its list at which the change makes its resource busier or less busy, and once more where it limits
-- the workload of a resource that is given or taken.
use Rattle.std.specs.Prelude.{ℕ, ◌≡◌, ◌≤◌, ◌⊎◌, ◌+◌, ◌*◌, Bool, true, if◌then◌else◌, Some, None, List, [], ◌∷◌, slice_get}
use Rattle.std.specs.List.{sum_by, count_by, filter_map, range_with_len}
use Rattle.std.specs.Option.{option_map_or}
use Rattle.khe_base.specs.declared.numbers.ResourceId.{ResourceId}
use Rattle.khe_base.specs.declared.numbers.TimeId.{TimeId}
use Rattle.khe_instance.specs.Watching.{is_at, is_workload, lists_time, names_event}
use Rattle.khe_instance.specs.declared.parts.Parts.{Parts}
use Rattle.khe_instance.specs.declared.points.Monitor.{Monitor}
use Rattle.khe_instance.specs.declared.points.Point.{Point}
use Rattle.khe_instance.specs.declared.rules.Rule.{Rule}
use Rattle.khe_told.specs.Slots.{slot_at}
use Rattle.khe_told.specs.Changes.{after, meet_of}
use Rattle.khe_told.specs.declared.slots.Slot.{Slot}
use Rattle.khe_told.specs.declared.slots.Span.{Span}
use Rattle.khe_told.specs.declared.changes.Change.{Change}
use Rattle.khe_told.specs.declared.changes.Change.TheVariants.{Place as PlaceAt, Lift, Give, Take}

-- the times from a start on
abbrev pub covered : ℕ → ℕ → List ℕ
covered start duration = range_with_len start duration

-- what the places of a slot are given, with repeats
abbrev pub given_in : Slot → List ℕ
given_in x = filter_map (λ o. option_map_or (λ (r : ResourceId). Some r.0) o None) x.given

-- the times that a slot's meet covers
abbrev pub times_of : Slot → List ℕ
times_of x = option_map_or (λ (y : Span). option_map_or (λ (t : TimeId). covered t.0 y.duration) y.start []) x.span []

-- the cells that a change fills or empties: each of these resources at each of these times
abbrev pub touched_resources : Slot → Change → List ℕ
touched_resources x (PlaceAt m t) = given_in x
touched_resources x (Lift m t) = given_in x
touched_resources x (Give t r) = r.0 ∷ []
touched_resources x (Take t r) = r.0 ∷ []
touched_resources x _ = []

abbrev pub touched_times : Slot → Change → List ℕ
touched_times x (PlaceAt m t) = covered t.0 (option_map_or (λ (y : Span). y.duration) x.span 0)
touched_times x (Lift m t) = covered t.0 (option_map_or (λ (y : Span). y.duration) x.span 0)
touched_times x (Give t r) = times_of x
touched_times x (Take t r) = times_of x
touched_times x _ = []

-- the resources whose workload a change alters
abbrev pub loaded_resources : Change → List ℕ
loaded_resources (Give t r) = r.0 ∷ []
loaded_resources (Take t r) = r.0 ∷ []
loaded_resources _ = []

-- how often a monitor with this rule and point watches a change of a slot
abbrev pub watches_with : Parts → Slot → Change → Rule → Point → ℕ
watches_with p x c rule point =
    (if names_event p rule point x.event.0 then 1 else 0)
    + count_by (is_at point) (touched_resources x c) * count_by (lists_time rule) (touched_times x c)
    + (if is_workload rule then count_by (is_at point) (loaded_resources c) else 0)

abbrev pub watch_count : Parts → Slot → Change → Monitor → ℕ
watch_count p x c m = option_map_or (λ k. watches_with p x c k.rule m.point) (slice_get p.constraints m.constraint) 0

-- how many watchers a change has, with repeats
unfoldable pub watcher_count : Parts → List Slot → Change → ℕ
watcher_count p s c = sum_by (watch_count p (slot_at s (meet_of c)) c) p.monitors

-- how many watchers a list of changes has, each in the state that those before it leave
abbrev pub watcher_counts : Parts → List Slot → List Change → ℕ
watcher_counts p s [] = 0
watcher_counts p s (c ∷ cs) = watcher_count p s c + watcher_counts p (after s c) cs

-- how often a monitor watches them
abbrev pub watch_counts : Parts → List Slot → List Change → Monitor → ℕ
watch_counts p s [] m = 0
watch_counts p s (c ∷ cs) m = watch_count p (slot_at s (meet_of c)) c m + watch_counts p (after s c) cs m

-- who waits and did not before watches one of the changes
abbrev pub AreWatchersOf : Parts → List Slot → List Change → (ℕ → Bool) → (ℕ → Bool) → Type 0
AreWatchersOf p s cs old new = (i : ℕ) → new i ≡ true → (old i ≡ true)
    ⊎ ((m : Monitor) × (slice_get p.monitors i ≡ Some m) × (1 ≤ watch_counts p s cs m))
