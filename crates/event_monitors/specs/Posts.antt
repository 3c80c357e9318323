-- The monitors that a keeper serves, each with its place among them, and by events.
use Rattle.std.specs.Prelude.{ℕ, ◌≡◌, ◌<◌, ◌≤◌, Bool, true, false, Some, List, length, slice_get}
use Rattle.std.specs.List.{filter, range_with_len}
use Rattle.std.specs.Option.{option_map_or}
use Rattle.khe_instance.specs.Watching.{names_event}
use Rattle.khe_instance.specs.declared.parts.Parts.{Parts}
use Rattle.khe_instance.specs.declared.points.Monitor.{Monitor}
use Rattle.khe_instance.specs.declared.rules.Kind.{Kind}
use Rattle.khe_told.specs.declared.slots.Slot.{Slot}
use Rattle.event_monitors.specs.declared.posts.Post.{Post}

-- whether a monitor's point names the event
abbrev pub names : Parts → ℕ → Monitor → Bool
names p e m = option_map_or (λ c. names_event p c.rule m.point e) (slice_get p.constraints m.constraint) false

-- whether the post at a place does, and the places of the posts that do
abbrev pub names_at : Parts → List Post → ℕ → ℕ → Bool
names_at p posts e k = option_map_or (λ a. names p e a.monitor) (slice_get posts k) false

abbrev pub posts_at : Parts → List Post → ℕ → List ℕ
posts_at p posts e = filter (names_at p posts e) (range_with_len 0 (length posts))

-- a served monitor with its number
pub record IsPost (p : Parts) (served : Kind → Bool) (a : Post) : Type 0 where
  pub there : slice_get p.monitors a.number.0 ≡ Some a.monitor
  pub kind : served a.monitor.kind ≡ true

-- posts by their numbers
abbrev pub AreAscending : List Post → Type 0
AreAscending posts = (j k : ℕ) (a b : Post) → j < k → slice_get posts j ≡ Some a → slice_get posts k ≡ Some b
    → a.number.0 < b.number.0

-- all served monitors, by their numbers
pub record ArePosts (p : Parts) (served : Kind → Bool) (posts : List Post) : Type 0 where
  pub each : (k : ℕ) (a : Post) → slice_get posts k ≡ Some a → IsPost p served a
  pub all : (i : ℕ) (m : Monitor) → slice_get p.monitors i ≡ Some m → served m.kind ≡ true
      → (k : ℕ) × (slice_get posts k ≡ Some (record { number = record { 0 = i }; monitor = m }))
  pub ascending : AreAscending posts
  pub few : length posts ≤ length p.monitors

-- for each event the places of the posts that name it
pub record AreListed (p : Parts) (posts : List Post) (lists : List (List ℕ)) : Type 0 where
  pub rows : length lists ≡ length p.events
  pub each : (e : ℕ) (list : List ℕ) → slice_get lists e ≡ Some list → list ≡ posts_at p posts e

-- for each monitor that has a post the place of that
abbrev pub ArePlaces : List Post → List ℕ → Type 0
ArePlaces posts places = (k : ℕ) (a : Post) → slice_get posts k ≡ Some a → slice_get places a.number.0 ≡ Some k

-- each gauge keeps what it should of the state
abbrev pub AreKept : {G : Type 0} → (G → Parts → Monitor → List Slot → Type 0) → Parts → List Post → List G → List Slot
    → Type 0
AreKept {G} keeps p posts gauges s = (k : ℕ) (a : Post) (g : G) → slice_get posts k ≡ Some a
    → slice_get gauges k ≡ Some g → keeps g p a.monitor s
