-- The monitors that a keeper serves, listed for each resource.
use Rattle.std.specs.Prelude.{ℕ, ◌≡◌, ◌<◌, ◌+◌, ◌&&◌, ◌⊎◌, Bool, true, false, if◌then◌else◌, Option, Some, List, []}
use Rattle.std.specs.Prelude.{◌∷◌, length}
use Rattle.std.specs.Prelude.{slice_get, slice_index_or}
use Rattle.std.specs.Option.{option_map_or}
use Rattle.khe_base.specs.declared.numbers.ResourceId.{ResourceId}
use Rattle.khe_instance.specs.Watching.{is_at}
use Rattle.khe_instance.specs.declared.parts.Parts.{Parts}
use Rattle.khe_instance.specs.declared.points.Monitor.{Monitor}
use Rattle.khe_instance.specs.declared.rules.Kind.{Kind}
use Rattle.khe_told.specs.Waits.{WaitOn}
use Rattle.resource_monitors.specs.declared.posts.Post.{Post}

-- a monitor with its number
abbrev pub post : ℕ → Monitor → Post
post k m = record { number = record { 0 = k }; monitor = m }

-- the monitors that pass a test, of monitors that are numbered on from this number
abbrev pub posts_from : (Monitor → Bool) → ℕ → List Monitor → List Post
posts_from test k [] = []
posts_from test k (m ∷ ms) = if test m then post k m ∷ posts_from test (k + 1) ms else posts_from test (k + 1) ms

-- a served monitor at the resource
abbrev pub is_served_at : (Kind → Bool) → ℕ → Monitor → Bool
is_served_at served r m = served m.kind && is_at m.point r

abbrev pub posts_of : (Kind → Bool) → List Monitor → ℕ → List Post
posts_of served monitors r = posts_from (is_served_at served r) 0 monitors

-- a list for each resource
pub record AreLists (served : Kind → Bool) (resources : ℕ) (monitors : List Monitor) (lists : List (List Post)) : Type
    0 where
  pub resources_all : length lists ≡ resources
  pub each : (r : ℕ) → r < resources → slice_index_or lists r [] ≡ posts_of served monitors r

-- the posts of what a place is given
abbrev pub list_for : (Kind → Bool) → List Monitor → Option ResourceId → List Post
list_for served monitors place = option_map_or (λ r. posts_of served monitors r.0) place []

-- a post has its monitor's number
abbrev pub ArePosts : Parts → List Post → Type 0
ArePosts p list = (k : ℕ) (a : Post) → slice_get list k ≡ Some a → slice_get p.monitors a.number.0 ≡ Some a.monitor

-- a post of a list that passes a test has this number
abbrev pub IsDueIn : (Monitor → Bool) → List Post → ℕ → Type 0
IsDueIn test list i = (j : ℕ) × (a : Post) × (slice_get list j ≡ Some a) × (a.number.0 ≡ i) × (test a.monitor ≡ true)

-- the first posts of a list that pass a test wait, monitors that waited wait on, and no other comes
pub record AreAdded (test : Monitor → Bool) (list : List Post) (k : ℕ) (old new : ℕ → Bool) : Type 0 where
  pub each : (j : ℕ) (a : Post) → j < k → slice_get list j ≡ Some a → test a.monitor ≡ true → new a.number.0 ≡ true
  pub kept : WaitOn old new
  pub only : (i : ℕ) → new i ≡ true → (old i ≡ true) ⊎ IsDueIn test list i

-- a served monitor that does not wait has the same by two measures
abbrev pub AreSame : Parts → (Kind → Bool) → (ℕ → Bool) → (Monitor → ℕ) → (Monitor → ℕ) → Type 0
AreSame p served waits old new = (i : ℕ) (m : Monitor) → slice_get p.monitors i ≡ Some m → served m.kind ≡ true
    → waits i ≡ false → new m ≡ old m
