-- The places in a monitor's role, at most one for each of its events.
use Rattle.std.specs.Prelude.{ℕ, ◌≡◌, ◌<◌, ◌++◌, ◌∷◌, [], ◌⊎◌, true, false, Some, List, length, slice_get}
use Rattle.khe_instance.specs.declared.parts.Parts.{Parts}
use Rattle.khe_instance.specs.declared.points.Monitor.{Monitor}
use Rattle.event_monitors.specs.Posts.{names}
use Rattle.set_monitors.specs.AvoidSplitAssignments.{in_role}
use Rattle.set_monitors.specs.declared.role_places.RolePlace.{RolePlace}

-- a place of an event is the only one there in the role
abbrev pub IsOnly : Parts → Monitor → ℕ → ℕ → Type 0
IsOnly p m e k = (in_role p m e k ≡ true) × ((j : ℕ) → in_role p m e j ≡ true → j ≡ k)

-- the element with a number is on an event
abbrev pub IsAt : List RolePlace → ℕ → ℕ → Type 0
IsAt list e i = (a : RolePlace) × (slice_get list i ≡ Some a) × (a.event.0 ≡ e)

-- each is on a later event than those before it
abbrev pub AreByEvents : List RolePlace → Type 0
AreByEvents list = (i j : ℕ) (a b : RolePlace) → i < j → slice_get list i ≡ Some a → slice_get list j ≡ Some b
    → a.event.0 < b.event.0

-- where an event is sought in a list, its place is this one
abbrev pub IsPlaceAt : List RolePlace → ℕ → ℕ → Type 0
IsPlaceAt list e k = (i : ℕ) × (a : RolePlace) × (slice_get list i ≡ Some a) × (a.event.0 ≡ e) × (a.place ≡ k)

-- all places in the role of a monitor's events
pub record AreRolePlaces (p : Parts) (m : Monitor) (list : List RolePlace) : Type 0 where
  pub ordered : AreByEvents list
  pub only : (i : ℕ) (a : RolePlace) → slice_get list i ≡ Some a → IsOnly p m a.event.0 a.place
  pub known : (e k : ℕ) → e < length p.events → names p e m ≡ true → in_role p m e k ≡ true
      → (i : ℕ) × IsAt list e i

-- the place in the role of an event came to the end, where it has one
abbrev pub HasComeAt : Parts → Monitor → ℕ → List RolePlace → List RolePlace → Type 0
HasComeAt p m e old new = ((new ≡ old) × ((k : ℕ) → in_role p m e k ≡ false))
    ⊎ ((a : RolePlace) × (new ≡ old ++ a ∷ []) × (a.event.0 ≡ e) × IsOnly p m e a.place)
