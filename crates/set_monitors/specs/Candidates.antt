-- The resources that may have a task in a monitor's role: those with the type of such a place.
use Rattle.std.specs.Prelude.{ℕ, ◌≡◌, ◌<◌, Bool, true, Some, List, slice_get}
use Rattle.khe_base.specs.IdSet.{has_member}
use Rattle.khe_instance.specs.declared.parts.EventInfo.{EventInfo}
use Rattle.khe_instance.specs.declared.parts.Parts.{Parts}
use Rattle.khe_instance.specs.declared.parts.Place.{Place}
use Rattle.khe_instance.specs.declared.parts.ResourceInfo.{ResourceInfo}
use Rattle.khe_instance.specs.declared.points.Monitor.{Monitor}
use Rattle.event_monitors.specs.Posts.{names}
use Rattle.set_monitors.specs.AvoidSplitAssignments.{AreAscending, IsListed, in_role}

-- the types of an event's places in the role are among these
abbrev pub HasTypesOf : Parts → Monitor → ℕ → List Bool → Type 0
HasTypesOf p m e types = (event : EventInfo) (k : ℕ) (place : Place) → slice_get p.events e ≡ Some event
    → slice_get event.places k ≡ Some place → in_role p m e k ≡ true
    → has_member types place.rtype ≡ true

-- and so for each of a monitor's events
abbrev pub HasTypes : Parts → Monitor → List Bool → Type 0
HasTypes p m types = (e : ℕ) → names p e m ≡ true → HasTypesOf p m e types

-- the resources of these types, of those below a number
pub record AreTyped (p : Parts) (types : List Bool) (n : ℕ) (numbers : List ℕ) : Type 0 where
  pub ascending : AreAscending numbers
  pub within : (k r : ℕ) → slice_get numbers k ≡ Some r → r < n
  pub known : (r : ℕ) (x : ResourceInfo) → r < n → slice_get p.resources r ≡ Some x → has_member types x.rtype ≡ true
      → IsListed numbers r
