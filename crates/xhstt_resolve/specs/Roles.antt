-- The places of an instance's events, listed by their roles.
use Rattle.std.specs.Prelude.{ℕ, ◌≡◌, ◌+◌, ◌==◌, Bool, List, [], ◌∷◌, ◌++◌, map, slice_index_or}
use Rattle.std.specs.Option.{option_map_or}
use Rattle.khe_base.specs.Names.{number_of}
use Rattle.xhstt_resolve.specs.Members.{numbers_where}
use Rattle.xhstt_resolve.specs.Points.{has_role}
use Rattle.xhstt_resolve.specs.declared.roles.RolePlace.{RolePlace}
use Rattle.xhstt_resolve.specs.declared.roles.Roles.{Roles}
use Rattle.xhstt_shape.specs.declared.records.RawEvent.{RawEvent}
use Rattle.xhstt_shape.specs.declared.records.RawInstance.{RawInstance}

-- an event resource by its event and its place
abbrev pub role_place : ℕ → ℕ → RolePlace
role_place e place = record { event = e; place = place }

-- the event resources with a role of events from a number on, and of all events
abbrev pub places_from : List ℕ → ℕ → List RawEvent → List RolePlace
places_from role k [] = []
places_from role k (e ∷ es) = map (role_place k) (numbers_where (has_role role) e.resources) ++
    places_from role (k + 1) es

abbrev pub places_with : RawInstance → List ℕ → List RolePlace
places_with i role = places_from role 0 i.events

-- whether an event resource is of an event
abbrev pub is_at : ℕ → RolePlace → Bool
is_at e p = p.event == e

-- what the lists of roles, each with a number, hold for a role
abbrev pub held : List (List ℕ) → List (List RolePlace) → List ℕ → List RolePlace
held names lists role = option_map_or (λ n. slice_index_or lists n []) (number_of role names) []

-- each role leads to the event resources that have it
pub record AreRolesOf (i : RawInstance) (r : Roles) : Type 0 where
  pub places : (role : List ℕ) → held r.names r.places role ≡ places_with i role
