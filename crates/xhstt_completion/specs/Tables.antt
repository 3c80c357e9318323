-- Tables of the places of roles, for entries that give many resources.
use Rattle.std.specs.Prelude.{ℕ, ◌≡◌, ◌≤◌, Bool, true, if◌then◌else◌, Option, Some, None, List, length, map, position}
use Rattle.std.specs.Prelude.{slice_get, encode_utf8_all, false, is_none, ◌||◌, find}
use Rattle.std.specs.List.{list_any}
use Rattle.std.specs.Option.{option_and_then}
use Rattle.khe_base.specs.IdSet.{has_member}
use Rattle.khe_base.specs.Names.{is_among_names, number_of}
use Rattle.khe_base.specs.declared.numbers.ResourceId.{ResourceId}
use Rattle.khe_instance.specs.Lookups.{is_role}
use Rattle.khe_instance.specs.declared.parts.EventInfo.{EventInfo}
use Rattle.khe_instance.specs.declared.parts.Parts.{Parts}
use Rattle.khe_instance.specs.declared.parts.Place.{Place}
use Rattle.xhstt_completion.specs.Causes.{is_place_for, place_cause}
use Rattle.xhstt_completion.specs.Entries.{role_of}
use Rattle.fault_tables.specs.declared.causes.TheConstants.{BAD_ROLE}
use Rattle.xhstt_completion.specs.declared.many.Wanted.{Wanted}
use Rattle.xhstt_completion.specs.declared.tables.RoleTable.{RoleTable}
use Rattle.xhstt_shape.specs.declared.records.RawGiven.{RawGiven}

-- a table finds each role where it stands first among these, and knows how long the longest one is
pub record Finds (table : RoleTable) (roles : List (Option (List ℕ))) : Type 0 where
  pub many : length table.firsts.items ≡ length table.names
  pub first : (role : List ℕ) → option_and_then (λ n. slice_get table.firsts.items n) (number_of role table.names)
      ≡ position (is_role role) roles
  pub short : (role : List ℕ) → is_among_names role table.names ≡ true → length (encode_utf8_all role) ≤ table.longest

-- whether one of some resources is given for a role
abbrev pub is_given : List RawGiven → List ℕ → Bool
is_given given role = list_any (λ one. is_role role (role_of one)) given

-- the role of a place, where one of the resources is given for it
abbrev pub wanted_role : List RawGiven → Option (List ℕ) → Option (List ℕ)
wanted_role given None = None
wanted_role given (Some role) = if is_given given role then Some role else None

abbrev pub wanted_roles : List RawGiven → List Place → List (Option (List ℕ))
wanted_roles given places = map (λ place. wanted_role given place.role) places

-- a set has the resources that are preassigned to places without a role
abbrev pub HasUnnamed : Parts → List Place → List Bool → Type 0
HasUnnamed p places set = (r : ℕ) → has_member set r
    ≡ list_any (is_place_for (Some (record { 0 = r })) None) places

-- what is wanted of the places of an event by an entry that gives these resources
pub record IsWanted (p : Parts) (given : List RawGiven) (places : List Place) (w : Wanted) : Type 0 where
  pub given_roles : Finds w.roles (map role_of given)
  pub place_roles : Finds w.places (wanted_roles given places)
  pub unnamed : HasUnnamed p places w.unnamed

-- the cause at a resource that is given for a role after others, and at one that is given without a role
abbrev pub named_cause : Parts → EventInfo → List RawGiven → List ℕ → Option ResourceId → Option ℕ
named_cause p event before role r =
    let place = find (λ x. is_role role x.role) event.places in
    if is_none place || is_given before role then Some BAD_ROLE else option_and_then (place_cause p r) place

abbrev pub unnamed_cause : Parts → EventInfo → Option ResourceId → Option ℕ
unnamed_cause p event r =
    let place = find (is_place_for r None) event.places in
    if is_none place || false then Some BAD_ROLE else option_and_then (place_cause p r) place
