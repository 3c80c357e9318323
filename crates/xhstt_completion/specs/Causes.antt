-- Why a solution is invalid: the first cause, of seven, of its first entry that has one.
use Rattle.std.specs.Prelude.{ℕ, ◌+◌, ◌==◌, Bool, false, not, ◌&&◌, ◌||◌, nat_lt, if◌then◌else◌, Option, Some, None}
use Rattle.std.specs.Prelude.{is_some, is_none, List, [], ◌∷◌, ◌++◌, find, length, slice_get}
use Rattle.std.specs.List.{list_any, sum_by}
use Rattle.std.specs.Option.{option_map, option_map_or, option_or, option_and_then}
use Rattle.khe_base.specs.declared.numbers.ResourceId.{ResourceId}
use Rattle.khe_base.specs.declared.numbers.TimeId.{TimeId}
use Rattle.khe_instance.specs.Lookups.{is_role}
use Rattle.khe_instance.specs.Named.{event_named}
use Rattle.khe_instance.specs.Running.{is_resource}
use Rattle.khe_instance.specs.declared.parts.EventInfo.{EventInfo}
use Rattle.khe_instance.specs.declared.parts.Parts.{Parts}
use Rattle.khe_instance.specs.declared.parts.Place.{Place}
use Rattle.xhstt_completion.specs.Entries.{entries_of, duration_of, time_of, start_of, resource_of, role_of}
use Rattle.xhstt_completion.specs.declared.faults.Cause.{Cause}
use Rattle.fault_tables.specs.declared.causes.TheConstants.{TOO_LONG, SPLIT_FIXED, FIXED_TIME, OFF_END, BAD_ROLE}
use Rattle.fault_tables.specs.declared.causes.TheConstants.{FIXED_RESOURCE, WRONG_TYPE}
use Rattle.xhstt_shape.specs.declared.records.RawEntry.{RawEntry}
use Rattle.xhstt_shape.specs.declared.records.RawGiven.{RawGiven}

-- with the entries of its event before it, which last so long, an entry lasts longer than the event
abbrev pub is_too_long : EventInfo → ℕ → RawEntry → Bool
is_too_long event used entry = nat_lt event.duration (used + duration_of event entry)

-- an entry splits an event with a preassigned time
abbrev pub splits_fixed : EventInfo → RawEntry → Bool
splits_fixed event entry = is_some event.fixed && nat_lt (duration_of event entry) event.duration

-- an entry gives another time than the preassigned one
abbrev pub differ_in_time : Option TimeId → Option TimeId → Bool
differ_in_time (Some x) (Some y) = not (x.0 == y.0)
differ_in_time _ _ = false

abbrev pub moves_fixed : Parts → EventInfo → RawEntry → Bool
moves_fixed p event entry = differ_in_time (time_of p entry) event.fixed

-- an entry ends after the last time
abbrev pub ends_late : Parts → EventInfo → RawEntry → Bool
ends_late p event entry = option_map_or (λ s. nat_lt (length p.times) (s.0 + duration_of event entry))
    (start_of p event entry) false

-- whether a place is the one for a resource that is given for this role; or, without a role, whether
-- it has none either, and has this resource
abbrev pub is_place_for : Option ResourceId → Option (List ℕ) → Place → Bool
is_place_for r (Some role) place = is_role role place.role
is_place_for r None place = is_none place.role && option_map_or (λ x. is_resource x.0 place.fixed) r false

-- the place of an event that a resource is given for
abbrev pub place_for : Parts → EventInfo → RawGiven → Option Place
place_for p event given = find (is_place_for (resource_of p given) (role_of given)) event.places

-- the role came before, among the resources that the entry gave so far
abbrev pub came_before : List RawGiven → RawGiven → Bool
came_before before given = option_map_or (λ role. list_any (λ other. is_role role (role_of other)) before)
    (role_of given) false

-- a resource is not the one that its place has
abbrev pub differ_in_resource : Option ResourceId → Option ResourceId → Bool
differ_in_resource (Some x) (Some y) = not (x.0 == y.0)
differ_in_resource _ _ = false

-- the type of a resource
abbrev pub type_of : Parts → Option ResourceId → Option ℕ
type_of p r = option_and_then (λ x. option_map (λ info. info.rtype) (slice_get p.resources x.0)) r

-- a resource has another type than its place wants
abbrev pub has_other_type : Parts → Option ResourceId → Place → Bool
has_other_type p r place = option_map_or (λ rtype. not (rtype == place.rtype)) (type_of p r) false

-- the cause at a resource and its place
abbrev pub place_cause : Parts → Option ResourceId → Place → Option ℕ
place_cause p r place =
    if differ_in_resource place.fixed r then Some FIXED_RESOURCE else
    if has_other_type p r place then Some WRONG_TYPE else
    None

-- the cause at the next resource that an entry gives, if there is one
abbrev pub given_cause : Parts → EventInfo → List RawGiven → RawGiven → Option ℕ
given_cause p event before given =
    if is_none (place_for p event given) || came_before before given then Some BAD_ROLE else
    option_and_then (place_cause p (resource_of p given)) (place_for p event given)

-- the first cause at the resources that follow others
abbrev pub first_given_cause : Parts → EventInfo → List RawGiven → List RawGiven → Option ℕ
first_given_cause p event before [] = None
first_given_cause p event before (given ∷ rest) =
    option_or (given_cause p event before given) (first_given_cause p event (before ++ given ∷ []) rest)

-- the cause at an entry of an event whose entries before it last so long
abbrev pub cause_in : Parts → EventInfo → ℕ → RawEntry → Option ℕ
cause_in p event used entry =
    if is_too_long event used entry then Some TOO_LONG else
    if splits_fixed event entry then Some SPLIT_FIXED else
    if moves_fixed p event entry then Some FIXED_TIME else
    if ends_late p event entry then Some OFF_END else
    first_given_cause p event [] entry.resources

-- how long the entries of an event last together
abbrev pub used_by : Parts → ℕ → EventInfo → List RawEntry → ℕ
used_by p e event entries = sum_by (duration_of event) (entries_of p e entries)

-- the cause at an entry that follows others
abbrev pub cause_after : Parts → List RawEntry → RawEntry → Option ℕ
cause_after p before entry =
    option_and_then (λ e. option_and_then (λ event. cause_in p event (used_by p e.0 event before) entry)
    (slice_get p.events e.0)) (event_named p entry.reference.id)

-- the first cause at entries that follow others
abbrev pub first_cause : Parts → List RawEntry → List RawEntry → Option Cause
first_cause p before [] = None
first_cause p before (entry ∷ rest) =
    option_or (option_map (λ cause. record { cause = cause; entry = length before }) (cause_after p before entry))
    (first_cause p (before ++ entry ∷ []) rest)
