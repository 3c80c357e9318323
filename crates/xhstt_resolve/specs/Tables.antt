-- A table of one sort of items with the groups of them.
use Rattle.std.specs.Prelude.{ℕ, ◌≡◌, ◌<◌, ◌≤◌, ◌^◌, List, [], ◌++◌, length, map, slice_index_or, All}
use Rattle.std.specs.List.{flat_map}
use Rattle.std.specs.Option.{option_map_or}
use Rattle.khe_base.specs.Names.{number_of}
use Rattle.khe_base.specs.declared.limits.TheConstants.{TIMES, TIME_GROUPS, RESOURCE_TYPES, RESOURCES, RESOURCE_GROUPS}
use Rattle.khe_base.specs.declared.limits.TheConstants.{EVENTS, EVENT_GROUPS, CONSTRAINTS}
use Rattle.xhstt_references.specs.Ids.{time_group_ids, time_ids, resource_type_ids, resource_group_ids, resource_ids}
use Rattle.xhstt_references.specs.Ids.{event_group_ids, event_ids}
use Rattle.xhstt_references.specs.declared.directories.Directory.{Directory}
use Rattle.xhstt_resolve.specs.Members.{times_in, resources_in, events_in, listed, numbers_of, first_mentions}
use Rattle.xhstt_resolve.specs.Parts.{type_named}
use Rattle.xhstt_resolve.specs.declared.tables.Lookup.{Lookup}
use Rattle.xhstt_resolve.specs.declared.tables.Table.{Table}
use Rattle.xhstt_resolve.specs.declared.tables.Tables.{Tables}
use Rattle.xhstt_shape.specs.declared.records.RawInstance.{RawInstance}
use Rattle.xhstt_shape.specs.declared.records.Ref.{Ref}

-- the members of the group with a number, and of the group with an Id
abbrev pub members_numbered : Table → ℕ → List ℕ
members_numbered t g = slice_index_or t.members g []

abbrev pub members_at : Table → List ℕ → List ℕ
members_at t id = option_map_or (members_numbered t) (number_of id t.group_names.now) []

-- what is listed
abbrev pub listed_at : Table → List Ref → List Ref → List ℕ
listed_at t groups singles = listed (members_at t) t.names.now groups singles

-- and with each group at its first mention alone
abbrev pub listed_once : Table → List Ref → List Ref → List ℕ
listed_once t groups singles = flat_map (members_numbered t) (first_mentions (numbers_of t.group_names.now groups)) ++
    numbers_of t.names.now singles

-- there is a list for each group, of numbers of the items, and items and groups are few
pub record IsTable (t : Table) : Type 0 where
  pub small : length t.names.now < 2 ^ 32
  pub few_groups : length t.group_names.now < 2 ^ 32
  pub whole : length t.group_names.now ≡ length t.members
  pub within : (id : List ℕ) → All (λ n. n < length t.names.now) (members_at t id)
  pub bounded : (id : List ℕ) → length (members_at t id) ≤ length t.names.now

-- the counts of an instance are within their limits
pub record HasKeptCounts (i : RawInstance) : Type 0 where
  pub times : length i.times ≤ TIMES
  pub time_groups : length i.time_groups ≤ TIME_GROUPS
  pub resource_types : length i.resource_types ≤ RESOURCE_TYPES
  pub resources : length i.resources ≤ RESOURCES
  pub resource_groups : length i.resource_groups ≤ RESOURCE_GROUPS
  pub events : length i.events ≤ EVENTS
  pub event_groups : length i.event_groups ≤ EVENT_GROUPS
  pub constraints : length i.constraints ≤ CONSTRAINTS

-- every event has few event resources
pub record HasFewPlaces (i : RawInstance) : Type 0 where
  pub places : All (λ e. length e.resources < 2 ^ 32) i.events

-- a table has these items and groups
pub record IsTableOf (ids : List (List ℕ)) (in_group : List ℕ → List ℕ) (t : Table) : Type 0 where
  pub table : IsTable t
  pub names : t.names.now ≡ ids
  pub members : members_at t ≡ in_group

pub record AreTablesOf (i : RawInstance) (t : Tables) : Type 0 where
  pub times : IsTableOf (time_ids i) (times_in i) t.times
  pub resources : IsTableOf (resource_ids i) (resources_in i) t.resources
  pub events : IsTableOf (event_ids i) (events_in i) t.events

-- a directory has the names of an instance's parts
pub record HasNames (i : RawInstance) (d : Directory) : Type 0 where
  pub time_groups : d.time_groups ≡ time_group_ids i
  pub times : d.times ≡ time_ids i
  pub resource_types : d.resource_types ≡ resource_type_ids i
  pub resource_groups : d.resource_groups ≡ resource_group_ids i
  pub resources : d.resources ≡ resource_ids i
  pub event_groups : d.event_groups ≡ event_group_ids i
  pub events : d.events ≡ event_ids i

-- a lookup leads by the names, the types and the groups of its own instance, whose counts are within
-- limits
pub record IsLookup (l : Lookup) : Type 0 where
  pub names : HasNames l.instance.now l.names.now
  pub types : l.types ≡ map (λ r. type_named l.instance.now r.resource_type) l.instance.now.resources
  pub tables : AreTablesOf l.instance.now l.tables
  pub counts : HasKeptCounts l.instance.now
