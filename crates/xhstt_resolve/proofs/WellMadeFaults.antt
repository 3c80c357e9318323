-- What is true of an instance in which no fault and no excess is found.
use Rattle.std.proofs.Common.{ℕ, ◌≡◌, ◌≤◌, ◌*◌, Bool, true, false, cond, Option, Some, None, List, [], ◌∷◌, length, map}
use Rattle.std.proofs.Common.{refl, flat_map, nat_lt, All, if◌then◌else◌, option_map}
use Rattle.std.specs.Prelude.{find}
use Rattle.std.specs.Option.{option_or}
use Rattle.std.proofs.lemmas.Bool.{ltb-false}
use Rattle.std.proofs.lemmas.List.Elements.{All-nil, All-cons}
use Rattle.khe_base.proofs.ListLemmas.{none_of, none-each}
use Rattle.khe_base.specs.declared.limits.TheConstants.{TIMES, RESOURCE_TYPES, RESOURCES}
use Rattle.khe_base.specs.declared.limits.TheConstants.{EVENTS, EVENT_GROUPS, CONSTRAINTS, DURATION, TASKS, CELLS}
use Rattle.khe_base.specs.declared.limits.TheConstants.{LISTED, MONITORS, WATCHES, UNIT}
use Rattle.xhstt_references.specs.Faults.{at_first, fault_of_instance}
use Rattle.xhstt_references.specs.References.{repeated, repeated_ids, repeated_roles, roles_of, unknown_in_time}
use Rattle.xhstt_references.specs.References.{unknown_in_group, unknown_in_resource, unknown_in_event}
use Rattle.xhstt_references.specs.References.{unknown_in_constraint, unknown_references, off_end, events_off_end}
use Rattle.xhstt_references.specs.declared.faults.ReferenceFault.{ReferenceFault}
use Rattle.fault_tables.specs.declared.faults.TheConstants.{DUPLICATE_ID, UNKNOWN_REFERENCE, DUPLICATE_ROLE}
use Rattle.fault_tables.specs.declared.faults.TheConstants.{EVENT_OFF_END}
use Rattle.xhstt_resolve.specs.Limits.{first_beyond, first_above, beyond, above, total_duration, task_count, listings, units}
use Rattle.xhstt_resolve.specs.Limits.{watch_count, limit_fault}
use Rattle.xhstt_resolve.specs.Points.{monitors_of}
use Rattle.xhstt_resolve.specs.Units.{running_units}
use Rattle.xhstt_resolve.specs.declared.faults.ResolveFault.{ResolveFault}
use Rattle.xhstt_resolve.specs.declared.faults.ResolveFault.TheVariants.{Limit}
use Rattle.fault_tables.specs.declared.limits.TheConstants.{TOO_MANY_TIMES, TOO_MANY_TIME_GROUPS}
use Rattle.fault_tables.specs.declared.limits.TheConstants.{TOO_MANY_RESOURCE_TYPES, TOO_MANY_RESOURCES}
use Rattle.fault_tables.specs.declared.limits.TheConstants.{TOO_MANY_RESOURCE_GROUPS, TOO_MANY_EVENTS}
use Rattle.fault_tables.specs.declared.limits.TheConstants.{TOO_MANY_EVENT_GROUPS, TOO_MANY_CONSTRAINTS}
use Rattle.fault_tables.specs.declared.limits.TheConstants.{TOO_LONG_DURATION, TOO_MANY_TASKS, TOO_MANY_CELLS}
use Rattle.fault_tables.specs.declared.limits.TheConstants.{TOO_MANY_LISTED, TOO_MANY_MONITORS, TOO_MANY_WATCHES}
use Rattle.fault_tables.specs.declared.limits.TheConstants.{TOO_GREAT_UNIT}
use Rattle.xhstt_shape.specs.declared.records.RawInstance.{RawInstance}
use Rattle.xhstt_references.specs.Directories.{directory_of}

-- of faults in order none is there
first-none : (kind : ℕ) (places : List ℕ) (following : Option ReferenceFault) → at_first kind places following ≡ None
    → (places ≡ []) × (following ≡ None)
first-none kind [] following e = (refl, e)
first-none kind (x ∷ xs) following e = absurd (let g : ⊥ = cc in g)

-- what an instance without a fault of names and references has
pub record IsFaultless (i : RawInstance) : Type 0 where
  pub times : repeated (map (λ t. t.id) i.times) ≡ []
  pub resources : repeated (map (λ r. r.id) i.resources) ≡ []
  pub events : repeated (map (λ e. e.id) i.events) ≡ []
  pub in_resources : All (λ r. unknown_in_resource (directory_of i) r ≡ []) i.resources
  pub in_events : All (λ e. unknown_in_event (directory_of i) e ≡ []) i.events
  pub in_constraints : All (λ c. unknown_in_constraint (directory_of i) c ≡ []) i.constraints
  pub roles : All (λ e. repeated (roles_of e) ≡ []) i.events
  pub ends : All (λ e. off_end (directory_of i) e ≡ []) i.events

pub faultless : (i : RawInstance) → fault_of_instance i ≡ None → IsFaultless i
faultless i e =
    let one = first-none DUPLICATE_ID (repeated_ids i) _ e in
    let two = first-none UNKNOWN_REFERENCE (unknown_references i) _ one.1 in
    let three = first-none DUPLICATE_ROLE (repeated_roles i) _ two.1 in
    let four = first-none EVENT_OFF_END (events_off_end i) None three.1 in
    let time_groups = none_of (repeated (map (λ g. g.id) i.time_groups)) _ one.0 in
    let times = none_of (repeated (map (λ t. t.id) i.times)) _ time_groups.1 in
    let types = none_of (repeated (map (λ t. t.id) i.resource_types)) _ times.1 in
    let groups = none_of (repeated (map (λ g. g.id) i.resource_groups)) _ types.1 in
    let resources = none_of (repeated (map (λ r. r.id) i.resources)) _ groups.1 in
    let event_groups = none_of (repeated (map (λ g. g.id) i.event_groups)) _ resources.1 in
    let events = none_of (repeated (map (λ x. x.id) i.events)) _ event_groups.1 in
    let in_times = none_of (flat_map (unknown_in_time (directory_of i)) i.times) _ two.0 in
    let in_groups = none_of (flat_map (unknown_in_group (directory_of i)) i.resource_groups) _ in_times.1 in
    let in_resources = none_of (flat_map (unknown_in_resource (directory_of i)) i.resources) _ in_groups.1 in
    let in_events = none_of (flat_map (unknown_in_event (directory_of i)) i.events) _ in_resources.1 in
    record {
      times = times.0;
      resources = resources.0;
      events = events.0;
      in_resources = none-each (unknown_in_resource (directory_of i)) i.resources in_resources.0;
      in_events = none-each (unknown_in_event (directory_of i)) i.events in_events.0;
      in_constraints = none-each (unknown_in_constraint (directory_of i)) i.constraints in_events.1;
      roles = none-each (λ x. repeated (roles_of x)) i.events three.0;
      ends = none-each (off_end (directory_of i)) i.events four.0;
    }

-- no value is above the greatest
none-above : (which greatest : ℕ) (values : List ℕ) → first_beyond which greatest values ≡ None
    → All (λ v. v ≤ greatest) values
none-above which greatest [] e = All-nil (λ v. v ≤ greatest)
none-above which greatest (x ∷ xs) e = by (nat_lt greatest x) refl e (none-above which greatest xs)
  where
    by : (b : Bool) → nat_lt greatest x ≡ b → option_map (Limit which) (cond b (Some x) (find (nat_lt greatest) xs))
        ≡ None
        → (first_beyond which greatest xs ≡ None → All (λ v. v ≤ greatest) xs) → All (λ v. v ≤ greatest) (x ∷ xs)
    by true is e later = absurd (let g : ⊥ = cc in g)
    by false is e later = All-cons (λ v. v ≤ greatest) x xs (ltb-false _ _ is) (later e)

pub not-above : (which greatest value : ℕ) → beyond which greatest value ≡ None → value ≤ greatest
not-above which greatest value e = by (nat_lt greatest value) refl e
  where
    by : (b : Bool) → nat_lt greatest value ≡ b → (if b then Some (Limit which value) else None) ≡ None
        → value ≤ greatest
    by true is e = absurd (let g : ⊥ = cc in g)
    by false is e = ltb-false _ _ is

-- of two looks neither finds a fault
neither : (fault following : Option ResolveFault) → option_or fault following ≡ None
    → (fault ≡ None) × (following ≡ None)
neither None following e = (refl, e)
neither (Some x) following e = absurd (let g : ⊥ = cc in g)

-- what an instance within the limits has
pub record IsWithin (i : RawInstance) : Type 0 where
  pub times : length i.times ≤ TIMES
  pub types : length i.resource_types ≤ RESOURCE_TYPES
  pub resources : length i.resources ≤ RESOURCES
  pub events : length i.events ≤ EVENTS
  pub groups : length i.event_groups ≤ EVENT_GROUPS
  pub constraints : length i.constraints ≤ CONSTRAINTS
  pub duration : total_duration i ≤ DURATION
  pub tasks : task_count i ≤ TASKS
  pub cells : length i.resources * length i.times ≤ CELLS
  pub listed : All (λ n. n ≤ LISTED) (listings i)
  pub monitors : length (monitors_of i) ≤ MONITORS
  pub watches : watch_count i ≤ WATCHES
  pub units : All (λ n. n ≤ UNIT) (running_units 1 (map (λ e. e.duration) i.events))

pub within : (i : RawInstance) → limit_fault i ≡ None → IsWithin i
within i e =
    let times = neither (above TOO_MANY_TIMES (length i.times)) _ e in
    let time_groups = neither (above TOO_MANY_TIME_GROUPS (length i.time_groups)) _ times.1 in
    let types = neither (above TOO_MANY_RESOURCE_TYPES (length i.resource_types)) _ time_groups.1 in
    let resources = neither (above TOO_MANY_RESOURCES (length i.resources)) _ types.1 in
    let resource_groups = neither (above TOO_MANY_RESOURCE_GROUPS (length i.resource_groups)) _
    resources.1 in
    let events = neither (above TOO_MANY_EVENTS (length i.events)) _ resource_groups.1 in
    let groups = neither (above TOO_MANY_EVENT_GROUPS (length i.event_groups)) _ events.1 in
    let constraints = neither (above TOO_MANY_CONSTRAINTS (length i.constraints)) _ groups.1 in
    let duration = neither (above TOO_LONG_DURATION (total_duration i)) _ constraints.1 in
    let tasks = neither (above TOO_MANY_TASKS (task_count i)) _ duration.1 in
    let cells = neither (above TOO_MANY_CELLS (length i.resources * length i.times)) _ tasks.1 in
    let listed = neither (first_above TOO_MANY_LISTED (listings i)) _ cells.1 in
    let monitors = neither (above TOO_MANY_MONITORS (length (monitors_of i))) _ listed.1 in
    let watches = neither (above TOO_MANY_WATCHES (watch_count i)) _ monitors.1 in
    let last = neither (first_above TOO_GREAT_UNIT (units i)) None watches.1 in
    record {
      times = not-above TOO_MANY_TIMES TIMES (length i.times) times.0;
      types = not-above TOO_MANY_RESOURCE_TYPES RESOURCE_TYPES (length i.resource_types) types.0;
      resources = not-above TOO_MANY_RESOURCES RESOURCES (length i.resources) resources.0;
      events = not-above TOO_MANY_EVENTS EVENTS (length i.events) events.0;
      groups = not-above TOO_MANY_EVENT_GROUPS EVENT_GROUPS (length i.event_groups) groups.0;
      constraints = not-above TOO_MANY_CONSTRAINTS CONSTRAINTS (length i.constraints) constraints.0;
      duration = not-above TOO_LONG_DURATION DURATION (total_duration i) duration.0;
      tasks = not-above TOO_MANY_TASKS TASKS (task_count i) tasks.0;
      cells = not-above TOO_MANY_CELLS CELLS (length i.resources * length i.times) cells.0;
      listed = none-above TOO_MANY_LISTED LISTED (listings i) listed.0;
      monitors = not-above TOO_MANY_MONITORS MONITORS (length (monitors_of i)) monitors.0;
      watches = not-above TOO_MANY_WATCHES WATCHES (watch_count i) watches.0;
      units = none-above TOO_GREAT_UNIT UNIT (units i) last.0;
    }
