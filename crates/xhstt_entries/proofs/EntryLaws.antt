-- The entries of a timetable are entries of its instance.
use Rattle.std.proofs.Common.{subst, refl, ℕ, ◌+◌, ◌<◌, ◌≤◌, ◌==◌, Option, Some, None, List, [], ◌∷◌, length, get_or}
use Rattle.std.proofs.Common.{All, IfSome, arith}
use Rattle.std.specs.Prelude.{IsSome}
use Rattle.std.specs.List.{flat_map, sum_by}
use Rattle.std.specs.Option.{option_map, option_map_or}
use Rattle.std.proofs.lemmas.List.Elements.{All-append, All-cons, All-filter, All-head, All-map, All-nil, All-tail}
use Rattle.std.proofs.lemmas.Option.{get_or_from_slice_get, slice_get_within}
use Rattle.khe_base.specs.declared.numbers.ResourceId.{ResourceId}
use Rattle.khe_base.specs.declared.numbers.TimeId.{TimeId}
use Rattle.khe_instance.specs.Named.{resource_named, time_named}
use Rattle.khe_instance.specs.Running.{duties, meets_of}
use Rattle.khe_instance.specs.States.{IsGiven, IsMeet, IsTold, place_of}
use Rattle.khe_instance.specs.WellMade.{AreWellMade, HasType, IsDuration}
use Rattle.khe_instance.specs.declared.parts.EventInfo.{EventInfo}
use Rattle.khe_instance.specs.declared.parts.Parts.{Parts}
use Rattle.khe_instance.specs.declared.parts.Place.{Place}
use Rattle.khe_instance.specs.declared.states.Duty.{Duty}
use Rattle.khe_instance.specs.declared.states.Meet.{Meet}
use Rattle.khe_instance.specs.declared.states.Plain.{Plain}
use Rattle.khe_instance.proofs.DutiesLemmas.{typed, within}
use Rattle.xhstt_completion.specs.Entries.{IsEntry}
use Rattle.xhstt_shape.specs.declared.records.RawGiven.{RawGiven}
use Rattle.xhstt_entries.specs.Spelled.{entries_of, entry_of, given_at, given_by, given_of, own_duties, resource_id}
use Rattle.xhstt_entries.specs.Spelled.{role_named, time_id, to}
use Rattle.xhstt_entries.proofs.NamedLaws.{event_is_named, resource_is_named, time_is_named}

abbrev IsNamed : Parts → RawGiven → Type 0
IsNamed p given = IsSome (resource_named p given.reference.id)

at_named : (p : Parts) (place : Place) (r : ResourceId) → r.0 < length p.resources
    → All (IsNamed p) (given_at p place r)
at_named p place r l = by place.fixed
  where
    by : (o : Option ResourceId) → All (IsNamed p)
        (option_map_or (λ fixed. []) o (record {
          reference = to (resource_id p r);
          role =
              option_map role_named place.role;
        } ∷ []))
    by None = All-cons (IsNamed p) (record {
      reference = to (resource_id p r);
      role =
          option_map role_named place.role;
    }) [] (resource_is_named p r l) (All-nil (IsNamed p))
    by (Some fixed) = All-nil (IsNamed p)

given_named : (p : Parts) (place : Option Place) (resource : Option ResourceId)
    → IfSome place (λ x. IfSome resource (HasType p x.rtype)) → All (IsNamed p) (given_by p place resource)
given_named p None resource h = All-nil (IsNamed p)
given_named p (Some place) None h = All-nil (IsNamed p)
given_named p (Some place) (Some r) h = at_named p place r (typed p place.rtype r h)

all_named : (p : Parts) (ds : List Duty) → All (IsGiven p) ds → All (IsNamed p) (flat_map (given_of p) ds)
all_named p [] h = All-nil (IsNamed p)
all_named p (d ∷ ds) h =
    All-append (IsNamed p) (given_of p d) (flat_map (given_of p) ds)
    (given_named p (place_of p d) d.resource (All-head (IsGiven p) d ds h))
    (all_named p ds (All-tail (IsGiven p) d ds h))

start_named : (p : Parts) (d : ℕ) → 1 ≤ d → (start : Option TimeId) → IfSome start (λ s. s.0 + d ≤ length p.times)
    → IfSome (option_map (λ t. to (time_id p t)) start) (λ t. IsSome (time_named p t.id))
start_named p d some None h = tt
start_named p d some (Some s) h = time_is_named p s (omega (arith, h, some))

-- the entry of a meet
meet_entry : (p : Parts) (s : Plain) → AreWellMade p → IsTold p s.meets s.tasks → (m : Meet) → IsMeet p m
    → (m.duration ≤ sum_by (λ x. x.duration) (meets_of m.event.0 s.meets))
    → IsEntry p (entry_of p (duties s.meets s.tasks) m)
meet_entry p s made told m is part =
    let event = is.slot.0 in
    let there = is.slot.1 in
    let l = slice_get_within p.events m.event.0 event there in
    let whole = told.durations m.event.0 event there in
    let long = subst (λ (x : EventInfo). IsDuration x.duration)
    (get_or_from_slice_get p.events m.event.0 event event there) (made.events m.event.0 event l).duration in
    let some = is.duration in
    let most = long.1 in
    record {
      event = event_is_named p m.event l;
      duration = (some, omega (arith, part, whole, most));
      time = start_named p m.duration some m.start is.ends;
      resources = all_named p (own_duties m (duties s.meets s.tasks))
          (All-filter (λ d. d.meet.meet.0 == m.meet.0) (IsGiven p) (duties s.meets s.tasks) told.given);
    }

pub each_entry : (p : Parts) (s : Plain) → AreWellMade p → IsTold p s.meets s.tasks → All (IsEntry p) (entries_of p s)
each_entry p s made told =
    All-map (IsEntry p) (entry_of p (duties s.meets s.tasks)) s.meets
    (λ k d l. meet_entry p s made told (get_or s.meets k d) (told.meets k d l)
    (within (get_or s.meets k d).event.0 s.meets k d l refl))
