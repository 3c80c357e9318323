-- What a solution completes to does not depend on the places of its references and names.
use Rattle.std.proofs.Common.{◌≡◌, ◌∙◌, ap, ap₂, refl, sym, ℕ, ◌+◌, ◌-◌, ◌==◌, Bool, true, false, ◌||◌, Option, Some, None, List, [], ◌∷◌}
use Rattle.std.proofs.Common.{◌++◌, map, length, flat_map, option_map, slice_get, sum_by, find}
use Rattle.std.specs.Prelude.{if◌then◌else◌, is_none, nat_lt}
use Rattle.std.specs.List.{enumerate_from, list_any}
use Rattle.std.specs.Option.{option_and_then, option_map_or, option_or}
use Rattle.std.proofs.lemmas.List.{length-map, map-append}
use Rattle.std.proofs.lemmas.Option.{slice_get-map}
use Rattle.fault_tables.specs.declared.causes.TheConstants.{BAD_ROLE, FIXED_TIME, OFF_END, SPLIT_FIXED, TOO_LONG}
use Rattle.khe_base.specs.declared.numbers.EventId.{EventId}
use Rattle.khe_instance.specs.Lookups.{is_role}
use Rattle.khe_instance.specs.Named.{event_named, time_named}
use Rattle.khe_instance.specs.declared.parts.EventInfo.{EventInfo}
use Rattle.khe_instance.specs.declared.parts.Parts.{Parts}
use Rattle.khe_instance.specs.declared.parts.Place.{Place}
use Rattle.xhstt_completion.specs.Causes as cause
use Rattle.xhstt_completion.specs.Completed.{Part, completed, unless}
use Rattle.xhstt_completion.specs.Completed as full
use Rattle.xhstt_completion.specs.Entries as said
use Rattle.xhstt_completion.specs.declared.faults.Cause.{Cause}
use Rattle.xhstt_references.specs.References.{solutions_of}
use Rattle.xhstt_shape.specs.Places.{IsSame, entry, given, name, reference, solution, unplaced}
use Rattle.xhstt_shape.specs.declared.records.Archive.{Archive}
use Rattle.xhstt_shape.specs.declared.records.Name.{Name}
use Rattle.xhstt_shape.specs.declared.records.RawEntry.{RawEntry}
use Rattle.xhstt_shape.specs.declared.records.RawGiven.{RawGiven}
use Rattle.xhstt_shape.specs.declared.records.RawSolution.{RawSolution}
use Rattle.xhstt_shape.specs.declared.records.Ref.{Ref}
use Rattle.same_archives.proofs.FollowedLaws.{solutions_alike}
use Rattle.same_archives.proofs.ListLaws.{any_alike, filter_mapped, found_mapped, numbered_alike, numbered_map}
use Rattle.same_archives.proofs.ListLaws.{parts_alike, sum_alike}

-- what an entry says
time_of : (p : Parts) (e : RawEntry) → said.time_of p (entry e) ≡ said.time_of p e
time_of p e = by e.time
  where
    by : (o : Option Ref) → option_and_then (λ (t : Ref). time_named p t.id) (option_map reference o)
        ≡ option_and_then (λ (t : Ref). time_named p t.id) o
    by None = refl
    by (Some t) = refl

start_of : (p : Parts) (event : EventInfo) (e : RawEntry) → said.start_of p event (entry e) ≡ said.start_of p event e
start_of p event e = ap (λ t. option_or t event.fixed) (time_of p e)

role_of : (g : RawGiven) → said.role_of (given g) ≡ said.role_of g
role_of g = by g.role
  where
    by : (o : Option Name) → option_map (λ (n : Name). n.text) (option_map name o) ≡ option_map (λ (n : Name). n.text) o
    by None = refl
    by (Some n) = refl

-- the causes at what is given
is_role_of : (role : List ℕ) (g : RawGiven) → is_role role (said.role_of (given g)) ≡ is_role role (said.role_of g)
is_role_of role g = ap (is_role role) (role_of g)

place_for : (p : Parts) (event : EventInfo) (g : RawGiven) → cause.place_for p event (given g) ≡ cause.place_for p event g
place_for p event g = ap (λ r. find (cause.is_place_for (said.resource_of p g) r) event.places) (role_of g)

came_before : (before : List RawGiven) (g : RawGiven)
    → cause.came_before (map given before) (given g) ≡ cause.came_before before g
came_before before g =
    ap (λ r. option_map_or (λ role. list_any (λ other. is_role role (said.role_of other)) (map given before)) r false)
    (role_of g)
    ∙ (λ j. option_map_or (λ role. each role j) (said.role_of g) false)
  where
    each : (role : List ℕ) → list_any (λ (other : RawGiven). is_role role (said.role_of other)) (map given before)
        ≡ list_any (λ (other : RawGiven). is_role role (said.role_of other)) before
    each role =
        any_alike (λ (other : RawGiven). is_role role (said.role_of other))
        (λ (other : RawGiven). is_role role (said.role_of other)) given (is_role_of role) before

given_cause : (p : Parts) (event : EventInfo) (before : List RawGiven) (g : RawGiven)
    → cause.given_cause p event (map given before) (given g) ≡ cause.given_cause p event before g
given_cause p event before g =
    ap₂ (λ place came. if is_none place || came then Some BAD_ROLE else
    option_and_then (cause.place_cause p (said.resource_of p g)) place) (place_for p event g) (came_before before g)

first_given_cause : (p : Parts) (event : EventInfo) (before gs : List RawGiven)
    → cause.first_given_cause p event (map given before) (map given gs) ≡ cause.first_given_cause p event before gs
first_given_cause p event before [] = refl
first_given_cause p event before (g ∷ gs) =
    ap₂ option_or (given_cause p event before g)
    (ap (λ bs. cause.first_given_cause p event bs (map given gs)) (sym (map-append given before (g ∷ [])))
    ∙ first_given_cause p event (before ++ g ∷ []) gs)

-- the causes at entries
cause_in : (p : Parts) (event : EventInfo) (used : ℕ) (e : RawEntry)
    → cause.cause_in p event used (entry e) ≡ cause.cause_in p event used e
cause_in p event used e = λ j.
    if cause.is_too_long event used e then Some TOO_LONG else
    if cause.splits_fixed event e then Some SPLIT_FIXED else
    if cause.differ_in_time (time_of p e j) event.fixed then Some FIXED_TIME else
    if option_map_or (λ s. nat_lt (length p.times) (s.0 + said.duration_of event e)) (start_of p event e j) false
    then Some OFF_END else
    first_given_cause p event [] e.resources j

entries_of : (p : Parts) (n : ℕ) (es : List RawEntry)
    → said.entries_of p n (map entry es) ≡ map entry (said.entries_of p n es)
entries_of p n es =
    filter_mapped entry (λ (e : RawEntry). said.is_event n (event_named p e.reference.id))
    (λ (e : RawEntry). said.is_event n (event_named p e.reference.id)) (λ e. refl) es

used_by : (p : Parts) (n : ℕ) (event : EventInfo) (es : List RawEntry)
    → cause.used_by p n event (map entry es) ≡ cause.used_by p n event es
used_by p n event es =
    ap (sum_by (said.duration_of event)) (entries_of p n es)
    ∙ sum_alike (said.duration_of event) (said.duration_of event) entry (λ e. refl) (said.entries_of p n es)

cause_after : (p : Parts) (before : List RawEntry) (e : RawEntry)
    → cause.cause_after p (map entry before) (entry e) ≡ cause.cause_after p before e
cause_after p before e = λ j.
    option_and_then (λ (n : EventId). option_and_then
    (λ (event : EventInfo). (ap (λ used. cause.cause_in p event used (entry e)) (used_by p n.0 event before)
    ∙ cause_in p event (cause.used_by p n.0 event before) e) j) (slice_get p.events n.0))
    (event_named p e.reference.id)

first_cause : (p : Parts) (before es : List RawEntry)
    → cause.first_cause p (map entry before) (map entry es) ≡ cause.first_cause p before es
first_cause p before [] = refl
first_cause p before (e ∷ es) =
    ap₂ option_or
    (λ j. option_map (λ (c : ℕ). let x : Cause = record { cause = c; entry = length-map before entry j } in x)
    (cause_after p before e j))
    (ap (λ bs. cause.first_cause p bs (map entry es)) (sym (map-append entry before (e ∷ [])))
    ∙ first_cause p (before ++ e ∷ []) es)

-- the parts of events, whose given resources are looked at by their Ids and roles alone
abbrev bare_part : Part → Part
bare_part x = record { duration = x.duration; start = x.start; given = map given x.given }

missing_parts : (event : EventInfo) (n : ℕ)
    → full.missing_parts event n ≡ map bare_part (full.missing_parts event n)
missing_parts event n = by (n == 0)
  where
    part : Part
    part = record { duration = n; start = event.fixed; given = [] }

    by : (b : Bool) → (if b then [] else part ∷ []) ≡ map bare_part (if b then [] else part ∷ [])
    by true = refl
    by false = refl

part_of : (p : Parts) (event : EventInfo) (e : RawEntry) → full.part_of p event (entry e) ≡ bare_part (full.part_of p event e)
part_of p event e = λ j. record {
  duration = said.duration_of event e;
  start = start_of p event e j;
  given = map given e.resources;
}

event_parts : (p : Parts) (es : List RawEntry) (n : ℕ) (event : EventInfo)
    → full.event_parts p (map entry es) (n, event) ≡ map bare_part (full.event_parts p es (n, event))
event_parts p es n event =
    ap₂ (λ x y. x ++ y)
    (ap (map (full.part_of p event)) (entries_of p n es)
    ∙ parts_alike (full.part_of p event) (full.part_of p event) entry bare_part (part_of p event)
    (said.entries_of p n es))
    (ap (λ used. full.missing_parts event (event.duration - used)) (used_by p n event es)
    ∙ missing_parts event (event.duration - cause.used_by p n event es))
    ∙ sym (map-append bare_part (map (full.part_of p event) (said.entries_of p n es))
    (full.missing_parts event (event.duration - cause.used_by p n event es)))

-- meets and tasks
meets_at : (p : Parts) (es : List RawEntry) (n : ℕ) (event : EventInfo)
    → full.meets_at p (map entry es) (n, event) ≡ full.meets_at p es (n, event)
meets_at p es n event =
    ap (λ xs. map (full.meet_of n) (enumerate_from event.first_meet xs)) (event_parts p es n event)
    ∙ numbered_map (full.meet_of n) (full.meet_of n) bare_part (λ k x. refl) event.first_meet
    (full.event_parts p es (n, event))

resource_at : (p : Parts) (gs : List RawGiven) (place : Place)
    → full.resource_at p (map given gs) place ≡ full.resource_at p gs place
resource_at p gs place = λ j. option_or place.fixed (option_and_then (λ role. given_for role j) place.role)
  where
    out : (o : Option RawGiven) → option_and_then (said.resource_of p) (option_map given o)
        ≡ option_and_then (said.resource_of p) o
    out None = refl
    out (Some g) = refl

    given_for : (role : List ℕ) → full.given_for p (map given gs) role ≡ full.given_for p gs role
    given_for role =
        ap (option_and_then (said.resource_of p))
        (found_mapped given (λ (one : RawGiven). is_role role (said.role_of one))
        (λ (one : RawGiven). is_role role (said.role_of one)) (is_role_of role) gs)
        ∙ out (find (λ (one : RawGiven). is_role role (said.role_of one)) gs)

task_of : (p : Parts) (slot : ℕ) (gs : List RawGiven)
    → full.task_of p slot (map given gs) ≡ full.task_of p slot gs
task_of p slot gs = λ j x. record {
  task = record { meet = record { 0 = slot }; place = x.0 };
  resource = resource_at p gs x.1 j;
}

tasks_at : (p : Parts) (es : List RawEntry) (n : ℕ) (event : EventInfo)
    → full.tasks_at p (map entry es) (n, event) ≡ full.tasks_at p es (n, event)
tasks_at p es n event =
    ap (λ xs. flat_map (full.tasks_of p event) (enumerate_from event.first_meet xs)) (event_parts p es n event)
    ∙ numbered_alike (full.tasks_of p event) (full.tasks_of p event) bare_part
    (λ k x. ap (λ f. map f (enumerate_from 0 event.places)) (task_of p k x.given)) event.first_meet
    (full.event_parts p es (n, event))

state_of : (p : Parts) (es : List RawEntry) → full.state_of p (map entry es) ≡ full.state_of p es
state_of p es = λ j. record {
  meets = flat_map (λ x. meets_at p es x.0 x.1 j) (enumerate_from 0 p.events);
  tasks = flat_map (λ x. tasks_at p es x.0 x.1 j) (enumerate_from 0 p.events);
  detached = [];
  groups = [];
}

pub completed_alike : (p : Parts) (s : RawSolution) → completed p (solution s) ≡ completed p s
completed_alike p s = ap₂ unless (first_cause p [] s.events) (state_of p s.events)

numbered : (a : Archive) (p : Parts) (n : ℕ)
    → option_map (completed p) (slice_get (solutions_of (unplaced a)) n)
    ≡ option_map (completed p) (slice_get (solutions_of a) n)
numbered a p n =
    ap (λ xs. option_map (completed p) (slice_get xs n)) (solutions_alike a)
    ∙ ap (option_map (completed p)) (slice_get-map solution (solutions_of a) n)
    ∙ by (slice_get (solutions_of a) n)
  where
    by : (o : Option RawSolution) → option_map (completed p) (option_map solution o) ≡ option_map (completed p) o
    by None = refl
    by (Some s) = ap Some (completed_alike p s)

pub same_completed : (a b : Archive) (p : Parts) (n : ℕ) → IsSame a b
    → option_map (completed p) (slice_get (solutions_of a) n)
    ≡ option_map (completed p) (slice_get (solutions_of b) n)
same_completed a b p n e =
    sym (numbered a p n) ∙ ap (λ x. option_map (completed p) (slice_get (solutions_of x) n)) e ∙ numbered b p n
