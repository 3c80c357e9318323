-- What a timetable of an instance is written as is well formed.
use Rattle.std.proofs.Common.{ℕ, zero, suc, ◌≡◌, ◌+◌, Bool, true, false, if◌then◌else◌, Option, Some, None, IfSome}
use Rattle.std.proofs.Common.{List}
use Rattle.std.proofs.Common.{[], ◌∷◌, ◌++◌, All, map, length, get_or, slice_get, flat_map, option_map, nat_lt, ◌-◌}
use Rattle.std.specs.Option.{option_and_then, option_map_or}
use Rattle.std.proofs.lemmas.List.Elements.{All-append, All-cons, All-head, All-map, All-nil, All-set, All-tail}
use Rattle.khe_base.proofs.ListLemmas.{All-flat_map}
use Rattle.khe_base.specs.declared.numbers.ResourceId.{ResourceId}
use Rattle.khe_base.specs.declared.numbers.TimeId.{TimeId}
use Rattle.khe_instance.specs.Running.{duties}
use Rattle.khe_instance.specs.States.{place_of}
use Rattle.khe_instance.specs.declared.parts.EventInfo.{EventInfo}
use Rattle.khe_instance.specs.declared.parts.Parts.{Parts}
use Rattle.khe_instance.specs.declared.parts.Place.{Place}
use Rattle.khe_instance.specs.declared.parts.ResourceInfo.{ResourceInfo}
use Rattle.khe_instance.specs.declared.states.Duty.{Duty}
use Rattle.khe_instance.specs.declared.states.Meet.{Meet}
use Rattle.khe_instance.specs.declared.states.Plain.{Plain}
use Rattle.xhstt_completion.specs.Entries as completed
use Rattle.xhstt_entries.specs.Spelled.{entries_of, entry_of, given_at, given_by, given_of}
use Rattle.xhstt_entries.specs.Spelled.{own_duties, resource_id, role_named, spelled, time_id, to}
use Rattle.xhstt_references.specs.References.{solutions_of}
use Rattle.xhstt_resolve.specs.Members.{resources_in}
use Rattle.xhstt_resolve.specs.Parts.{event_of, events_from, group_places, member_place, parts_of}
use Rattle.xhstt_resolve.specs.Parts as parts
use Rattle.xhstt_shape.specs.Characters.{IsSpellable, IsSpellableArchive, IsSpellableEntry, IsSpellableEvent}
use Rattle.xhstt_shape.specs.Characters.{IsSpellableEventResource, IsSpellableGiven, IsSpellableInstance}
use Rattle.xhstt_shape.specs.Characters.{IsSpellableName, IsSpellableRef, IsSpellableSolution}
use Rattle.xhstt_shape.specs.Characters.{IsSpellableSolutionGroup}
use Rattle.xhstt_shape.specs.WellFormed.{IsEntry, IsEvent, IsEventResource, IsGiven, IsInstance, IsRole, IsSolution}
use Rattle.xhstt_shape.specs.WellFormed.{IsSolutionGroup, IsWellFormed}
use Rattle.xhstt_shape.specs.declared.records.Archive.{Archive}
use Rattle.xhstt_shape.specs.declared.records.Name.{Name}
use Rattle.xhstt_shape.specs.declared.records.RawEntry.{RawEntry}
use Rattle.xhstt_shape.specs.declared.records.RawEvent.{RawEvent}
use Rattle.xhstt_shape.specs.declared.records.RawEventResource.{RawEventResource}
use Rattle.xhstt_shape.specs.declared.records.RawGiven.{RawGiven}
use Rattle.xhstt_shape.specs.declared.records.RawInstance.{RawInstance}
use Rattle.xhstt_shape.specs.declared.records.RawSolution.{RawSolution}
use Rattle.xhstt_shape.specs.declared.records.Ref.{Ref}
use Rattle.xhstt_shape.specs.declared.records.SolutionGroup.{SolutionGroup}
use Rattle.xhstt_entries.specs.Texts.{HasRoleText, HasSpellable, HasSpellableEvent, IsRoleText}
use Rattle.repair_run.specs.Placed.{archive_with, group_with, groups_with, respelled}

-- the texts of entries

at_spellable : {X : Type 0} (f : X → List ℕ) (xs : List X) (k : ℕ) → All (λ x. IsSpellable (f x)) xs
    → IsSpellable (option_map_or f (slice_get xs k) [])
at_spellable f [] k h = tt
at_spellable f (x ∷ xs) zero h = All-head (λ y. IsSpellable (f y)) x xs h
at_spellable f (x ∷ xs) (suc k) h = at_spellable f xs k (All-tail (λ y. IsSpellable (f y)) x xs h)

some_at : {X : Type 0} (P : X → Type 0) (xs : List X) (k : ℕ) → All P xs → IfSome (slice_get xs k) P
some_at P [] k h = tt
some_at P (x ∷ xs) zero h = All-head P x xs h
some_at P (x ∷ xs) (suc k) h = some_at P xs k (All-tail P x xs h)

-- what is given can be written and has a role in form
pub record IsWritten (g : RawGiven) : Type 0 where
  pub texts : IsSpellableGiven g
  pub form : IsGiven g

named_role : (o : Option (List ℕ)) → IfSome o IsRoleText
    → IfSome (option_map role_named o) IsSpellableName × IfSome (option_map role_named o) IsRole
named_role None h = (tt, tt)
named_role (Some role) h = (h.text, h.form)

given_written : (p : Parts) → HasSpellable p → (place : Place) (r : ResourceId) → HasRoleText place
    → All IsWritten (given_at p place r)
given_written p h place r role = by place.fixed
  where
    written : IsWritten (record { reference = to (resource_id p r); role = option_map role_named place.role })
    written = let both = named_role place.role role in record {
      texts = (at_spellable (λ (x : ResourceInfo). x.id) p.resources r.0 h.resources, both.0);
      form = both.1;
    }

    by : (o : Option ResourceId) → All IsWritten
        (option_map_or (λ fixed. []) o
        (record { reference = to (resource_id p r); role = option_map role_named place.role } ∷ []))
    by None = All-cons IsWritten _ [] written (All-nil IsWritten)
    by (Some fixed) = All-nil IsWritten

by_place : (p : Parts) → HasSpellable p → (place : Option Place) (resource : Option ResourceId)
    → IfSome place HasRoleText → All IsWritten (given_by p place resource)
by_place p h None resource role = All-nil IsWritten
by_place p h (Some place) None role = All-nil IsWritten
by_place p h (Some place) (Some r) role = given_written p h place r role

role_at : (p : Parts) → HasSpellable p → (d : Duty) → IfSome (place_of p d) HasRoleText
role_at p h d = by (slice_get p.events d.meet.event.0) (some_at HasSpellableEvent p.events d.meet.event.0 h.events)
  where
    by : (o : Option EventInfo) → IfSome o HasSpellableEvent
        → IfSome (option_and_then (λ (e : EventInfo). slice_get e.places d.place) o) HasRoleText
    by None e = tt
    by (Some event) e = some_at HasRoleText event.places d.place e.places

all_written : (p : Parts) → HasSpellable p → (ds : List Duty) → All IsWritten (flat_map (given_of p) ds)
all_written p h ds =
    All-flat_map IsWritten (given_of p) ds
    (λ k d l. by_place p h (place_of p (get_or ds k d)) (get_or ds k d).resource (role_at p h (get_or ds k d)))

start_text : (p : Parts) → HasSpellable p → (start : Option TimeId)
    → IfSome (option_map (λ t. to (time_id p t)) start) IsSpellableRef
start_text p h None = tt
start_text p h (Some t) = at_spellable (λ (x : List ℕ). x) p.times t.0 h.times

entry_texts : (p : Parts) → HasSpellable p → (ds : List Duty) (m : Meet) → IsSpellableEntry (entry_of p ds m)
entry_texts p h ds m =
    let given = all_written p h (own_duties m ds) in
    record {
      reference = at_spellable (λ (x : EventInfo). x.id) p.events m.event.0
          (λ k d l. (h.events k d l).id);
      time = start_text p h m.start;
      resources = λ k d l. (given k d l).texts;
    }

entry_form : (p : Parts) → HasSpellable p → (ds : List Duty) (m : Meet) → completed.IsEntry p (entry_of p ds m)
    → IsEntry (entry_of p ds m)
entry_form p h ds m is = let given = all_written p h (own_duties m ds) in
    record { duration = is.duration; resources = λ k d l. (given k d l).form }

-- a timetable in place of a solution
spelled_texts : (p : Parts) → HasSpellable p → (s : Plain) (old : RawSolution) → IsSpellableSolution old
    → IsSpellableSolution (spelled p s old)
spelled_texts p h s old is = record {
  reference = is.reference;
  description = is.description;
  running_time = is.running_time;
  events = All-map IsSpellableEntry (entry_of p (duties s.meets s.tasks)) s.meets
      (λ k d l. entry_texts p h (duties s.meets s.tasks) (get_or s.meets k d));
}

form_from : (p : Parts) → HasSpellable p → (ds : List Duty) (ms : List Meet)
    → All (completed.IsEntry p) (map (entry_of p ds) ms) → All IsEntry (map (entry_of p ds) ms)
form_from p h ds [] is = All-nil IsEntry
form_from p h ds (m ∷ ms) is =
    All-cons IsEntry (entry_of p ds m) (map (entry_of p ds) ms)
    (entry_form p h ds m (All-head (completed.IsEntry p) (entry_of p ds m) (map (entry_of p ds) ms) is))
    (form_from p h ds ms (All-tail (completed.IsEntry p) (entry_of p ds m) (map (entry_of p ds) ms) is))

-- groups with a well-formed solution in place of another
group_texts : (raw : RawSolution) → IsSpellableSolution raw → (n : ℕ) (g : SolutionGroup) → IsSpellableSolutionGroup g
    → IsSpellableSolutionGroup (group_with raw n g)
group_texts raw is n g h = record {
  id = h.id;
  meta_data = h.meta_data;
  solutions = All-set IsSpellableSolution g.solutions n raw is h.solutions;
}

groups_texts : (raw : RawSolution) → IsSpellableSolution raw → (n : ℕ) (gs : List SolutionGroup)
    → All IsSpellableSolutionGroup gs → All IsSpellableSolutionGroup (groups_with raw n gs)
unfolding groups_with
groups_texts raw is n [] h = All-nil IsSpellableSolutionGroup
groups_texts raw is n (g ∷ gs) h =
    by (nat_lt n (length g.solutions)) (All-head IsSpellableSolutionGroup g gs h)
    (All-tail IsSpellableSolutionGroup g gs h)
    (groups_texts raw is (n - length g.solutions) gs (All-tail IsSpellableSolutionGroup g gs h))
  where
    by : (b : Bool) → IsSpellableSolutionGroup g → All IsSpellableSolutionGroup gs
        → All IsSpellableSolutionGroup (groups_with raw (n - length g.solutions) gs)
        → All IsSpellableSolutionGroup
        (if b then group_with raw n g ∷ gs else g ∷ groups_with raw (n - length g.solutions) gs)
    by true first rest changed = All-cons IsSpellableSolutionGroup (group_with raw n g) gs
        (group_texts raw is n g first) rest
    by false first rest changed = All-cons IsSpellableSolutionGroup g (groups_with raw (n - length g.solutions) gs)
        first changed

groups_form : (raw : RawSolution) → IsSolution raw → (n : ℕ) (gs : List SolutionGroup) → All IsSolutionGroup gs
    → All IsSolutionGroup (groups_with raw n gs)
unfolding groups_with
groups_form raw is n [] h = All-nil IsSolutionGroup
groups_form raw is n (g ∷ gs) h =
    by (nat_lt n (length g.solutions)) (All-head IsSolutionGroup g gs h) (All-tail IsSolutionGroup g gs h)
    (groups_form raw is (n - length g.solutions) gs (All-tail IsSolutionGroup g gs h))
  where
    by : (b : Bool) → IsSolutionGroup g → All IsSolutionGroup gs
        → All IsSolutionGroup (groups_with raw (n - length g.solutions) gs)
        → All IsSolutionGroup
        (if b then group_with raw n g ∷ gs else g ∷ groups_with raw (n - length g.solutions) gs)
    by true first rest changed = All-cons IsSolutionGroup (group_with raw n g) gs
        (All-set IsSolution g.solutions n raw is first) rest
    by false first rest changed = All-cons IsSolutionGroup g (groups_with raw (n - length g.solutions) gs) first changed

archive_formed : (a : Archive) → IsWellFormed a → (n : ℕ) (raw : RawSolution) → IsSpellableSolution raw
    → IsSolution raw → IsWellFormed (archive_with raw n a)
archive_formed a w n raw texts form = record {
  in_form = record {
    instances = w.in_form.instances;
    solution_groups = groups_form raw form n a.solution_groups w.in_form.solution_groups;
  };
  spellable = record {
    id = w.spellable.id;
    meta_data = w.spellable.meta_data;
    instances = w.spellable.instances;
    solution_groups = groups_texts raw texts n a.solution_groups w.spellable.solution_groups;
  };
}

solution_texts : (a : Archive) → IsWellFormed a → All IsSpellableSolution (solutions_of a)
solution_texts a w =
    All-flat_map IsSpellableSolution (λ (g : SolutionGroup). g.solutions) a.solution_groups
    (λ k d l. (w.spellable.solution_groups k d l).solutions)

-- an archive in which a timetable takes the place of a solution is well formed
pub respelled_formed : (a : Archive) → IsWellFormed a → (p : Parts) → HasSpellable p → (n : ℕ) (s : Plain)
    → All (completed.IsEntry p) (entries_of p s) → IsWellFormed (respelled a n p s)
respelled_formed a w p h n s is = by (slice_get (solutions_of a) n) (some_at IsSpellableSolution (solutions_of a) n
    (solution_texts a w))
  where
    by : (o : Option RawSolution) → IfSome o IsSpellableSolution
        → IsWellFormed (option_map_or (λ old. archive_with (spelled p s old) n a) o a)
    by None texts = w
    by (Some old) texts = archive_formed a w n (spelled p s old) (spelled_texts p h s old texts)
        (form_from p h (duties s.meets s.tasks) s.meets is)
