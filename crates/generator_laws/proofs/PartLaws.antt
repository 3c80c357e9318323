-- The parts of the instance that is made: what its Ids name, its events and the types of its resources.
use Rattle.std.proofs.Common.{ℕ, ◌≡◌, ◌+◌, ◌<◌, zero, suc, Some, List, [], ◌∷◌, ◌++◌, All}
use Rattle.std.proofs.Common.{length, map, slice_get, option_map, sym, ap, ◌∙◌, arith, length-append}
use Rattle.std.specs.List.{range_with_len}
use Rattle.std.specs.Prelude.{codes}
use Rattle.std.proofs.lemmas.List.Elements.{All-nil, All-cons}
use Rattle.std.proofs.lemmas.List.FromFn.{length-map-range_with_len}
use Rattle.std.proofs.lemmas.Option.{slice_get-map}
use Rattle.khe_base.specs.Names.{number_of}
use Rattle.khe_base.specs.declared.numbers.EventId.{EventId}
use Rattle.khe_base.specs.declared.numbers.ResourceId.{ResourceId}
use Rattle.khe_base.specs.declared.numbers.TimeId.{TimeId}
use Rattle.khe_instance.specs.Named.{event_named, resource_named, time_named}
use Rattle.khe_instance.specs.declared.parts.EventInfo.{EventInfo}
use Rattle.khe_instance.specs.declared.parts.Parts.{Parts}
use Rattle.khe_instance.specs.declared.parts.ResourceInfo.{ResourceInfo}
use Rattle.xhstt_shape.specs.declared.records.RawEvent.{RawEvent}
use Rattle.xhstt_shape.specs.declared.records.RawInstance.{RawInstance}
use Rattle.xhstt_shape.specs.declared.records.RawResource.{RawResource}
use Rattle.xhstt_resolve.specs.Parts.{event_of, events_from, parts_of, resource_of, type_named}
use Rattle.xhstt_resolve.proofs.WellMadeIds.{event-ids, resource-ids}
use Rattle.xhstt_completion.specs.Causes.{type_of}
use Rattle.xhstt_completion.proofs.PartsLemmas.{slice_get-append_left}
use Rattle.xhstt_entries.proofs.NumberLaws.{number_at}
use Rattle.archive_generator.specs.declared.drawing.DrawnEvent.{DrawnEvent}
use Rattle.archive_generator.specs.declared.resources.Sort.TheVariants as sort
use Rattle.archive_generator.specs.Events as events
use Rattle.archive_generator.specs.Job as job
use Rattle.archive_generator.specs.Made as made
use Rattle.archive_generator.specs.Names.{numbered, below, to}
use Rattle.archive_generator.specs.Resources as resources
use Rattle.generator_laws.proofs.DrawLaws.{AreDrawn}
use Rattle.generator_laws.proofs.EventLaws as timed
use Rattle.generator_laws.proofs.IdLaws as id
use Rattle.generator_laws.proofs.IdLaws.{IsSize, resource_rows, row}
use Rattle.generator_laws.proofs.NameLaws.{made_there}
use Rattle.generator_laws.proofs.NumberLaws.{room_there, row_there, teacher_there, there_after}

-- the parts of the instance
abbrev pub parts : ℕ → List DrawnEvent → Parts
parts size es = parts_of (made.instance size es)

-- the part of an event with a number
pub record IsEventAt (i : RawInstance) (es : List EventInfo) (k : ℕ) (e : RawEvent) : Type 0 where
  pub first : ℕ
  pub found : slice_get es k ≡ Some (event_of i first e)

-- each event has its part
pub event_at : (i : RawInstance) (next : ℕ) (es : List RawEvent) (k : ℕ) (e : RawEvent) → slice_get es k ≡ Some e
    → IsEventAt i (events_from i next es) k e
event_at i next [] k e at = absurd (let g : ⊥ = cc in g)
event_at i next (x ∷ es) zero e at = record { first = next; found = ap (option_map (event_of i next)) at }
event_at i next (x ∷ es) (suc k) e at =
    let r = event_at i (next + x.duration) es k e at in
    record { first = r.first; found = r.found }

-- events with numbers in a row stand at the places of their numbers
from_place : (all xs : List DrawnEvent) (a n : ℕ) → map (λ (e : DrawnEvent). e.number) xs ≡ range_with_len a n
    → ((j : ℕ) → slice_get xs j ≡ slice_get all (a + j)) → All (λ (e : DrawnEvent). slice_get all e.number ≡ Some e) xs
from_place all [] a n h at = All-nil (λ (e : DrawnEvent). slice_get all e.number ≡ Some e)
from_place all (x ∷ xs) a zero h at = absurd (let g : ⊥ = cc in g)
from_place all (x ∷ xs) a (suc n) h at =
    let number : x.number ≡ a = cc in
    let rest : map (λ (e : DrawnEvent). e.number) xs ≡ range_with_len (a + 1) n = cc in
    let z : a ≡ a + 0 = omega arith in
    let later : (j : ℕ) → slice_get xs j ≡ slice_get all (a + 1 + j) =
    λ j. (let e : a + suc j ≡ a + 1 + j = omega arith in at (suc j) ∙ ap (slice_get all) e) in
    All-cons (λ (e : DrawnEvent). slice_get all e.number ≡ Some e) x xs
    (ap (slice_get all) number ∙ ap (slice_get all) z ∙ sym (at 0))
    (from_place all xs (a + 1) n rest later)

-- so do those of a job
pub each_there : (size : ℕ) (es : List DrawnEvent) → AreDrawn size es
    → All (λ (e : DrawnEvent). slice_get es e.number ≡ Some e) es
unfolding below
each_there size es drawn = from_place es es 0 size drawn.numbers
    (λ j. (let z : j ≡ 0 + j = omega arith in ap (slice_get es) z))

-- a resource that is named, with the type that its place asks for
pub record IsTyped (i : RawInstance) (x wanted : List ℕ) : Type 0 where
  pub resource : ResourceId
  pub named : resource_named (parts_of i) x ≡ Some resource
  pub typed : type_of (parts_of i) (Some resource) ≡ Some (type_named i (to wanted))

module _ (size : ℕ) (es : List DrawnEvent) (s : IsSize size) (drawn : AreDrawn size es) where
  pub event_number : (k : ℕ) → k < size
      → event_named (parts size es) (numbered (codes "e") k) ≡ Some (record { 0 = k })
  event_number k l =
      let i = made.instance size es in
      ap (option_map (λ (n : ℕ). let x : EventId = record { 0 = n } in x))
      (ap (number_of (numbered (codes "e") k)) (event-ids i 0 i.events ∙ id.event_ids size es drawn)
      ∙ number_at (row (codes "e") size) k (numbered (codes "e") k) (id.events_distinct size s)
      (row_there (codes "e") size k l))

  pub time_number : (t : ℕ) → t < 40
      → time_named (parts size es) (numbered (codes "t") t) ≡ Some (record { 0 = t })
  time_number t l = ap (option_map (λ (n : ℕ). let x : TimeId = record { 0 = n } in x))
      (timed.time_number size es s drawn t l)

  resource_number : (n : ℕ) (x : List ℕ) → slice_get (resource_rows size) n ≡ Some x
      → resource_named (parts size es) x ≡ Some (record { 0 = n })
  resource_number n x at =
      let i = made.instance size es in
      ap (option_map (λ (m : ℕ). let r : ResourceId = record { 0 = m } in r))
      (ap (number_of x) (resource-ids i i.resources ∙ id.resource_ids size es)
      ∙ number_at (resource_rows size) n x (id.resources_distinct size s) at)

  written : (k : ℕ) (e : DrawnEvent) → slice_get es k ≡ Some e
      → slice_get (made.instance size es).events k ≡ Some (events.event size e)
  unfolding made.instance
  written k e at = slice_get-map (events.event size) es k ∙ ap (option_map (events.event size)) at

  pub event_there : (k : ℕ) (e : DrawnEvent) → slice_get es k ≡ Some e
      → IsEventAt (made.instance size es) (parts size es).events k (events.event size e)
  event_there k e at =
      let i = made.instance size es in
      event_at i 0 i.events k (events.event size e) (written k e at)

  -- the resources and their types

  teacher_at : (n : ℕ) → n < job.teachers size
      → slice_get (made.instance size es).resources n ≡ Some (resources.resource sort.Teacher n)
  unfolding made.instance resources.resources below
  teacher_at n l =
      let teachers = resources.so_many sort.Teacher (job.teachers size) in
      let classes = resources.so_many sort.Class (job.classes size) in
      let rooms = resources.so_many sort.Room (job.rooms size) in
      let count : length teachers ≡ job.teachers size =
      length-map-range_with_len (resources.resource sort.Teacher) 0 (job.teachers size) in
      let here : n < length teachers = omega arith in
      let inside : n < length (teachers ++ classes) = omega (arith, length-append teachers classes) in
      slice_get-append_left (teachers ++ classes) rooms n inside ∙ slice_get-append_left teachers classes n here
      ∙ made_there (resources.resource sort.Teacher) (job.teachers size) n l

  room_at : (n : ℕ) → n < job.rooms size
      → slice_get (made.instance size es).resources (job.teachers size + job.classes size + n)
      ≡ Some (resources.resource sort.Room n)
  unfolding made.instance resources.resources below
  room_at n l =
      let teachers = resources.so_many sort.Teacher (job.teachers size) in
      let classes = resources.so_many sort.Class (job.classes size) in
      let rooms = resources.so_many sort.Room (job.rooms size) in
      let before : length (teachers ++ classes) ≡ job.teachers size + job.classes size =
      length-append teachers classes
      ∙ (λ j. length-map-range_with_len (resources.resource sort.Teacher) 0 (job.teachers size) j
      + length-map-range_with_len (resources.resource sort.Class) 0 (job.classes size) j) in
      there_after (teachers ++ classes) rooms (job.teachers size + job.classes size) n (resources.resource sort.Room n)
      before (made_there (resources.resource sort.Room) (job.rooms size) n l)

  type_at : (n : ℕ) (r : RawResource) → slice_get (made.instance size es).resources n ≡ Some r
      → type_of (parts size es) (Some (record { 0 = n }))
      ≡ Some (type_named (made.instance size es) r.resource_type)
  type_at n r at =
      let i = made.instance size es in
      ap (λ o. option_map (λ (info : ResourceInfo). info.rtype) o)
      (slice_get-map (resource_of i) i.resources n ∙ ap (option_map (resource_of i)) at)

  pub teacher_typed : (n : ℕ) → n < job.teachers size
      → IsTyped (made.instance size es) (numbered (codes "p") n) (codes "Teacher")
  teacher_typed n l = record {
    resource = record { 0 = n };
    named = resource_number n (numbered (codes "p") n) (teacher_there size n l);
    typed = type_at n (resources.resource sort.Teacher n) (teacher_at n l);
  }

  pub room_typed : (n : ℕ) → n < job.rooms size
      → IsTyped (made.instance size es) (numbered (codes "q") n) (codes "Room")
  room_typed n l = record {
    resource = record { 0 = job.teachers size + job.classes size + n };
    named = resource_number (job.teachers size + job.classes size + n) (numbered (codes "q") n) (room_there size n l);
    typed = type_at (job.teachers size + job.classes size + n) (resources.resource sort.Room n) (room_at n l);
  }
