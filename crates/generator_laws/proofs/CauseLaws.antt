-- No entry of a solution that is made has a cause for which the solution would be invalid.
use Rattle.std.proofs.Common.{ℕ, ◌≡◌, ◌+◌, ◌==◌, ◌<◌, ◌≤◌, Bool, true, false, not, ◌&&◌}
use Rattle.std.proofs.Common.{if◌then◌else◌, nat_lt, Option, Some, None, is_some, List, [], ◌∷◌, ◌++◌, length}
use Rattle.std.proofs.Common.{slice_get, option_map, refl, ap, ◌∙◌, arith, zero-add}
use Rattle.std.specs.Option.{option_and_then, option_map_or, option_or}
use Rattle.std.specs.Prelude.{codes}
use Rattle.std.proofs.lemmas.Bool.{eq-eqb, le-ltb, ne_eqb}
use Rattle.khe_base.specs.declared.numbers.TimeId.{TimeId}
use Rattle.khe_instance.specs.Named.{event_named, resource_named, time_named}
use Rattle.khe_instance.specs.declared.parts.EventInfo.{EventInfo}
use Rattle.khe_instance.specs.declared.parts.Place.{Place}
use Rattle.xhstt_shape.specs.declared.records.RawEntry.{RawEntry}
use Rattle.xhstt_shape.specs.declared.records.RawGiven.{RawGiven}
use Rattle.xhstt_shape.specs.declared.records.RawInstance.{RawInstance}
use Rattle.xhstt_resolve.specs.Parts.{event_of, fixed_time, parts_of, place_of, type_named}
use Rattle.xhstt_completion.specs.Causes.{came_before, cause_after, cause_in, differ_in_resource, differ_in_time}
use Rattle.xhstt_completion.specs.Causes.{first_given_cause, given_cause, place_cause, used_by}
use Rattle.xhstt_completion.specs.Entries.{duration_of, is_event}
use Rattle.fault_tables.specs.declared.causes.TheConstants.{TOO_LONG, SPLIT_FIXED, FIXED_TIME, OFF_END, BAD_ROLE}
use Rattle.fault_tables.specs.declared.causes.TheConstants.{FIXED_RESOURCE, WRONG_TYPE}
use Rattle.xhstt_completion.proofs.CausesLemmas.{cause_after-in, used_by-other, used_by-own}
use Rattle.archive_generator.specs.declared.drawing.DrawnEntry.{DrawnEntry}
use Rattle.archive_generator.specs.declared.drawing.DrawnEvent.{DrawnEvent}
use Rattle.archive_generator.specs.Events as events
use Rattle.archive_generator.specs.Job as job
use Rattle.archive_generator.specs.Made as made
use Rattle.archive_generator.specs.Names.{numbered, to, to_time}
use Rattle.archive_generator.specs.Solutions as solutions
use Rattle.generator_laws.proofs.DrawLaws.{AreDrawn, EndsInTime, IsBelow, IsEntryOf}
use Rattle.generator_laws.proofs.EventLaws.{IsOne, all_ones}
use Rattle.generator_laws.proofs.EventLaws as timed
use Rattle.generator_laws.proofs.IdLaws as id
use Rattle.generator_laws.proofs.IdLaws.{IsSize}
use Rattle.generator_laws.proofs.NumberLaws.{row_length}
use Rattle.generator_laws.proofs.PartLaws.{parts, IsEventAt, IsTyped}
use Rattle.generator_laws.proofs.PartLaws as part

-- a time by its number
abbrev at_time : Option ℕ → Option TimeId
at_time o = option_map (λ n. record { 0 = n }) o

-- an entry has no time where its event has a preassigned one
not_moved : (o q : Option ℕ) → (is_some q ≡ true → o ≡ None) → differ_in_time (at_time o) (at_time q) ≡ false
not_moved None None h = refl
not_moved None (Some y) h = refl
not_moved (Some x) None h = refl
not_moved (Some x) (Some y) h = let e = h refl in cc

-- it ends in time, as its event does
not_late : (o q : Option ℕ) (d whole count : ℕ) → count ≡ 40 → EndsInTime d o → EndsInTime whole q
    → (is_some q ≡ true → d ≡ whole)
    → option_map_or (λ (s : TimeId). nat_lt count (s.0 + d)) (option_or (at_time o) (at_time q)) false ≡ false
not_late (Some x) q d whole count is ends fixed same = le-ltb count (x + d) (omega arith)
not_late None (Some y) d whole count is ends fixed same = let e = same refl in le-ltb count (y + d) (omega arith)
not_late None None d whole count is ends fixed same = refl

-- it is the whole event where that has a preassigned time
not_split : (q : Option ℕ) (d whole : ℕ) → (is_some q ≡ true → d ≡ whole)
    → (is_some (at_time q) && nat_lt d whole) ≡ false
not_split None d whole same = refl
not_split (Some y) d whole same = let e = same refl in le-ltb d whole (omega arith)

-- a resource of the type that a place without a preassigned one asks for has no cause there
suits : (i : RawInstance) (x wanted : List ℕ) (place : Place) → IsTyped i x wanted → place.fixed ≡ None
    → place.rtype ≡ type_named i (to wanted) → place_cause (parts_of i) (resource_named (parts_of i) x) place ≡ None
suits i x wanted place typed free same =
    let t = type_named i (to wanted) in
    ap (λ r. place_cause (parts_of i) r place) typed.named
    ∙ (λ j. if differ_in_resource (free j) (Some typed.resource) then Some FIXED_RESOURCE else
    if option_map_or (λ rtype. not (rtype == same j)) (typed.typed j) false then Some WRONG_TYPE else None)
    ∙ ap (λ b. if not b then Some WRONG_TYPE else None) (eq-eqb t t refl)

-- where no test is passed, no cause is found
no_cause : (b : Bool) (cause : ℕ) (o : Option ℕ) → b ≡ false → o ≡ None → (if b then Some cause else o) ≡ None
no_cause b cause o h k = λ i. if h i then Some cause else k i

-- an entry of an event, of which so much was given before it
pub record IsApt (size : ℕ) (e : DrawnEvent) (d : DrawnEntry) (used : ℕ) : Type 0 where
  pub entry : IsEntryOf size e d
  pub whole : is_some e.time ≡ true → d.duration ≡ e.duration
  pub room : used + d.duration ≤ e.duration

-- a time before the end
before_end : (duration : ℕ) (o : Option ℕ) → 1 ≤ duration → EndsInTime duration o → IsBelow 40 o
before_end duration None l h = tt
before_end duration (Some t) l h = omega arith

module _ (size : ℕ) (es : List DrawnEvent) (s : IsSize size) (drawn : AreDrawn size es) where
  fixed_is : (o : Option ℕ) → IsBelow 40 o → fixed_time (made.instance size es) (to_time o) ≡ at_time o
  fixed_is None h = refl
  fixed_is (Some t) h = ap at_time (timed.time_number size es s drawn t h)

  time_is : (o : Option ℕ) → IsBelow 40 o
      → option_and_then (λ t. time_named (parts size es) t.id) (to_time o) ≡ at_time o
  time_is None h = refl
  time_is (Some t) h = part.time_number size es s drawn t h

  -- the resources of an entry suit their places

  teacher_suits : (first : ℕ) (e : DrawnEvent) (n : ℕ) → n < job.teachers size
      → given_cause (parts size es) (event_of (made.instance size es) first (events.event size e)) []
      (solutions.given (codes "T") (codes "p") n) ≡ None
  unfolding events.event events.places
  teacher_suits first e n l = suits (made.instance size es) (numbered (codes "p") n) (codes "Teacher")
      (place_of (made.instance size es) (events.event size e) (events.open_place (codes "T") (codes "Teacher")))
      (part.teacher_typed size es s drawn n l) refl refl

  room_suits : (first : ℕ) (e : DrawnEvent) (before : List RawGiven) (n : ℕ) → n < job.rooms size
      → came_before before (solutions.given (codes "R") (codes "q") n) ≡ false
      → given_cause (parts size es) (event_of (made.instance size es) first (events.event size e))
      before (solutions.given (codes "R") (codes "q") n) ≡ None
  unfolding events.event events.places
  room_suits first e before n l new =
      no_cause (came_before before (solutions.given (codes "R") (codes "q") n)) BAD_ROLE _
      new (suits (made.instance size es) (numbered (codes "q") n) (codes "Room")
      (place_of (made.instance size es) (events.event size e) (events.open_place (codes "R") (codes "Room")))
      (part.room_typed size es s drawn n l) refl refl)

  given_suit : (first : ℕ) (e : DrawnEvent) (t r : Option ℕ) → IsBelow (job.teachers size) t
      → IsBelow (job.rooms size) r
      → first_given_cause (parts size es)
      (event_of (made.instance size es) first (events.event size e)) []
      (solutions.given_if (codes "T") (codes "p") t ++ solutions.given_if (codes "R") (codes "q") r) ≡ None
  given_suit first e None None h k = refl
  given_suit first e (Some n) None h k = ap (λ o. option_or o None) (teacher_suits first e n h)
  given_suit first e None (Some m) h k = ap (λ o. option_or o None) (room_suits first e [] m k refl)
  given_suit first e (Some n) (Some m) h k =
      let before = solutions.given (codes "T") (codes "p") n ∷ [] in
      let teacher = teacher_suits first e n h in
      let room = room_suits first e before m k refl in
      λ j. option_or (teacher j) (option_or (room j) None)

  -- an entry has no cause

  apt_free : (first : ℕ) (e : DrawnEvent) (d : DrawnEntry) (used : ℕ) → IsOne size e → 1 ≤ d.duration
      → IsApt size e d used
      → cause_in (parts size es) (event_of (made.instance size es) first (events.event size e)) used
      (solutions.entry d) ≡ None
  unfolding events.event solutions.entry
  apt_free first e d used one some apt =
      let i = made.instance size es in
      let count : length (parts size es).times ≡ 40 = ap length (id.time_ids size es) ∙ row_length (codes "t") 40 in
      let room = apt.room in
      let fixed = fixed_is e.time (before_end e.duration e.time one.short.0 one.timely) in
      let time = time_is d.time (before_end d.duration d.time some apt.entry.time) in
      no_cause (nat_lt e.duration (used + d.duration)) TOO_LONG _ (le-ltb e.duration (used + d.duration) room)
      (no_cause (is_some (fixed_time i (to_time e.time)) && nat_lt d.duration e.duration) SPLIT_FIXED _
      (ap (λ o. is_some o && nat_lt d.duration e.duration) fixed ∙ not_split e.time d.duration e.duration apt.whole)
      (no_cause (differ_in_time (option_and_then (λ t. time_named (parts size es) t.id) (to_time d.time))
      (fixed_time i (to_time e.time))) FIXED_TIME _
      ((λ j. differ_in_time (time j) (fixed j)) ∙ not_moved d.time e.time apt.entry.free)
      (no_cause (option_map_or (λ (s : TimeId). nat_lt (length (parts size es).times) (s.0 + d.duration))
      (option_or (option_and_then (λ t. time_named (parts size es) t.id) (to_time d.time))
      (fixed_time i (to_time e.time)))
      false) OFF_END _
      ((λ j. option_map_or (λ (s : TimeId). nat_lt (length (parts size es).times) (s.0 + d.duration))
      (option_or (time j) (fixed j)) false)
      ∙ not_late d.time e.time d.duration e.duration (length (parts size es).times) count apt.entry.time one.timely
      apt.whole)
      (given_suit first e d.teacher d.room apt.entry.teacher apt.entry.room))))

  -- what an entry names

  entry_event : (e : DrawnEvent) (d : DrawnEntry) → IsOne size e → d.event ≡ e.number
      → event_named (parts size es) (solutions.entry d).reference.id
      ≡ Some (record { 0 = e.number })
  unfolding solutions.entry
  entry_event e d one is =
      ap (λ n. event_named (parts size es) (numbered (codes "e") n)) is
      ∙ part.event_number size es s drawn e.number one.within

  entry_lasts : (event : EventInfo) (d : DrawnEntry) → duration_of event (solutions.entry d) ≡ d.duration
  unfolding solutions.entry
  entry_lasts event d = refl

  -- after entries of its event that last so long it has no cause
  pub free_after : (e : DrawnEvent) (d : DrawnEntry) (before : List RawEntry) (used : ℕ)
      → slice_get es e.number ≡ Some e
      → IsOne size e → 1 ≤ d.duration → IsApt size e d used
      → ((event : EventInfo) → used_by (parts size es) e.number event before ≡ used)
      → cause_after (parts size es) before (solutions.entry d) ≡ None
  free_after e d before used at one some apt sum =
      let p = parts size es in
      let there = part.event_there size es s drawn e.number e at in
      let event = event_of (made.instance size es) there.first (events.event size e) in
      cause_after-in p before (solutions.entry d) (record { 0 = e.number }) event
      (entry_event e d one apt.entry.event) there.found
      ∙ ap (λ u. cause_in p event u (solutions.entry d)) (sum event)
      ∙ apt_free there.first e d used one some apt

  -- how long the entries of events last after one more
  pub more_own : (e : DrawnEvent) (d : DrawnEntry) (before : List RawEntry) (event : EventInfo) → IsOne size e
      → d.event ≡ e.number → used_by (parts size es) e.number event before ≡ 0
      → used_by (parts size es) e.number event (before ++ solutions.entry d ∷ []) ≡ d.duration
  more_own e d before event one is none =
      let p = parts size es in
      used_by-own p e.number event before (solutions.entry d)
      (ap (is_event e.number) (entry_event e d one is) ∙ eq-eqb e.number e.number refl)
      ∙ (λ j. none j + entry_lasts event d j) ∙ zero-add d.duration

  pub more_other : (e : DrawnEvent) (d : DrawnEntry) (before : List RawEntry) (k : ℕ) (event : EventInfo) → IsOne size e
      → d.event ≡ e.number → e.number < k
      → used_by (parts size es) k event (before ++ solutions.entry d ∷ [])
      ≡ used_by (parts size es) k event before
  more_other e d before k event one is l =
      used_by-other (parts size es) k event before (solutions.entry d)
      (ap (is_event k) (entry_event e d one is) ∙ ne_eqb e.number k (λ same. omega arith))
