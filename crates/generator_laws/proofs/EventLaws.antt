-- The events of the instance that is made name parts of it, and end in time.
use Rattle.std.proofs.Common.{ℕ, ◌≡◌, ◌+◌, ◌/◌, ◌%◌, ◌<◌, ◌≤◌, Option, Some, None}
use Rattle.std.proofs.Common.{List, [], ◌∷◌, map, All, length, nat_lt, if◌then◌else◌}
use Rattle.std.proofs.Common.{refl, sym, ap, subst, ◌∙◌, arith, mod-lt, flat_map}
use Rattle.std.specs.Option.{option_map_or}
use Rattle.std.specs.Prelude.{codes}
use Rattle.std.proofs.lemmas.Bool.{le-ltb}
use Rattle.std.proofs.lemmas.List.Elements.{All-nil, All-cons, All-head, All-tail}
use Rattle.khe_base.specs.Names.{number_of}
use Rattle.khe_instance.proofs.DutiesLemmas.{All-of_map}
use Rattle.xhstt_shape.specs.declared.records.RawEvent.{RawEvent}
use Rattle.xhstt_references.specs.References as references
use Rattle.xhstt_entries.proofs.NumberLaws.{number_at}
use Rattle.archive_generator.specs.declared.drawing.DrawnEvent.{DrawnEvent}
use Rattle.archive_generator.specs.declared.resources.Sort.TheVariants as sort
use Rattle.archive_generator.specs.Events as events
use Rattle.archive_generator.specs.Job as job
use Rattle.archive_generator.specs.Made as made
use Rattle.archive_generator.specs.Names.{to, numbered, to_time}
use Rattle.archive_generator.proofs.Spellable.{two}
use Rattle.archive_generator.proofs.WellFormed.{IsShortEvent}
use Rattle.generator_laws.proofs.DrawLaws.{AreDrawn, IsTimely, EndsInTime, some_classes}
use Rattle.generator_laws.proofs.IdLaws as id
use Rattle.generator_laws.proofs.IdLaws.{IsSize, row, both_none}
use Rattle.generator_laws.proofs.NumberLaws.{row_there, row_length, all_numbers}
use Rattle.generator_laws.proofs.ReferenceLaws.{directory, Names, none_unknown, one_known, maybe_known, none_given}
use Rattle.generator_laws.proofs.ReferenceLaws as known

-- an event of a job
pub record IsOne (size : ℕ) (e : DrawnEvent) : Type 0 where
  pub within : e.number < size
  pub short : IsShortEvent e
  pub timely : IsTimely e

each_one : (size : ℕ) (es : List DrawnEvent) → All (λ (e : DrawnEvent). e.number < size) es → All IsShortEvent es
    → All IsTimely es → All (IsOne size) es
each_one size [] n s t = All-nil (IsOne size)
each_one size (e ∷ es) n s t = All-cons (IsOne size) e es
    (record {
      within = All-head (λ (e : DrawnEvent). e.number < size) e es n;
      short = All-head IsShortEvent e es s;
      timely = All-head IsTimely e es t;
    })
    (each_one size es (All-tail (λ (e : DrawnEvent). e.number < size) e es n) (All-tail IsShortEvent e es s)
    (All-tail IsTimely e es t))

-- each event that is drawn is one
pub all_ones : (size : ℕ) (es : List DrawnEvent) → AreDrawn size es → All (IsOne size) es
all_ones size es drawn = each_one size es
    (All-of_map (λ n. n < size) (λ (e : DrawnEvent). e.number) es
    (subst (All (λ n. n < size)) (sym drawn.numbers) (all_numbers (λ n. n < size) size (λ k l. l))))
    drawn.short drawn.timely

-- what is true of each event of a job is true of all that are written out
pub all_events : (P : RawEvent → Type 0) (size : ℕ) (es : List DrawnEvent) → AreDrawn size es
    → ((e : DrawnEvent) → IsOne size e → P (events.event size e)) → All P (made.instance size es).events
unfolding made.instance
all_events P size es drawn each = from es (all_ones size es drawn)
  where
    from : (xs : List DrawnEvent) → All (IsOne size) xs → All P (map (events.event size) xs)
    from [] h = All-nil P
    from (x ∷ xs) h = All-cons P (events.event size x) (map (events.event size) xs)
        (each x (All-head (IsOne size) x xs h)) (from xs (All-tail (IsOne size) x xs h))

-- a time that leaves room is one of the forty
pub early_enough : (duration t : ℕ) → 1 ≤ duration → t + duration ≤ 40 → t < 40
early_enough duration t l m = omega arith

module _ (size : ℕ) (es : List DrawnEvent) (s : IsSize size) (drawn : AreDrawn size es) where
  time_known : (duration : ℕ) (o : Option ℕ) → 1 ≤ duration → EndsInTime duration o
      → references.unknown_one (directory size es).times (to_time o) ≡ []
  time_known duration None l h = refl
  time_known duration (Some t) l h = one_known (directory size es).times
      (to (numbered (codes "t") t)) (known.time_among size es s drawn t (early_enough duration t l h))

  places_known : (n : ℕ)
      → flat_map (references.unknown_in_place (directory size es)) (events.places size n) ≡ []
  unfolding events.places
  places_known n =
      let d = directory size es in
      let class : n % job.classes size < job.classes size = mod-lt n (some_classes size) in
      both_none _ _ (both_none _ _ (one_known d.resources (to (numbered (codes "c") (n % job.classes size)))
      (known.class_among size es s drawn (n % job.classes size) class)) refl)
      (both_none _ _ (one_known d.resource_types (to (codes "Teacher")) (known.type_among size es s drawn sort.Teacher))
      (both_none _ _ (one_known d.resource_types (to (codes "Room")) (known.type_among size es s drawn sort.Room))
      refl))

  event_known : (e : DrawnEvent) → IsOne size e
      → references.unknown_in_event (directory size es) (events.event size e) ≡ []
  unfolding events.event
  event_known e one =
      let d = directory size es in
      let within = one.within in
      let half : e.number / 2 < events.halves size = omega arith in
      both_none _ _ (time_known e.duration e.time one.short.0 one.timely)
      (both_none _ _ (places_known e.number)
      (none_unknown d.event_groups (events.groups_of e.number)
      (two (Names d.event_groups) (to (codes "all")) (to (numbered (codes "h") (e.number / 2)))
      (known.all_among size es s drawn) (known.half_among size es s drawn (e.number / 2) half))))

  -- no reference of an event is unknown
  pub events_known : flat_map (references.unknown_in_event (directory size es))
      (made.instance size es).events ≡ []
  events_known =
      let d = directory size es in
      none_given (references.unknown_in_event d) (made.instance size es).events
      (all_events (λ (e : RawEvent). references.unknown_in_event d e ≡ []) size es drawn event_known)

  -- roles are distinct within each event

  role_once : (e : DrawnEvent) → IsOne size e → references.repeated (references.roles_of (events.event size e)) ≡ []
  unfolding events.event events.places
  role_once e one = refl

  pub roles_once : references.repeated_roles (made.instance size es) ≡ []
  roles_once = none_given (λ (e : RawEvent). references.repeated (references.roles_of e)) (made.instance size es).events
      (all_events (λ (e : RawEvent). references.repeated (references.roles_of e) ≡ []) size es drawn role_once)

  -- preassigned times leave room for their events

  pub time_number : (t : ℕ) → t < 40
      → number_of (numbered (codes "t") t) (directory size es).times ≡ Some t
  time_number t l = ap (number_of (numbered (codes "t") t)) (id.time_ids size es)
      ∙ number_at (row (codes "t") 40) t (numbered (codes "t") t) id.times_distinct (row_there (codes "t") 40 t l)

  ends_in_time : (duration : ℕ) (o : Option ℕ) → 1 ≤ duration → EndsInTime duration o
      → option_map_or (references.off_end_from (directory size es) duration) (to_time o) [] ≡ []
  ends_in_time duration None l h = refl
  ends_in_time duration (Some t) l h =
      let d = directory size es in
      let r = to (numbered (codes "t") t) in
      let count : length d.times ≡ 40 = ap length (id.time_ids size es) ∙ row_length (codes "t") 40 in
      let enough : t + duration ≤ length d.times = subst (λ n. t + duration ≤ n) (sym count) h in
      ap (λ o. option_map_or (λ k. if nat_lt (length d.times) (k + duration) then r.at ∷ [] else []) o [])
      (time_number t (early_enough duration t l h))
      ∙ ap (λ b. if b then r.at ∷ [] else []) (le-ltb (length d.times) (t + duration) enough)

  event_ends : (e : DrawnEvent) → IsOne size e
      → references.off_end (directory size es) (events.event size e) ≡ []
  unfolding events.event
  event_ends e one = ends_in_time e.duration e.time one.short.0 one.timely

  pub events_end : references.events_off_end (made.instance size es) ≡ []
  events_end =
      let d = directory size es in
      none_given (references.off_end d) (made.instance size es).events
      (all_events (λ (e : RawEvent). references.off_end d e ≡ []) size es drawn event_ends)
