-- The entry of one meet of a valid timetable: it says the meet again, and has no cause.
use Rattle.std.proofs.Common.{◌≡◌, ◌∙◌, ap, ap₂, refl, sym, subst, ℕ, ◌+◌, ◌<◌, ◌≤◌, ◌==◌, Bool, true, false, cond, not}
use Rattle.std.proofs.Common.{Option, Some, None, List, [], ◌∷◌, ◌++◌, map, length, All, IfSome, slice_get, nat_lt}
use Rattle.std.proofs.Common.{flat_map, filter, arith, if◌then◌else◌, ◌&&◌, sum_by}
use Rattle.std.specs.Prelude.{is_some}
use Rattle.std.specs.List.{enumerate_from, range_with_len}
use Rattle.std.specs.Option.{option_and_then, option_map, option_map_or, option_or}
use Rattle.std.proofs.lemmas.Bool.{eq-eqb, le-ltb}
use Rattle.std.proofs.lemmas.List.Elements.{All-filter, All-head, All-tail, filter-append}
use Rattle.std.proofs.lemmas.List.Sums.{sum_by-append, sum_by-cons}
use Rattle.std.proofs.lemmas.Option.{get_or_from_slice_get, slice_get_within}
use Rattle.khe_base.specs.declared.numbers.TaskId.{TaskId}
use Rattle.khe_base.specs.declared.numbers.TimeId.{TimeId}
use Rattle.khe_instance.specs.Named.{event_named, time_named}
use Rattle.khe_instance.specs.Running.{duties, meets_of}
use Rattle.khe_instance.specs.States.{IsGiven, IsKept, IsMeet, IsPlaced, IsValid, tasks_of}
use Rattle.khe_instance.specs.WellMade.{AreWellMade, IsEvent}
use Rattle.khe_instance.specs.declared.parts.EventInfo.{EventInfo}
use Rattle.khe_instance.specs.declared.parts.Parts.{Parts}
use Rattle.khe_instance.specs.declared.states.Duty.{Duty}
use Rattle.khe_instance.specs.declared.states.Meet.{Meet}
use Rattle.khe_instance.specs.declared.states.Plain.{Plain}
use Rattle.khe_instance.specs.declared.states.Task.{Task}
use Rattle.event_deviations.proofs.Beside.{Beside-from_told, Rising, duty_of, is_of, places_there}
use Rattle.event_deviations.proofs.Kit.{All-from_map}
use Rattle.xhstt_completion.specs.Causes.{cause_in, differ_in_time, ends_late, first_given_cause, is_too_long}
use Rattle.xhstt_completion.specs.Causes.{moves_fixed, splits_fixed}
use Rattle.xhstt_completion.specs.Completed.{task_of}
use Rattle.xhstt_completion.specs.Entries.{start_of, time_of}
use Rattle.fault_tables.specs.declared.causes.TheConstants.{TOO_LONG, SPLIT_FIXED, FIXED_TIME, OFF_END}
use Rattle.xhstt_completion.proofs.TableLemmas.{or-none}
use Rattle.xhstt_completion.proofs.WellMadeLemmas.{event-made}
use Rattle.xhstt_shape.specs.declared.records.RawEntry.{RawEntry}
use Rattle.xhstt_shape.specs.declared.records.RawGiven.{RawGiven}
use Rattle.xhstt_entries.specs.Renumbered.{tasks_in}
use Rattle.xhstt_entries.specs.Spelled.{entry_of, given_of, own_duties, time_id, to}
use Rattle.xhstt_entries.proofs.GivenBack.{AreFilled, all_free, are_filled, gifts, no_causes, tasks_back}
use Rattle.xhstt_entries.proofs.NumberLaws.{event_back, time_back}
use Rattle.xhstt_entries.proofs.OwnTasks.{duties_found, tasks_found}

-- the entry that a timetable has for a meet
abbrev pub entry_in : Parts → Plain → Meet → RawEntry
entry_in p s m = entry_of p (duties s.meets s.tasks) m

-- the entry of a meet of an event says its event, its start and its tasks, and has no cause where those before it
-- leave so much of the event
pub record ReadsBack (p : Parts) (s : Plain) (m : Meet) (event : EventInfo) : Type 0 where
  pub named : event_named p (entry_in p s m).reference.id ≡ Some m.event
  pub start : start_of p event (entry_in p s m) ≡ m.start
  pub tasks : (slot : ℕ) → map (task_of p slot (entry_in p s m).resources) (enumerate_from 0 event.places)
      ≡ tasks_in s.tasks (slot, m)
  pub free : (used : ℕ) → used + m.duration ≤ event.duration → cause_in p event used (entry_in p s m) ≡ None

-- ---- lists

all_mid : {X : Type 0} (P : X → Type 0) (before : List X) (x : X) (after : List X) → All P (before ++ x ∷ after) → P x
all_mid P [] x after h = All-head P x after h
all_mid P (y ∷ ys) x after h = all_mid P ys x after (All-tail P y (ys ++ x ∷ after) h)

-- a meet stands among those of its event
pub meets_around : (before : List Meet) (m : Meet) (after : List Meet)
    → meets_of m.event.0 (before ++ m ∷ after) ≡ meets_of m.event.0 before ++ m ∷ meets_of m.event.0 after
meets_around before m after =
    let e = m.event.0 in
    filter-append (λ x. x.event.0 == e) before (m ∷ after)
    ∙ ap (λ b. meets_of e before ++ cond b (m ∷ meets_of e after) (meets_of e after)) (eq-eqb e e refl)

-- so what it and those before it last is no more than all of them
pub together : (before : List Meet) (m : Meet) (after : List Meet)
    → sum_by (λ x. x.duration) (meets_of m.event.0 before) + m.duration ≤ sum_by (λ x. x.duration)
    (meets_of m.event.0 (before ++ m ∷ after))
together before m after =
    let lasts : Meet → ℕ = λ x. x.duration in
    let all : sum_by lasts (meets_of m.event.0 (before ++ m ∷ after))
    ≡ sum_by lasts (meets_of m.event.0 before) + sum_by lasts (m ∷ meets_of m.event.0 after) =
    ap (sum_by lasts) (meets_around before m after)
    ∙ sum_by-append lasts (meets_of m.event.0 before) (m ∷ meets_of m.event.0 after) in
    let own : sum_by lasts (m ∷ meets_of m.event.0 after) ≡ m.duration + sum_by lasts (meets_of m.event.0 after) =
    sum_by-cons lasts m (meets_of m.event.0 after) in
    omega (arith, all, own)

-- where the meets of an event have one start, there is one meet
record IsAlone (m : Meet) (t : TimeId) (all : List Meet) : Type 0 where
  start : m.start ≡ Some t
  duration : sum_by (λ x. x.duration) all ≡ m.duration

alone : (before : List Meet) (m : Meet) (after : List Meet) (t : TimeId)
    → map (λ x. x.start) (before ++ m ∷ after) ≡ Some t ∷ [] → IsAlone m t (before ++ m ∷ after)
alone [] m [] t h = record {
  start = cc;
  duration = sum_by-cons (λ (x : Meet). x.duration) m []
      ∙ (let z : m.duration + 0 ≡ m.duration = omega arith in z);
}
alone [] m (x ∷ xs) t h = cc
alone (x ∷ []) m after t h = cc
alone (x ∷ y ∷ ys) m after t h = cc

-- ---- times

time_read : (p : Parts) → AreWellMade p → (d : ℕ) → 1 ≤ d → (start : Option TimeId)
    → IfSome start (λ s. s.0 + d ≤ length p.times)
    → option_and_then (λ t. time_named p t.id) (option_map (λ t. to (time_id p t)) start) ≡ start
time_read p made d some None ends = refl
time_read p made d some (Some t) ends = time_back p t made (omega (arith, ends, some))

no_other_time : (o : Option TimeId) → differ_in_time o None ≡ false
no_other_time None = refl
no_other_time (Some t) = refl

not_late : (times d : ℕ) (start : Option TimeId) → IfSome start (λ s. s.0 + d ≤ times)
    → option_map_or (λ s. nat_lt times (s.0 + d)) start false ≡ false
not_late times d None ends = refl
not_late times d (Some s) ends = le-ltb times (s.0 + d) ends

-- ---- the entry

module _ (p : Parts) (s : Plain) (made : AreWellMade p) (valid : IsValid p s) (before : List Meet) (m : Meet)
    (after : List Meet) (is : s.meets ≡ before ++ m ∷ after) (event : EventInfo)
    (there : slice_get p.events m.event.0 ≡ Some event) where
  rising : Rising (before ++ m ∷ after)
  rising = subst Rising is (Beside-from_told p s.meets s.tasks valid.told).rising

  meet : IsMeet p m
  meet = all_mid (IsMeet p) before m after (subst (All (IsMeet p)) is (valid.told).meets)

  event_is : IsEvent p event
  event_is = event-made p m.event.0 event made there

  placed : IsPlaced s.meets m.event.0 event
  placed = valid.events m.event.0 event there

  abbrev own : List Task
  own = filter (is_of m.meet.0) s.tasks

  own_are : own_duties m (duties s.meets s.tasks) ≡ map (duty_of m) own
  own_are = ap (λ l. own_duties m (duties l s.tasks)) is ∙ duties_found before m after rising s.tasks

  own_have : (P : Duty → Type 0) → All P (duties s.meets s.tasks) → All (λ t. P (duty_of m t)) own
  own_have P all = All-from_map P (duty_of m) own (subst (All P) own_are
      (All-filter (λ d. d.meet.meet.0 == m.meet.0) P (duties s.meets s.tasks) all))

  abbrev id_at : ℕ → TaskId
  id_at k = record { meet = m.meet; place = k }

  ids : map (λ t. t.task) own ≡ map id_at (range_with_len 0 (length event.places))
  ids = tasks_found before m after rising p s.tasks ((valid.told).tasks ∙ ap (flat_map (tasks_of p)) is)
      ∙ ap (λ n. map id_at (range_with_len 0 n)) (places_there p.events m.event.0 (length event.places) event there
      refl)

  from_zero : (i : ℕ) → slice_get event.places i ≡ slice_get event.places (0 + i)
  from_zero i = let z : i ≡ 0 + i = omega arith in ap (slice_get event.places) z

  filled : AreFilled p m 0 event.places own
  filled = are_filled p m event there 0 event.places own from_zero ids (own_have (IsGiven p) (valid.told).given)
      (own_have (IsKept p) valid.kept)

  resources : (entry_in p s m).resources ≡ gifts p m own
  resources = ap (flat_map (given_of p)) own_are

  tasks : (slot : ℕ) → map (task_of p slot (entry_in p s m).resources) (enumerate_from 0 event.places)
      ≡ tasks_in s.tasks (slot, m)
  tasks slot = ap (λ g. map (task_of p slot g) (enumerate_from 0 event.places)) resources
      ∙ tasks_back p made m slot [] 0 event.places own filled event_is.places event_is.roles (all_free event.places)

  given : first_given_cause p event [] (entry_in p s m).resources ≡ None
  given = ap (first_given_cause p event []) resources
      ∙ no_causes p made m event event_is.roles [] 0 event.places own from_zero filled event_is.places event_is.roles
      (all_free event.places)

  time : time_of p (entry_in p s m) ≡ m.start
  time = time_read p made m.duration meet.duration m.start meet.ends

  -- with a preassigned time the meet is the only one of its event
  only : (t : TimeId) → event.fixed ≡ Some t → (m.start ≡ Some t) × (event.duration ≡ m.duration)
  only t e =
      let e0 = m.event.0 in
      let around = ap (meets_of e0) is ∙ meets_around before m after in
      let starts : map (λ x. x.start) (meets_of e0 s.meets) ≡ Some t ∷ [] =
      subst (λ o. IfSome o (λ t. map (λ x. x.start) (meets_of e0 s.meets) ≡ Some t ∷ [])) e placed.fixed in
      let one = alone (meets_of e0 before) m (meets_of e0 after) t
      (sym (ap (map (λ (x : Meet). x.start)) around) ∙ starts) in
      (one.start, sym placed.whole ∙ ap (sum_by (λ (x : Meet). x.duration)) around ∙ one.duration)

  start : start_of p event (entry_in p s m) ≡ m.start
  start = ap (λ o. option_or o event.fixed) time ∙ by event.fixed refl
    where
      by : (f : Option TimeId) → event.fixed ≡ f → option_or m.start event.fixed ≡ m.start
      by None e = ap (option_or m.start) e ∙ or-none m.start
      by (Some t) e = let at = (only t e).0 in ap (λ o. option_or o event.fixed) at ∙ sym at

  split : splits_fixed event (entry_in p s m) ≡ false
  split = by event.fixed refl
    where
      by : (f : Option TimeId) → event.fixed ≡ f → (is_some event.fixed && nat_lt m.duration event.duration) ≡ false
      by None e = ap (λ o. is_some o && nat_lt m.duration event.duration) e
      by (Some t) e =
          let same = (only t e).1 in
          ap (λ o. is_some o && nat_lt m.duration event.duration) e
          ∙ le-ltb m.duration event.duration (omega (arith, same))

  moved : moves_fixed p event (entry_in p s m) ≡ false
  moved = ap (λ o. differ_in_time o event.fixed) time ∙ by event.fixed refl
    where
      by : (f : Option TimeId) → event.fixed ≡ f → differ_in_time m.start event.fixed ≡ false
      by None e = ap (differ_in_time m.start) e ∙ no_other_time m.start
      by (Some t) e = ap₂ differ_in_time (only t e).0 e ∙ ap not (eq-eqb t.0 t.0 refl)

  late : ends_late p event (entry_in p s m) ≡ false
  late = ap (λ o. option_map_or (λ x. nat_lt (length p.times) (x.0 + m.duration)) o false) start
      ∙ not_late (length p.times) m.duration m.start meet.ends

  free : (used : ℕ) → used + m.duration ≤ event.duration → cause_in p event used (entry_in p s m) ≡ None
  free used within =
      let long : is_too_long event used (entry_in p s m) ≡ false =
      le-ltb event.duration (used + m.duration) within in
      λ i. if long i then Some TOO_LONG else if split i then Some SPLIT_FIXED else if moved i then Some FIXED_TIME
      else if late i then Some OFF_END else given i

  pub reads_back : ReadsBack p s m event
  reads_back = record {
    named = event_back p m.event made (slice_get_within p.events m.event.0 event there);
    start = start;
    tasks = tasks;
    free = free;
  }
