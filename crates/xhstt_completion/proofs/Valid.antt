-- The state that entries without a cause say is valid.
use Rattle.std.proofs.Common.{ℕ, ◌≡◌, ◌∙◌, ◌+◌, ◌<◌, ◌≤◌, true, false, Option, Some, None, List, [], ◌∷◌, length, map}
use Rattle.std.proofs.Common.{get_or, slice_get, refl, sym, ap, subst, arith, zero, suc, zero-add}
use Rattle.std.specs.Prelude.{All, IfSome, ◌==◌}
use Rattle.std.specs.List.{filter, flat_map, sum_by, enumerate_from, range_with_len}
use Rattle.std.specs.Option.{option_or, option_map_or, option_and_then}
use Rattle.std.specs.List.Sorted.{IsStrictlyIncreasing}
use Rattle.std.proofs.lemmas.Bool.{eqb-true, eq-eqb, ne_eqb}
use Rattle.std.proofs.lemmas.List.{append-nil, map-append}
use Rattle.std.proofs.lemmas.List.Concat.{flat_map_single}
use Rattle.std.proofs.lemmas.List.Elements.{All-nil, All-head, All-tail, All-map, All-weaker}
use Rattle.std.proofs.lemmas.List.Sums.{sum_by-cons}
use Rattle.std.proofs.lemmas.Option.{same_Some}
use Rattle.khe_base.proofs.ListLemmas.{All-flat_map, filter-all, filter-none}
use Rattle.khe_base.specs.declared.numbers.ResourceId.{ResourceId}
use Rattle.khe_base.specs.declared.numbers.TaskId.{TaskId}
use Rattle.khe_base.specs.declared.numbers.TimeId.{TimeId}
use Rattle.khe_instance.specs.Running.{duties, meets_of}
use Rattle.khe_instance.specs.Slots.{HasSlot}
use Rattle.khe_instance.specs.States.{IsValid, IsMeet, IsGiven, IsKept, IsGroup, place_of}
use Rattle.khe_instance.specs.Lookups.{places_at}
use Rattle.khe_instance.specs.States as states
use Rattle.khe_instance.specs.WellMade.{AreWellMade, AreFirstMeets, HasType, IsEvent}
use Rattle.khe_instance.specs.declared.parts.EventInfo.{EventInfo}
use Rattle.khe_instance.specs.declared.parts.Parts.{Parts}
use Rattle.khe_instance.specs.declared.parts.Place.{Place}
use Rattle.khe_instance.specs.declared.states.Duty.{Duty}
use Rattle.khe_instance.specs.declared.states.Meet.{Meet}
use Rattle.khe_instance.specs.declared.states.Task.{Task}
use Rattle.xhstt_completion.specs.Causes.{first_cause}
use Rattle.xhstt_completion.specs.Completed.{Part, event_parts, slotted_parts, meet_of, task_of, tasks_of, meets_at}
use Rattle.xhstt_completion.specs.Completed.{tasks_at, state_of, resource_at}
use Rattle.xhstt_completion.specs.Entries.{IsEntry, entries_of}
use Rattle.xhstt_completion.proofs.FitLemmas.{AreFit, entries-fit}
use Rattle.xhstt_completion.proofs.PartFacts.{IsPart, parts-are, parts-last, parts-few, fixed-starts}
use Rattle.xhstt_completion.proofs.Pieces.{All-filter, All-numbered, All-slotted, IsSlotted, filter-picks, map-pieces}
use Rattle.xhstt_completion.proofs.Pieces.{Rises, Rises-append, Rises-strictly}
use Rattle.xhstt_completion.proofs.WellMadeLemmas.{event-made}
use Rattle.xhstt_shape.specs.declared.records.RawEntry.{RawEntry}
use Rattle.xhstt_shape.specs.declared.records.RawGiven.{RawGiven}

-- ---- slots

-- the first slots of later events come later
later-first : (next : ℕ) (events : List EventInfo) (e : ℕ) (event : EventInfo) → AreFirstMeets next events
    → slice_get events e ≡ Some event → next ≤ event.first_meet
later-first next [] e event h at = cc
later-first next (x ∷ xs) zero event h at =
    let first : event.first_meet ≡ next = ap (λ (y : EventInfo). y.first_meet) (sym (same_Some x event at)) ∙ h.0 in
    omega (arith, first)
later-first next (x ∷ xs) (suc e) event h at = omega (arith, later-first (next + x.duration) xs e event h.1 at)

-- a slot is one of one event
slot-unique : (next : ℕ) (events : List EventInfo) (d e slot : ℕ) → AreFirstMeets next events → HasSlot events d slot
    → HasSlot events e slot → d ≡ e
slot-unique next [] d e slot h (x, at, from, to) other = cc
slot-unique next (y ∷ ys) zero zero slot h one other = refl
slot-unique next (y ∷ ys) zero (suc e) slot h (x, at, from, to) (z, at_z, from_z, to_z) =
    let same = same_Some y x at in
    let first : x.first_meet ≡ next = ap (λ (w : EventInfo). w.first_meet) (sym same) ∙ h.0 in
    let long : x.duration ≡ y.duration = ap (λ (w : EventInfo). w.duration) (sym same) in
    absurd (omega (arith, later-first (next + y.duration) ys e z h.1 at_z))
slot-unique next (y ∷ ys) (suc d) zero slot h (x, at, from, to) (z, at_z, from_z, to_z) =
    let same = same_Some y z at_z in
    let first : z.first_meet ≡ next = ap (λ (w : EventInfo). w.first_meet) (sym same) ∙ h.0 in
    let long : z.duration ≡ y.duration = ap (λ (w : EventInfo). w.duration) (sym same) in
    absurd (omega (arith, later-first (next + y.duration) ys d x h.1 at))
slot-unique next (y ∷ ys) (suc d) (suc e) slot h one other =
    ap (λ n. suc n) (slot-unique (next + y.duration) ys d e slot h.1 one other)

-- ---- the meets of an event

durations-at : (e n : ℕ) (parts : List Part) → sum_by (λ m. m.duration) (map (meet_of e) (enumerate_from n parts))
    ≡ sum_by (λ x. x.duration) parts
durations-at e n [] = refl
durations-at e n (x ∷ xs) =
    sum_by-cons (λ (m : Meet). m.duration) (meet_of e (n, x)) (map (meet_of e) (enumerate_from (n + 1) xs))
    ∙ ap (λ k. x.duration + k) (durations-at e (n + 1) xs)
    ∙ sym (sum_by-cons (λ (y : Part). y.duration) x xs)

starts-at : (e n : ℕ) (parts : List Part) → map (λ m. m.start) (map (meet_of e) (enumerate_from n parts))
    ≡ map (λ x. x.start) parts
starts-at e n [] = refl
starts-at e n (x ∷ xs) = ap (λ r. x.start ∷ r) (starts-at e (n + 1) xs)

numbers-rise : (e n high : ℕ) (parts : List Part) → n + length parts ≤ high
    → Rises n (map (λ m. m.meet.0) (map (meet_of e) (enumerate_from n parts))) high
numbers-rise e n high [] h = omega arith
numbers-rise e n high (x ∷ xs) h = (omega arith, numbers-rise e (n + 1) high xs (omega arith))

-- all slots rise
all-rise : (f : ℕ × EventInfo → List Meet) (next high e : ℕ) (events : List EventInfo) → AreFirstMeets next events
    → next + sum_by (λ x. x.duration) events ≤ high
    → All (λ q. Rises q.1.first_meet (map (λ m. m.meet.0) (f q)) (q.1.first_meet + q.1.duration))
    (enumerate_from e events)
    → Rises next (map (λ m. m.meet.0) (flat_map f (enumerate_from e events))) high
all-rise f next high e [] h l all = omega arith
all-rise f next high e (x ∷ xs) h l all =
    let R : ℕ × EventInfo → Type 0 = λ q. Rises q.1.first_meet (map (λ (m : Meet). m.meet.0) (f q))
    (q.1.first_meet + q.1.duration) in
    let own : Rises x.first_meet (map (λ (m : Meet). m.meet.0) (f (e, x))) (x.first_meet + x.duration) =
    All-head R (e, x) (enumerate_from (e + 1) xs) all in
    let first : Rises next (map (λ (m : Meet). m.meet.0) (f (e, x))) (next + x.duration) =
    subst (λ n. Rises n (map (λ (m : Meet). m.meet.0) (f (e, x))) (n + x.duration)) h.0 own
    in
    let rest = all-rise f (next + x.duration) high (e + 1) xs h.1
    (omega (arith, sum_by-cons (λ (y : EventInfo). y.duration) x xs))
    (All-tail R (e, x) (enumerate_from (e + 1) xs) all) in
    subst (λ ns. Rises next ns high) (sym (map-append (λ (m : Meet). m.meet.0) (f (e, x))
    (flat_map f (enumerate_from (e + 1) xs))))
    (Rises-append next (next + x.duration) high (map (λ (m : Meet). m.meet.0) (f (e, x)))
    (map (λ (m : Meet). m.meet.0) (flat_map f (enumerate_from (e + 1) xs))) first rest)

-- ---- tasks

-- the tasks of a part are those of its meet
task-ids : (p : Parts) (slot n : ℕ) (given : List RawGiven) (places : List Place)
    → map (λ t. t.task) (map (task_of p slot given) (enumerate_from n places))
    ≡ map (λ k. record { meet = record { 0 = slot }; place = k }) (range_with_len n (length places))
task-ids p slot n given [] = refl
task-ids p slot n given (x ∷ xs) = ap (λ (r : List TaskId). record { meet = record { 0 = slot }; place = n } ∷ r)
    (task-ids p slot (n + 1) given xs)

ids-at : (p : Parts) (e : ℕ) (event : EventInfo) (q : ℕ × Part) → slice_get p.events e ≡ Some event
    → map (λ t. t.task) (tasks_of p event q) ≡ flat_map (states.tasks_of p) (meet_of e q ∷ [])
ids-at p e event (slot, part) there =
    let many : places_at p.events e ≡ length event.places =
    ap (λ o. option_map_or (λ (x : EventInfo). length x.places) o 0) there in
    let ids : ℕ → List TaskId = λ n. map (λ k. record { meet = record { 0 = slot }; place = k }) (range_with_len 0 n) in
    task-ids p slot 0 part.given event.places ∙ ap ids (sym many) ∙ sym (append-nil (ids (places_at p.events e)))

-- a task with a meet
abbrev duty_of : Meet → Task → Duty
duty_of m t = record { meet = m; place = t.task.place; resource = t.resource }

-- a task stands in a slot of an event, and with each meet of that event its resource is right
record Fills (p : Parts) (t : Task) : Type 0 where
  number : ℕ
  slot : HasSlot p.events number t.task.meet.0
  given : (m : Meet) → m.event.0 ≡ number → IsGiven p (duty_of m t)
  kept : (m : Meet) → m.event.0 ≡ number → IsKept p (duty_of m t)

fixed-first : (f other : Option ResourceId) → IfSome f (λ r. option_or f other ≡ Some r)
fixed-first None other = tt
fixed-first (Some r) other = refl

task-fills : (p : Parts) (e : ℕ) (event : EventInfo) (q : ℕ × Part) (k : ℕ) (place : Place)
    → slice_get p.events e ≡ Some event → slice_get event.places k ≡ Some place
    → IsSlotted (IsPart p event) event.first_meet (event.first_meet + event.duration) q
    → Fills p (task_of p q.0 (q.1).given (k, place))
task-fills p e event (slot, part) k place there at slotted =
    let t : Task = task_of p slot part.given (k, place) in
    let found : (m : Meet) → m.event.0 ≡ e → place_of p (duty_of m t) ≡ Some place = λ m h.
    ap (λ n. option_and_then (λ (x : EventInfo). slice_get x.places k) (slice_get p.events n)) h
    ∙ ap (option_and_then (λ (x : EventInfo). slice_get x.places k)) there ∙ at
    in
    record {
      number = e;
      slot = (event, there, slotted.after, slotted.before);
      given = λ m h. subst (λ o. IfSome o (λ x. IfSome (resource_at p part.given place) (HasType p x.rtype)))
          (sym (found m h)) (slotted.holds.typed k place at);
      kept = λ m h. subst (λ o. IfSome o (λ x. IfSome x.fixed (λ r. resource_at p part.given place ≡ Some r)))
          (sym (found m h)) (fixed-first place.fixed _);
    }

-- ---- the whole state

-- what is known of one event
record IsReady (p : Parts) (entries : List RawEntry) (e : ℕ) (event : EventInfo) : Type 0 where
  made : IsEvent p event
  named : All (IsEntry p) (entries_of p e entries)
  fit : AreFit p event 0 (entries_of p e entries)
  slotted : All (IsSlotted (IsPart p event) event.first_meet (event.first_meet + event.duration))
      (slotted_parts p entries (e, event))

ready : (p : Parts) (entries : List RawEntry) → AreWellMade p → All (IsEntry p) entries
    → first_cause p [] entries ≡ None
    → (e : ℕ) (event : EventInfo) → slice_get p.events e ≡ Some event → IsReady p entries e event
ready p entries made all none e event there =
    let own = event-made p e event made there in
    let named : All (IsEntry p) (entries_of p e entries) =
    All-filter _ (IsEntry p) (IsEntry p) entries (λ x is h. is) all in
    let fit = entries-fit p e event there [] entries none in
    record {
      made = own;
      named = named;
      fit = fit;
      slotted = All-slotted (IsPart p event) event.first_meet event.first_meet (event.first_meet + event.duration)
          (event_parts p entries (e, event)) (omega arith)
          (let few = parts-few p event (entries_of p e entries) own named fit in omega (arith, few))
          (parts-are p event (entries_of p e entries) own named fit);
    }

module _ (p : Parts) (entries : List RawEntry) (made : AreWellMade p) (all : All (IsEntry p) entries)
    (none : first_cause p [] entries ≡ None) where
  here : (Q : ℕ × EventInfo → Type 0) → ((e : ℕ) (event : EventInfo) → slice_get p.events e ≡ Some event
      → IsReady p entries e event → Q (e, event)) → All Q (enumerate_from 0 p.events)
  here Q h = All-numbered Q 0 p.events (λ e event there. subst (λ n. Q (n, event)) (sym (zero-add e))
      (h e event there (ready p entries made all none e event there)))

  meets-are : All (IsMeet p) (state_of p entries).meets
  meets-are = All-flat_map (IsMeet p) (meets_at p entries) (enumerate_from 0 p.events)
      (here (λ q. All (IsMeet p) (meets_at p entries q)) (λ e event there facts.
      All-map (IsMeet p) (meet_of e) (slotted_parts p entries (e, event))
      (All-weaker (IsSlotted (IsPart p event) event.first_meet (event.first_meet + event.duration))
      (λ q. IsMeet p (meet_of e q))
      (λ q s. record { slot = (event, there, s.after, s.before); duration = s.holds.lasts; ends = s.holds.ends })
      (slotted_parts p entries (e, event)) facts.slotted)))

  tasks-fill : All (Fills p) (state_of p entries).tasks
  tasks-fill = All-flat_map (Fills p) (tasks_at p entries) (enumerate_from 0 p.events)
      (here (λ q. All (Fills p) (tasks_at p entries q)) (λ e event there facts.
      All-flat_map (Fills p) (tasks_of p event) (slotted_parts p entries (e, event))
      (All-weaker (IsSlotted (IsPart p event) event.first_meet (event.first_meet + event.duration))
      (λ q. All (Fills p) (tasks_of p event q))
      (λ q s. All-map (Fills p) (task_of p q.0 (q.1).given) (enumerate_from 0 event.places)
      (All-numbered (λ r. Fills p (task_of p q.0 (q.1).given r)) 0 event.places
      (λ k place at. subst (λ n. Fills p (task_of p q.0 (q.1).given (n, place))) (sym (zero-add k))
      (task-fills p e event q k place there at s))))
      (slotted_parts p entries (e, event)) facts.slotted)))

  duties-are : (D : Duty → Type 0) → ((m : Meet) (t : Task) (fills : Fills p t) → m.event.0 ≡ fills.number
      → D (duty_of m t)) → All D (duties (state_of p entries).meets (state_of p entries).tasks)
  duties-are D right =
      let tasks = (state_of p entries).tasks in
      All-flat_map D (λ (m : Meet). map (duty_of m) (filter (λ t. t.task.meet.0 == m.meet.0) tasks))
      (state_of p entries).meets
      (All-weaker (IsMeet p) (λ m. All D (map (duty_of m) (filter (λ t. t.task.meet.0 == m.meet.0) tasks)))
      (λ m is. All-map D (duty_of m) (filter (λ t. t.task.meet.0 == m.meet.0) tasks)
      (All-filter (λ t. t.task.meet.0 == m.meet.0) (Fills p) (λ t. D (duty_of m t)) tasks
      (λ t fills same. right m t fills
      (slot-unique 0 p.events m.event.0 fills.number m.meet.0 made.first_meets is.slot
      (subst (HasSlot p.events fills.number) (eqb-true t.task.meet.0 m.meet.0 same) fills.slot)))
      tasks-fill))
      (state_of p entries).meets meets-are)

  ascending : IsStrictlyIncreasing (map (λ m. m.meet.0) (state_of p entries).meets)
  ascending = Rises-strictly 0 (0 + sum_by (λ x. x.duration) p.events) (map (λ m. m.meet.0) (state_of p entries).meets)
      (all-rise (meets_at p entries) 0 (0 + sum_by (λ x. x.duration) p.events) 0 p.events made.first_meets (omega arith)
      (here (λ q. Rises q.1.first_meet (map (λ m. m.meet.0) (meets_at p entries q)) (q.1.first_meet + q.1.duration))
      (λ e event there facts.
      numbers-rise e event.first_meet (event.first_meet + event.duration) (event_parts p entries (e, event))
      (let few = parts-few p event (entries_of p e entries) facts.made facts.named facts.fit in omega (arith, few)))))

  -- the meets of an event are those of its parts
  own-meets : (e : ℕ) (event : EventInfo) → slice_get p.events e ≡ Some event
      → meets_of e (state_of p entries).meets ≡ meets_at p entries (e, event)
  own-meets e event there = filter-picks (λ m. m.event.0 == e) (meets_at p entries) e
      (λ x. filter-all (λ m. m.event.0 == e) (meets_at p entries (e, x))
      (All-map (λ m. (m.event.0 == e) ≡ true) (meet_of e) (slotted_parts p entries (e, x))
      (λ k d l. eq-eqb e e refl)))
      (λ k x other. filter-none (λ m. m.event.0 == e) (meets_at p entries (k, x))
      (All-map (λ m. (m.event.0 == e) ≡ false) (meet_of k) (slotted_parts p entries (k, x))
      (λ i d l. ne_eqb k e other)))
      0 e p.events event (zero-add e) there

  whole : (e : ℕ) (event : EventInfo) → slice_get p.events e ≡ Some event
      → sum_by (λ m. m.duration) (meets_of e (state_of p entries).meets) ≡ event.duration
  whole e event there =
      let facts = ready p entries made all none e event there in
      ap (sum_by (λ (m : Meet). m.duration)) (own-meets e event there)
      ∙ durations-at e event.first_meet (event_parts p entries (e, event))
      ∙ parts-last p event (entries_of p e entries) facts.fit

  fixed : (e : ℕ) (event : EventInfo) → slice_get p.events e ≡ Some event
      → IfSome event.fixed (λ t. map (λ m. m.start) (meets_of e (state_of p entries).meets) ≡ Some t ∷ [])
  fixed e event there = by event.fixed refl
    where
      by : (o : Option TimeId) → event.fixed ≡ o → IfSome o
          (λ t. map (λ m. m.start) (meets_of e (state_of p entries).meets) ≡ Some t ∷ [])
      by None is = tt
      by (Some t) is =
          let facts = ready p entries made all none e event there in
          ap (map (λ (m : Meet). m.start)) (own-meets e event there)
          ∙ starts-at e event.first_meet (event_parts p entries (e, event))
          ∙ fixed-starts p event (entries_of p e entries) t facts.made facts.named facts.fit is

  tasks-own : map (λ t. t.task) (state_of p entries).tasks ≡ flat_map (states.tasks_of p) (state_of p entries).meets
  tasks-own = map-pieces (λ (t : Task). t.task) (states.tasks_of p) (tasks_at p entries) (meets_at p entries)
      (enumerate_from 0 p.events)
      (here (λ q. map (λ (t : Task). t.task) (tasks_at p entries q)
      ≡ flat_map (states.tasks_of p) (meets_at p entries q)) (λ e event there facts.
      map-pieces (λ (t : Task). t.task) (states.tasks_of p) (tasks_of p event) (λ q. meet_of e q ∷ [])
      (slotted_parts p entries (e, event)) (λ k d l. ids-at p e event
      (get_or (slotted_parts p entries (e, event)) k d) there)
      ∙ ap (flat_map (states.tasks_of p)) (flat_map_single (meet_of e) (slotted_parts p entries (e, event)))))

  pub state-valid : IsValid p (state_of p entries)
  state-valid = record {
    told = record {
      meets = meets-are;
      ascending = ascending;
      durations = λ e event there. let same = whole e event there in omega (arith, same);
      tasks = tasks-own;
      given = duties-are (IsGiven p) (λ m t fills same. fills.given m same);
    };
    events = λ e event there. record { whole = whole e event there; fixed = fixed e event there };
    kept = duties-are (IsKept p) (λ m t fills same. fills.kept m same);
    detached = All-nil (λ m. m.0 < length p.monitors);
    detached_once = λ k h. absurd (omega arith);
    groups = All-nil (IsGroup p);
    groups_once = λ k h. absurd (omega arith);
  }
