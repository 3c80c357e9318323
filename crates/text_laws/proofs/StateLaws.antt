-- What a state costs, its timetable costs; and what repair comes to is a timetable that stands whole.
use Rattle.std.proofs.Common.{ℕ, zero, suc, ◌≡◌, ◌<◌, ◌∙◌, refl, sym, ap, ap₂, subst, Bool, true, false, not, Option, Some}
use Rattle.std.proofs.Common.{None, List, [], map, length, slice_get, arith, ◌==◌, ◌+◌, ◌≤◌, nat_lt, take, drop, set}
use Rattle.std.specs.Prelude.{slice_index}
use Rattle.std.specs.List.{list_any, range_with_len}
use Rattle.std.specs.Option.{option_map_or}
use Rattle.std.proofs.lemmas.Bool.Decides.{nat_tests}
use Rattle.std.proofs.lemmas.List.Elements.{All-nil}
use Rattle.std.proofs.lemmas.List.FromFn.{get_or-map-range_with_len}
use Rattle.std.proofs.lemmas.Option.{slice_get_within}
use Rattle.ejection_repair.specs.Repaired.{repaired}
use Rattle.ejection_repair.proofs.EditLaws.{not_of_groups}
use Rattle.ejection_repair.proofs.KeptLaws.{Leads, move_is, repaired_good, same_grouping}
use Rattle.khe_base.proofs.ListLemmas.{there}
use Rattle.khe_base.specs.declared.numbers.MonitorId.{MonitorId}
use Rattle.khe_base.specs.declared.sums.Totals.{Totals}
use Rattle.khe_engine.proofs.StateLaws.{edited_meets}
use Rattle.khe_engine.specs.Openings.{IsStateOf, grouping_in}
use Rattle.khe_engine.specs.States.{State}
use Rattle.khe_engine.specs.Values as values
use Rattle.khe_instance.specs.Costs.{cost_at, monitor_cost, totals_of}
use Rattle.khe_instance.specs.Evaluated as evaluated
use Rattle.khe_instance.specs.Evaluated.{is_detached}
use Rattle.khe_instance.specs.Deviation.{deviation}
use Rattle.khe_instance.specs.Running.{duties}
use Rattle.khe_instance.specs.Lookups.{places_at}
use Rattle.khe_instance.specs.States.{IsGroup, IsTold, IsValid}
use Rattle.khe_instance.specs.WellMade.{AreWellMade}
use Rattle.khe_instance.specs.declared.parts.Parts.{Parts}
use Rattle.khe_instance.specs.declared.points.Monitor.{Monitor}
use Rattle.khe_instance.specs.declared.states.Meet.{Meet}
use Rattle.khe_instance.specs.declared.states.Plain.{Plain}
use Rattle.khe_instance.specs.declared.states.Task.{Task}
use Rattle.khe_solution.proofs.EditLaws.{edit_slots, edit_valid}
use Rattle.khe_solution.proofs.OpenLaws.{open_valid}
use Rattle.khe_told.proofs.DutyLaws.{duties_listed}
use Rattle.khe_told.proofs.FillingLaws.{IsAmid, amid_done, amid_more, amid_start, ready}
use Rattle.khe_told.proofs.FrameLaws.{told_from}
use Rattle.khe_told.proofs.PlainLaws.{told_listed}
use Rattle.khe_told.proofs.ValidLaws.{listed_valid, subst2}
use Rattle.khe_told.specs.Filled.{AreFilled, filled}
use Rattle.khe_told.specs.Lists.{duties_in, meets_in, tasks_in}
use Rattle.khe_told.specs.Slots.{no_meets, slot_at}
use Rattle.khe_told.specs.Valid.{AreValid}
use Rattle.khe_told.specs.declared.slots.Slot.{Slot}
use Rattle.monitor_graph.specs.Edits.{is_attached}
use Rattle.monitor_graph.specs.Opened.{groups_in}

-- deviations
same_deviations : (p : Parts) (plain : Plain) (s : State) → AreWellMade p → IsStateOf p plain s
    → values.deviations_in p s.slots ≡ evaluated.deviations p plain
unfolding values.deviations_in
same_deviations p plain s made is =
    let listed = duties_listed 0 s.slots (told_from p s.slots made.first_meets is.told.whose) in
    let same : duties_in s.slots ≡ duties plain.meets plain.tasks = sym listed ∙ ap₂ duties is.meets is.tasks in
    λ i. map (λ m. deviation p (is.meets i) (same i) m) p.monitors

-- a monitor is attached where it is not detached
unnot : (b : Bool) → not (not b) ≡ b
unnot true = refl
unnot false = refl

attached_alike : (p : Parts) (plain : Plain) (s : State) (n : ℕ) → IsStateOf p plain s → n < length p.monitors
    → not (is_attached s.grouping n) ≡ is_detached plain n
attached_alike p plain s n is l =
    ap (λ g. not (is_attached g n)) is.grouping
    ∙ ap not (get_or-map-range_with_len (λ k. not (is_detached plain k)) 0 (length p.monitors) n n false l
    (let z : 0 + n ≡ n = omega arith in z))
    ∙ unnot (is_detached plain n)

same_cost : (p : Parts) (plain : Plain) (s : State) (ds : List ℕ) (n : ℕ) → IsStateOf p plain s
    → cost_at p (λ k. not (is_attached s.grouping k)) ds n ≡ cost_at p (is_detached plain) ds n
same_cost p plain s ds n is = by (slice_get p.monitors n) refl
  where
    by : (o : Option Monitor) → slice_get p.monitors n ≡ o
        → option_map_or (λ m. monitor_cost p (not (is_attached s.grouping n)) m (slice_index ds n)) o 0
        ≡ option_map_or (λ m. monitor_cost p (is_detached plain n) m (slice_index ds n)) o 0
    by None e = refl
    by (Some m) e =
        ap (λ b. monitor_cost p b m (slice_index ds n))
        (attached_alike p plain s n is (slice_get_within p.monitors n m e))

-- costs and totals
pub same_totals : (p : Parts) (plain : Plain) (s : State) → AreWellMade p → IsStateOf p plain s
    → values.totals p s ≡ evaluated.totals p plain
same_totals p plain s made is =
    let costs : values.costs p s ≡ evaluated.costs p plain =
    (λ i. map (λ n. same_cost p plain s (values.deviations_in p s.slots) n is i) (range_with_len 0 (length p.monitors)))
    ∙ (λ i. map (cost_at p (is_detached plain) (same_deviations p plain s made is i))
    (range_with_len 0 (length p.monitors))) in
    ap (totals_of p) costs

-- the slots of what repair comes to
leads_valid : (p : Parts) → Leads p (λ u. AreValid p u.slots)
leads_valid p u m e v among =
    let move = move_is p u.slots m e among in
    let same = edit_slots p u.slots e v move.1 move.0
    ∙ sym (ap (λ (x : State). x.slots) (edited_meets u e (not_of_groups e move.1))) in
    subst (AreValid p) same (edit_valid p u.slots e v move.1 move.0)

pub repaired_valid : (p : Parts) (plain : Plain) (s : State) (depth budget v : ℕ) → AreWellMade p → IsValid p plain
    → IsStateOf p plain s → AreValid p (repaired p s depth budget v).state.slots
repaired_valid p plain s depth budget v made valid is =
    repaired_good p (λ u. AreValid p u.slots) (leads_valid p) s depth budget v
    (open_valid p s.slots plain made is.told is.meets is.tasks valid)

-- the same meets and tasks, with all monitors attached and no groups
abbrev pub cleared : Plain → Plain
cleared s = record s { detached = []; groups = [] }

-- which the slots of a state list
pub record AreListed (u : State) (left : Plain) : Type 0 where
  pub meets : meets_in u.slots ≡ left.meets
  pub tasks : tasks_in u.slots ≡ left.tasks

pub cleared_valid : (p : Parts) (left : Plain) (u : State) → AreWellMade p → AreValid p u.slots → AreListed u left
    → IsValid p (cleared left)
cleared_valid p left u made v is =
    listed_valid p u.slots (cleared left) made v (sym is.meets) (sym is.tasks) (record {
      detached = All-nil (λ m. m.0 < length p.monitors);
      detached_once = λ k h. absurd (omega arith);
      groups = All-nil (IsGroup p);
      groups_once = λ k h. absurd (omega arith);
    })

pub cleared_state : (p : Parts) (old left : Plain) (u : State) → AreValid p u.slots → AreListed u left
    → u.grouping ≡ grouping_in p old → old.detached ≡ [] → old.groups ≡ [] → IsStateOf p (cleared left) u
cleared_state p old left u v is same whole single = record {
  told = v.told;
  meets = is.meets;
  tasks = is.tasks;
  grouping = same ∙ (λ i. record {
    attached = map (λ n. not (list_any (λ (d : MonitorId). d.0 == n) (whole i))) (range_with_len 0 (length p.monitors));
    groups = groups_in (single i);
  });
}

-- what a repair leaves, as a timetable that stands whole
pub record IsLeft (p : Parts) (left : Plain) (totals : Totals) : Type 0 where
  pub valid : IsValid p (cleared left)
  pub costs : totals ≡ evaluated.totals p (cleared left)

pub left_by : (p : Parts) (plain left : Plain) (s : State) (depth budget v : ℕ) (totals : Totals) → AreWellMade p
    → IsValid p plain → plain.detached ≡ [] → plain.groups ≡ [] → IsStateOf p plain s
    → AreListed (repaired p s depth budget v).state left
    → totals ≡ values.totals p (repaired p s depth budget v).state → IsLeft p left totals
left_by p plain left s depth budget v totals made valid whole single begins is e =
    let u = (repaired p s depth budget v).state in
    let good = repaired_valid p plain s depth budget v made valid begins in
    let listed = cleared_state p plain left u good is (same_grouping p s depth budget v ∙ begins.grouping) whole single in
    record {
      valid = cleared_valid p left u made good is;
      costs = e ∙ same_totals p (cleared left) u made listed;
    }

-- a told timetable is that of a state
module _ (p : Parts) (ms : List Meet) (ts : List Task) (made : AreWellMade p) (told : IsTold p ms ts) where
  -- the first i meets and their tasks are in their slots, and at most k meets are to come
  filled_from : (k i next : ℕ) (s : List Slot) → IsAmid p ms ts s i next → length ms ≤ i + k
      → (t : List Slot) × AreFilled p ms ts t
  filled_from zero i next s h l = (s, amid_done p ms ts s i next (omega (arith, l)) h)
  filled_from (suc k) i next s h l = by (filled_from k) (nat_lt i (length ms)) refl
    where
      by : ((j later : ℕ) (t : List Slot) → IsAmid p ms ts t j later → length ms ≤ j + k
          → (u : List Slot) × AreFilled p ms ts u) → (b : Bool) → nat_lt i (length ms) ≡ b
          → (t : List Slot) × AreFilled p ms ts t
      by go false e = (s, amid_done p ms ts s i next (grind (arith, nat_tests)) h)
      by go true e =
          let within : i < length ms = grind (arith, nat_tests) in
          let at = there ms i within in
          let m = at.value in
          let places = places_at p.events m.event.0 in
          let r = ready p ms ts s i next m made.first_meets told h at.found in
          go (i + 1) (next + places)
          (set s m.meet.0 (filled (slot_at s m.meet.0) m (take places (drop next ts))))
          (amid_more p ms ts s (set s m.meet.0 (filled (slot_at s m.meet.0) m (take places (drop next ts)))) i next places m
          told h at.found r refl)
          (omega (arith, l))

  all_filled : (t : List Slot) × AreFilled p ms ts t
  all_filled = filled_from (length ms) 0 0 (no_meets p) (amid_start p ms ts (no_meets p) refl told) (omega arith)

pub state_there : (p : Parts) (plain : Plain) → AreWellMade p → IsTold p plain.meets plain.tasks
    → (s : State) × IsStateOf p plain s
state_there p plain made told =
    let f = all_filled p plain.meets plain.tasks made told in
    let same : IsTold p (meets_in f.0) (tasks_in f.0) = subst2 (IsTold p) (sym f.1.meets) (sym f.1.tasks) told in (
      record { slots = f.0; grouping = grouping_in p plain },
      record {
        told = told_listed p f.0 made.first_meets f.1.whose f.1.bare same;
        meets = f.1.meets;
        tasks = f.1.tasks;
        grouping = refl;
      },
    )
