-- No state costs more than the limits allow.
use Rattle.std.proofs.Common.{ℕ, ◌≡◌, ◌≤◌, Bool, true, cond, Option, Some, None, List, length}
use Rattle.std.proofs.Common.{map, get_or, slice_get, refl, sym, ap, subst, ◌∙◌, arith, inl, inr, zero-add}
use Rattle.std.specs.Prelude.{not}
use Rattle.std.specs.List.{range_with_len, sum_by}
use Rattle.std.specs.Option.{option_map_or}
use Rattle.std.proofs.lemmas.Bool.{cases_lt, cond_both}
use Rattle.std.proofs.lemmas.List.{get_or-map, get_or_past, length-map}
use Rattle.std.proofs.lemmas.List.FromFn.{get_or-map-range_with_len, length-map-range_with_len, length-range_with_len}
use Rattle.std.proofs.lemmas.List.Sums.{sum_by-le}
use Rattle.std.proofs.lemmas.Option.{get_or_from_slice_get}
use Rattle.khe_engine.specs.Small.{AreSmall, AreUpTo, AreWithin, CostsLittle}
use Rattle.khe_base.proofs.ListLemmas.{all-there, there}
use Rattle.khe_base.specs.Costs.{cost_of}
use Rattle.khe_base.specs.declared.limits.TheConstants.{GREATEST_COST, GREATEST_DEVIATION, GREATEST_TOTAL, MONITORS}
use Rattle.khe_base.specs.declared.numbers.MonitorId.{MonitorId}
use Rattle.khe_engine.specs.States.{State, state_of}
use Rattle.khe_engine.specs.Values as engine
use Rattle.khe_engine.specs.Values.{HasValues, deviations_in}
use Rattle.khe_instance.proofs.DeviationBounds.{deviation_small}
use Rattle.khe_instance.specs.Costs.{cost_at, costs_of, is_hard_at, monitor_cost, totals_among}
use Rattle.khe_instance.specs.Deviation.{deviation}
use Rattle.khe_instance.specs.Evaluated as evaluated
use Rattle.khe_instance.specs.Running.{duties}
use Rattle.khe_instance.specs.States.{AreOfState, IsTold}
use Rattle.khe_instance.specs.WellMade.{AreWellMade, IsConstraint, IsMonitor}
use Rattle.khe_instance.specs.declared.parts.Parts.{Parts}
use Rattle.khe_instance.specs.declared.points.Monitor.{Monitor}
use Rattle.khe_instance.specs.declared.rules.Constraint.{Constraint}
use Rattle.khe_instance.specs.declared.states.Duty.{Duty}
use Rattle.khe_instance.specs.declared.states.Meet.{Meet}
use Rattle.khe_instance.specs.declared.states.Plain.{Plain}
use Rattle.khe_told.proofs.DutyLaws.{duties_listed}
use Rattle.khe_told.proofs.FrameLaws.{told_from}
use Rattle.khe_told.proofs.ValidLaws.{listed_told}
use Rattle.khe_told.specs.Fits.{AreTold}
use Rattle.khe_told.specs.Lists.{duties_in, meets_in, tasks_in}
use Rattle.khe_told.specs.Valid.{AreValid}
use Rattle.khe_told.specs.declared.slots.Slot.{Slot}
use Rattle.monitor_graph.proofs.LineLaws.{line_small}
use Rattle.monitor_graph.proofs.SeatLaws.{few_is}
use Rattle.monitor_graph.proofs.ValueLaws.{as_many}
use Rattle.monitor_graph.specs.Boards.{Board}
use Rattle.monitor_graph.specs.Edits.{is_attached}
use Rattle.monitor_graph.specs.Groups.{AreGroups, children_at}

-- the deviations of all monitors, of these meets and duties
deviations_small : (p : Parts) (ms : List Meet) (ds : List Duty) → AreWellMade p → AreOfState p ms ds
    → AreUpTo GREATEST_DEVIATION (map (deviation p ms ds) p.monitors)
deviations_small p ms ds made of n = elim (cases_lt n (length p.monitors)) [
  | inl l ↦ let t = there p.monitors n l in
      let m = t.value in
      let own : get_or (map (deviation p ms ds) p.monitors) n 0 ≡ deviation p ms ds m =
      get_or-map (deviation p ms ds) p.monitors n m 0 l
      ∙ ap (deviation p ms ds) (get_or_from_slice_get p.monitors n m m t.found) in
      subst (λ k. k ≤ GREATEST_DEVIATION) (sym own)
      (deviation_small p ms ds m made of (all-there (IsMonitor p) p.monitors n m made.monitors.each t.found))
  | inr h ↦ let many = length-map p.monitors (deviation p ms ds) in
      subst (λ k. k ≤ GREATEST_DEVIATION)
      (sym (get_or_past (map (deviation p ms ds) p.monitors) n 0 (omega (arith, h, many)))) (omega arith)
]

-- what a monitor costs by its deviation
monitor_small : (p : Parts) (detached : Bool) (m : Monitor) (d : ℕ) → AreWellMade p → d ≤ GREATEST_DEVIATION
    → monitor_cost p detached m d ≤ GREATEST_COST
monitor_small p detached m d made l =
    cond_both detached 0 (option_map_or (λ (c : Constraint). cost_of c.cost c.weight d)
    (slice_get p.constraints m.constraint) 0)
    (λ n. n ≤ GREATEST_COST) (λ e. omega arith) (λ e. at_constraint (slice_get p.constraints m.constraint) refl)
  where
    at_constraint : (o : Option Constraint) → slice_get p.constraints m.constraint ≡ o
        → option_map_or (λ (c : Constraint). cost_of c.cost c.weight d) o 0 ≤ GREATEST_COST
    at_constraint None e = omega arith
    at_constraint (Some c) e =
        let is = all-there (IsConstraint p) p.constraints m.constraint c made.constraints e in
        line_small (record {
          function = c.cost;
          weight = c.weight;
          required = true;
          attached = true;
          deviation = d;
        }) (is.weight, l)

-- the cost of each monitor, by deviations within the limit
costs_small : (p : Parts) (detached : ℕ → Bool) (deviations : List ℕ) → AreWellMade p
    → AreUpTo GREATEST_DEVIATION deviations → AreUpTo GREATEST_COST (costs_of p detached deviations)
costs_small p detached deviations made d n =
    let f = cost_at p detached deviations in
    let many = length-map-range_with_len f 0 (length p.monitors) in
    elim (cases_lt n (length p.monitors)) [
      | inl l ↦ subst (λ k. k ≤ GREATEST_COST)
          (sym (get_or-map-range_with_len f 0 (length p.monitors) n n 0 l (zero-add n)))
          (at_monitor (slice_get p.monitors n))
      | inr g ↦ subst (λ k. k ≤ GREATEST_COST)
          (sym (get_or_past (map f (range_with_len 0 (length p.monitors))) n 0 (omega (arith, g, many)))) (omega arith)
    ]
  where
    at_monitor : (o : Option Monitor)
        → option_map_or (λ (m : Monitor). monitor_cost p (detached n) m (get_or deviations n 0)) o 0 ≤ GREATEST_COST
    at_monitor None = omega arith
    at_monitor (Some m) = monitor_small p (detached n) m _ made (d n)

-- a sum over some monitors of costs or nothing
sum_small : (f : ℕ → ℕ) (numbers : List ℕ) → length numbers ≤ MONITORS → ((n : ℕ) → f n ≤ GREATEST_COST)
    → sum_by f numbers ≤ GREATEST_TOTAL
sum_small f numbers few h =
    let a = sum_by-le f GREATEST_COST numbers (λ k d l. h (get_or numbers k d)) in omega (arith, a, few)

-- the totals of some monitors
among_small : (p : Parts) (costs numbers : List ℕ) → AreUpTo GREATEST_COST costs → length numbers ≤ MONITORS
    → AreSmall (totals_among p costs numbers)
among_small p costs numbers c few = record {
  hard = sum_small (λ n. cond (is_hard_at p n) (get_or costs n 0) 0) numbers few
      (λ n. cond_both (is_hard_at p n) (get_or costs n 0) 0 (λ k. k ≤ GREATEST_COST) (λ b. c n) (λ b. omega arith));
  soft = sum_small (λ n. cond (is_hard_at p n) 0 (get_or costs n 0)) numbers few
      (λ n. cond_both (is_hard_at p n) 0 (get_or costs n 0) (λ k. k ≤ GREATEST_COST) (λ b. omega arith) (λ b. c n));
}

-- and of all
all_few : (p : Parts) → AreWellMade p → length (range_with_len 0 (length p.monitors)) ≤ MONITORS
all_few p made =
    let many : length (range_with_len 0 (length p.monitors)) ≡ length p.monitors =
    length-range_with_len 0 (length p.monitors) in
    let few = made.limits.monitors in omega (arith, many, few)

within : (p : Parts) (detached : ℕ → Bool) (ds : List ℕ) → AreWellMade p → AreUpTo GREATEST_DEVIATION ds
    → AreWithin ds (costs_of p detached ds)
    (totals_among p (costs_of p detached ds) (range_with_len 0 (length p.monitors)))
within p detached ds made d =
    let c = costs_small p detached ds made d in
    record {
      deviations_ = d;
      costs_ = c;
      totals_ =
          among_small p (costs_of p detached ds) (range_with_len 0 (length p.monitors)) c (all_few p made);
    }

pub timetables_little : (p : Parts) (s : Plain) → AreWellMade p → IsTold p s.meets s.tasks
    → AreWithin (evaluated.deviations p s) (evaluated.costs p s) (evaluated.totals p s)
timetables_little p s made told =
    let ds = duties s.meets s.tasks in
    let of : AreOfState p s.meets ds = record { tasks = s.tasks; told = told; same = refl } in
    within p (evaluated.is_detached s) (evaluated.deviations p s) made (deviations_small p s.meets ds made of)

pub states_little : (p : Parts) (s : State) → AreWellMade p → AreTold p s.slots
    → AreGroups (length p.monitors) s.grouping.groups → CostsLittle p s
unfolding deviations_in
states_little p s made told are_groups =
    let of : AreOfState p (meets_in s.slots) (duties_in s.slots) =
    record {
      tasks = tasks_in s.slots;
      told = listed_told p s.slots made.first_meets told;
      same = sym (duties_listed 0 s.slots (told_from p s.slots made.first_meets told.whose));
    } in
    let d = deviations_small p (meets_in s.slots) (duties_in s.slots) made of in
    let detached = λ (k : ℕ). not (is_attached s.grouping k) in
    let all = within p detached (map (deviation p (meets_in s.slots) (duties_in s.slots)) p.monitors) made d in
    record {
      all = all;
      groups = λ g. let xs = children_at s.grouping.groups g in
          let many : length (map (λ (c : MonitorId). c.0) xs) ≡ length xs = length-map xs (λ (c : MonitorId). c.0) in
          let few = few_is s.grouping.groups (length p.monitors) g are_groups in
          let most = made.limits.monitors in
          among_small p (engine.costs p s) (map (λ (c : MonitorId). c.0) xs) all.costs_
          (omega (arith, many, few, most));
    }

-- those of an engine, whose graph has a line for each monitor
pub engine_little : (p : Parts) (slots : List Slot) (b : Board) → AreWellMade p → AreValid p slots → HasValues p slots b
    → AreGroups (length b.lines) b.groups → CostsLittle p (state_of slots b)
engine_little p slots b made valid values groups =
    states_little p (state_of slots b) made valid.told
    (subst (λ n. AreGroups n b.groups) (as_many b p values.rates) groups)
