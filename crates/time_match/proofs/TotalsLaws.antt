-- No state of a timetable costs more than the limits allow.
use Rattle.std.proofs.Common.{ℕ, ◌≡◌, ◌≤◌, Bool, true, cond, Option, Some, None, List, length}
use Rattle.std.proofs.Common.{map, get_or, slice_get, refl, sym, ap, subst, ◌∙◌, arith, inl, inr, zero-add}
use Rattle.std.specs.Prelude.{not}
use Rattle.std.specs.List.{range_with_len, sum_by}
use Rattle.std.specs.Option.{option_map_or}
use Rattle.std.proofs.lemmas.Bool.{cases_lt, cond_both}
use Rattle.std.proofs.lemmas.List.{get_or-map, get_or_past}
use Rattle.std.proofs.lemmas.List.FromFn.{get_or-map-range_with_len, length-map-range_with_len, length-range_with_len}
use Rattle.std.proofs.lemmas.List.Sums.{sum_by-le}
use Rattle.std.proofs.lemmas.Option.{get_or_from_slice_get, slice_get_within}
use Rattle.khe_base.proofs.ListLemmas.{all-there}
use Rattle.khe_base.specs.Costs.{cost_of}
use Rattle.khe_base.specs.declared.limits.TheConstants.{GREATEST_COST, GREATEST_DEVIATION, GREATEST_TOTAL}
use Rattle.khe_engine.specs.States.{State, edited}
use Rattle.khe_engine.specs.Values.{costs, deviations_in, totals}
use Rattle.khe_engine.proofs.StateLaws.{edited_meets, one_sort}
use Rattle.khe_base.specs.declared.numbers.ResourceId.{ResourceId}
use Rattle.khe_base.specs.declared.numbers.TaskId.{TaskId}
use Rattle.khe_instance.specs.Costs.{cost_at, is_hard_at, monitor_cost}
use Rattle.khe_instance.specs.States.{AreOfState}
use Rattle.khe_instance.specs.WellMade.{AreWellMade, IsConstraint, IsMonitor}
use Rattle.khe_instance.specs.declared.parts.Parts.{Parts}
use Rattle.khe_instance.specs.declared.points.Monitor.{Monitor}
use Rattle.khe_instance.specs.declared.rules.Constraint.{Constraint}
use Rattle.khe_instance.proofs.DeviationBounds.{deviation_small}
use Rattle.khe_told.specs.Agreement.{deviation_in}
use Rattle.khe_told.specs.Fits.{AreTold}
use Rattle.khe_told.specs.Lists.{duties_in, meets_in, tasks_in}
use Rattle.khe_told.specs.Valid.{AreValid}
use Rattle.khe_told.specs.declared.edits.Edit.{Edit}
use Rattle.khe_told.specs.declared.edits.Edit.TheVariants.{Give}
use Rattle.khe_told.specs.declared.slots.Slot.{Slot}
use Rattle.khe_solution.specs.Editing as editing
use Rattle.khe_solution.specs.Editing.{staffed}
use Rattle.khe_solution.specs.Refusing.{is_of_meets, refusal}
use Rattle.khe_solution.proofs.EditLaws.{edit_slots, edit_valid}
use Rattle.khe_told.proofs.FrameLaws.{told_from}
use Rattle.khe_told.proofs.DutyLaws.{duties_listed}
use Rattle.khe_told.proofs.ValidLaws.{listed_told}
use Rattle.monitor_graph.specs.Edits.{is_attached}
use Rattle.monitor_graph.proofs.LineLaws.{line_small}
use Rattle.resource_match.specs.Smallness.{IsSmall}
use Rattle.time_match.proofs.OpenLaws.{given_slots}

-- the deviation of each monitor of a told state
pub deviation_in_small : (p : Parts) (s : List Slot) (m : Monitor) → AreWellMade p → AreTold p s → IsMonitor p m
    → deviation_in p s m ≤ GREATEST_DEVIATION
deviation_in_small p s m made told is =
    let of : AreOfState p (meets_in s) (duties_in s) =
    record {
      tasks = tasks_in s;
      told = listed_told p s made.first_meets told;
      same = sym (duties_listed 0 s (told_from p s made.first_meets told.whose));
    } in
    deviation_small p (meets_in s) (duties_in s) m made of is

-- what a monitor costs by its deviation
monitor_small : (p : Parts) (detached : Bool) (m : Monitor) (d : ℕ) → AreWellMade p → d ≤ GREATEST_DEVIATION
    → monitor_cost p detached m d ≤ GREATEST_COST
monitor_small p detached m d made l =
    cond_both detached 0 (option_map_or (λ (c : Constraint). cost_of c.cost c.weight d)
    (slice_get p.constraints m.constraint) 0)
    (λ n. n ≤ GREATEST_COST) (λ e. omega arith) (λ e. at_constraint (slice_get p.constraints m.constraint) refl)
  where
    at_constraint : (o : Option Constraint) → slice_get p.constraints m.constraint ≡ o
        → option_map_or (λ (c : Constraint). cost_of c.cost c.weight d) o 0 ≤ GREATEST_COST
    at_constraint None e = omega arith
    at_constraint (Some c) e =
        let is = all-there (IsConstraint p) p.constraints m.constraint c made.constraints e in
        line_small (record {
          function = c.cost;
          weight = c.weight;
          required = true;
          attached = true;
          deviation = d;
        }) (is.weight, l)

-- the cost of the monitor with a number
cost_small : (p : Parts) (s : State) (detached : ℕ → Bool) (n : ℕ) → AreWellMade p → AreTold p s.slots
    → cost_at p detached (map (deviation_in p s.slots) p.monitors) n ≤ GREATEST_COST
cost_small p s detached n made told = at_monitor (slice_get p.monitors n) refl
  where
    f : Monitor → ℕ
    f = deviation_in p s.slots

    at_monitor : (o : Option Monitor) → slice_get p.monitors n ≡ o
        → option_map_or (λ (m : Monitor). monitor_cost p (detached n) m
        (get_or (map (deviation_in p s.slots) p.monitors) n 0)) o 0
        ≤ GREATEST_COST
    at_monitor None e = omega arith
    at_monitor (Some m) e =
        let l = slice_get_within p.monitors n m e in
        let is = all-there (IsMonitor p) p.monitors n m made.monitors.each e in
        let own : get_or (map (deviation_in p s.slots) p.monitors) n 0 ≡ deviation_in p s.slots m =
        get_or-map (deviation_in p s.slots) p.monitors n m 0 l
        ∙ ap (deviation_in p s.slots) (get_or_from_slice_get p.monitors n m m e) in
        let d = deviation_in_small p s.slots m made told is in
        monitor_small p (detached n) m _ made (subst (λ k. k ≤ GREATEST_DEVIATION) (sym own) d)

pub each_small : (p : Parts) (s : State) → AreWellMade p → AreTold p s.slots → (n : ℕ)
    → get_or (costs p s) n 0 ≤ GREATEST_COST
unfolding deviations_in
each_small p s made told n =
    let detached = λ (k : ℕ). not (is_attached s.grouping k) in
    let f = cost_at p detached (map (deviation_in p s.slots) p.monitors) in
    let many = length-map-range_with_len f 0 (length p.monitors) in
    elim (cases_lt n (length p.monitors)) [
      | inl l ↦ subst (λ k. k ≤ GREATEST_COST)
          (sym (get_or-map-range_with_len f 0 (length p.monitors) n n 0 l (zero-add n)))
          (cost_small p s detached n made told)
      | inr g ↦ subst (λ k. k ≤ GREATEST_COST)
          (sym (get_or_past (map f (range_with_len 0 (length p.monitors))) n 0 (omega (arith, g, many)))) (omega arith)
    ]

-- a sum over all monitors of costs or nothing
sum_small : (p : Parts) (f : ℕ → ℕ) → AreWellMade p → ((n : ℕ) → f n ≤ GREATEST_COST)
    → sum_by f (range_with_len 0 (length p.monitors)) ≤ GREATEST_TOTAL
sum_small p f made h =
    let numbers = range_with_len 0 (length p.monitors) in
    let a = sum_by-le f GREATEST_COST numbers (λ k d l. h (get_or numbers k d)) in
    let many : length numbers ≡ length p.monitors = length-range_with_len 0 (length p.monitors) in
    let few = made.limits.monitors in
    omega (arith, a, many, few)

pub totals_small : (p : Parts) (s : State) → AreWellMade p → AreTold p s.slots → IsSmall (totals p s)
totals_small p s made told =
    let c = costs p s in
    let e = each_small p s made told in
    record {
      hard = sum_small p (λ n. cond (is_hard_at p n) (get_or c n 0) 0) made
          (λ n. cond_both (is_hard_at p n) (get_or c n 0) 0 (λ k. k ≤ GREATEST_COST) (λ b. e n) (λ b. omega arith));
      soft = sum_small p (λ n. cond (is_hard_at p n) 0 (get_or c n 0)) made
          (λ n. cond_both (is_hard_at p n) 0 (get_or c n 0) (λ k. k ≤ GREATEST_COST) (λ b. omega arith) (λ b. e n));
    }

-- an edit that is accepted leaves a told state
told_after : (p : Parts) (s : State) (e : Edit) → AreValid p s.slots → is_of_meets e ≡ true
    → refusal p s.slots e ≡ None → AreTold p (edited s e).slots
told_after p s e valid ours accepted =
    let after : (edited s e).slots ≡ editing.edited s.slots e =
    ap (λ (x : State). x.slots) (edited_meets s e (one_sort e ours)) in
    let told = (subst (AreValid p) (edit_slots p s.slots e valid ours accepted)
    (edit_valid p s.slots e valid ours accepted)).told in
    subst (AreTold p) (sym after) told

-- a task that may be given a resource leaves a told state
pub staffed_told : (p : Parts) (s : State) (t : TaskId) (r : ResourceId) → AreWellMade p → AreValid p s.slots
    → refusal p s.slots (Give t r) ≡ None → AreTold p (staffed s.slots t (Some r))
staffed_told p s t r made valid accepted =
    subst (AreTold p) (given_slots s t r) (told_after p s (Give t r) valid refl accepted)

-- nor the state after an edit that is accepted
pub totals_small_after : (p : Parts) (s : State) (e : Edit) → AreWellMade p → AreValid p s.slots
    → is_of_meets e ≡ true → refusal p s.slots e ≡ None → IsSmall (totals p (edited s e))
totals_small_after p s e made valid ours accepted =
    totals_small p (edited s e) made (told_after p s e valid ours accepted)
