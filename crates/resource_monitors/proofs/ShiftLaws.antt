-- What effects take from a resource and give to it.
use Rattle.std.proofs.Common.{ℕ, ◌≡◌, ◌≤◌, ◌<◌, ◌+◌, ◌^◌, ◌∙◌, ◌⊎◌, inl, inr, zero, suc, Bool, true, false}
use Rattle.std.proofs.Common.{cond, Option, Some, None, List, [], ◌∷◌, set, length, refl, sym, ap}
use Rattle.std.proofs.Common.{arith, nat_lt}
use Rattle.std.specs.Prelude.{nat_eq}
use Rattle.std.proofs.lemmas.Bool.{cases_eq, cases_lt, eq-eqb, ne_eqb}
use Rattle.khe_base.specs.declared.numbers.ResourceId.{ResourceId}
use Rattle.khe_instance.specs.Running.{running_tasks}
use Rattle.khe_instance.specs.WellMade.{AreWellMade}
use Rattle.khe_instance.specs.declared.parts.Parts.{Parts}
use Rattle.khe_told.specs.Effects.{AreTurns, turned_all}
use Rattle.khe_told.specs.Lists.{duties_in}
use Rattle.khe_told.specs.Slots.{no_slot, slot_at}
use Rattle.khe_told.specs.Turns.{IsTurn, SlotTurn, turned}
use Rattle.khe_told.specs.declared.slots.Slot.{Slot}
use Rattle.khe_told.specs.declared.slots.Span.{Span}
use Rattle.resource_monitors.specs.Cells.{given_to, in_run}
use Rattle.resource_monitors.specs.Runs.{cells_of, run_of}
use Rattle.resource_monitors.specs.Shifts.{AreShifts, CanShift, IsBelow, IsNoShift, IsShift, after_both, after_one}
use Rattle.resource_monitors.specs.Shifts.{gained_at, lost_at, no_run, times_for}
use Rattle.resource_monitors.specs.declared.runs.Run.{Run}
use Rattle.resource_monitors.specs.declared.shifts.Shift.{Shift}
use Rattle.resource_monitors.specs.declared.shifts.Shifts.{Shifts}
use Rattle.resource_monitors.proofs.CutLaws.{in_not_after, in_not_before, in_yes}
use Rattle.resource_monitors.proofs.FollowLaws.{exchanged, slot_after, slot_before}
use Rattle.resource_monitors.proofs.RunLaws.{run_within}
use Rattle.resource_monitors.proofs.StateLaws.{tasks_few}
use Rattle.resource_monitors.proofs.TurnLaws.{cell_in, tasks_exchanged}

both_same : (b : Bool) → cond {A = ℕ} b 0 0 ≡ 0
both_same true = refl
both_same false = refl

-- the times of a meet are those of its run
pub amount_is : (span : Option Span) (given : List (Option ResourceId)) (q amount : ℕ) (run : Run)
    → amount ≡ given_to q given → (amount ≡ 0 → run ≡ no_run) → (0 < amount → run ≡ times_for (run_of span)) → (u : ℕ)
    → cond (in_run run.start run.end u) amount 0 ≡ cells_of (run_of span) given q u
amount_is span given q zero run e none some u =
    both_same (in_run run.start run.end u) ∙ sym (at (run_of span))
  where
    at : (o : Option Run) → cells_of o given q u ≡ 0
    at None = refl
    at (Some y) = ap (λ n. cond (in_run y.start y.end u) n 0) (sym e) ∙ both_same (in_run y.start y.end u)
amount_is span given q (suc n) run e none some u = at (run_of span) (some (omega arith))
  where
    at : (o : Option Run) → run ≡ times_for o → cond (in_run run.start run.end u) (suc n) 0 ≡ cells_of o given q u
    at None is = ap (λ (y : Run). cond (in_run y.start y.end u) (suc n) 0) is
        ∙ ap (λ b. cond b (suc n) 0) (in_not_after 0 0 u (omega arith))
    at (Some y) is = (λ i. cond (in_run (is i).start (is i).end u) (e i) 0)

run_below : (times amount : ℕ) (o : Option Run) (run : Run) → (amount ≡ 0 → run ≡ no_run)
    → (0 < amount → run ≡ times_for o) → ((y : Run) → o ≡ Some y → (y.start ≤ y.end) × (y.end ≤ times))
    → (run.start ≤ run.end) × (run.end ≤ times)
run_below times zero o run none some within = let e = none refl in (
  let a = ap (λ (y : Run). y.start) e in let b = ap (λ (y : Run). y.end) e in omega (arith, a, b),
  let b = ap (λ (y : Run). y.end) e in omega (arith, b),
)
run_below times (suc n) None run none some within = let e = some (omega arith) in (
  let a = ap (λ (y : Run). y.start) e in let b = ap (λ (y : Run). y.end) e in omega (arith, a, b),
  let b = ap (λ (y : Run). y.end) e in omega (arith, b),
)
run_below times (suc n) (Some y) run none some within =
    let e = some (omega arith) in
    let w = within y refl in
    let l = w.0 in
    let m = w.1 in
    let a = ap (λ (y : Run). y.start) e in
    let b = ap (λ (y : Run). y.end) e in
    (omega (arith, a, b, l), omega (arith, b, m))

-- a shift by what is read of an effect
pub is_below : (p : Parts) → AreWellMade p → (s : List Slot) (t : SlotTurn) → IsTurn p s t → (x : Shift)
    → (x.lost ≡ 0 → x.emptied ≡ no_run) → (0 < x.lost → x.emptied ≡ times_for (run_of t.before.span))
    → (x.gained ≡ 0 → x.filled ≡ no_run) → (0 < x.gained → x.filled ≡ times_for (run_of t.after.span))
    → IsBelow x (length p.times)
is_below p made s t turns x a b c d =
    let e = run_below (length p.times) x.lost (run_of t.before.span) x.emptied a b
    (λ y h. (let w = run_within p t.before (slot_before p made s t turns) y h in (w.order, w.times))) in
    let f = run_below (length p.times) x.gained (run_of t.after.span) x.filled c d
    (λ y h. (let w = run_within p t.after (slot_after p made s t turns) y h in (w.order, w.times))) in
    record { emptied = e.1; filled = f.1; emptied_order = e.0; filled_order = f.0 }

-- what a turn does to the counts of a resource
module _ (p : Parts) (made : AreWellMade p) (s : List Slot) (t : SlotTurn) (turns : IsTurn p s t) (q : ℕ) (x : Shift)
    (is : IsShift t q x) (c : ℕ → ℕ) (counts : (u : ℕ) → c u ≡ running_tasks (duties_in s) q u) where
  pub turn_enough : (u : ℕ) → lost_at x u ≤ c u + gained_at x u
  turn_enough u =
      let a = exchanged p made s t turns q u in
      let b = counts u in
      let d = is.lost u in
      let e = is.gained u in
      omega (arith, a, b, d, e)

  pub turn_then : (u : ℕ) → after_one x (c u) u ≡ running_tasks (duties_in (turned s t)) q u
  turn_then u =
      let a = exchanged p made s t turns q u in
      let b = counts u in
      let d = is.lost u in
      let e = is.gained u in
      omega (arith, a, b, d, e)

  pub turn_small : (u : ℕ) → c u + gained_at x u < 2 ^ 32
  turn_small u =
      let a = exchanged p made s t turns q u in
      let b = counts u in
      let d = is.lost u in
      let e = is.gained u in
      let f : running_tasks (duties_in (set s t.before.meet.0 no_slot)) q u + cell_in (slot_at s t.before.meet.0) q u
      ≡ running_tasks (duties_in s) q u + 0 = tasks_exchanged s t.before.meet.0 no_slot turns.there q u in
      let g : cell_in (slot_at s t.before.meet.0) q u ≡ cell_in t.before q u =
      ap (λ (y : Slot). cell_in y q u) turns.slot in
      let h = tasks_few p made s turns.told q u in
      let k = tasks_few p made (turned s t) turns.later q u in
      omega (arith, a, b, d, e, f, g, h, k)

-- what no shift does
no_shift_after : (x : Shift) → IsNoShift x → (n u : ℕ) → after_one x n u ≡ n
no_shift_after x is n u = let a = is.lost u in let b = is.gained u in omega (arith, a, b)

-- what effects do
module _ (p : Parts) (made : AreWellMade p) (q : ℕ) (xs : Shifts) (c : ℕ → ℕ) where
  pub shifts_then : (s : List Slot) (ts : List SlotTurn) → AreTurns p s ts → AreShifts ts q xs
      → ((u : ℕ) → c u ≡ running_tasks (duties_in s) q u) → (u : ℕ)
      → after_both xs c u ≡ running_tasks (duties_in (turned_all s ts)) q u
  shifts_then s [] turns is counts u = absurd is
  shifts_then s (a ∷ []) turns is counts u =
      no_shift_after xs.second is.1 (after_one xs.first (c u) u) u
      ∙ turn_then p made s a turns.0 q xs.first is.0 c counts u
  shifts_then s (a ∷ b ∷ []) turns is counts u =
      turn_then p made (turned s a) b turns.1.0 q xs.second is.1 (λ v. after_one xs.first (c v) v)
      (turn_then p made s a turns.0 q xs.first is.0 c counts) u
  shifts_then s (a ∷ b ∷ d ∷ ts) turns is counts u = absurd is

  pub can_shift : (s : List Slot) (ts : List SlotTurn) → AreTurns p s ts → AreShifts ts q xs
      → ((u : ℕ) → c u ≡ running_tasks (duties_in s) q u) → (times : ℕ) → IsBelow xs.first times
      → IsBelow xs.second times → CanShift xs times c
  can_shift s [] turns is counts times below_one below_two = absurd is
  can_shift s (a ∷ []) turns is counts times below_one below_two = record {
    first = below_one;
    second = below_two;
    enough = turn_enough p made s a turns.0 q xs.first is.0 c counts;
    enough_then = λ u. (let e = is.1.lost u in omega (arith, e));
    small = turn_small p made s a turns.0 q xs.first is.0 c counts;
    small_then = λ u. (let e = is.1.gained u in let f = turn_then p made s a turns.0 q xs.first is.0 c counts u in
        let g = tasks_few p made (turned s a) turns.1 q u in omega (arith, e, f, g));
  }
  can_shift s (a ∷ b ∷ []) turns is counts times below_one below_two = record {
    first = below_one;
    second = below_two;
    enough = turn_enough p made s a turns.0 q xs.first is.0 c counts;
    enough_then = turn_enough p made (turned s a) b turns.1.0 q xs.second is.1 (λ v. after_one xs.first (c v) v)
        (turn_then p made s a turns.0 q xs.first is.0 c counts);
    small = turn_small p made s a turns.0 q xs.first is.0 c counts;
    small_then = turn_small p made (turned s a) b turns.1.0 q xs.second is.1 (λ v. after_one xs.first (c v) v)
        (turn_then p made s a turns.0 q xs.first is.0 c counts);
  }
  can_shift s (a ∷ b ∷ d ∷ ts) turns is counts times below_one below_two = absurd is

-- beyond the runs of a shift nothing is lost or gained
pub off_shift : (x : Shift) (n u : ℕ) → in_run x.emptied.start x.emptied.end u ≡ false
    → in_run x.filled.start x.filled.end u ≡ false → after_one x n u ≡ n
off_shift x n u e f =
    let a : lost_at x u ≡ 0 = ap (λ b. cond b x.lost 0) e in
    let b : gained_at x u ≡ 0 = ap (λ b. cond b x.gained 0) f in
    omega (arith, a, b)

-- run by run the bits become those of the counts after
pub bits_after : (xs : Shifts) (c : ℕ → ℕ) (i : ℕ) (w0 w1 w2 w3 w4 : Bool)
    → w0 ≡ nat_lt 0 (c i)
    → w1 ≡ cond (in_run xs.first.emptied.start xs.first.emptied.end i) (nat_lt 0 (after_both xs c i)) w0
    → w2 ≡ cond (in_run xs.first.filled.start xs.first.filled.end i) (nat_lt 0 (after_both xs c i)) w1
    → w3 ≡ cond (in_run xs.second.emptied.start xs.second.emptied.end i) (nat_lt 0 (after_both xs c i)) w2
    → w4 ≡ cond (in_run xs.second.filled.start xs.second.filled.end i) (nat_lt 0 (after_both xs c i)) w3
    → w4 ≡ nat_lt 0 (after_both xs c i)
bits_after xs c i w0 w1 w2 w3 w4 e0 e1 e2 e3 e4 =
    by (in_run xs.first.emptied.start xs.first.emptied.end i) refl
    (in_run xs.first.filled.start xs.first.filled.end i) refl
    (in_run xs.second.emptied.start xs.second.emptied.end i) refl
    (in_run xs.second.filled.start xs.second.filled.end i) refl
  where
    v : Bool
    v = nat_lt 0 (after_both xs c i)

    by : (b1 : Bool) → in_run xs.first.emptied.start xs.first.emptied.end i ≡ b1
        → (b2 : Bool) → in_run xs.first.filled.start xs.first.filled.end i ≡ b2
        → (b3 : Bool) → in_run xs.second.emptied.start xs.second.emptied.end i ≡ b3
        → (b4 : Bool) → in_run xs.second.filled.start xs.second.filled.end i ≡ b4 → w4 ≡ v
    by b1 f1 b2 f2 b3 f3 true f4 = e4 ∙ ap (λ b. cond b v w3) f4
    by b1 f1 b2 f2 true f3 false f4 = e4 ∙ ap (λ b. cond b v w3) f4 ∙ e3 ∙ ap (λ b. cond b v w2) f3
    by b1 f1 true f2 false f3 false f4 = e4 ∙ ap (λ b. cond b v w3) f4 ∙ e3 ∙ ap (λ b. cond b v w2) f3 ∙ e2
        ∙ ap (λ b. cond b v w1) f2
    by true f1 false f2 false f3 false f4 = e4 ∙ ap (λ b. cond b v w3) f4 ∙ e3 ∙ ap (λ b. cond b v w2) f3 ∙ e2
        ∙ ap (λ b. cond b v w1) f2 ∙ e1 ∙ ap (λ b. cond b v w0) f1
    by false f1 false f2 false f3 false f4 = e4 ∙ ap (λ b. cond b v w3) f4 ∙ e3 ∙ ap (λ b. cond b v w2) f3 ∙ e2
        ∙ ap (λ b. cond b v w1) f2 ∙ e1 ∙ ap (λ b. cond b v w0) f1 ∙ e0
        ∙ ap (nat_lt 0) (sym (off_shift xs.second (after_one xs.first (c i) i) i f3 f4
        ∙ off_shift xs.first (c i) i f1 f2))

-- time by time
pub run_none : (start i : ℕ) (v w : Bool) → w ≡ cond (in_run start start i) v w
run_none start i v w = by (cases_lt i start)
  where
    by : (i < start) ⊎ (start ≤ i) → w ≡ cond (in_run start start i) v w
    by (inl a) = sym (ap (λ b. cond b v w) (in_not_before start start i a))
    by (inr a) = sym (ap (λ b. cond b v w) (in_not_after start start i a))

pub run_more : (start t i : ℕ) → start ≤ t → (v : ℕ → Bool) (w0 w1 w2 : Bool) → w1 ≡ cond (in_run start t i) (v i) w0
    → w2 ≡ cond (nat_eq i t) (v t) w1 → w2 ≡ cond (in_run start (t + 1) i) (v i) w0
run_more start t i l v w0 w1 w2 e f = by (cases_eq i t) (cases_lt i start) (cases_lt i t)
  where
    by : (i ≡ t) ⊎ (i ≡ t → ⊥) → (i < start) ⊎ (start ≤ i) → (i < t) ⊎ (t ≤ i)
        → w2 ≡ cond (in_run start (t + 1) i) (v i) w0
    by (inl h) _ _ = f ∙ ap (λ b. cond b (v t) w1) (eq-eqb i t h) ∙ ap v (sym h)
        ∙ sym (ap (λ b. cond b (v i) w0) (in_yes start (t + 1) i (omega (arith, h, l)) (omega (arith, h))))
    by (inr n) (inl a) _ = f ∙ ap (λ b. cond b (v t) w1) (ne_eqb i t n) ∙ e
        ∙ ap (λ b. cond b (v i) w0) (in_not_before start t i a ∙ sym (in_not_before start (t + 1) i a))
    by (inr n) (inr a) (inl d) = f ∙ ap (λ b. cond b (v t) w1) (ne_eqb i t n) ∙ e
        ∙ ap (λ b. cond b (v i) w0) (in_yes start t i a d ∙ sym (in_yes start (t + 1) i a (omega (arith, d))))
    by (inr n) (inr a) (inr d) = f ∙ ap (λ b. cond b (v t) w1) (ne_eqb i t n) ∙ e
        ∙ ap (λ b. cond b (v i) w0) (in_not_after start t i d ∙ sym (in_not_after start (t + 1) i (far i t d n)))
      where
        far : (a b : ℕ) → b ≤ a → (a ≡ b → ⊥) → b + 1 ≤ a
        far a b l n = grind arith
