-- What a task more or less does to cells, and what a slot that becomes another does.
use Rattle.std.proofs.Common.{ℕ, ◌≡◌, ◌≤◌, ◌<◌, ◌+◌, ◌==◌, ◌∙◌, ◌&&◌, Bool, true, false, cond, Option, Some, None, List}
use Rattle.std.proofs.Common.{[], ◌∷◌, set, length, refl, sym, ap, subst, arith, sum_by, nat_le}
use Rattle.std.proofs.Common.{nat_lt, lt-ltb}
use Rattle.std.proofs.lemmas.Bool.{eq-eqb, leb-false, true≢false}
use Rattle.std.proofs.lemmas.List.Sums.{sum_by-cons, sum_by-set, sum_by-append, count_by-le-length}
use Rattle.khe_base.specs.declared.limits.TheConstants.{GREATEST_COUNT}
use Rattle.khe_base.specs.declared.numbers.ResourceId.{ResourceId}
use Rattle.khe_base.specs.declared.numbers.TimeId.{TimeId}
use Rattle.khe_instance.specs.Running.{is_resource, runs, running_tasks}
use Rattle.khe_instance.specs.declared.states.Duty.{Duty}
use Rattle.khe_instance.specs.declared.states.Meet.{Meet}
use Rattle.khe_told.specs.Lists.{duties_in, duties_of, duties_with}
use Rattle.khe_told.specs.Slots.{slot_at, no_slot}
use Rattle.khe_told.specs.declared.slots.Slot.{Slot}
use Rattle.khe_told.specs.declared.slots.Span.{Span}
use Rattle.timetables.specs.Counts.{count_at}
use Rattle.resource_monitors.specs.Cells.{AreAbove, AreRaised, given_to, in_run, limit_for}
use Rattle.resource_monitors.specs.Runs.{CanTurn, Turned, cells_of, run_of}
use Rattle.resource_monitors.specs.declared.runs.Run.{Run}

-- one resource's cells as those of one place
pub raised_above : (r : ResourceId) (start end : ℕ) (low high : List (List ℕ)) → AreRaised r.0 start end low high
    → AreAbove (Some r ∷ []) start end (count_at low) (count_at high)
raised_above r start end low high h = λ q t. h.counts q t
    ∙ ap (λ n. count_at low q t + n) (by (r.0 == q) (in_run start end t))
  where
    by : (a b : Bool) → cond {A = ℕ} (a && b) 1 0 ≡ cond {A = ℕ} b (0 + cond a 1 0) 0
    by true true = refl
    by true false = refl
    by false true = refl
    by false false = refl

pub nothing_above : (start end : ℕ) (f : ℕ → ℕ → ℕ) → AreAbove (None ∷ []) start end f f
nothing_above start end f = λ q t. by (in_run start end t) (f q t)
  where
    by : (b : Bool) (n : ℕ) → n ≡ n + cond {A = ℕ} b 0 0
    by true n = omega arith
    by false n = omega arith

-- the cells of a place
own_cell : (place : Option ResourceId) (run : Run) (r : ResourceId) (t : ℕ) → place ≡ Some r
    → in_run run.start run.end t ≡ true → cells_of (Some run) (place ∷ []) r.0 t ≡ 1
own_cell place run r t at e =
    ap (λ b. cond b (given_to r.0 (place ∷ [])) 0) e ∙ ap (λ o. given_to r.0 (o ∷ [])) at
    ∙ ap (λ b. 0 + cond {A = ℕ} b 1 0) (eq-eqb r.0 r.0 refl)

pub room_one : (b : Bool) (place : Option ResourceId) (run : Run) (old : ℕ → ℕ → ℕ) → b ≡ true
    → CanTurn b place (Some run) old → (r : ResourceId) (t : ℕ) → place ≡ Some r
    → in_run run.start run.end t ≡ true → old r.0 t < GREATEST_COUNT
room_one true place run old h can r t at e =
    let a : old r.0 t + cells_of (Some run) (place ∷ []) r.0 t ≤ GREATEST_COUNT = can r.0 t in
    let b = own_cell place run r t at e in
    omega (arith, a, b)
room_one false place run old h can r t at e = absurd (true≢false (sym h))

pub some_one : (b : Bool) (place : Option ResourceId) (run : Run) (old : ℕ → ℕ → ℕ) → b ≡ false
    → CanTurn b place (Some run) old → (r : ResourceId) (t : ℕ) → place ≡ Some r
    → in_run run.start run.end t ≡ true → 0 < old r.0 t
some_one false place run old h can r t at e =
    let a : cells_of (Some run) (place ∷ []) r.0 t ≤ old r.0 t = can r.0 t in
    let b = own_cell place run r t at e in
    omega (arith, a, b)
some_one true place run old h can r t at e = absurd (true≢false h)

pub risen : (b : Bool) (place : Option ResourceId) (run : Run) (old new : ℕ → ℕ → ℕ) → b ≡ true
    → AreAbove (place ∷ []) run.start run.end old new → Turned b place (Some run) old new
risen b place run old new h u = subst (λ c. Turned c place (Some run) old new) (sym h) u

pub fallen : (b : Bool) (place : Option ResourceId) (run : Run) (old new : ℕ → ℕ → ℕ) → b ≡ false
    → AreAbove (place ∷ []) run.start run.end new old → Turned b place (Some run) old new
fallen b place run old new h u = subst (λ c. Turned c place (Some run) old new) (sym h) u

-- without a run, where the place is not given a resource, or beyond the run
pub turned_same : (b : Bool) (place : Option ResourceId) (run : Option Run) (old new : ℕ → ℕ → ℕ)
    → Turned b place run old new → (q t : ℕ) → cells_of run (place ∷ []) q t ≡ 0 → new q t ≡ old q t
turned_same true place run old new h q t e =
    let a : new q t ≡ old q t + cells_of run (place ∷ []) q t = h q t in omega (arith, a, e)
turned_same false place run old new h q t e =
    let a : old q t ≡ new q t + cells_of run (place ∷ []) q t = h q t in omega (arith, a, e)

-- where no count of the run is low, each time is busy as it was
pub turned_busy : (b : Bool) (place : Option ResourceId) (run : Run) (old new : ℕ → ℕ → ℕ) (q : ℕ)
    → Turned b place (Some run) old new
    → ((t : ℕ) → in_run run.start run.end t ≡ true → nat_le (new q t) (limit_for b) ≡ false) → (t : ℕ)
    → nat_lt 0 (new q t) ≡ nat_lt 0 (old q t)
turned_busy b place run old new q h high t = by (in_run run.start run.end t) refl
  where
    few : given_to q (place ∷ []) ≤ 1
    few = let l = count_by-le-length (is_resource q) (place ∷ []) in omega (arith, l)

    both : (n m : ℕ) → 0 < n → 0 < m → nat_lt 0 n ≡ nat_lt 0 m
    both n m k l = lt-ltb 0 n k ∙ sym (lt-ltb 0 m l)

    part : (c : Bool) → cond c (given_to q (place ∷ [])) 0 ≤ 1
    part true = few
    part false = omega arith

    above : (d : Bool) → Turned d place (Some run) old new → nat_le (new q t) (limit_for d) ≡ false
        → (0 < new q t) × (0 < old q t)
    above true u e =
        let a : new q t ≡ old q t + cells_of (Some run) (place ∷ []) q t = u q t in
        let l = leb-false (new q t) 1 e in
        let z : cells_of (Some run) (place ∷ []) q t ≤ 1 = part (in_run run.start run.end t) in
        (omega (arith, l), omega (arith, a, l, z))
    above false u e =
        let a : old q t ≡ new q t + cells_of (Some run) (place ∷ []) q t = u q t in
        let l = leb-false (new q t) 0 e in
        (l, omega (arith, a, l))

    by : (c : Bool) → in_run run.start run.end t ≡ c → nat_lt 0 (new q t) ≡ nat_lt 0 (old q t)
    by true e = let a = above b h (high t e) in both (new q t) (old q t) a.0 a.1
    by false e = ap (nat_lt 0) (turned_same b place (Some run) old new h q t
        (ap (λ c. cond c (given_to q (place ∷ [])) 0) e))

-- cells by slots
abbrev pub cell_in : Slot → ℕ → ℕ → ℕ
cell_in x r t = cells_of (run_of x.span) x.given r t

abbrev pub cell_of : List Slot → ℕ → ℕ → ℕ
cell_of s r t = sum_by (λ (x : Slot). cell_in x r t) s

with_cells : (m : Meet) (place r t : ℕ) (given : List (Option ResourceId))
    → running_tasks (duties_with m place given) r t ≡ cond (runs m t) (given_to r given) 0
with_cells m place r t [] = by (runs m t)
  where
    by : (b : Bool) → 0 ≡ cond {A = ℕ} b 0 0
    by true = refl
    by false = refl
with_cells m place r t (o ∷ given) =
    let f = λ (d : Duty). cond {A = ℕ} (is_resource r d.resource && runs d.meet t) 1 0 in
    sum_by-cons f (record { meet = m; place = place; resource = o }) (duties_with m (place + 1) given)
    ∙ ap (λ n. f (record { meet = m; place = place; resource = o }) + n) (with_cells m (place + 1) r t given)
    ∙ by (is_resource r o) (runs m t)
    ∙ ap (λ n. cond (runs m t) n 0) (sym (sum_by-cons (λ (q : Option ResourceId). cond {A = ℕ} (is_resource r q) 1 0) o
    given))
  where
    by : (b c : Bool) → cond {A = ℕ} (b && c) 1 0 + cond c (given_to r given) 0
        ≡ cond c (cond b 1 0 + given_to r given) 0
    by true true = refl
    by true false = refl
    by false true = refl
    by false false = refl

pub cell_is : (x : Slot) (r t : ℕ) → running_tasks (duties_of x) r t ≡ cell_in x r t
cell_is x r t = by x.span
  where
    from : (d : ℕ) (o : Option TimeId) → running_tasks
        (duties_of (record x { span = Some (record { duration = d; start = o }) }))
        r t ≡ cell_in (record x { span = Some (record { duration = d; start = o }) }) r t
    from d None = with_cells (record { meet = x.meet; event = x.event; duration = d; start = None }) 0 r t x.given
    from d (Some a) = with_cells (record { meet = x.meet; event = x.event; duration = d; start = Some a }) 0 r t x.given

    by : (o : Option Span) → running_tasks (duties_of (record x { span = o })) r t ≡ cell_in (record x { span = o }) r t
    by None = refl
    by (Some y) = from y.duration y.start

pub cells_are : (s : List Slot) (r t : ℕ) → running_tasks (duties_in s) r t ≡ cell_of s r t
cells_are [] r t = refl
cells_are (x ∷ s) r t =
    sum_by-append (λ (d : Duty). cond {A = ℕ} (is_resource r d.resource && runs d.meet t) 1 0) (duties_of x)
    (duties_in s)
    ∙ ap (λ n. running_tasks (duties_of x) r t + n) (cells_are s r t) ∙ ap (λ n. n + cell_of s r t) (cell_is x r t)
    ∙ sym (sum_by-cons (λ (y : Slot). cell_in y r t) x s)

-- one slot in place of another
pub tasks_exchanged : (s : List Slot) (k : ℕ) (y : Slot) → k < length s → (q t : ℕ)
    → running_tasks (duties_in (set s k y)) q t + cell_in (slot_at s k) q t
    ≡ running_tasks (duties_in s) q t + cell_in y q t
tasks_exchanged s k y l q t =
    let a = cells_are s q t in
    let b = cells_are (set s k y) q t in
    let e : cell_of (set s k y) q t + cell_in (slot_at s k) q t ≡ cell_of s q t + cell_in y q t =
    sum_by-set (λ (x : Slot). cell_in x q t) s k y no_slot l in
    omega (arith, a, b, e)
