-- Tasks by their numbers, and the first of them that passes a test.
use Rattle.std.proofs.Common.{ℕ, zero, suc, ◌≡◌, ◌+◌, ◌<◌, ◌≤◌, Bool, true, false, ◌&&◌, ◌||◌, Some, List, [], ◌∷◌}
use Rattle.std.proofs.Common.{length, slice_get, get_or, refl, sym, ap, ◌∙◌, subst, arith, inl, inr}
use Rattle.std.specs.List.{list_any}
use Rattle.std.proofs.lemmas.Bool.{cases_lt, ltb-true}
use Rattle.std.proofs.lemmas.List.{get_or_past}
use Rattle.std.proofs.lemmas.Option.{slice_get-get_or}
use Rattle.khe_base.specs.declared.numbers.TaskId.{TaskId}
use Rattle.khe_instance.specs.Slots.{all_tasks, first_task}
use Rattle.khe_instance.specs.WellMade.{AreWellMade}
use Rattle.khe_instance.specs.declared.parts.Parts.{Parts}
use Rattle.khe_instance.proofs.TasksLemmas.{length-all_tasks}
use Rattle.khe_told.specs.Fits.{AreTold}
use Rattle.khe_told.specs.Slots.{is_live, slot_at}
use Rattle.khe_told.specs.declared.slots.Slot.{Slot}
use Rattle.khe_solution.specs.NextTask.{IsBefore, IsFrom}
use Rattle.khe_solution.specs.Reading.{has_place}
use Rattle.khe_solution.specs.TaskRows.{first_in, places}
use Rattle.khe_solution.proofs.NumberLaws.{first_told, number_before, number_below, order_of, task_of, tasks_told}
use Rattle.repair_moves.specs.Items.{no_task, task_at, task_slots}
use Rattle.repair_moves.specs.Picked.{IsFirst, NonePass}
use Rattle.repair_moves.specs.Tasks.{NoTask, NoTaskBefore}

pub both_true : (a b : Bool) → (a && b) ≡ true → (a ≡ true) × (b ≡ true)
both_true true b h = (refl, h)
both_true false b h = absurd (let g : ⊥ = cc in g)

pub place_there : (x : Slot) (k : ℕ) → has_place x k ≡ true → (is_live x ≡ true) × (k < places x)
place_there x k h = let b = both_true _ _ h in (b.0, ltb-true _ _ b.1)

-- the task of a task slot is there and has that number
pub record IsNumbered (p : Parts) (s : List Slot) (n : ℕ) (t : TaskId) : Type 0 where
  pub there : t.place < places (slot_at s t.meet.0)
  pub number : n ≡ first_in s t.meet.0 + t.place

task_listed : (p : Parts) (n : ℕ) → n < task_slots p → slice_get (all_tasks p.events) n ≡ Some (task_at p n)
unfolding task_at
task_listed p n l = let many = length-all_tasks p.events in
    slice_get-get_or (all_tasks p.events) n no_task (omega (arith, l, many))

pub task_past : (p : Parts) (n : ℕ) → task_slots p ≤ n → task_at p n ≡ no_task
unfolding task_at
task_past p n l = let many = length-all_tasks p.events in
    get_or_past (all_tasks p.events) n no_task (omega (arith, l, many))

pub task_numbered : (p : Parts) (s : List Slot) (n : ℕ) → AreWellMade p → AreTold p s → n < task_slots p
    → IsNumbered p s n (task_at p n)
task_numbered p s n made told l =
    let r = task_of p s n (task_at p n) made.first_meets told (task_listed p n l) in
    record { there = r.there; number = r.number }

-- numbers and tasks are in the same order
pub from_number : (s : List Slot) (t u : TaskId) → t.place < places (slot_at s t.meet.0) → IsFrom t u
    → first_in s t.meet.0 + t.place ≤ first_in s u.meet.0 + u.place
from_number s t u l h = elim h [
  | inl m ↦ let n = number_before s t u l (inl m) in omega (arith, n)
  | inr q ↦ let e = ap (first_in s) q.0 in let k = q.1 in omega (arith, e, k)
]

pub from_below : (s : List Slot) (t u : TaskId) → u.place < places (slot_at s u.meet.0)
    → first_in s t.meet.0 + t.place ≤ first_in s u.meet.0 + u.place → IsFrom t u
from_below s t u l h = elim (order_of u t) [
  | inr f ↦ f
  | inl b ↦ let n = number_before s u t l b in absurd (omega (arith, n, h))
]

pub before_below : (s : List Slot) (t u : TaskId) → u.place < places (slot_at s u.meet.0)
    → first_in s t.meet.0 + t.place < first_in s u.meet.0 + u.place → IsBefore t u
before_below s t u l h = elim (order_of t u) [
  | inl b ↦ b
  | inr f ↦ let n = from_number s u t l f in absurd (omega (arith, n, h))
]

-- two tasks with one number are the same
same_number : (s : List Slot) (t u : TaskId) → t.place < places (slot_at s t.meet.0)
    → u.place < places (slot_at s u.meet.0)
    → first_in s t.meet.0 + t.place ≡ first_in s u.meet.0 + u.place → t ≡ u
same_number s t u a b e = elim (from_below s t u b (omega (arith, e))) [
  | inl m ↦ let n = number_before s t u a (inl m) in absurd (omega (arith, n, e))
  | inr q ↦
      let f = ap (first_in s) q.0 in
      let k : t.place ≡ u.place = omega (arith, e, f) in
      λ i. record { meet = record { 0 = q.0 i }; place = k i }
]

-- a task that is there has the number of its slot's first task and its place
pub task_number : (p : Parts) (s : List Slot) (t : TaskId) → AreWellMade p → AreTold p s
    → t.place < places (slot_at s t.meet.0)
    → (first_task p.events t.meet.0 + t.place < task_slots p) × (task_at p (first_task p.events t.meet.0 + t.place) ≡ t)
task_number p s t made told l =
    let n = first_task p.events t.meet.0 + t.place in
    let f = first_told p s t.meet.0 made.first_meets told in
    let all = tasks_told p s made.first_meets told in
    let b = number_below s t.meet.0 t.place l in
    let within : n < task_slots p = omega (arith, f, all, b) in
    let r = task_numbered p s n made told within in
    let e = r.number in
    (within, same_number s (task_at p n) t r.there l (omega (arith, e, f)))

-- no task slot from one on passes, where no task does
pub no_slot_passes : (p : Parts) (s : List Slot) (test : TaskId → Bool) (n : ℕ) (from : TaskId) → AreWellMade p
    → AreTold p s → n < task_slots p → from ≡ task_at p n → NoTask test from
    → NonePass (λ k. test (task_at p k)) n (task_slots p)
no_slot_passes p s test n from made told l e h k a b =
    let r = task_numbered p s n made told l in
    let q = task_numbered p s k made told b in
    let x = r.number in
    let y = q.number in
    subst (NoTask test) e h (task_at p k) (from_below s (task_at p n) (task_at p k) q.there (omega (arith, x, y, a)))

-- the first task slot that passes is that of the first task
pub first_slot : (p : Parts) (s : List Slot) (test : TaskId → Bool) (n : ℕ) (from t : TaskId) → AreWellMade p
    → AreTold p s → n < task_slots p → from ≡ task_at p n
    → t.place < places (slot_at s t.meet.0) → IsFrom from t → test t ≡ true → NoTaskBefore test from t
    → IsFirst (λ k. test (task_at p k)) n (task_slots p) (Some (first_task p.events t.meet.0 + t.place))
first_slot p s test n from t made told l e there onward passes before =
    let num = first_task p.events t.meet.0 + t.place in
    let r = task_numbered p s n made told l in
    let x = r.number in
    let f = first_told p s t.meet.0 made.first_meets told in
    let own = task_number p s t made told there in
    let low = from_number s (task_at p n) t r.there (subst (λ u. IsFrom u t) e onward) in
    let earlier : NonePass (λ k. test (task_at p k)) n num = λ k a b.
    (let within = own.0 in
    let q = task_numbered p s k made told (omega (arith, b, within)) in
    let y = q.number in
    subst (λ u. NoTaskBefore test u t) e before (task_at p k)
    (from_below s (task_at p n) (task_at p k) q.there (omega (arith, x, y, a)))
    (before_below s (task_at p k) t there (omega (arith, y, f, b)))) in
    (omega (arith, x, low, f), own.0, ap test own.1 ∙ passes, earlier)

-- an element that passes has a place
pub any_place : {X : Type 0} (test : X → Bool) (xs : List X) (d : X) → list_any test xs ≡ true
    → (j : ℕ) × (j < length xs) × (test (get_or xs j d) ≡ true)
any_place test [] d h = absurd (let g : ⊥ = cc in g)
any_place test (x ∷ xs) d h = by_head (test x) refl (λ g. any_place test xs d g)
  where
    by_head : (b : Bool) → test x ≡ b → (list_any test xs ≡ true
        → (j : ℕ) × (j < length xs) × (test (get_or xs j d) ≡ true))
        → (j : ℕ) × (j < length (x ∷ xs)) × (test (get_or (x ∷ xs) j d) ≡ true)
    by_head true e rest = (zero, (omega arith), e)
    by_head false e rest =
        let r = rest (sym (ap (λ b. b || list_any test xs) e) ∙ h) in
        let l = r.1 in
        (suc r.0, (omega (arith, l)), r.2)

-- no task is a monitor's at a point of another sort
pub never : (a b : Bool) → b ≡ false → (a && b) ≡ false
never true b h = h
never false b h = refl

-- a task of a meet comes from another on, where none before that one passes and no meet from there up to
-- this one does
pub reached : (from at : TaskId) (m k : ℕ) → IsFrom from at → at.meet.0 ≤ m → (at.meet.0 ≡ m → at.place ≤ k)
    → IsFrom from (record { meet = record { 0 = m }; place = k })
reached from at m k h far low = elim h [
  | inl a ↦ inl (omega (arith, a, far))
  | inr a ↦ (let e = a.0 in let q = a.1 in elim (cases_lt at.meet.0 m) [
    | inl b ↦ inl (omega (arith, b, e))
    | inr b ↦ (let same : at.meet.0 ≡ m = omega (arith, b, far) in let p = low same in
        inr (omega (arith, e, same), omega (arith, q, p)))
  ])
]

pub none_between : (test : TaskId → Bool) (from at : TaskId) (m k : ℕ) → NoTaskBefore test from at
    → ((u : TaskId) → IsFrom at u → u.meet.0 < m → test u ≡ false)
    → ((u : TaskId) → IsFrom at u → u.meet.0 ≡ m → u.place < k → test u ≡ false)
    → NoTaskBefore test from (record { meet = record { 0 = m }; place = k })
none_between test from at m k none between own u f b = elim (order_of u at) [
  | inl early ↦ none u f early
  | inr late ↦ elim b [ inl c ↦ between u late c | inr c ↦ own u late c.0 c.1 ]
]

pub from_meet : (at u : TaskId) → IsFrom at u → at.meet.0 ≤ u.meet.0
from_meet at u h = elim h [ inl a ↦ omega (arith, a) | inr a ↦ (let e = a.0 in omega (arith, e)) ]

-- the first place of a meet that is looked at, where a task does not come before another
pub start_low : (at u : TaskId) (m start : ℕ) → at.meet.0 ≤ m → (at.meet.0 ≡ m → start ≡ at.place)
    → (at.meet.0 < m → start ≡ 0) → u.meet.0 ≡ m → IsFrom at u → start ≤ u.place
start_low at u m start far here later e h = elim (cases_lt at.meet.0 m) [
  | inl l ↦ (let z = later l in omega (arith, z))
  | inr g ↦ (let same : at.meet.0 ≡ m = omega (arith, far, g) in let z = here same in elim h [
    | inl a ↦ absurd (omega (arith, a, e, g))
    | inr a ↦ (let q = a.1 in omega (arith, z, q))
  ])
]

pub there_in : (s : List Slot) (t : TaskId) (b : Bool) → (has_place (slot_at s t.meet.0) t.place && b) ≡ true
    → (is_live (slot_at s t.meet.0) ≡ true) × (t.place < places (slot_at s t.meet.0))
there_in s t b h = place_there (slot_at s t.meet.0) t.place (both_true _ _ h).0
