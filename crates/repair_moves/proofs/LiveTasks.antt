-- Task slots of live meets: where they stand, and which lie between two of them.
use Rattle.std.proofs.Common.{ℕ, ◌≡◌, ◌<◌, ◌≤◌, true, false, List, sym, ap, ◌∙◌, arith, inl, inr}
use Rattle.std.proofs.lemmas.Bool.{cases_lt}
use Rattle.khe_base.specs.declared.numbers.TaskId.{TaskId}
use Rattle.khe_instance.specs.WellMade.{AreWellMade}
use Rattle.khe_instance.specs.declared.parts.Parts.{Parts}
use Rattle.khe_told.specs.Fits.{AreTold}
use Rattle.khe_told.specs.Slots.{is_live, slot_at}
use Rattle.khe_told.specs.declared.slots.Slot.{Slot}
use Rattle.khe_solution.specs.TaskRows.{first_in}
use Rattle.khe_solution.proofs.NumberLaws.{first_next, first_room, tasks_told}
use Rattle.repair_moves.specs.Items.{is_live_at, task_at, task_slots}
use Rattle.repair_moves.specs.Picked.{NonePass}
use Rattle.repair_moves.proofs.TaskLaws.{task_numbered}

-- a later task slot is of no earlier meet
later_meet : (p : Parts) (s : List Slot) (a b : ℕ) → AreWellMade p → AreTold p s → a ≤ b → b < task_slots p
    → (task_at p a).meet.0 ≤ (task_at p b).meet.0
later_meet p s a b made told l below =
    let x = task_numbered p s a made told (omega (arith, l, below)) in
    let y = task_numbered p s b made told below in
    let xn = x.number in
    let yn = y.number in
    let yt = y.there in
    elim (cases_lt (task_at p b).meet.0 (task_at p a).meet.0) [
      | inl m ↦ let n = first_next s (task_at p b).meet.0 (task_at p a).meet.0 m in absurd (omega (arith, n, xn, yn, yt, l))
      | inr g ↦ g
    ]

-- one before the first of a meet is of an earlier meet
before_meet : (p : Parts) (s : List Slot) (k m : ℕ) → AreWellMade p → AreTold p s → k < task_slots p → k < first_in s m
    → (task_at p k).meet.0 < m
before_meet p s k m made told below l =
    let x = task_numbered p s k made told below in
    let xn = x.number in
    elim (cases_lt (task_at p k).meet.0 m) [
      | inl b ↦ b
      | inr g ↦ elim (cases_lt m (task_at p k).meet.0) [
        | inl b ↦ let n = first_next s m (task_at p k).meet.0 b in absurd (omega (arith, n, xn, l))
        | inr f ↦
            let e : m ≡ (task_at p k).meet.0 = omega (arith, f, g) in
            let n = ap (first_in s) e in
            absurd (omega (arith, n, xn, l))
      ]
    ]

-- the first of a later meet comes after a task slot
pub first_later : (p : Parts) (s : List Slot) (slot m : ℕ) (t : TaskId) → AreWellMade p → AreTold p s → slot < task_slots p
    → t ≡ task_at p slot → t.meet.0 < m → slot < first_in s m
first_later p s slot m t made told below e l =
    let x = task_numbered p s slot made told below in
    let xn = x.number in
    let xt = x.there in
    let same = ap (λ (u : TaskId). u.meet.0) e in
    let n = first_next s (task_at p slot).meet.0 m (omega (arith, same, l)) in
    omega (arith, n, xn, xt)

pub live_here : (p : Parts) (s : List Slot) (slot m : ℕ) (t : TaskId) → t ≡ task_at p slot → m ≡ t.meet.0
    → is_live (slot_at s m) ≡ true → is_live_at p s slot ≡ true
unfolding is_live_at
live_here p s slot m t e same h = ap (λ k. is_live (slot_at s k)) (sym (same ∙ ap (λ (u : TaskId). u.meet.0) e)) ∙ h

-- no task slot up to the first of the next live meet is of a live meet
pub gap_dead : (p : Parts) (s : List Slot) (from slot m : ℕ) (t : TaskId) → AreWellMade p → AreTold p s
    → slot < task_slots p → t ≡ task_at p slot
    → ((k : ℕ) → t.meet.0 ≤ k → k < m → is_live (slot_at s k) ≡ false) → NonePass (is_live_at p s) from slot
    → NonePass (is_live_at p s) from (first_in s m)
unfolding is_live_at
gap_dead p s from slot m t made told below e dead none k a b = elim (cases_lt k slot) [
  | inl l ↦ none k a l
  | inr g ↦
      let many = tasks_told p s made.first_meets told in
      let room = first_room s m in
      let within : k < task_slots p = omega (arith, b, many, room) in
      let same = ap (λ (u : TaskId). u.meet.0) e in
      let later = later_meet p s slot k made told g within in
      dead (task_at p k).meet.0 (omega (arith, same, later)) (before_meet p s k m made told within b)
]

-- and none at all where no meet is left
pub rest_dead : (p : Parts) (s : List Slot) (from slot : ℕ) (t : TaskId) → AreWellMade p → AreTold p s
    → slot < task_slots p → t ≡ task_at p slot → ((k : ℕ) → t.meet.0 ≤ k → is_live (slot_at s k) ≡ false)
    → NonePass (is_live_at p s) from slot → NonePass (is_live_at p s) from (task_slots p)
unfolding is_live_at
rest_dead p s from slot t made told below e dead none k a b = elim (cases_lt k slot) [
  | inl l ↦ none k a l
  | inr g ↦
      let same = ap (λ (u : TaskId). u.meet.0) e in
      let later = later_meet p s slot k made told g b in
      dead (task_at p k).meet.0 (omega (arith, same, later))
]
