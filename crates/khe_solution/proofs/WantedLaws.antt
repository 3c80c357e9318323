-- The first wanted task of a row.
use Rattle.std.proofs.Common.{ℕ, ◌≡◌, ◌+◌, ◌<◌, ◌≤◌, Bool, true, false, nat_eq, Option, Some, None, List, length, refl}
use Rattle.std.proofs.Common.{sym, ap, ◌∙◌, arith, inl, inr}
use Rattle.std.specs.Prelude.{◌&&◌, nat_lt}
use Rattle.std.proofs.lemmas.Bool.{and_parts, cases_lt, eq-eqb, eqb-true}
use Rattle.khe_base.specs.declared.numbers.ResourceId.{ResourceId}
use Rattle.khe_base.specs.declared.numbers.TaskId.{TaskId}
use Rattle.khe_told.specs.Slots.{given_at, is_live, slot_at}
use Rattle.khe_told.specs.declared.slots.Slot.{Slot}
use Rattle.khe_solution.specs.NextTask.{has_task}
use Rattle.khe_solution.specs.Reading.{same_resource}
use Rattle.khe_solution.specs.TaskRows.{AreKept, AreOut, AreUnwanted, IsFirstIn, IsFirstWanted, first_in, is_entered}
use Rattle.khe_solution.specs.TaskRows.{places, row_of}
use Rattle.khe_solution.specs.declared.tasks.TaskRows.{TaskRows}
use Rattle.khe_solution.proofs.Basics.{true-false}
use Rattle.khe_solution.proofs.NumberLaws.{IsTaskOf, number_before, order_of}

-- a task that has what is wanted stands in its row
wanted_row : (wanted g : Option ResourceId) → same_resource wanted g ≡ true → row_of wanted ≡ row_of g
wanted_row None None h = refl
wanted_row None (Some b) h = absurd (true-false (sym h))
wanted_row (Some a) None h = absurd (true-false (sym h))
wanted_row (Some a) (Some b) h = let e = eqb-true b.0 a.0 h in ap (λ n. row_of (Some (record { 0 = n }))) (sym e)

unwanted : (s : List Slot) (wanted : Option ResourceId) (u : TaskId)
    → is_entered (slot_at s u.meet.0) u.place (row_of wanted) ≡ false → has_task s wanted u ≡ false
unwanted s wanted u h = at (has_task s wanted u) refl
  where
    at : (b : Bool) → has_task s wanted u ≡ b → b ≡ false
    at false e = refl
    at true e =
        let x = slot_at s u.meet.0 in
        let p = and_parts (is_live x && nat_lt u.place (length x.given)) (same_resource wanted (given_at x u.place))
        e in
        let q = and_parts (is_live x) (nat_lt u.place (length x.given)) p.0 in
        let r : nat_eq (row_of wanted) (row_of (given_at x u.place)) ≡ true =
        eq-eqb _ _ (wanted_row wanted (given_at x u.place) p.1) in
        absurd (true-false (sym (λ i. q.0 i && r i) ∙ h))

-- where no bit of the row is set, no task is wanted
pub out_unwanted : (s : List Slot) (t : TaskRows) (wanted : Option ResourceId) (from next end : ℕ) → AreKept s t
    → row_of wanted < 257 → AreUnwanted s wanted from next → AreOut t (row_of wanted) next end
    → AreUnwanted s wanted from end
out_unwanted s t wanted from next end kept small had out u l f e =
    elim (cases_lt (first_in s u.meet.0 + u.place) next) [
      | inl b ↦ had u l f b
      | inr g ↦ unwanted s wanted u (sym (kept.bits (row_of wanted) u.meet.0 u.place small l)
          ∙ out (first_in s u.meet.0 + u.place) g e)
    ]

-- the numbers below another one
pub fewer_unwanted : (s : List Slot) (wanted : Option ResourceId) (from end less : ℕ) → less ≤ end
    → AreUnwanted s wanted from end → AreUnwanted s wanted from less
fewer_unwanted s wanted from end less l h u a f e = h u a f (omega (arith, l, e))

-- two tasks with one number are the same
same_task : (s : List Slot) (wanted : Option ResourceId) (t u : TaskId) → t.place < places (slot_at s t.meet.0)
    → u.place < places (slot_at s u.meet.0)
    → first_in s t.meet.0 + t.place ≡ first_in s u.meet.0 + u.place → has_task s wanted t ≡ has_task s wanted u
same_task s wanted t u a b e = elim (order_of t u) [
  | inl h ↦ let l = number_before s t u a h in absurd (omega (arith, l, e))
  | inr f ↦ elim f [
    | inl m ↦ let l = number_before s u t b (inl m) in absurd (omega (arith, l, e))
    | inr p ↦ elim (cases_lt u.place t.place) [
      | inl k ↦ let l = number_before s u t b (inr (p.0, k)) in absurd (omega (arith, l, e))
      | inr g ↦
          let k = p.1 in
          let q : t.place ≡ u.place = omega (arith, g, k) in
          λ i. has_task s wanted (record { meet = record { 0 = sym p.0 i }; place = q i })
    ]
  ]
]

-- one more number that is not wanted, and one that is
pub wanted_more : (s : List Slot) (t : TaskRows) (wanted : Option ResourceId) (from next n : ℕ) (task : TaskId)
    → AreKept s t → row_of wanted < 257 → AreUnwanted s wanted from next
    → IsFirstIn t (row_of wanted) next n → IsTaskOf s n task → has_task s wanted task ≡ false
    → AreUnwanted s wanted from (n + 1)
wanted_more s t wanted from next n task kept small had first is missed u l f e =
    elim (cases_lt (first_in s u.meet.0 + u.place) n) [
      | inl b ↦ out_unwanted s t wanted from next n kept small had first.3 u l f b
      | inr g ↦ let m = is.number in same_task s wanted u task l is.there (omega (arith, g, e, m)) ∙ missed
    ]

pub wanted_found : (s : List Slot) (t : TaskRows) (wanted : Option ResourceId) (from next n : ℕ) (task : TaskId)
    → AreKept s t → row_of wanted < 257 → from ≤ next → AreUnwanted s wanted from next
    → IsFirstIn t (row_of wanted) next n → IsTaskOf s n task → has_task s wanted task ≡ true
    → IsFirstWanted s wanted from task
wanted_found s t wanted from next n task kept small after had first is hit =
    let m = is.number in
    let k = first.0 in
    record {
      there = is.there;
      from_ = omega (arith, m, k, after);
      wanted_ = hit;
      before = fewer_unwanted s wanted from n (first_in s task.meet.0 + task.place) (omega (arith, m))
          (out_unwanted s t wanted from next n kept small had first.3);
    }
