-- The places of one event are no more than an instance may have tasks.
use Rattle.std.proofs.Common.{ℕ, ◌≡◌, ◌+◌, ◌*◌, ◌<◌, ◌≤◌, zero, suc, Some, List, [], ◌∷◌, length, slice_get, sym, ap}
use Rattle.std.proofs.Common.{◌∙◌, arith, inl, inr}
use Rattle.std.specs.List.{sum_by}
use Rattle.std.proofs.Math.Nat.{suc-mul}
use Rattle.std.proofs.lemmas.List.Sums.{sum_by-cons}
use Rattle.std.proofs.lemmas.Option.{same_Some, slice_get_within}
use Rattle.khe_base.proofs.ListLemmas.{all-there}
use Rattle.khe_base.specs.declared.limits.TheConstants.{TASKS}
use Rattle.khe_instance.specs.WellMade.{AreWellMade, IsEvent}
use Rattle.khe_instance.specs.declared.parts.EventInfo.{EventInfo}
use Rattle.khe_instance.specs.declared.parts.Parts.{Parts}
use Rattle.khe_solution.specs.Timetables.{HasRoom}
use Rattle.khe_solution.proofs.Basics.{cases_eq}

-- a part of a sum is no more than the sum
part_least : (f : EventInfo → ℕ) (xs : List EventInfo) (i : ℕ) (x : EventInfo) → slice_get xs i ≡ Some x
    → f x ≤ sum_by f xs
part_least f [] i x g = let l = slice_get_within [] i x g in absurd (omega (arith, l))
part_least f (y ∷ ys) zero x g =
    let a = sum_by-cons f y ys in
    let b = ap f (same_Some y x g) in
    omega (arith, a, b)
part_least f (y ∷ ys) (suc i) x g =
    let a = sum_by-cons f y ys in
    let b = part_least f ys i x g in
    omega (arith, a, b)

times_least : (d n : ℕ) → 1 ≤ d → n ≤ d * n
times_least zero n l = absurd (omega (arith, l))
times_least (suc d) n l = let a = suc-mul d n in omega (arith, a)

pub places_few : (p : Parts) (e : ℕ) (event : EventInfo) → AreWellMade p → slice_get p.events e ≡ Some event
    → length event.places ≤ TASKS
places_few p e event w g =
    let a = part_least (λ (x : EventInfo). x.duration * length x.places) p.events e event g in
    let b = w.limits.tasks in
    let d = (all-there (IsEvent p) p.events e event w.events g).duration.0 in
    let c = times_least event.duration (length event.places) d in
    omega (arith, a, b, c)

-- one more event
pub most_more : (p : Parts) (e most new : ℕ) (event : EventInfo)
    → ((k : ℕ) (x : EventInfo) → k < e → slice_get p.events k ≡ Some x → length x.places ≤ most)
    → slice_get p.events e ≡ Some event → most ≤ new → length event.places ≤ new → (k : ℕ) (x : EventInfo) → k < e + 1
    → slice_get p.events k ≡ Some x → length x.places ≤ new
most_more p e most new event h g a b k x l q = elim (cases_eq k e) [
  | inl same ↦
      let f : event ≡ x = same_Some event x (sym g ∙ ap (slice_get p.events) (sym same) ∙ q) in
      let n = ap (λ (z : EventInfo). length z.places) f in
      omega (arith, b, n)
  | inr d ↦ let c = h k x (less k e l d) q in omega (arith, c, a)
]
  where
    less : (i j : ℕ) → i < j + 1 → (i ≡ j → ⊥) → i < j
    less i j u v = grind (arith)

pub most_all : (p : Parts) (e most : ℕ) → length p.events ≤ e
    → ((k : ℕ) (x : EventInfo) → k < e → slice_get p.events k ≡ Some x → length x.places ≤ most)
    → (k : ℕ) (x : EventInfo) → slice_get p.events k ≡ Some x → length x.places ≤ most
most_all p e most l h k x g = let i = slice_get_within p.events k x g in h k x (omega (arith, i, l)) g

pub has_room : (p : Parts) (most capacity : ℕ) → most ≤ TASKS
    → ((e : ℕ) (event : EventInfo) → slice_get p.events e ≡ Some event → length event.places ≤ most)
    → 3 * most + 6 ≤ capacity → HasRoom p capacity
has_room p most capacity f h l = record {
  least = omega (arith, l);
  each = λ e event g. let a = h e event g in omega (arith, a, l);
  few = λ e event g. let a = h e event g in omega (arith, a, f);
}
