-- Counts of tasks in a role by resources, and one place that is given something else.
use Rattle.std.proofs.Common.{ℕ, ◌≡◌, ◌≤◌, ◌<◌, ◌+◌, ◌*◌, ◌==◌, ◌∙◌, ◌&&◌, ◌⊎◌, inl, inr, zero, suc, Bool, true, false}
use Rattle.std.proofs.Common.{cond, Option, Some, None, is_none, List, [], ◌∷◌, map, length, slice_get, refl, sym}
use Rattle.std.proofs.Common.{ap, subst, arith, sum_by, ltb}
use Rattle.std.specs.Prelude.{IfSome}
use Rattle.std.specs.List.{range_with_len}
use Rattle.std.proofs.lemmas.Bool.{cases_eq, eq-eqb, lt-ltb, ne_eqb}
use Rattle.std.proofs.lemmas.List.{length-map, length-replicate}
use Rattle.std.proofs.lemmas.List.Elements.{All-map}
use Rattle.std.proofs.lemmas.List.FromFn.{length-range_with_len}
use Rattle.std.proofs.lemmas.List.Sums.{count_by-le-length, sum_by-append, sum_by-cons, sum_by-le}
use Rattle.std.proofs.lemmas.Option.{none-some, same_Some}
use Rattle.khe_base.specs.declared.limits.TheConstants.{RESOURCES, TASKS}
use Rattle.khe_base.specs.declared.numbers.ResourceId.{ResourceId}
use Rattle.khe_instance.specs.Running.{is_resource}
use Rattle.khe_instance.specs.WellMade.{AreWellMade}
use Rattle.khe_instance.specs.declared.parts.EventInfo.{EventInfo}
use Rattle.khe_instance.specs.declared.parts.Parts.{Parts}
use Rattle.khe_instance.specs.declared.points.Monitor.{Monitor}
use Rattle.khe_told.specs.Slots.{emptied, empty_slot, no_meets, slots_from, slots_of_event}
use Rattle.khe_told.specs.declared.slots.Slot.{Slot}
use Rattle.event_monitors.specs.Posts.{names}
use Rattle.set_monitors.specs.AvoidSplitAssignments.{given_from, given_in, given_none, held, holders, in_role, is_first}
use Rattle.set_monitors.specs.AvoidSplitAssignments.{loose, with_one}
use Rattle.set_monitors.specs.NamedSums.{named_part, sum_of_none}
use Rattle.event_monitors.proofs.Turning.{sum_le}

-- what places are given, where the first of them are given what they are in another list
abbrev pub mixed : {A : Type 0} → ℕ → List A → List A → List A
mixed zero old new = old
mixed (suc k) [] new = []
mixed (suc k) (o ∷ old) [] = o ∷ old
mixed (suc k) (o ∷ old) (n ∷ new) = n ∷ mixed k old new

pub length-mixed : {A : Type 0} (k : ℕ) (old new : List A) → length (mixed k old new) ≡ length old
length-mixed zero old new = refl
length-mixed (suc k) [] new = refl
length-mixed (suc k) (o ∷ old) [] = refl
length-mixed (suc k) (o ∷ old) (n ∷ new) = ap suc (length-mixed k old new)

pub mixed_all : {A : Type 0} (k : ℕ) (old new : List A) → length old ≡ length new → length old ≤ k
    → mixed k old new ≡ new
mixed_all zero [] [] same l = refl
mixed_all zero [] (n ∷ new) same l = absurd (omega (arith, same))
mixed_all zero (o ∷ old) new same l = absurd (omega (arith, l))
mixed_all (suc k) [] [] same l = refl
mixed_all (suc k) [] (n ∷ new) same l = absurd (omega (arith, same))
mixed_all (suc k) (o ∷ old) [] same l = absurd (omega (arith, same))
mixed_all (suc k) (o ∷ old) (n ∷ new) same l =
    ap (λ xs. n ∷ xs) (mixed_all k old new (omega (arith, same)) (omega (arith, l)))

module _ (has : ℕ → Bool) (r : ℕ) where
  abbrev pub part : ℕ → Option ResourceId → ℕ
  part place o = cond (has place && is_resource r o) 1 0

  -- one more of them takes the part of what the place was given for that of what it is given
  pub given_next : (start k place : ℕ) (old new : List (Option ResourceId)) (o n : Option ResourceId)
      → place ≡ start + k → slice_get old k ≡ Some o → slice_get new k ≡ Some n
      → given_from has r start (mixed (suc k) old new) + part place o
      ≡ given_from has r start (mixed k old new) + part place n
  given_next start k place [] new o n h was is = absurd (none-some o was)
  given_next start k place (a ∷ old) [] o n h was is = absurd (none-some n is)
  given_next start zero place (a ∷ old) (b ∷ new) o n h was is =
      let e : start ≡ place = omega (arith, h) in
      let one : part place o ≡ part start a = sym (λ j. part (e j) (same_Some a o was j)) in
      let two : part place n ≡ part start b = sym (λ j. part (e j) (same_Some b n is j)) in
      omega (arith, one, two)
  given_next start (suc k) place (a ∷ old) (b ∷ new) o n h was is =
      let rest = given_next (start + 1) k place old new o n (omega (arith, h)) was is in
      omega (arith, rest)

  pub given_few : (start : ℕ) (given : List (Option ResourceId)) → given_from has r start given ≤ length given
  given_few start [] = omega arith
  given_few start (o ∷ given) = let a = one (has start && is_resource r o) in let b = given_few (start + 1) given in
      omega (arith, a, b)
    where
      one : (b : Bool) → cond {A = ℕ} b 1 0 ≤ 1
      one true = omega arith
      one false = omega arith

-- how many numbers of a range have some, with one more at one of them
module _ (f : ℕ → ℕ) (r : ℕ) where
  abbrev counts_once : ℕ → ℕ
  counts_once q = cond (ltb 0 (f q)) 1 0

  abbrev counts_more : ℕ → ℕ
  counts_more q = cond (ltb 0 (f q + cond (r == q) 1 0)) 1 0

  same_at : (q : ℕ) → (r ≡ q → ⊥) → counts_more q ≡ counts_once q
  same_at q n = ap (λ b. cond (ltb 0 (f q + cond b 1 0)) 1 0) (ne_eqb r q n)
      ∙ ap (λ k. cond (ltb 0 k) 1 0) (let e : f q + 0 ≡ f q = omega arith in e)

  more_at : counts_more r ≡ counts_once r + cond (f r == 0) 1 0
  more_at =
      ap (λ b. cond (ltb 0 (f r + cond b 1 0)) 1 0) (eq-eqb r r refl)
      ∙ ap (λ b. cond b 1 0) (lt-ltb 0 (f r + 1) (omega arith))
      ∙ by (cases_eq (f r) 0)
    where
      by : (f r ≡ 0) ⊎ (f r ≡ 0 → ⊥) → 1 ≡ counts_once r + cond (f r == 0) 1 0
      by (inl e) = sym (ap (λ k. cond (ltb 0 k) 1 0 + cond (k == 0) 1 0) e)
      by (inr n) = sym (λ j. cond (lt-ltb 0 (f r) (let l : 0 < f r = omega (arith, n) in l) j) 1 0 + cond
          (ne_eqb (f r) 0 n j) 1 0)

  apart : (from n : ℕ) → r < from → sum_by counts_more (range_with_len from n)
      ≡ sum_by counts_once (range_with_len from n)
  apart from zero l = refl
  apart from (suc n) l =
      let a = sum_by-cons counts_more from (range_with_len (from + 1) n) in
      let b = sum_by-cons counts_once from (range_with_len (from + 1) n) in
      let c = same_at from (λ e. omega (arith, e, l)) in
      let d = apart (from + 1) n (omega arith) in
      omega (arith, a, b, c, d)

  one_of : (from n : ℕ) → from ≤ r → r < from + n
      → sum_by counts_more (range_with_len from n) ≡ sum_by counts_once (range_with_len from n) + cond (f r == 0) 1 0
  one_of from zero low high = absurd (omega (arith, low, high))
  one_of from (suc n) low high = by (cases_eq r from) (λ l h. one_of (from + 1) n l h)
    where
      by : (r ≡ from) ⊎ (r ≡ from → ⊥) → (from + 1 ≤ r → r < from + 1 + n
          → sum_by counts_more (range_with_len (from + 1) n)
          ≡ sum_by counts_once (range_with_len (from + 1) n) + cond (f r == 0) 1 0)
          → sum_by counts_more (range_with_len from (suc n))
          ≡ sum_by counts_once (range_with_len from (suc n)) + cond (f r == 0) 1 0
      by (inl e) rest =
          let a = sum_by-cons counts_more from (range_with_len (from + 1) n) in
          let b = sum_by-cons counts_once from (range_with_len (from + 1) n) in
          let c : counts_more from ≡ counts_once from + cond (f r == 0) 1 0 =
          subst (λ q. counts_more q ≡ counts_once q + cond (f r == 0) 1 0) e more_at in
          let d = apart (from + 1) n (omega (arith, e)) in
          omega (arith, a, b, c, d)
      by (inr e) rest =
          let a = sum_by-cons counts_more from (range_with_len (from + 1) n) in
          let b = sum_by-cons counts_once from (range_with_len (from + 1) n) in
          let c = same_at from e in
          let d = rest (omega (arith, low, e)) (omega (arith, high)) in
          omega (arith, a, b, c, d)

pub holders_more : (p : Parts) (f : ℕ → ℕ) (o : Option ResourceId) → IfSome o (λ r. r.0 < length p.resources)
    → holders p (with_one f o) ≡ holders p f + is_first f o
holders_more p f None l = (λ j. holders p (λ q. none (f q) j)) ∙ sym (none (holders p f))
  where
    none : (n : ℕ) → n + 0 ≡ n
    none n = omega arith
holders_more p f (Some r) l = one_of f r.0 0 (length p.resources) (omega arith) (omega (arith, l))

pub holders_few : (p : Parts) (f : ℕ → ℕ) → AreWellMade p → holders p f ≤ RESOURCES
holders_few p f made =
    let a = count_by-le-length (λ r. ltb 0 (f r)) (range_with_len 0 (length p.resources)) in
    let b = length-range_with_len 0 (length p.resources) in
    let c = made.limits.resources in
    omega (arith, a, b, c)

-- no resource has more tasks than there are
given_total : (s : List Slot) → sum_by (λ (x : Slot). length x.given) (map emptied s)
    ≡ sum_by (λ (x : Slot). length x.given) s
given_total [] = refl
given_total (x ∷ s) =
    let a = sum_by-cons (λ (y : Slot). length y.given) (emptied x) (map emptied s) in
    let b = sum_by-cons (λ (y : Slot). length y.given) x s in
    let c : length (emptied x).given ≡ length x.given = length-replicate (length x.given) None in
    let d = given_total s in
    omega (arith, a, b, c, d)

places_total : (e : ℕ) (events : List EventInfo)
    → sum_by (λ (x : Slot). length x.given) (slots_from e events) ≤ sum_by
    (λ (y : EventInfo). y.duration * length y.places) events
places_total e [] = omega arith
places_total e (event ∷ events) =
    let a = sum_by-append (λ (x : Slot). length x.given) (slots_of_event e event) (slots_from (e + 1) events) in
    let b = of_event (range_with_len event.first_meet event.duration) in
    let c : length (range_with_len event.first_meet event.duration) ≡ event.duration =
    length-range_with_len event.first_meet event.duration in
    let d : length (range_with_len event.first_meet event.duration) * length event.places
    ≡ event.duration * length event.places = ap (λ n. n * length event.places) c in
    let f = sum_by-cons (λ (y : EventInfo). y.duration * length y.places) event events in
    let g = places_total (e + 1) events in
    omega (arith, a, b, d, f, g)
  where
    of_event : (ks : List ℕ) → sum_by (λ (x : Slot). length x.given) (map (λ k. empty_slot k e event) ks) ≤ length
        ks * length event.places
    of_event ks =
        let a = sum_by-le (λ (x : Slot). length x.given) (length event.places) (map (λ k. empty_slot k e event) ks)
        (All-map (λ (x : Slot). length x.given ≤ length event.places) (λ k. empty_slot k e event) ks
        (λ i d l. let z : length (empty_slot 0 e event).given ≡ length event.places =
        length-replicate (length event.places) None in omega (arith, z))) in
        let b : length (map (λ k. empty_slot k e event) ks) * length event.places ≡ length ks * length event.places =
        ap (λ n. n * length event.places) (length-map ks (λ k. empty_slot k e event)) in
        omega (arith, a, b)

pub held_few : (p : Parts) (m : Monitor) (s : List Slot) (q : ℕ) → AreWellMade p → map emptied s ≡ no_meets p
    → held p m s q ≤ TASKS
held_few p m s q made whose =
    let a = sum_le (named_part p m (given_in p m q)) (λ (x : Slot). length x.given) s
    (λ x. named (names p x.event.0 m) (given_in p m q x) (length x.given)
    (given_few (in_role p m x.event.0) q 0 x.given)) in
    let b = given_total s in
    let c = ap (sum_by (λ (x : Slot). length x.given)) whose in
    let d = places_total 0 p.events in
    let e = made.limits.tasks in
    omega (arith, a, b, c, d, e)
  where
    named : (b : Bool) (n k : ℕ) → n ≤ k → cond b n 0 ≤ k
    named true n k h = h
    named false n k h = omega arith

-- without meets there are none
pub held_none : (p : Parts) (m : Monitor) (q : ℕ) → held p m (no_meets p) q ≡ 0
held_none p m q = sum_of_none p m (given_in p m q) (λ k e event. given_none (in_role p m e) q 0 (length event.places))

pub free_none : (p : Parts) (m : Monitor) (q : ℕ) → loose p m (no_meets p) q ≡ 0
free_none p m q = sum_of_none p m (λ (x : Slot). cond (is_none x.span) (given_in p m q x) 0)
    (λ k e event. given_none (in_role p m e) q 0 (length event.places))
