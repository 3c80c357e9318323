-- Units of a state without meets: all are free.
use Rattle.std.proofs.Common.{ℕ, zero, suc, ◌+◌, ◌<◌, ◌≤◌, ◌≡◌, Some, List, [], ◌∷◌, ◌++◌, map, take, length, get_or}
use Rattle.std.proofs.Common.{slice_get, sym, ap, ◌∙◌, subst, arith}
use Rattle.std.specs.List.{range_with_len}
use Rattle.std.proofs.lemmas.List.{length-map}
use Rattle.std.proofs.lemmas.List.FromFn.{length-range_with_len, get_or-range_with_len}
use Rattle.std.proofs.lemmas.Option.{same_Some, get_or_from_slice_get}
use Rattle.khe_instance.specs.Slots.{HasSlot}
use Rattle.khe_instance.specs.WellMade.{AreWellMade}
use Rattle.khe_instance.specs.declared.parts.EventInfo.{EventInfo}
use Rattle.khe_instance.specs.declared.parts.Parts.{Parts}
use Rattle.khe_told.specs.Slots.{no_meets}
use Rattle.khe_told.proofs.FreeSlots.{none_held, none_long}
use Rattle.hall_report.proofs.UnitLaws.{units_below, walk_suc, walk_zero}
use Rattle.hall_report.specs.Units.{AreUnits, IsFree, IsOffset, unit_at, units_of, walk}
use Rattle.hall_report.proofs.Places.{mapped_there}

pub range_next : (a n : ℕ) → range_with_len a (n + 1) ≡ range_with_len a n ++ (a + n) ∷ []
range_next a zero = let e : a ≡ a + 0 = omega arith in ap (λ k. k ∷ []) e
range_next a (suc n) =
    let one : suc n + 1 ≡ suc (n + 1) = omega arith in
    let two : a + 1 + n ≡ a + suc n = omega arith in
    ap (range_with_len a) one ∙ ap (λ xs. a ∷ xs)
    (range_next (a + 1) n ∙ ap (λ k. range_with_len (a + 1) n ++ k ∷ []) two)

pub mapped_next : {A B : Type 0} (f : A → B) (xs : List A) (i : ℕ) (x : A) → slice_get xs i ≡ Some x
    → map f (take (i + 1) xs) ≡ map f (take i xs) ++ f x ∷ []
mapped_next f [] i x h = absurd (let g : ⊥ = cc in g)
mapped_next f (z ∷ xs) zero x h = ap (λ y. f y ∷ []) (same_Some z x h)
mapped_next f (z ∷ xs) (suc i) x h =
    let one : suc i + 1 ≡ suc (i + 1) = omega arith in
    ap (λ n. map f (take n (z ∷ xs))) one ∙ ap (λ ys. f z ∷ ys) (mapped_next f xs i x h)

-- one unit after the other
walk_on : (n u i : ℕ) → u + i ≤ n → walk (range_with_len 1 n) u i ≡ u + i
walk_on n u zero l = let e : u ≡ u + 0 = omega arith in walk_zero (range_with_len 1 n) u ∙ e
walk_on n u (suc i) l =
    let e : 1 + (u + i) ≡ u + suc i = omega arith in
    walk_suc (range_with_len 1 n) u i ∙ ap (λ v. get_or (range_with_len 1 n) v 0) (walk_on n u i (omega (arith, l)))
    ∙ get_or-range_with_len 1 n (u + i) 0 (omega (arith, l)) ∙ e

-- a meet slot of an event, and how far its units go
slot_at_event : (events : List EventInfo) (e i : ℕ) (event : EventInfo) → slice_get events e ≡ Some event
    → i < event.duration → HasSlot events e (event.first_meet + i)
slot_at_event events e i event at l = (event, at, omega arith, omega (arith, l))

pub units_open : (p : Parts) (firsts : List ℕ) → AreWellMade p → length firsts ≡ units_of p.events
    → AreUnits p.events (no_meets p) (range_with_len 1 (units_of p.events)) firsts
    (map (λ (e : EventInfo). e.first_meet) p.events)
units_open p firsts made many =
    record {
      next_length = length-range_with_len 1 (units_of p.events);
      firsts_length = many;
      free_length = length-map p.events (λ (e : EventInfo). e.first_meet);
      holds = λ m o l. absurd (none m o l);
      apart = λ m k i j l g same. absurd (none m i l);
      spare = λ e i event at l. subst (HasSlot p.events e) (sym (free_is e i event at l))
          (slot_at_event p.events e i event at (let a = none_held e p in omega (arith, a, l)));
      spare_apart = λ e i j event at l g same. let r : event.first_meet + i ≡ event.first_meet + j =
          sym (free_is e i event at l) ∙ same ∙ free_is e j event at g in omega (arith, r);
      others = λ m o e i event l at g same. none m o l;
    }
  where
    none : (m o : ℕ) → IsOffset (no_meets p) m o → ⊥
    none m o l = let a = none_long p m in omega (arith, a, l)

    free_is : (e i : ℕ) (event : EventInfo) → slice_get p.events e ≡ Some event → IsFree (no_meets p) e event i
        → unit_at (range_with_len 1 (units_of p.events)) (map (λ (z : EventInfo). z.first_meet) p.events) e i
        ≡ event.first_meet + i
    free_is e i event at l =
        let below = units_below p.events e (event.first_meet + i) made.first_meets
        (slot_at_event p.events e i event at (let a = none_held e p in omega (arith, a, l))) in
        ap (λ u. walk (range_with_len 1 (units_of p.events)) u i)
        (get_or_from_slice_get (map (λ (e : EventInfo). e.first_meet) p.events) e event.first_meet 0
        (mapped_there (λ (e : EventInfo). e.first_meet) p.events e event at))
        ∙ walk_on (units_of p.events) event.first_meet i (omega (arith, below))
