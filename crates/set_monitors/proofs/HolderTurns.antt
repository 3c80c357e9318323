-- What is kept for a monitor on split assignments, while the places of a turned slot are followed.
use Rattle.std.proofs.Common.{ℕ, ◌≡◌, ◌≤◌, ◌<◌, ◌+◌, ◌-◌, ◌==◌, ◌∙◌, ◌&&◌, ◌⊎◌, inl, inr, zero, suc, ltb, count_by}
use Rattle.std.proofs.Common.{true}
use Rattle.std.proofs.Common.{false, cond, Option, Some, None, List, [], ◌∷◌, length, set, get_or, slice_get, refl, sym}
use Rattle.std.proofs.Common.{ap}
use Rattle.std.proofs.Common.{subst}
use Rattle.std.proofs.Common.{add-one, arith, get_or-set_same}
use Rattle.std.specs.Prelude.{IfSome, replicate}
use Rattle.std.specs.List.{range_with_len}
use Rattle.std.specs.Option.{option_and_then, option_map_or}
use Rattle.std.proofs.Math.Seq.{map-set_same}
use Rattle.std.proofs.lemmas.Bool.{cases_eq, eq-eqb, ne_eqb, true≢false}
use Rattle.std.proofs.lemmas.List.{length-replicate, length-set}
use Rattle.std.proofs.lemmas.List.Elements.{All-get_or}
use Rattle.std.proofs.lemmas.List.Sums.{sum_by-cons}
use Rattle.std.proofs.lemmas.Option.{get_or_from_slice_get, same_Some, slice_get-get_or}
use Rattle.std.proofs.lemmas.Option.{slice_get_cases, slice_get_within}
use Rattle.khe_base.specs.declared.limits.TheConstants.{TASKS}
use Rattle.khe_base.specs.declared.numbers.ResourceId.{ResourceId}
use Rattle.khe_base.proofs.ListLemmas.{there}
use Rattle.khe_instance.specs.KindLaws.{is_kind}
use Rattle.khe_instance.specs.Lookups.{role_at}
use Rattle.khe_instance.specs.Running.{is_resource}
use Rattle.khe_instance.specs.WellMade.{AreWellMade, IsMonitor}
use Rattle.khe_instance.specs.declared.parts.EventInfo.{EventInfo}
use Rattle.khe_instance.specs.declared.parts.Parts.{Parts}
use Rattle.khe_instance.specs.declared.parts.Place.{Place}
use Rattle.khe_instance.specs.declared.points.Monitor.{Monitor}
use Rattle.khe_instance.specs.declared.rules.Constraint.{Constraint}
use Rattle.khe_instance.specs.declared.rules.Kind.TheVariants as kind
use Rattle.khe_told.specs.Fits.{IsSlot}
use Rattle.khe_told.specs.Slots.{emptied, no_meets, no_slot}
use Rattle.khe_told.specs.Turns.{IsTurn, SlotTurn, turned}
use Rattle.khe_told.specs.declared.slots.Slot.{Slot}
use Rattle.event_monitors.specs.Posts.{names}
use Rattle.event_monitors.specs.ShareLaws.{rule_of_kind}
use Rattle.event_monitors.proofs.SlotFacts.{turn_event}
use Rattle.set_monitors.specs.AvoidSplitAssignments.{AreCandidates, AreHeld, AreWithin, IsListed, IsShared, given_from}
use Rattle.set_monitors.specs.AvoidSplitAssignments.{given_in, held, holders, in_role, is_first, is_last, loose_none}
use Rattle.set_monitors.specs.AvoidSplitAssignments.{wants}
use Rattle.set_monitors.specs.AvoidSplitAssignments.{with_one, without_one}
use Rattle.set_monitors.specs.NamedSums.{sum_turned}
use Rattle.set_monitors.proofs.HolderLaws.{free_none, given_next, held_few, held_none, holders_more, length-mixed}
use Rattle.set_monitors.proofs.HolderLaws.{mixed, mixed_all, part}
use Rattle.set_monitors.proofs.SpreadLaws.{nothing_at}

-- a place in the role is there
module _ (p : Parts) (m : Monitor) (s : List Slot) (numbers counts : List ℕ) (above : ℕ)
    (kept : IsShared p m s numbers counts above) where
  in_role_of : (e k : ℕ) → in_role p m e k ≡ true → wants kept.monitor.0.rule (role_at p.events e k) ≡ true
  in_role_of e k role = sym (ap (λ o. option_map_or (λ (c : Constraint). wants c.rule (role_at p.events e k)) o false)
      kept.monitor.1) ∙ role

  wants_none : wants kept.monitor.0.rule None ≡ false
  wants_none =
      let of = rule_of_kind kind.AvoidSplitAssignments kept.monitor.0.rule
      (ap (λ a. is_kind a kind.AvoidSplitAssignments) (sym kept.monitor.2) ∙ kept.serves) in
      ap (λ r. wants r None) of.1

  placed : (e k : ℕ) (event : EventInfo) → slice_get p.events e ≡ Some event → in_role p m e k ≡ true
      → (place : Place) × (slice_get event.places k ≡ Some place)
  placed e k event at role = by (slice_get_cases event.places k).1
    where
      by : ((x : Place) × (k < length event.places) × (slice_get event.places k ≡ Some x)
          × (get_or event.places k x ≡ x)) ⊎ ((length event.places ≤ k) × (slice_get event.places k ≡ None))
          → (place : Place) × (slice_get event.places k ≡ Some place)
      by (inl h) = (h.0, h.2)
      by (inr h) =
          let none : role_at p.events e k ≡ None = (λ j. option_and_then
          (λ (event : EventInfo). option_and_then (λ (q : Place). q.role) (slice_get event.places k)) (at j))
          ∙ ap (option_and_then (λ (q : Place). q.role)) h.1 in
          absurd (true≢false (sym (in_role_of e k role) ∙ ap (wants kept.monitor.0.rule) none ∙ wants_none))

  -- so the resource that a told slot gives there is a candidate
  pub given_listed : (x : Slot) (k : ℕ) (o : Option ResourceId) → IsSlot p x → names p x.event.0 m ≡ true
      → x.event.0 < length p.events → in_role p m x.event.0 k ≡ true → slice_get x.given k ≡ Some o
      → IfSome o (λ r. IsListed numbers r.0)
  given_listed x k None is named known role at = tt
  given_listed x k (Some r) is named known role at =
      let event = there p.events x.event.0 known in
      let place = placed x.event.0 k event.value event.found role in
      kept.candidates.known r.0 (record {
        e = x.event.0;
        event = event.value;
        k = k;
        place = place.0;
        named = named;
        there = event.found;
        placed = place.1;
        role = role;
        typed = is.given event.value k place.0 r event.found place.1 at;
      })

  pub listed_within : (o : Option ResourceId) → IfSome o (λ r. IsListed numbers r.0)
      → IfSome o (λ r. r.0 < length p.resources)
  listed_within None is = tt
  listed_within (Some r) is = kept.candidates.within is.0 r.0 is.1

-- a count that is one more is 1 where it was 0
last_first : (n k : ℕ) → n ≡ k + 1 → (n == 1) ≡ (k == 0)
last_first n k h = by (cases_eq k 0)
  where
    by : (k ≡ 0) ⊎ (k ≡ 0 → ⊥) → (n == 1) ≡ (k == 0)
    by (inl e) = eq-eqb n 1 (omega (arith, h, e)) ∙ sym (eq-eqb k 0 e)
    by (inr e) = ne_eqb n 1 (λ z. e (omega (arith, h, z))) ∙ sym (ne_eqb k 0 e)

-- a turned slot keeps its event, and how many places it has
module _ (p : Parts) (s : List Slot) (t : SlotTurn) (turns : IsTurn p s t) where
  same_event : t.after.event.0 ≡ t.before.event.0
  same_event = ap (λ (y : Slot). y.event.0) turns.same

  pub same_places : length t.before.given ≡ length t.after.given
  same_places =
      let a : length (emptied t.after).given ≡ length (emptied t.before).given = ap (λ (y : Slot). length y.given)
      turns.same in
      let b : length (emptied t.after).given ≡ length t.after.given = length-replicate (length t.after.given) None in
      let c : length (emptied t.before).given ≡ length t.before.given = length-replicate (length t.before.given) None
      in omega (arith, a, b, c)

-- nothing stands at a place beyond the end
beyond : {A : Type 0} (xs : List A) (k : ℕ) (d : A) → length xs ≤ k → get_or xs k d ≡ d
beyond [] k d l = refl
beyond (x ∷ xs) zero d l = absurd (omega (arith, l))
beyond (x ∷ xs) (suc k) d l = beyond xs k d (omega (arith, l))

-- what a list that is read gives at a place
pub read_at : (xs given : List (Option ResourceId)) (k : ℕ) (o : Option ResourceId) → xs ≡ given → o ≡ get_or xs k None
    → k < length given → slice_get given k ≡ Some o
read_at xs given k o same is l =
    slice_get-get_or given k None l ∙ ap Some (sym (is ∙ ap (λ ys. get_or ys k None) same))

-- the slots while the places are turned, one after the other
abbrev pub midway : List Slot → SlotTurn → ℕ → List Slot
midway s t k = set s t.before.meet.0 (record t.before { given = mixed k t.before.given t.after.given })

-- what is kept then
pub record AreMidway (p : Parts) (m : Monitor) (s : List Slot) (t : SlotTurn) (numbers row : List ℕ) (n k : ℕ)
    : Type 0 where
  pub amount : length row ≡ length numbers
  pub counts : AreHeld (held p m (midway s t k)) numbers row
  pub above : n ≡ holders p (held p m (midway s t k))

module _ (p : Parts) (m : Monitor) (s : List Slot) (t : SlotTurn) (turns : IsTurn p s t)
    (named : names p t.before.event.0 m ≡ true) where
  abbrev mixed_slot : ℕ → Slot
  mixed_slot k = record t.before { given = mixed k t.before.given t.after.given }

  emptied_mixed : (k : ℕ) → emptied (mixed_slot k) ≡ emptied t.before
  emptied_mixed k = ap (λ n. record t.before { span = None; given = replicate n None })
      (length-mixed k t.before.given t.after.given)

  mixed_sum : (k q : ℕ) → held p m (midway s t k) q + given_in p m q t.before
      ≡ held p m s q + given_in p m q (mixed_slot k)
  mixed_sum k q = sum_turned p m (given_in p m q) s t (mixed_slot k) turns (emptied_mixed k) named

  pub held_mixed_few : (k q : ℕ) → AreWellMade p → held p m (midway s t k) q ≤ TASKS
  held_mixed_few k q made = held_few p m (midway s t k) q made
      (map-set_same emptied s t.before.meet.0 (mixed_slot k) no_slot
      (emptied_mixed k ∙ ap emptied (sym turns.slot)) ∙ turns.told.whose)

  -- one more place: what it was given goes, what it is given comes
  held_next : (k q : ℕ) (o n : Option ResourceId) → slice_get t.before.given k ≡ Some o
      → slice_get t.after.given k ≡ Some n
      → held p m (midway s t (k + 1)) q + part (in_role p m t.before.event.0) q k o
      ≡ held p m (midway s t k) q + part (in_role p m t.before.event.0) q k n
  held_next k q o n was is =
      let a = mixed_sum (k + 1) q in
      let b = mixed_sum k q in
      let c = given_next (in_role p m t.before.event.0) q 0 k k t.before.given t.after.given o n (omega arith) was is in
      let d : given_in p m q (mixed_slot (suc k)) ≡ given_in p m q (mixed_slot (k + 1)) =
      ap (λ i. given_in p m q (mixed_slot i)) (sym (add-one k)) in
      omega (arith, a, b, c, d)

  -- where no place is turned yet, and where all are
  pub midway_begun : (numbers row : List ℕ) (n : ℕ) → IsShared p m s numbers row n
      → AreMidway p m s t numbers row n 0
  midway_begun numbers row n kept = record {
    amount = kept.amount;
    counts = λ k r h. kept.counts k r h ∙ ap Some (sym (same r));
    above = kept.above ∙ sym (λ j. holders p (λ q. same q j));
  }
    where
      same : (q : ℕ) → held p m (midway s t 0) q ≡ held p m s q
      same q = let a = mixed_sum 0 q in omega (arith, a)

  pub midway_done : (numbers old row : List ℕ) (n_old n k : ℕ) → length t.after.given ≤ k
      → IsShared p m s numbers old n_old → AreMidway p m s t numbers row n k
      → IsShared p m (turned s t) numbers row n
  midway_done numbers old row n_old n k past kept so = record {
    monitor = kept.monitor;
    serves = kept.serves;
    candidates = kept.candidates;
    amount = so.amount;
    counts = λ i r h. so.counts i r h ∙ ap Some (same r);
    free = λ q. loose_none p m (turned s t) q turns.later;
    above = so.above ∙ (λ j. holders p (λ q. same q j));
  }
    where
      same : (q : ℕ) → held p m (midway s t k) q ≡ held p m (turned s t) q
      same q =
          let a = mixed_sum k q in
          let b = sum_turned p m (given_in p m q) s t t.after turns turns.same named in
          let all = mixed_all k t.before.given t.after.given (same_places p s t turns)
          (let l = same_places p s t turns in omega (arith, l, past)) in
          let c : given_in p m q (mixed_slot k) ≡ given_in p m q t.after =
          (λ j. given_from (in_role p m (sym (same_event p s t turns) j)) q 0 (all j)) in
          omega (arith, a, b, c)

  -- one more place that is given the same, or is not in the role
  pub midway_kept : (numbers row : List ℕ) (n k : ℕ) (o new : Option ResourceId) → slice_get t.before.given k ≡ Some o
      → slice_get t.after.given k ≡ Some new → (o ≡ new) ⊎ (in_role p m t.before.event.0 k ≡ false)
      → AreMidway p m s t numbers row n k → AreMidway p m s t numbers row n (k + 1)
  midway_kept numbers row n k o new was is still so = record {
    amount = so.amount;
    counts = λ i r h. so.counts i r h ∙ ap Some (sym (same r));
    above = so.above ∙ sym (λ j. holders p (λ q. same q j));
  }
    where
      parts : (q : ℕ) → (o ≡ new) ⊎ (in_role p m t.before.event.0 k ≡ false)
          → part (in_role p m t.before.event.0) q k o ≡ part (in_role p m t.before.event.0) q k new
      parts q (inl e) = ap (part (in_role p m t.before.event.0) q k) e
      parts q (inr e) = ap (λ b. cond {A = ℕ} (b && is_resource q o) 1 0) e
          ∙ sym (ap (λ b. cond {A = ℕ} (b && is_resource q new) 1 0) e)

      same : (q : ℕ) → held p m (midway s t (k + 1)) q ≡ held p m (midway s t k) q
      same q = let a = held_next k q o new was is in let b = parts q still in omega (arith, a, b)

  -- one more place in the role that is given something else
  pub midway_turned : (numbers row mid later : List ℕ) (n more less k : ℕ) (o new : Option ResourceId)
      → slice_get t.before.given k ≡ Some o → slice_get t.after.given k ≡ Some new
      → in_role p m t.before.event.0 k ≡ true
      → IfSome o (λ r. r.0 < length p.resources) → IfSome new (λ r. r.0 < length p.resources)
      → length later ≡ length numbers
      → ((f : ℕ → ℕ) → AreHeld f numbers row → AreHeld (with_one f new) numbers mid)
      → ((f : ℕ → ℕ) → AreHeld f numbers row → more ≡ n + is_first f new)
      → ((f : ℕ → ℕ) → AreHeld f numbers mid → AreHeld (without_one f o) numbers later)
      → ((f : ℕ → ℕ) → AreHeld f numbers mid → less ≡ more - is_last f o)
      → AreMidway p m s t numbers row n k → AreMidway p m s t numbers later less (k + 1)
  midway_turned numbers row mid later n more less k o new was is role there_old there_new amount risen more_is fallen
      less_is so =
      record {
        amount = amount;
        counts = λ i r h. fallen (with_one f new) (risen f so.counts) i r h ∙ ap Some (fall_is r);
        above =
            let a = less_is (with_one f new) (risen f so.counts) in
            let b = more_is f so.counts in
            let c = holders_more p f new there_new in
            let d : holders p (with_one f new) ≡ holders p (with_one g o) = λ j. holders p (λ q. same q j) in
            let e = holders_more p g o there_old in
            let l = last_is o same in
            let h = so.above in
            omega (arith, a, b, c, d, e, l, h);
      }
    where
      f : ℕ → ℕ
      f = held p m (midway s t k)

      g : ℕ → ℕ
      g = held p m (midway s t (k + 1))

      role_part : (q : ℕ) (a : Option ResourceId) → part (in_role p m t.before.event.0) q k a
          ≡ cond (is_resource q a) 1 0
      role_part q a = ap (λ b. cond {A = ℕ} (b && is_resource q a) 1 0) role

      same : (q : ℕ) → with_one f new q ≡ with_one g o q
      same q = let a = held_next k q o new was is in let b = role_part q o in let c = role_part q new in
          omega (arith, a, b, c)

      fall_is : (q : ℕ) → without_one (with_one f new) o q ≡ g q
      fall_is q = let a = same q in omega (arith, a)

      last_is : (a : Option ResourceId) → ((q : ℕ) → with_one f new q ≡ with_one g a q)
          → is_last (with_one f new) a ≡ is_first g a
      last_is None h = refl
      last_is (Some r) h =
          let a = h r.0 in
          let b : cond {A = ℕ} (r.0 == r.0) 1 0 ≡ 1 = ap (λ b. cond b 1 0) (eq-eqb r.0 r.0 refl) in
          ap (λ b. cond b 1 0) (last_first (with_one f new r.0) (g r.0) (omega (arith, a, b)))

  -- a place that is given the same, or is not in the role
  abbrev pub IsStill : ℕ → Type 0
  IsStill j = (o new : Option ResourceId) → slice_get t.before.given j ≡ Some o → slice_get t.after.given j ≡ Some new
      → (o ≡ new) ⊎ (in_role p m t.before.event.0 j ≡ false)

  -- so is each place where one place alone is in the role, and is given the same
  pub still_one : (k : ℕ) → get_or t.before.given k None ≡ get_or t.after.given k None
      → ((j : ℕ) → (j ≡ k → ⊥) → in_role p m t.before.event.0 j ≡ false) → (j : ℕ) → IsStill j
  still_one k same others j = by (cases_eq j k)
    where
      by : (j ≡ k) ⊎ (j ≡ k → ⊥) → IsStill j
      by (inl z) = λ o new was is. inl (sym (get_or_from_slice_get t.before.given k o None
          (ap (slice_get t.before.given) (sym z) ∙ was)) ∙ same
          ∙ get_or_from_slice_get t.after.given k new None (ap (slice_get t.after.given) (sym z) ∙ is))
      by (inr z) = λ o new was is. inr (others j z)

  -- one that is given something else is there
  pub within_other : (k : ℕ) → (get_or t.before.given k None ≡ get_or t.after.given k None → ⊥)
      → k < length t.after.given
  within_other k apart = by (slice_get_cases t.after.given k).1
    where
      by : ((x : Option ResourceId) × (k < length t.after.given) × (slice_get t.after.given k ≡ Some x)
          × (get_or t.after.given k x ≡ x)) ⊎ ((length t.after.given ≤ k) × (slice_get t.after.given k ≡ None))
          → k < length t.after.given
      by (inl h) = h.1
      by (inr h) =
          let same = same_places p s t turns in
          let l = h.0 in
          absurd (apart (beyond t.before.given k None (omega (arith, l, same)) ∙ sym (beyond t.after.given k None l)))

  -- n of these
  midway_past : (numbers row : List ℕ) (n i d : ℕ) → i + d ≤ length t.after.given
      → ((j : ℕ) → i ≤ j → j < i + d → IsStill j) → AreMidway p m s t numbers row n i
      → AreMidway p m s t numbers row n (i + d)
  midway_past numbers row n i zero l still so =
      let e : i ≡ i + 0 = omega arith in
      subst (AreMidway p m s t numbers row n) e so
  midway_past numbers row n i (suc d) l still so =
      let same = same_places p s t turns in
      let x = there t.before.given (i + d) (omega (arith, l, same)) in
      let y = there t.after.given (i + d) (omega (arith, l)) in
      let e : i + d + 1 ≡ i + suc d = omega arith in
      subst (AreMidway p m s t numbers row n) e
      (midway_kept numbers row n (i + d) x.value y.value x.found y.found
      (still (i + d) (omega arith) (omega arith) x.value y.value x.found y.found)
      (midway_past numbers row n i d (omega (arith, l)) (λ j a b. still j a (omega (arith, b))) so))

  -- a turn that gives no place in the role anything else
  pub turned_still : (numbers row : List ℕ) (n : ℕ) → ((j : ℕ) → IsStill j) → IsShared p m s numbers row n
      → IsShared p m (turned s t) numbers row n
  turned_still numbers row n still kept =
      midway_done numbers row row n n (0 + length t.after.given) (omega arith) kept
      (midway_past numbers row n 0 (length t.after.given) (omega arith) (λ j a b. still j)
      (midway_begun numbers row n kept))

  -- one that gives one of them something else
  pub turned_at : (numbers row later : List ℕ) (n less k : ℕ) → k < length t.after.given
      → ((j : ℕ) → (j ≡ k → ⊥) → IsStill j)
      → (AreMidway p m s t numbers row n k → AreMidway p m s t numbers later less (k + 1))
      → IsShared p m s numbers row n → IsShared p m (turned s t) numbers later less
  turned_at numbers row later n less k l still step kept =
      let rest : ℕ = length t.after.given - (k + 1) in
      let e : 0 + k ≡ k = omega arith in
      let first = subst (AreMidway p m s t numbers row n) e
      (midway_past numbers row n 0 k (omega (arith, l)) (λ j a b. still j (λ z. omega (arith, b, z)))
      (midway_begun numbers row n kept)) in
      midway_done numbers row later n less (k + 1 + rest) (omega (arith, l)) kept
      (midway_past numbers later less (k + 1) rest (omega (arith, l)) (λ j a b. still j (λ z. omega (arith, a, z)))
      (step first))

-- what a turned slot gives at a place in the role, before and after
module _ (p : Parts) (m : Monitor) (s : List Slot) (t : SlotTurn) (numbers counts : List ℕ) (above : ℕ)
    (kept : IsShared p m s numbers counts above) (turns : IsTurn p s t)
    (named : names p t.before.event.0 m ≡ true) where
  pub listed_before : (k : ℕ) (o : Option ResourceId) → in_role p m t.before.event.0 k ≡ true
      → slice_get t.before.given k ≡ Some o → IfSome o (λ r. IsListed numbers r.0)
  listed_before k o role at =
      given_listed p m s numbers counts above kept t.before k o
      (subst (IsSlot p) turns.slot (All-get_or (IsSlot p) s t.before.meet.0 no_slot turns.there turns.told.slots)) named
      (turn_event p s t turns) role at

  pub listed_after : (k : ℕ) (o : Option ResourceId) → in_role p m t.before.event.0 k ≡ true
      → slice_get t.after.given k ≡ Some o → IfSome o (λ r. IsListed numbers r.0)
  listed_after k o role at =
      let e = same_event p s t turns in
      let l : t.before.meet.0 < length (turned s t) = let a = length-set s t.before.meet.0 t.after in
      let b = turns.there in omega (arith, a, b) in
      given_listed p m s numbers counts above kept t.after k o
      (subst (IsSlot p) (get_or-set_same s t.before.meet.0 t.after no_slot turns.there)
      (All-get_or (IsSlot p) (turned s t) t.before.meet.0 no_slot l turns.later.slots))
      (ap (λ n. names p n m) e ∙ named) (let known = turn_event p s t turns in omega (arith, known, e))
      (ap (λ n. in_role p m n k) e ∙ role) at

-- no count is more than all tasks
pub held_within : (f : ℕ → ℕ) (numbers row : List ℕ) → length row ≡ length numbers → AreHeld f numbers row
    → ((r : ℕ) → f r ≤ TASKS) → AreWithin row
held_within f numbers row same are few k n h =
    let l = slice_get_within row k n h in
    let r = there numbers k (omega (arith, same, l)) in
    let e : f r.value ≡ n = same_Some (f r.value) n (sym (are k r.value r.found) ∙ h) in
    let b = few r.value in
    omega (arith, e, b)

-- without meets no resource has a task
no_holders : (from n : ℕ) → count_by (λ (r : ℕ). ltb 0 0) (range_with_len from n) ≡ 0
no_holders from zero = refl
no_holders from (suc n) =
    let a = sum_by-cons (λ (r : ℕ). cond {A = ℕ} (ltb 0 0) 1 0) from (range_with_len (from + 1) n) in
    let b = no_holders (from + 1) n in
    omega (arith, a, b)

pub shared_none : (p : Parts) (m : Monitor) (numbers row : List ℕ) → IsMonitor p m
    → is_kind m.kind kind.AvoidSplitAssignments ≡ true → AreCandidates p m numbers → row ≡ replicate (length numbers) 0
    → IsShared p m (no_meets p) numbers row 0
shared_none p m numbers row monitor serves are zeros = record {
  monitor = monitor;
  serves = serves;
  candidates = are;
  amount = ap length zeros ∙ length-replicate (length numbers) 0;
  counts = λ k r h. ap (λ xs. slice_get xs k) zeros ∙ nothing_at (length numbers) k (slice_get_within numbers k r h)
      ∙ ap Some (sym (held_none p m r));
  free = λ r. free_none p m r;
  above = sym ((λ j. count_by (λ (r : ℕ). ltb 0 (held_none p m r j)) (range_with_len 0 (length p.resources)))
      ∙ no_holders 0 (length p.resources));
}
