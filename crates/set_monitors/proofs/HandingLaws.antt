-- Who has tasks in a role before and after a slot changes: the place in the role is the only one that counts.
use Rattle.std.proofs.Common.{ℕ, ◌≡◌, ◌≤◌, ◌<◌, ◌+◌, ◌-◌, ◌==◌, ◌&&◌, ◌∙◌, ◌⊎◌, inl, inr, zero, suc, Bool, true}
use Rattle.std.proofs.Common.{false, cond}
use Rattle.std.proofs.Common.{Option, Some, None, List, [], ◌∷◌, map, length, get_or, refl, sym, ap, subst, arith}
use Rattle.std.specs.Prelude.{IfSome}
use Rattle.std.proofs.lemmas.Bool.{cases_eq, eq-eqb, ne_eqb}
use Rattle.std.proofs.lemmas.List.{length-map}
use Rattle.std.proofs.lemmas.Option.{none-some, same_Some, slice_get-get_or}
use Rattle.khe_base.specs.declared.numbers.ResourceId.{ResourceId}
use Rattle.khe_instance.specs.Running.{is_resource}
use Rattle.khe_instance.specs.declared.parts.Parts.{Parts}
use Rattle.khe_instance.specs.declared.points.Monitor.{Monitor}
use Rattle.khe_told.specs.Fits.{AreTold}
use Rattle.khe_told.specs.Slots.{emptied}
use Rattle.khe_told.specs.Turns.{IsTurn, SlotTurn, turned}
use Rattle.khe_told.specs.declared.slots.Slot.{Slot}
use Rattle.event_monitors.specs.Posts.{names}
use Rattle.event_monitors.proofs.SlotFacts.{turn_event}
use Rattle.set_monitors.specs.AvoidSplitAssignments.{AreHeld, IsShared, given_from, given_in, held, holders, in_role}
use Rattle.set_monitors.specs.AvoidSplitAssignments.{is_first, is_last, loose_none, with_one}
use Rattle.set_monitors.specs.Handings.{IsHanded, IsHandedOf}
use Rattle.set_monitors.specs.NamedSums.{sum_elsewhere, sum_turned}
use Rattle.set_monitors.specs.RolePlaces.{AreRolePlaces, IsAt, IsPlaceAt}
use Rattle.set_monitors.specs.declared.holder_effects.Handing.{Handing}
use Rattle.set_monitors.specs.declared.role_places.RolePlace.{RolePlace}
use Rattle.set_monitors.proofs.HolderLaws.{holders_more}
use Rattle.set_monitors.proofs.HolderTurns.{listed_after, listed_before, same_places, within_other}
use Rattle.set_monitors.proofs.RoleLaws.{none_in_role, others_not, place_only}

-- the places that have the role
module _ (has : ℕ → Bool) (r : ℕ) where
  none_from : (start : ℕ) (given : List (Option ResourceId)) → ((i : ℕ) → start ≤ i → has i ≡ false)
      → given_from has r start given ≡ 0
  none_from start [] h = refl
  none_from start (o ∷ given) h =
      let a : cond {A = ℕ} (has start && is_resource r o) 1 0 ≡ 0 =
      ap (λ b. cond {A = ℕ} (b && is_resource r o) 1 0) (h start (omega arith)) in
      let b = none_from (start + 1) given (λ i l. h i (omega (arith, l))) in
      omega (arith, a, b)

  -- where one alone has it
  only_at : (start k : ℕ) (given : List (Option ResourceId)) → has (start + k) ≡ true
      → ((i : ℕ) → (i ≡ start + k → ⊥) → has i ≡ false)
      → given_from has r start given ≡ cond (is_resource r (get_or given k None)) 1 0
  only_at start k [] is others = refl
  only_at start zero (o ∷ given) is others =
      let z : start + 0 ≡ start = omega arith in
      let a : cond {A = ℕ} (has start && is_resource r o) 1 0 ≡ cond (is_resource r o) 1 0 =
      ap (λ b. cond {A = ℕ} (b && is_resource r o) 1 0) (ap has (sym z) ∙ is) in
      let b = none_from (start + 1) given (λ i l. others i (λ e. omega (arith, l, e))) in
      omega (arith, a, b)
  only_at start (suc k) (o ∷ given) is others =
      let z : start + 1 + k ≡ start + suc k = omega arith in
      let a : cond {A = ℕ} (has start && is_resource r o) 1 0 ≡ 0 =
      ap (λ b. cond {A = ℕ} (b && is_resource r o) 1 0) (others start (λ e. omega (arith, e))) in
      let b = only_at (start + 1) k given (ap has z ∙ is) (λ i n. others i (λ e. n (omega (arith, e)))) in
      omega (arith, a, b)

abbrev pub none_handed : Handing
none_handed = record { before = None; after = None }

module _ (p : Parts) (m : Monitor) (s : List Slot) (t : SlotTurn) (turns : IsTurn p s t) where
  same_event : t.after.event.0 ≡ t.before.event.0
  same_event = ap (λ (y : Slot). y.event.0) turns.same

  -- a slot of another event
  pub handed_elsewhere : names p t.before.event.0 m ≡ false
      → IsHanded (held p m s) none_handed (held p m (turned s t))
  handed_elsewhere named q =
      let a = sum_elsewhere p m (given_in p m q) s t.before.meet.0 t.after turns.there
      (turns.same ∙ sym (ap emptied turns.slot)) (ap (λ (x : Slot). names p x.event.0 m) turns.slot ∙ named) in
      omega (arith, a)

  -- an event without a place in the role
  pub handed_none : names p t.before.event.0 m ≡ true → ((j : ℕ) → in_role p m t.before.event.0 j ≡ false)
      → IsHanded (held p m s) none_handed (held p m (turned s t))
  handed_none named none q =
      let a = sum_turned p m (given_in p m q) s t t.after turns turns.same named in
      let b = none_from (in_role p m t.before.event.0) q 0 t.before.given (λ i l. none i) in
      let d = none_from (in_role p m t.after.event.0) q 0 t.after.given
      (λ i l. ap (λ e. in_role p m e i) same_event ∙ none i) in
      omega (arith, a, b, d)

  -- one with such a place
  pub handed_at : (k : ℕ) (before after : Option ResourceId) → names p t.before.event.0 m ≡ true
      → in_role p m t.before.event.0 k ≡ true
      → ((j : ℕ) → (j ≡ k → ⊥) → in_role p m t.before.event.0 j ≡ false)
      → before ≡ get_or t.before.given k None → after ≡ get_or t.after.given k None
      → IsHanded (held p m s) (record { before = before; after = after }) (held p m (turned s t))
  handed_at k before after named role others was is q =
      let a = sum_turned p m (given_in p m q) s t t.after turns turns.same named in
      let z : 0 + k ≡ k = omega arith in
      let b = only_at (in_role p m t.before.event.0) q 0 k t.before.given
      (ap (in_role p m t.before.event.0) z ∙ role) (λ i n. others i (λ e. n (e ∙ sym z))) in
      let d = only_at (in_role p m t.after.event.0) q 0 k t.after.given
      (ap (in_role p m t.after.event.0) z ∙ ap (λ e. in_role p m e k) same_event ∙ role)
      (λ i n. ap (λ e. in_role p m e i) same_event ∙ others i (λ e. n (e ∙ sym z))) in
      let x : cond {A = ℕ} (is_resource q before) 1 0 ≡ cond (is_resource q (get_or t.before.given k None)) 1 0 =
      ap (λ o. cond {A = ℕ} (is_resource q o) 1 0) was in
      let y : cond {A = ℕ} (is_resource q after) 1 0 ≡ cond (is_resource q (get_or t.after.given k None)) 1 0 =
      ap (λ o. cond {A = ℕ} (is_resource q o) 1 0) is in
      omega (arith, a, b, d, x, y)

  -- where both are the same
  pub handed_same : (o : Option ResourceId) → IsHanded (held p m s) (record { before = o; after = o })
      (held p m (turned s t)) → IsHanded (held p m s) none_handed (held p m (turned s t))
  handed_same o h q = let a = h q in omega (arith, a)

  -- where no place of the event is listed
  pub handed_missing : (list : List RolePlace) → AreRolePlaces p m list
      → ((i : ℕ) → IsAt list t.before.event.0 i → ⊥) → IsHanded (held p m s) none_handed (held p m (turned s t))
  handed_missing list are none = by (names p t.before.event.0 m) refl
    where
      by : (b : Bool) → names p t.before.event.0 m ≡ b → IsHanded (held p m s) none_handed (held p m (turned s t))
      by true named = handed_none named (none_in_role p m list t.before.event.0 are (turn_event p s t turns) named none)
      by false named = handed_elsewhere named

  -- where one is
  pub handed_place : (list : List RolePlace) (k : ℕ) (before after : Option ResourceId) → AreRolePlaces p m list
      → IsPlaceAt list t.before.event.0 k → names p t.before.event.0 m ≡ true
      → before ≡ get_or t.before.given k None → after ≡ get_or t.after.given k None
      → IsHanded (held p m s) (record { before = before; after = after }) (held p m (turned s t))
  handed_place list k before after are at named was is =
      let only = place_only p m list t.before.event.0 k are at in
      handed_at k before after named only.0 (others_not p m t.before.event.0 k only) was is

  pub handed_still : (list : List RolePlace) (k : ℕ) (before after : Option ResourceId) → AreRolePlaces p m list
      → IsPlaceAt list t.before.event.0 k → before ≡ get_or t.before.given k None
      → after ≡ get_or t.after.given k None → before ≡ after
      → IsHanded (held p m s) none_handed (held p m (turned s t))
  handed_still list k before after are at was is same = by (names p t.before.event.0 m) refl
    where
      by : (b : Bool) → names p t.before.event.0 m ≡ b → IsHanded (held p m s) none_handed (held p m (turned s t))
      by true named = handed_same after (subst (λ o. IsHanded (held p m s) (record { before = o; after = after })
          (held p m (turned s t))) same (handed_place list k before after are at named was is))
      by false named = handed_elsewhere named

  -- what is handed may have tasks in the role
  pub handed_listed : (numbers row : List ℕ) (n : ℕ) → IsShared p m s numbers row n → (list : List RolePlace) (k : ℕ)
      (before after : Option ResourceId) → AreRolePlaces p m list → IsPlaceAt list t.before.event.0 k
      → names p t.before.event.0 m ≡ true → (before ≡ after → ⊥) → before ≡ get_or t.before.given k None
      → after ≡ get_or t.after.given k None → IsHandedOf numbers (record { before = before; after = after })
  handed_listed numbers row n kept list k before after are at named differ was is =
      let only = place_only p m list t.before.event.0 k are at in
      let l = within_other p m s t turns named k (λ h. differ (was ∙ h ∙ sym is)) in
      let same = same_places p s t turns in
      let l_old : k < length t.before.given = omega (arith, l, same) in (
        listed_before p m s t numbers row n kept turns named k before only.0
            (slice_get-get_or t.before.given k None l_old ∙ ap Some (sym was)),
        listed_after p m s t numbers row n kept turns named k after only.0
            (slice_get-get_or t.after.given k None l ∙ ap Some (sym is)),
      )

-- nothing changes where nothing is handed
pub handed_nothing : (f : ℕ → ℕ) → IsHanded f none_handed f
handed_nothing f q = refl

-- how many have tasks then
pub holders_handed : (p : Parts) (f g : ℕ → ℕ) (h : Handing) → IsHanded f h g
    → IfSome h.before (λ (r : ResourceId). r.0 < length p.resources)
    → IfSome h.after (λ (r : ResourceId). r.0 < length p.resources)
    → holders p g ≡ holders p f + is_first f h.after - is_last (with_one f h.after) h.before
holders_handed p f g h handed before after =
    let a = holders_more p f h.after after in
    let b = holders_more p g h.before before in
    let c : holders p (with_one f h.after) ≡ holders p (with_one g h.before) = (λ j. holders p (λ q. sym (handed q)
    j)) in
    let d = last_is h.before handed in
    omega (arith, a, b, c, d)
  where
    once : (n k : ℕ) → n ≡ k + 1 → cond {A = ℕ} (n == 1) 1 0 ≡ cond {A = ℕ} (k == 0) 1 0
    once n k e = by (cases_eq k 0)
      where
        by : (k ≡ 0) ⊎ (k ≡ 0 → ⊥) → cond {A = ℕ} (n == 1) 1 0 ≡ cond {A = ℕ} (k == 0) 1 0
        by (inl z) = (λ i. cond {A = ℕ} (eq-eqb n 1 (let y : n ≡ 1 = omega (arith, e, z) in y) i) 1 0)
            ∙ sym (ap (λ b. cond {A = ℕ} b 1 0) (eq-eqb k 0 z))
        by (inr z) = (λ i. cond {A = ℕ} (ne_eqb n 1 (λ y. z (omega (arith, e, y))) i) 1 0)
            ∙ sym (ap (λ b. cond {A = ℕ} b 1 0) (ne_eqb k 0 z))

    last_is : (o : Option ResourceId)
        → ((q : ℕ) → g q + cond (is_resource q o) 1 0 ≡ f q + cond (is_resource q h.after) 1 0)
        → is_last (with_one f h.after) o ≡ is_first g o
    last_is None k = refl
    last_is (Some r) k =
        let a = k r.0 in
        let b : cond {A = ℕ} (r.0 == r.0) 1 0 ≡ 1 = ap (λ b. cond {A = ℕ} b 1 0) (eq-eqb r.0 r.0 refl) in
        once (with_one f h.after r.0) (g r.0) (omega (arith, a, b))

-- what would be kept for a state
counts_of : (f : ℕ → ℕ) (numbers : List ℕ) → AreHeld f numbers (map f numbers)
counts_of f (n ∷ numbers) zero r h = ap (λ k. Some (f k)) (same_Some n r h)
counts_of f (n ∷ numbers) (suc k) r h = counts_of f numbers k r h
counts_of f [] k r h = absurd (none-some r h)

pub shared_of_state : (p : Parts) (m : Monitor) (s later : List Slot) (numbers row : List ℕ) (n above : ℕ)
    → AreTold p later → above ≡ holders p (held p m later) → IsShared p m s numbers row n
    → IsShared p m later numbers (map (held p m later) numbers) above
shared_of_state p m s later numbers row n above told is kept = record {
  monitor = kept.monitor;
  serves = kept.serves;
  candidates = kept.candidates;
  amount = length-map numbers (held p m later);
  counts = counts_of (held p m later) numbers;
  free = λ r. loose_none p m later r told;
  above = is;
}
