-- What a bench keeps.
use Rattle.std.proofs.Common.{ℕ, ◌≡◌, ◌≤◌, ◌<◌, ◌+◌, ◌-◌, ◌^◌, ◌==◌, ◌∙◌, ◌⊎◌, inl, inr, suc, Bool, true, false, cond}
use Rattle.std.proofs.Common.{Option, Some, None, List, [], ◌∷◌, map, sum_by, set, get_or, replicate, length, slice_get}
use Rattle.std.proofs.Common.{slice_index, refl, sym, ap, subst, arith}
use Rattle.std.specs.List.{range_with_len}
use Rattle.std.proofs.lemmas.Bool.{cases_eq, eq-eqb}
use Rattle.std.proofs.lemmas.List.{length-replicate, length-set}
use Rattle.std.proofs.lemmas.List.Elements.{All-get_or}
use Rattle.std.proofs.lemmas.List.Sums.{sum_by-append, sum_by-cons, sum_by-set}
use Rattle.std.proofs.lemmas.Option.{slice_get_within}
use Rattle.khe_base.specs.declared.numbers.MeetId.{MeetId}
use Rattle.khe_instance.specs.WellMade.{AreWellMade}
use Rattle.khe_instance.specs.declared.parts.EventInfo.{EventInfo}
use Rattle.khe_instance.specs.declared.parts.Parts.{Parts}
use Rattle.khe_instance.specs.declared.points.Monitor.{Monitor}
use Rattle.khe_instance.specs.declared.rules.Kind.{Kind}
use Rattle.khe_instance.proofs.MadeLemmas.{event_made}
use Rattle.khe_told.specs.Agreement.{Agrees, deviation_in}
use Rattle.khe_told.specs.Changes.{after, changed, meet_of}
use Rattle.khe_told.specs.Fits.{AreTold, Fits}
use Rattle.khe_told.specs.Slots.{empty_slot, held, held_by, no_meets, no_slot, slot_at, slots_from, slots_of_event}
use Rattle.khe_told.specs.declared.changes.Change.{Change}
use Rattle.khe_told.specs.declared.changes.Change.TheVariants.{Add, Drop, Place as PlaceAt, Lift, Give, Take}
use Rattle.khe_told.specs.declared.slots.Slot.{Slot}
use Rattle.khe_told.proofs.FrameLaws.{IsFrame, frames}
use Rattle.khe_told.proofs.FreeSlots.{none_held, told_opened}
use Rattle.resource_monitors.proofs.LoadLaws.{lowered, raised}
use Rattle.family_tests.specs.Benches.{AreHeld, IsBench, IsSetFor}
use Rattle.resource_monitors.proofs.OpenLaws.{none_row}

-- nothing is given
pub none_given : {X : Type 0} (xs : List (Option X)) → ((j : ℕ) → j < length xs → get_or xs j None ≡ None)
    → xs ≡ replicate (length xs) None
none_given [] h = refl
none_given (x ∷ xs) h =
    (λ i. h 0 (let z : 0 < suc (length xs) = omega arith in z) i ∷ none_given xs
    (λ j l. h (suc j) (let z : suc j < suc (length xs) = omega (arith, l) in z)) i)

module _ (p : Parts) (made : AreWellMade p) (s : List Slot) (told : AreTold p s) where
  frame : (m : ℕ) → m < length s → IsFrame p.events (slot_at s m)
  frame m l = All-get_or (IsFrame p.events) s m no_slot l (frames p s made.first_meets told.whose)

  pub event_at : (m : ℕ) → m < length s → (slot_at s m).event.0 < length p.events
  event_at m l = let f = frame m l in slice_get_within p.events (slot_at s m).event.0 f.slot.0 f.slot.1

  turned : (c : Change) (e : ℕ) → meet_of c < length s
      → held e (after s c) + held_by e (slot_at s (meet_of c))
      ≡ held e s + held_by e (changed (slot_at s (meet_of c)) c)
  turned c e l = sum_by-set (held_by e) s (meet_of c) (changed (slot_at s (meet_of c)) c) no_slot l

  added : (m : MeetId) (d : ℕ) → Fits p s (Add m d) → (e : ℕ)
      → held e (after s (Add m d)) ≡ held e s + cond ((slot_at s m.0).event.0 == e) d 0
  added m d f e = by (slot_at s m.0) (held e (after s (Add m d))) (held e s) f.suits (turned (Add m d) e f.there)
    where
      none : (b : Bool) (n h k : ℕ) → n + cond {A = ℕ} b 0 0 ≡ h + k → n ≡ h + k
      none true n h k q = omega (arith, q)
      none false n h k q = omega (arith, q)

      by : (x : Slot) (n h : ℕ) → x.span ≡ None → n + held_by e x ≡ h + held_by e (changed x (Add m d))
          → n ≡ h + cond (x.event.0 == e) d 0
      by x n h is q = none (x.event.0 == e) n h (cond (x.event.0 == e) d 0)
          (sym (ap (λ o. n + held_by e (record x { span = o })) is) ∙ q)

  dropped : (m : MeetId) (d : ℕ) → Fits p s (Drop m d) → (e : ℕ)
      → held e (after s (Drop m d)) + cond ((slot_at s m.0).event.0 == e) d 0 ≡ held e s
  dropped m d f e = by (slot_at s m.0) (held e (after s (Drop m d))) (held e s) f.suits.0 (turned (Drop m d) e f.there)
    where
      none : (b : Bool) (n h : ℕ) → n ≡ h + cond {A = ℕ} b 0 0 → n ≡ h
      none true n h q = omega (arith, q)
      none false n h q = omega (arith, q)

      by : (x : Slot) (n h : ℕ) → x.span ≡ Some (record { duration = d; start = None })
          → n + held_by e x ≡ h + held_by e (changed x (Drop m d)) → n + cond (x.event.0 == e) d 0 ≡ h
      by x n h is q = none (x.event.0 == e) (n + cond (x.event.0 == e) d 0) h
          (sym (ap (λ o. n + held_by e (record x { span = o })) is) ∙ q)

  same : (c : Change) (e : ℕ) → meet_of c < length s
      → held_by e (changed (slot_at s (meet_of c)) c) ≡ held_by e (slot_at s (meet_of c))
      → held e (after s c) ≡ held e s
  same c e l q = by (held e (after s c)) (held e s) _ _ (turned c e l) q
    where
      by : (a b x y : ℕ) → a + x ≡ b + y → y ≡ x → a ≡ b
      by a b x y f g = omega (arith, f, g)

  -- the counts after an Add, a Drop and any other change
  pub held_added : (c : Change) (m : MeetId) (d : ℕ) (old new : List ℕ) (e : ℕ) → c ≡ Add m d → Fits p s c
      → AreHeld p s old → e ≡ (slot_at s m.0).event.0 → new ≡ set old e (slice_index old e + d)
      → AreHeld p (after s c) new
  held_added c m d old new e is fits h at made =
      subst (λ x. AreHeld p (after s x) new) (sym is) (subst (AreHeld p (after s (Add m d))) (sym made) (record {
        events = length-set old e (slice_index old e + d) ∙ h.events;
        each = λ q l. raised old e d q within ∙ ap (λ n. n + cond (e == q) d 0) (h.each q l)
            ∙ ap (λ n. held q s + cond (n == q) d 0) at ∙ sym (added m d f q);
      }))
    where
      f : Fits p s (Add m d)
      f = subst (Fits p s) is fits

      within : e < length old
      within = let a = event_at m.0 f.there in let b = h.events in omega (arith, a, b, at)

  pub held_room : (c : Change) (m : MeetId) (d : ℕ) (old : List ℕ) (e : ℕ) → c ≡ Add m d → Fits p s c → AreHeld p s old
      → e ≡ (slot_at s m.0).event.0 → slice_index old e + d < 2 ^ 32
  held_room c m d old e is fits h at =
      let f : Fits p s (Add m d) = subst (Fits p s) is fits in
      let x = slot_at s m.0 in
      let g = (frame m.0 f.there).slot in
      let a = f.told.durations x.event.0 g.0 g.1 in
      let b = (event_made p made x.event.0 g.0 g.1).duration.1 in
      let k : held x.event.0 (after s (Add m d)) ≡ held x.event.0 s + d =
      added m d f x.event.0 ∙ ap (λ q. held x.event.0 s + cond q d 0) (eq-eqb x.event.0 x.event.0 refl) in
      let n : slice_index old e ≡ held x.event.0 s =
      ap (slice_index old) at ∙ h.each x.event.0 (event_at m.0 f.there) in
      omega (arith, a, b, k, n)

  pub held_enough : (c : Change) (m : MeetId) (d : ℕ) (old : List ℕ) (e : ℕ) → c ≡ Drop m d → Fits p s c
      → AreHeld p s old → e ≡ (slot_at s m.0).event.0 → d ≤ slice_index old e
  held_enough c m d old e is fits h at =
      let f : Fits p s (Drop m d) = subst (Fits p s) is fits in
      let x = slot_at s m.0 in
      let k : held x.event.0 (after s (Drop m d)) + d ≡ held x.event.0 s =
      sym (ap (λ q. held x.event.0 (after s (Drop m d)) + cond q d 0) (eq-eqb x.event.0 x.event.0 refl))
      ∙ dropped m d f x.event.0 in
      let n : slice_index old e ≡ held x.event.0 s =
      ap (slice_index old) at ∙ h.each x.event.0 (event_at m.0 f.there) in
      omega (arith, k, n)

  pub held_dropped : (c : Change) (m : MeetId) (d : ℕ) (old new : List ℕ) (e : ℕ) → c ≡ Drop m d → Fits p s c
      → AreHeld p s old → e ≡ (slot_at s m.0).event.0 → new ≡ set old e (slice_index old e - d)
      → AreHeld p (after s c) new
  held_dropped c m d old new e is fits h at made =
      subst (λ x. AreHeld p (after s x) new) (sym is) (subst (AreHeld p (after s (Drop m d))) (sym made) (record {
        events = length-set old e (slice_index old e - d) ∙ h.events;
        each = λ q l. by _ _ _ (cond (e == q) d 0) (lowered old e d q within (held_enough c m d old e is fits h at))
            (h.each q l) (ap (λ n. held q (after s (Drop m d)) + cond (n == q) d 0) at ∙ dropped m d f q);
      }))
    where
      f : Fits p s (Drop m d)
      f = subst (Fits p s) is fits

      within : e < length old
      within = let a = event_at m.0 f.there in let b = h.events in omega (arith, a, b, at)

      by : (n o k w : ℕ) {h : ℕ} → n + w ≡ o → o ≡ h → k + w ≡ h → n ≡ k
      by n o k w a b c = omega (arith, a, b, c)

  pub held_kept : (c : Change) (old : List ℕ) → ((m : MeetId) (d : ℕ) → c ≡ Add m d → ⊥)
      → ((m : MeetId) (d : ℕ) → c ≡ Drop m d → ⊥) → Fits p s c → AreHeld p s old → AreHeld p (after s c) old
  held_kept c old a b f h = record { events = h.events; each = λ e l. h.each e l ∙ sym (by c a b f e) }
    where
      by : (c : Change) → ((m : MeetId) (d : ℕ) → c ≡ Add m d → ⊥) → ((m : MeetId) (d : ℕ) → c ≡ Drop m d → ⊥)
          → Fits p s c → (e : ℕ) → held e (after s c) ≡ held e s
      by (Add m d) a b f e = absurd (a m d refl)
      by (Drop m d) a b f e = absurd (b m d refl)
      by (PlaceAt m t) a b f e = same (PlaceAt m t) e f.there
          (ap (λ o. held_by e (changed (record (slot_at s m.0) { span = o }) (PlaceAt m t))) f.suits.1
          ∙ sym (ap (λ o. held_by e (record (slot_at s m.0) { span = o })) f.suits.1))
      by (Lift m t) a b f e = same (Lift m t) e f.there
          (ap (λ o. held_by e (changed (record (slot_at s m.0) { span = o }) (Lift m t))) f.suits.1
          ∙ sym (ap (λ o. held_by e (record (slot_at s m.0) { span = o })) f.suits.1))
      by (Give k r) a b f e = same (Give k r) e f.there refl
      by (Take k r) a b f e = same (Take k r) e f.there refl

-- the deviations of the first monitors are right
pub record AreSet (p : Parts) (served : Kind → Bool) (s : List Slot) (k : ℕ) (ds : List ℕ) : Type 0 where
  pub amount : length ds ≡ length p.monitors
  pub each : (i : ℕ) (m : Monitor) → i < k → slice_get p.monitors i ≡ Some m → served m.kind ≡ true
      → slice_get ds i ≡ Some (deviation_in p s m)

pub set_more : (p : Parts) (served : Kind → Bool) (s : List Slot) (k : ℕ) (old new : List ℕ) → AreSet p served s k old
    → IsSetFor p served s k old new → AreSet p served s (k + 1) new
set_more p served s k old new u h = record {
  amount = h.amount ∙ u.amount;
  each = λ i m l there serves. by i m l there serves (cases_eq i k);
}
  where
    by : (i : ℕ) (m : Monitor) → i < k + 1 → slice_get p.monitors i ≡ Some m → served m.kind ≡ true
        → (i ≡ k) ⊎ (i ≡ k → ⊥) → slice_get new i ≡ Some (deviation_in p s m)
    by i m l there serves (inl e) = ap (slice_get new) e ∙ h.own m (ap (slice_get p.monitors) (sym e) ∙ there) serves
    by i m l there serves (inr n) = h.others i n ∙ u.each i m (below i k l n) there serves
      where
        below : (i k : ℕ) → i < k + 1 → (i ≡ k → ⊥) → i < k
        below i k l n = grind arith

pub set_done : (p : Parts) (served : Kind → Bool) (s : List Slot) (k : ℕ) (ds : List ℕ) → AreSet p served s k ds
    → length p.monitors ≤ k → (i : ℕ) (m : Monitor) → slice_get p.monitors i ≡ Some m → served m.kind ≡ true
    → slice_get ds i ≡ Some (deviation_in p s m)
set_done p served s k ds u l i m there serves =
    u.each i m (let a = slice_get_within p.monitors i m there in omega (arith, a, l)) there serves

-- a bench of a family that was told of no meets
pub bench_opened : (p : Parts) (served : Kind → Bool) (s f : List Slot) (amounts ds : List ℕ) → s ≡ no_meets p
    → f ≡ no_meets p → amounts ≡ replicate (length p.events) 0 → length ds ≡ length p.monitors → Agrees p served f ds
    → IsBench p served s amounts ds
bench_opened p served s f amounts ds is family counts many agrees = record {
  told = subst (AreTold p) (sym is) (told_opened p);
  held_all = record {
    events = ap length counts ∙ length-replicate (length p.events) 0;
    each = λ e l. (ap (λ xs. slice_index xs e) counts ∙ none_row (length p.events) e
        ∙ sym (ap (held e) is ∙ none_held e p));
  };
  monitors = many;
  agrees = subst (λ x. Agrees p served x ds) (family ∙ sym is) agrees;
}
