-- Which changes fit.
use Rattle.std.proofs.Common.{ℕ, ◌≡◌, ◌≤◌, ◌<◌, ◌+◌, ◌==◌, ◌∙◌, ◌⊎◌, inl, inr, Bool, true, false, cond, Option, Some}
use Rattle.std.proofs.Common.{None, List, set, replicate, length, slice_get, slice_index, nat_le, refl, sym, ap, subst}
use Rattle.std.proofs.Common.{arith, IfSome}
use Rattle.std.specs.Option.{option_and_then, option_map, option_map_or}
use Rattle.std.proofs.lemmas.Bool.{cases_eq, eqb-true, leb-true, true≢false}
use Rattle.std.proofs.lemmas.List.{length-set}
use Rattle.std.proofs.lemmas.List.Elements.{All-get_or}
use Rattle.std.proofs.lemmas.Option.{none-some, same_Some, slice_get_within}
use Rattle.khe_base.specs.declared.numbers.EventId.{EventId}
use Rattle.khe_base.specs.declared.numbers.MeetId.{MeetId}
use Rattle.khe_base.specs.declared.numbers.ResourceId.{ResourceId}
use Rattle.khe_base.specs.declared.numbers.TaskId.{TaskId}
use Rattle.khe_base.specs.declared.numbers.TimeId.{TimeId}
use Rattle.khe_instance.specs.WellMade.{HasType}
use Rattle.khe_instance.specs.declared.parts.EventInfo.{EventInfo}
use Rattle.khe_instance.specs.declared.parts.Parts.{Parts}
use Rattle.khe_instance.specs.declared.parts.Place.{Place}
use Rattle.khe_told.specs.Changes.{changed}
use Rattle.khe_told.specs.Fits.{AreTold, Fits, IsSlot}
use Rattle.khe_told.specs.Slots.{emptied, held, held_by, length_of, no_slot, slot_at}
use Rattle.khe_told.specs.declared.changes.Change.TheVariants.{Add, Drop, Place as PlaceAt, Lift, Give, Take}
use Rattle.khe_told.specs.declared.slots.Slot.{Slot}
use Rattle.khe_told.specs.declared.slots.Span.{Span}
use Rattle.khe_told.proofs.SlotLaws.{set-there, told_kept, told_set}
use Rattle.family_tests.specs.Benches.{AreHeld, MayHave, is_open, unplaced}
use Rattle.khe_base.proofs.ListLemmas.{get-other}

module _ (p : Parts) (s : List Slot) (told : AreTold p s) where
  slot_is : (m : ℕ) → m < length s → IsSlot p (slot_at s m)
  slot_is m l = All-get_or (IsSlot p) s m no_slot l told.slots

  pub add_fits : (m : MeetId) (d : ℕ) → m.0 < length s → (slot_at s m.0).span ≡ None → 1 ≤ d
      → ((event : EventInfo) → slice_get p.events (slot_at s m.0).event.0 ≡ Some event
      → held (slot_at s m.0).event.0 s + d ≤ event.duration) → Fits p s (Add m d)
  add_fits m d l free lasts room = record {
    there = l;
    suits = free;
    told =
        told_set p s m.0 (changed x (Add m d)) told l refl slot more;
  }
    where
      x : Slot
      x = slot_at s m.0

      slot : IsSlot p (changed x (Add m d))
      slot = record {
        duration = lasts;
        ends = tt;
        given = (slot_is m.0 l).given;
        empty =
            λ n. absurd (none-some _ (sym n));
      }

      grow : (b : Bool) (h n w : ℕ) → (b ≡ true → h + d ≤ w) → h ≤ w → h + cond {A = ℕ} b d 0 ≤ w + n
      grow true h n w f g = let a = f refl in omega (arith, a)
      grow false h n w f g = omega (arith, g)

      more : (e : ℕ) (event : EventInfo) → slice_get p.events e ≡ Some event
          → held e s + held_by e (changed x (Add m d)) ≤ event.duration + held_by e x
      more e event g = grow (x.event.0 == e) (held e s) (held_by e x) event.duration
          (λ q. let same : x.event.0 ≡ e = eqb-true x.event.0 e q in
          subst (λ k. held k s + d ≤ event.duration) same (room event (ap (slice_get p.events) same ∙ g)))
          (told.durations e event g)

  pub drop_fits : (m : MeetId) (d : ℕ) → m.0 < length s
      → (slot_at s m.0).span ≡ Some (record { duration = d; start = None })
      → (slot_at s m.0).given ≡ replicate (length (slot_at s m.0).given) None → Fits p s (Drop m d)
  drop_fits m d l is bare = record {
    there = l;
    suits = (is, bare);
    told =
        told_set p s m.0 (changed x (Drop m d)) told l refl slot less;
  }
    where
      x : Slot
      x = slot_at s m.0

      slot : IsSlot p (changed x (Drop m d))
      slot = record { duration = tt; ends = tt; given = (slot_is m.0 l).given; empty = λ n. bare }

      none : (b : Bool) (h n w : ℕ) → h ≤ w → h + cond {A = ℕ} b 0 0 ≤ w + n
      none true h n w g = omega (arith, g)
      none false h n w g = omega (arith, g)

      less : (e : ℕ) (event : EventInfo) → slice_get p.events e ≡ Some event
          → held e s + held_by e (changed x (Drop m d)) ≤ event.duration + held_by e x
      less e event g = none (x.event.0 == e) (held e s) (held_by e x) event.duration (told.durations e event g)

  lasting : (m : ℕ) → m < length s → (d : ℕ) (t : Option TimeId)
      → (slot_at s m).span ≡ Some (record { duration = d; start = t }) → 1 ≤ d
  lasting m l d t is = subst (λ o. IfSome o (λ (y : Span). 1 ≤ y.duration)) is (slot_is m l).duration

  pub place_fits : (m : MeetId) (t : TimeId) (d : ℕ) → m.0 < length s
      → (slot_at s m.0).span ≡ Some (record { duration = d; start = None }) → t.0 + d ≤ length p.times
      → Fits p s (PlaceAt m t)
  place_fits m t d l is ends = record {
    there = l;
    suits = (d, is);
    told =
        told_kept p s m.0 (changed x (PlaceAt m t)) told l refl slot same;
  }
    where
      x : Slot
      x = slot_at s m.0

      slot : IsSlot p (changed x (PlaceAt m t))
      slot = subst (λ o. IsSlot p (changed (record x { span = o }) (PlaceAt m t))) (sym is)
          (record {
            duration = lasting m.0 l d None is;
            ends = ends;
            given = (slot_is m.0 l).given;
            empty =
                λ n. absurd (none-some _ (sym n));
          })

      same : (e : ℕ) → held_by e (changed x (PlaceAt m t)) ≡ held_by e x
      same e = ap (λ o. held_by e (changed (record x { span = o }) (PlaceAt m t))) is
          ∙ sym (ap (λ o. held_by e (record x { span = o })) is)

  pub lift_fits : (m : MeetId) (t : TimeId) (d : ℕ) → m.0 < length s
      → (slot_at s m.0).span ≡ Some (record { duration = d; start = Some t }) → Fits p s (Lift m t)
  lift_fits m t d l is = record {
    there = l;
    suits = (d, is);
    told =
        told_kept p s m.0 (changed x (Lift m t)) told l refl slot same;
  }
    where
      x : Slot
      x = slot_at s m.0

      slot : IsSlot p (changed x (Lift m t))
      slot = subst (λ o. IsSlot p (changed (record x { span = o }) (Lift m t))) (sym is)
          (record {
            duration = lasting m.0 l d (Some t) is;
            ends = tt;
            given = (slot_is m.0 l).given;
            empty =
                λ n. absurd (none-some _ (sym n));
          })

      same : (e : ℕ) → held_by e (changed x (Lift m t)) ≡ held_by e x
      same e = ap (λ o. held_by e (changed (record x { span = o }) (Lift m t))) is
          ∙ sym (ap (λ o. held_by e (record x { span = o })) is)

  -- a place that is given something else
  slot_set : (m : ℕ) → m < length s → (k : ℕ) (a b : Option ResourceId) (y : Span) → (slot_at s m).span ≡ Some y
      → slice_get (slot_at s m).given k ≡ Some b
      → ((e : EventInfo) (place : Place) (u : ResourceId) → slice_get p.events (slot_at s m).event.0 ≡ Some e
      → slice_get e.places k ≡ Some place → a ≡ Some u → HasType p place.rtype u)
      → IsSlot p (record (slot_at s m) { given = set (slot_at s m).given k a })
  slot_set m l k a b y is there typed = record {
    duration = i.duration;
    ends = i.ends;
    given = λ e j place u g h w. by e j place u g h w (cases_eq k j);
    empty = λ n. absurd (none-some y (sym n ∙ is));
  }
    where
      x : Slot
      x = slot_at s m

      i : IsSlot p x
      i = slot_is m l

      by : (e : EventInfo) (j : ℕ) (place : Place) (u : ResourceId) → slice_get p.events x.event.0 ≡ Some e
          → slice_get e.places j ≡ Some place → slice_get (set x.given k a) j ≡ Some (Some u)
          → (k ≡ j) ⊎ (k ≡ j → ⊥) → HasType p place.rtype u
      by e j place u g h w (inl same) =
          typed e place u g (ap (slice_get e.places) same ∙ h)
          (same_Some a (Some u) (sym (set-there x.given k a b there) ∙ ap (slice_get (set x.given k a)) same ∙ w))
      by e j place u g h w (inr other) = i.given e j place u g h (sym (get-other x.given k j a other) ∙ w)

  set_emptied : (x : Slot) (k : ℕ) (a : Option ResourceId) → emptied (record x { given = set x.given k a }) ≡ emptied x
  set_emptied x k a = λ j. record x { span = None; given = replicate (length-set x.given k a j) None }

  pub give_fits : (k : TaskId) (r : ResourceId) (y : Span) → k.meet.0 < length s → (slot_at s k.meet.0).span ≡ Some y
      → slice_get (slot_at s k.meet.0).given k.place ≡ Some None
      → MayHave p (slot_at s k.meet.0) k.place r → Fits p s (Give k r)
  give_fits k r y l is there typed = record {
    there = l;
    suits = (y, is, there);
    told = told_kept p s k.meet.0 (changed x (Give k r)) told l (set_emptied x k.place (Some r))
        (slot_set k.meet.0 l k.place (Some r) None y is there own) (λ e. refl);
  }
    where
      x : Slot
      x = slot_at s k.meet.0

      own : (e : EventInfo) (place : Place) (u : ResourceId) → slice_get p.events x.event.0 ≡ Some e
          → slice_get e.places k.place ≡ Some place → Some r ≡ Some u → HasType p place.rtype u
      own e place u g h q = subst (HasType p place.rtype) (same_Some r u q) (typed e place g h)

  pub take_fits : (k : TaskId) (r : ResourceId) (y : Span) → k.meet.0 < length s → (slot_at s k.meet.0).span ≡ Some y
      → slice_get (slot_at s k.meet.0).given k.place ≡ Some (Some r) → Fits p s (Take k r)
  take_fits k r y l is there = record {
    there = l;
    suits = (y, is, there);
    told = told_kept p s k.meet.0 (changed x (Take k r)) told l (set_emptied x k.place None)
        (slot_set k.meet.0 l k.place None (Some r) y is there (λ e place u g h q. absurd (none-some u q))) (λ e. refl);
  }
    where
      x : Slot
      x = slot_at s k.meet.0

  -- the same from what was asked
  pub add_by : (m : MeetId) (d : ℕ) (o : Option Span) (e : EventId) (event : EventInfo) (n : ℕ) (amounts : List ℕ)
      → m.0 < length s → o ≡ (slot_at s m.0).span → o ≡ None → 1 ≤ d → e ≡ (slot_at s m.0).event
      → slice_get p.events e.0 ≡ Some event → AreHeld p s amounts → n ≡ slice_index amounts e.0
      → nat_le (n + d) event.duration ≡ true → Fits p s (Add m d)
  add_by m d o e event n amounts l is free lasts whose there h count room =
      add_fits m d l (sym is ∙ free) lasts
      (λ x g. subst (λ (k : EventId). held k.0 s + d ≤ x.duration) whose
      (let a = leb-true (n + d) event.duration room in
      let b = h.each e.0 (slice_get_within p.events e.0 event there) in
      let c : event ≡ x = same_Some event x (sym there ∙ ap (λ (k : EventId). slice_get p.events k.0) whose ∙ g) in
      let w : event.duration ≡ x.duration = ap (λ (y : EventInfo). y.duration) c in
      omega (arith, a, b, count, w)))

  abbrev span_at : ℕ → Option TimeId → Option Span
  span_at d t = Some (record { duration = d; start = t })

  unplaced_is : (o : Option Span) (d : ℕ) → unplaced o ≡ Some d → o ≡ span_at d None
  unplaced_is None d h = absurd (none-some d h)
  unplaced_is (Some y) d h = by y.duration y.start h
    where
      by : (w : ℕ) (t : Option TimeId) → unplaced (span_at w t) ≡ Some d
          → ◌≡◌ {A = Option Span} (span_at w t) (span_at d None)
      by w None h = ap (λ n. span_at n None) (same_Some w d h)
      by w (Some t) h = absurd (none-some d h)

  pub drop_by : (m : MeetId) (d n : ℕ) (o : Option Span) (u : Option ℕ) (given : List (Option ResourceId))
      → m.0 < length s → o ≡ (slot_at s m.0).span → u ≡ unplaced o → u ≡ Some n → n ≡ d → given ≡ (slot_at s m.0).given
      → given ≡ replicate (length given) None → Fits p s (Drop m d)
  drop_by m d n o u given l is asked found same whose bare =
      drop_fits m d l (unplaced_is (slot_at s m.0).span d (sym (ap unplaced is) ∙ sym asked ∙ found ∙ ap Some same))
      (subst (λ xs. xs ≡ replicate (length xs) None) whose bare)

  pub place_by : (m : MeetId) (t : TimeId) (d n : ℕ) (o : Option Span) (u : Option ℕ) → m.0 < length s
      → o ≡ (slot_at s m.0).span → u ≡ unplaced o → u ≡ Some d → n ≡ length p.times → nat_le (t.0 + d) n ≡ true
      → Fits p s (PlaceAt m t)
  place_by m t d n o u l is asked found times ends =
      place_fits m t d l (unplaced_is (slot_at s m.0).span d (sym (ap unplaced is) ∙ sym asked ∙ found))
      (let a = leb-true (t.0 + d) n ends in omega (arith, a, times))

  started_is : (o : Option Span) (t : TimeId) → option_and_then (λ (y : Span). y.start) o ≡ Some t
      → o ≡ Some (record { duration = option_map_or (λ (y : Span). y.duration) o 0; start = Some t })
  started_is None t h = absurd (none-some t h)
  started_is (Some y) t h = ap (λ q. Some (record { duration = y.duration; start = q })) h

  pub lift_by : (m : MeetId) (t f : TimeId) (o : Option Span) (u : Option TimeId) → m.0 < length s
      → o ≡ (slot_at s m.0).span → u ≡ option_and_then (λ (y : Span). y.start) o → u ≡ Some f → f.0 ≡ t.0
      → Fits p s (Lift m t)
  lift_by m t f o u l is asked found same =
      lift_fits m t (length_of (slot_at s m.0)) l (started_is (slot_at s m.0).span t
      (sym (ap (option_and_then (λ (y : Span). y.start)) is) ∙ sym asked ∙ found
      ∙ (λ i. Some (record { 0 = same i }))))

  vacant_is : (o : Option (Option ResourceId)) → is_open o ≡ true → o ≡ Some None
  vacant_is None h = absurd (true≢false (sym h))
  vacant_is (Some None) h = refl
  vacant_is (Some (Some r)) h = absurd (true≢false (sym h))

  pub give_by : (k : TaskId) (r : ResourceId) (y : Span) (o : Option Span) (g : Option (Option ResourceId)) (b : Bool)
      → k.meet.0 < length s → o ≡ (slot_at s k.meet.0).span → o ≡ Some y
      → g ≡ slice_get (slot_at s k.meet.0).given k.place → b ≡ is_open g → b ≡ true
      → MayHave p (slot_at s k.meet.0) k.place r → Fits p s (Give k r)
  give_by k r y o g b l is found asked test bare may =
      give_fits k r y l (sym is ∙ found) (sym asked ∙ vacant_is g (sym test ∙ bare)) may

  taken_is : (o : Option (Option ResourceId)) (r : ResourceId)
      → option_and_then (λ (x : Option ResourceId). x) o ≡ Some r → o ≡ Some (Some r)
  taken_is None r h = absurd (none-some r h)
  taken_is (Some x) r h = ap Some h

  pub take_by : (k : TaskId) (r f : ResourceId) (y : Span) (o : Option Span) (u : Option ResourceId)
      → k.meet.0 < length s → o ≡ (slot_at s k.meet.0).span → o ≡ Some y
      → u ≡ option_and_then (λ (x : Option ResourceId). x) (slice_get (slot_at s k.meet.0).given k.place)
      → u ≡ Some f → f.0 ≡ r.0 → Fits p s (Take k r)
  take_by k r f y o u l is found asked given same =
      take_fits k r y l (sym is ∙ found) (taken_is (slice_get (slot_at s k.meet.0).given k.place) r
      (sym asked ∙ given ∙ (λ i. Some (record { 0 = same i }))))

-- a resource of a type may be given to a place of that type
pub typed_by : (p : Parts) (x : Slot) (k : ℕ) (r : ResourceId) (e : EventId) (event : EventInfo) (places : List Place)
    (found : Option ℕ) (rtype own : ℕ) → e ≡ x.event → slice_get p.events e.0 ≡ Some event → places ≡ event.places
    → found ≡ option_map (λ (q : Place). q.rtype) (slice_get places k) → found ≡ Some rtype → HasType p own r
    → own ≡ rtype → MayHave p x k r
typed_by p x k r e event places found rtype own whose there of asked is has same y place g h =
    let c : event ≡ y = same_Some event y (sym there ∙ ap (λ (n : EventId). slice_get p.events n.0) whose ∙ g) in
    let t : rtype ≡ place.rtype = same_Some rtype place.rtype
    (sym is ∙ asked ∙ ap (λ (qs : List Place). option_map (λ (q : Place). q.rtype) (slice_get qs k))
    (of ∙ ap (λ (z : EventInfo). z.places) c) ∙ ap (option_map (λ (q : Place). q.rtype)) h) in
    subst (λ n. HasType p n r) (same ∙ t) has
