-- The stages of edits of starts and of resources: a list of changes that leads from a valid state to
-- a valid one.
use Rattle.std.proofs.Common.{ℕ, ◌≡◌, ◌+◌, ◌<◌, ◌≤◌, true, false, cond, Option, Some, None, List, [], ◌++◌, length}
use Rattle.std.proofs.Common.{get_or, set, slice_get, refl, sym, ap, subst, ◌∙◌, arith, inl, inr, get_or-set_other}
use Rattle.std.specs.Prelude.{replicate, IfSome, ◌&&◌, is_some, nat_lt, ◌==◌}
use Rattle.std.specs.Option.{option_map, option_map_or, option_and_then}
use Rattle.std.proofs.lemmas.Bool.{and_parts, eqb-true, ltb-false, ltb-true}
use Rattle.std.proofs.lemmas.List.{length-set}
use Rattle.std.proofs.lemmas.List.Elements.{All-set, All-get_or}
use Rattle.std.proofs.lemmas.List.Sums.{sum_by-set}
use Rattle.std.proofs.lemmas.Option.{same_Some, slice_get-get_or}
use Rattle.khe_base.specs.declared.numbers.MeetId.{MeetId}
use Rattle.khe_base.specs.declared.numbers.ResourceId.{ResourceId}
use Rattle.khe_base.specs.declared.numbers.TaskId.{TaskId}
use Rattle.khe_base.specs.declared.numbers.TimeId.{TimeId}
use Rattle.khe_instance.specs.declared.parts.EventInfo.{EventInfo}
use Rattle.khe_instance.specs.declared.parts.Parts.{Parts}
use Rattle.khe_instance.specs.declared.parts.Place.{Place}
use Rattle.khe_instance.specs.declared.parts.ResourceInfo.{ResourceInfo}
use Rattle.khe_told.proofs.SlotLaws.{told_kept, set-there, all_fit_both, after_both}
use Rattle.khe_told.specs.Slots.{no_slot, slot_at, emptied, held_by, length_of, is_live, start_of}
use Rattle.khe_told.specs.Changes.{after_all}
use Rattle.khe_told.specs.Fits.{IsSlot, AllFit}
use Rattle.khe_told.specs.declared.slots.Slot.{Slot}
use Rattle.khe_told.specs.declared.slots.Span.{Span}
use Rattle.khe_told.specs.declared.changes.Change.{Change}
use Rattle.khe_instance.specs.Lookups.{place_at}
use Rattle.khe_solution.specs.Reading.{has_place, resource_at, is_fixed_event, is_fixed_place, has_type, may_have}
use Rattle.khe_solution.specs.Reading.{would_run_over}
use Rattle.khe_solution.specs.Editing.{with_start, with_resource, timed, staffed}
use Rattle.khe_solution.specs.Changing.{lifts, places, takes, gives}
use Rattle.khe_told.specs.Valid.{AreValid, IsKeptBy, IsFixedAs}
use Rattle.khe_solution.proofs.Basics.{there-none, true-false, some_value, cases_eq, live_there, slice_get-set_other}
use Rattle.khe_solution.proofs.EditingLaws.{span_of, start_lasts, timed_none, timed_reads, staffed_none, staffed_reads}

-- a list of changes that leads from one state to a valid one
pub record Goes (p : Parts) (s : List Slot) (cs : List Change) (s2 : List Slot) : Type 0 where
  pub fits : AllFit p s cs
  pub slots : after_all s cs ≡ s2
  pub valid : AreValid p s2

pub goes_both : (p : Parts) (s s2 s3 : List Slot) (cs ds : List Change) → Goes p s cs s2 → Goes p s2 ds s3
    → Goes p s (cs ++ ds) s3
goes_both p s s2 s3 cs ds a b = record {
  fits = all_fit_both p s cs ds a.fits (subst (λ x. AllFit p x ds) (sym a.slots) b.fits);
  slots = after_both s cs ds ∙ ap (λ x. after_all x ds) a.slots ∙ b.slots;
  valid = b.valid;
}

pub goes_to : (p : Parts) (s s2 s3 : List Slot) (cs : List Change) → Goes p s cs s2 → s2 ≡ s3 → Goes p s cs s3
goes_to p s s2 s3 cs g e = subst (Goes p s cs) e g

goes_nowhere : (p : Parts) (s s2 : List Slot) → AreValid p s → s2 ≡ s → Goes p s [] s2
goes_nowhere p s s2 v e = record { fits = tt; slots = sym e; valid = subst (AreValid p) (sym e) v }

-- a live meet whose event's time is not preassigned
pub record MayMove (p : Parts) (s : List Slot) (m : MeetId) : Type 0 where
  pub live : is_live (slot_at s m.0) ≡ true
  pub free : is_fixed_event p (slot_at s m.0).event.0 ≡ false

pub moves_still : (p : Parts) (s : List Slot) (a b : MeetId) (t : Option TimeId) → a.0 < length s → MayMove p s b
    → MayMove p (timed s a t) b
moves_still p s a b t l h =
    let r = timed_reads s a t b.0 l in
    record { live = r.live ∙ h.live; free = ap (λ e. is_fixed_event p e.0) r.event ∙ h.free }

-- an event with a preassigned time is not that of the meet
pub not_fixed : (p : Parts) (x : Slot) (e : ℕ) (event : EventInfo) (u : TimeId) → is_fixed_event p x.event.0 ≡ false
    → slice_get p.events e ≡ Some event → event.fixed ≡ Some u → x.event.0 ≡ e → ⊥
not_fixed p x e event u free g f k =
    true-false (sym (ap (is_fixed_event p) k
    ∙ ap (λ o. option_map_or (λ (z : EventInfo). is_some z.fixed) o false) g ∙ ap is_some f) ∙ free)

slot_timed : (p : Parts) (x : Slot) (o : Option Span) (t : Option TimeId) → IsSlot p (record x { span = o })
    → would_run_over p t (length_of (record x { span = o })) ≡ false
    → IsSlot p (with_start (record x { span = o }) t)
slot_timed p x None t i h = record { duration = tt; ends = tt; given = i.given; empty = λ n. i.empty refl }
slot_timed p x (Some y) t i h = record {
  duration = i.duration;
  ends = at_start t h;
  given = i.given;
  empty = λ n. absurd (there-none _ n);
}
  where
    at_start : (u : Option TimeId) → would_run_over p u y.duration ≡ false
        → IfSome u (λ q. q.0 + y.duration ≤ length p.times)
    at_start None k = tt
    at_start (Some q) k = ltb-false (length p.times) (q.0 + y.duration) k

pub valid_timed : (p : Parts) (s : List Slot) (m : MeetId) (t : Option TimeId) → AreValid p s → MayMove p s m
    → would_run_over p t (length_of (slot_at s m.0)) ≡ false → AreValid p (timed s m t)
valid_timed p s m t v h o =
    let x = slot_at s m.0 in
    let y = with_start x t in
    let l = live_there s m.0 h.live in
    let same : (e : ℕ) → held_by e y ≡ held_by e x = λ e j. cond (x.event.0 == e) (start_lasts x t j) 0 in
    record {
      told = told_kept p s m.0 y v.told l refl (slot_timed p x x.span t
          (All-get_or (IsSlot p) s m.0 no_slot l v.told.slots) o) same;
      whole = λ e event g. let a = sum_by-set (held_by e) s m.0 y no_slot l in let b = same e in let c =
          v.whole e event g in omega (arith, a, b, c);
      fixed = λ e event u g f. All-set (IsFixedAs e u event.duration) s m.0 y
          (λ k n. absurd (not_fixed p x e event u h.free g f k)) (v.fixed e event u g f);
      kept = All-set (IsKeptBy p) s m.0 y (λ k place r a b c. All-get_or (IsKeptBy p) s m.0 no_slot l v.kept k place r a
          b h.live) v.kept;
    }

-- a meet loses its start, and one without a start gets one
pub lift_goes : (p : Parts) (s : List Slot) (m : MeetId) (t : Option TimeId) → AreValid p s → MayMove p s m
    → start_of (slot_at s m.0) ≡ t → Goes p s (lifts m t) (timed s m None)
lift_goes p s m None v h e = goes_nowhere p s (timed s m None) v (timed_none s m None e)
lift_goes p s m (Some u) v h e =
    let x = slot_at s m.0 in
    let v2 = valid_timed p s m None v h refl in
    record {
      fits = (
        record {
          there = live_there s m.0 h.live;
          suits = (length_of x, span_of x.span (Some u) h.live e);
          told =
              v2.told;
        },
        tt,
      );
      slots = refl;
      valid = v2;
    }

pub place_goes : (p : Parts) (s : List Slot) (m : MeetId) (t : Option TimeId) → AreValid p s → MayMove p s m
    → start_of (slot_at s m.0) ≡ None → would_run_over p t (length_of (slot_at s m.0)) ≡ false
    → Goes p s (places m t) (timed s m t)
place_goes p s m None v h e o = goes_nowhere p s (timed s m None) v (timed_none s m None e)
place_goes p s m (Some u) v h e o =
    let x = slot_at s m.0 in
    let v2 = valid_timed p s m (Some u) v h o in
    record {
      fits = (
        record {
          there = live_there s m.0 h.live;
          suits = (length_of x, span_of x.span None h.live e);
          told =
              v2.told;
        },
        tt,
      );
      slots = refl;
      valid = v2;
    }

-- a task whose place has no preassigned resource
pub record MayTurn (p : Parts) (s : List Slot) (t : TaskId) : Type 0 where
  pub place : has_place (slot_at s t.meet.0) t.place ≡ true
  pub free : is_fixed_place p (slot_at s t.meet.0).event.0 t.place ≡ false

-- the place of a task
abbrev pub task_place : Parts → List Slot → TaskId → Option Place
task_place p s t = place_at p.events (slot_at s t.meet.0).event.0 t.place

pub turns_still : (p : Parts) (s : List Slot) (a b : TaskId) (q : Option ResourceId) → a.meet.0 < length s
    → MayTurn p s b → MayTurn p (staffed s a q) b
turns_still p s a b q l h =
    let r = staffed_reads s a q b.meet.0 l in
    record {
      place = (λ i. is_some (r.span i) && nat_lt b.place (r.places i)) ∙ h.place;
      free = ap (λ e. is_fixed_place p e.0 b.place) r.event ∙ h.free;
    }

pub place_still : (p : Parts) (s : List Slot) (a b : TaskId) (q : Option ResourceId) → a.meet.0 < length s
    → task_place p (staffed s a q) b ≡ task_place p s b
place_still p s a b q l = ap (λ e. place_at p.events e.0 b.place) (staffed_reads s a q b.meet.0 l).event

pub turn_there : (p : Parts) (s : List Slot) (t : TaskId) → MayTurn p s t
    → (t.meet.0 < length s) × (t.place < length (slot_at s t.meet.0).given)
turn_there p s t h =
    let x = slot_at s t.meet.0 in
    let b = and_parts (is_live x) (nat_lt t.place (length x.given)) h.place in
    (live_there s t.meet.0 b.0, ltb-true t.place (length x.given) b.1)

pub turn_live : (p : Parts) (s : List Slot) (t : TaskId) → MayTurn p s t → is_live (slot_at s t.meet.0) ≡ true
turn_live p s t h = (and_parts (is_live (slot_at s t.meet.0)) (nat_lt t.place (length (slot_at s t.meet.0).given))
    h.place).0

typed : (o : Option ResourceInfo) (n : ℕ) → option_map_or (λ (z : ResourceInfo). z.rtype == n) o false ≡ true
    → option_map (λ (z : ResourceInfo). z.rtype) o ≡ Some n
typed None n h = absurd (true-false (sym h))
typed (Some z) n h = ap Some (eqb-true z.rtype n h)

slot_staffed : (p : Parts) (x : Slot) (k : ℕ) (r : Option ResourceId) → IsSlot p x → is_live x ≡ true
    → k < length x.given → may_have p r (place_at p.events x.event.0 k) ≡ true → IsSlot p (with_resource x k r)
slot_staffed p x k r i live l t = record {
  duration = i.duration;
  ends = i.ends;
  given = λ e j place u g h w. elim (cases_eq j k) [
    | inl same ↦
        let mine : Some r ≡ Some (Some u) = sym (set-there x.given k r (get_or x.given k None)
        (slice_get-get_or x.given k None l)) ∙ ap (slice_get (set x.given k r)) (sym same) ∙ w in
        let here : place_at p.events x.event.0 k ≡ Some place =
        ap (option_and_then (λ (z : EventInfo). slice_get z.places k)) g ∙ ap (slice_get e.places) (sym same) ∙ h in
        typed (slice_get p.resources u.0) place.rtype
        (sym (ap (λ o. may_have p o (place_at p.events x.event.0 k)) (same_Some r (Some u) mine)
        ∙ ap (has_type p u.0) here) ∙ t)
    | inr other ↦ i.given e j place u g h (sym (slice_get-set_other x.given k j r other) ∙ w)
  ];
  empty = λ n. let y = some_value x.span live in absurd (there-none y.0 (sym y.1 ∙ n));
}

staffed_emptied : (x : Slot) (k : ℕ) (r : Option ResourceId) → emptied (with_resource x k r) ≡ emptied x
staffed_emptied x k r = λ j. record x { span = None; given = replicate (length-set x.given k r j) None }

staffed_kept : (p : Parts) (x : Slot) (k : ℕ) (r : Option ResourceId) → IsKeptBy p x
    → is_fixed_place p x.event.0 k ≡ false → IsKeptBy p (with_resource x k r)
staffed_kept p x k r h f j place u a b live = elim (cases_eq j k) [
  | inl same ↦ absurd (true-false (sym (ap (is_fixed_place p x.event.0) (sym same)
      ∙ ap (λ o. option_map_or (λ (z : Place). is_some z.fixed) o false) a ∙ ap is_some b) ∙ f))
  | inr other ↦ get_or-set_other x.given k j r None other ∙ h j place u a b live
]

pub valid_staffed : (p : Parts) (s : List Slot) (t : TaskId) (r : Option ResourceId) → AreValid p s → MayTurn p s t
    → may_have p r (task_place p s t) ≡ true → AreValid p (staffed s t r)
valid_staffed p s t r v h o =
    let m = t.meet.0 in
    let x = slot_at s m in
    let y = with_resource x t.place r in
    let w = turn_there p s t h in
    let l = w.0 in
    let i = slot_staffed p x t.place r (All-get_or (IsSlot p) s m no_slot l v.told.slots) (turn_live p s t h) w.1 o in
    record {
      told = told_kept p s m y v.told l (staffed_emptied x t.place r) i (λ e. refl);
      whole = λ e event g. let a = sum_by-set (held_by e) s m y no_slot l in let c = v.whole e event g in
          omega (arith, a, c);
      fixed = λ e event u g f. All-set (IsFixedAs e u event.duration) s m y
          (All-get_or (IsFixedAs e u event.duration) s m no_slot l (v.fixed e event u g f)) (v.fixed e event u g f);
      kept = All-set (IsKeptBy p) s m y (staffed_kept p x t.place r (All-get_or (IsKeptBy p) s m no_slot l v.kept)
          h.free) v.kept;
    }

-- a task loses its resource, and one without a resource gets one
pub take_goes : (p : Parts) (s : List Slot) (t : TaskId) (r : Option ResourceId) → AreValid p s → MayTurn p s t
    → resource_at s t ≡ r → Goes p s (takes t r) (staffed s t None)
take_goes p s t None v h e = goes_nowhere p s (staffed s t None) v (staffed_none s t None e)
take_goes p s t (Some u) v h e =
    let x = slot_at s t.meet.0 in
    let w = turn_there p s t h in
    let y = some_value x.span (turn_live p s t h) in
    let v2 = valid_staffed p s t None v h refl in
    record {
      fits = (
        record {
          there = w.0;
          suits = (y.0, y.1, slice_get-get_or x.given t.place None w.1 ∙ ap Some e);
          told =
              v2.told;
        },
        tt,
      );
      slots = refl;
      valid = v2;
    }

pub give_goes : (p : Parts) (s : List Slot) (t : TaskId) (r : Option ResourceId) → AreValid p s → MayTurn p s t
    → resource_at s t ≡ None → may_have p r (task_place p s t) ≡ true
    → Goes p s (gives t r) (staffed s t r)
give_goes p s t None v h e o = goes_nowhere p s (staffed s t None) v (staffed_none s t None e)
give_goes p s t (Some u) v h e o =
    let x = slot_at s t.meet.0 in
    let w = turn_there p s t h in
    let y = some_value x.span (turn_live p s t h) in
    let v2 = valid_staffed p s t (Some u) v h o in
    record {
      fits = (
        record {
          there = w.0;
          suits = (y.0, y.1, slice_get-get_or x.given t.place None w.1 ∙ ap Some e);
          told =
              v2.told;
        },
        tt,
      );
      slots = refl;
      valid = v2;
    }
