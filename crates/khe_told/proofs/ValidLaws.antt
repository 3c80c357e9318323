-- Told and valid slots are the told and valid states that they list.
use Rattle.std.proofs.Common.{ℕ, ◌≡◌, ◌+◌, ◌≤◌, ◌∙◌, Bool, true, false, cond, Option, Some, None, List, [], ◌∷◌, length}
use Rattle.std.proofs.Common.{map, slice_get, refl, sym, ap, subst, arith}
use Rattle.std.specs.Prelude.{All, ◌==◌, IfSome}
use Rattle.std.specs.Option.{option_and_then}
use Rattle.std.proofs.lemmas.Bool.{eqb-true}
use Rattle.std.proofs.lemmas.List.Elements.{All-nil, All-cons, All-head, All-tail}
use Rattle.std.proofs.lemmas.List.Sums.{sum_by-cons}
use Rattle.std.proofs.lemmas.Option.{get_or_from_slice_get}
use Rattle.khe_base.proofs.ListLemmas.{All-flat_map, all-there}
use Rattle.khe_base.specs.declared.numbers.ResourceId.{ResourceId}
use Rattle.khe_base.specs.declared.numbers.TimeId.{TimeId}
use Rattle.khe_instance.specs.Lookups.{place_at}
use Rattle.khe_instance.specs.Running.{duties, meets_of}
use Rattle.khe_instance.specs.States.{IsGiven, IsKept, IsMeet, IsPlaced, IsTold, IsValid}
use Rattle.khe_instance.specs.WellMade.{AreFirstMeets, AreWellMade, HasType, IsEvent}
use Rattle.khe_instance.specs.declared.parts.EventInfo.{EventInfo}
use Rattle.khe_instance.specs.declared.parts.Parts.{Parts}
use Rattle.khe_instance.specs.declared.parts.Place.{Place}
use Rattle.khe_instance.specs.declared.states.Meet.{Meet}
use Rattle.khe_instance.specs.declared.states.Plain.{Plain}
use Rattle.khe_told.proofs.DutyLaws.{duties_listed}
use Rattle.khe_told.proofs.FrameLaws.{IsFrame, frames, told_from}
use Rattle.khe_told.proofs.ListingLaws.{All-duties_with, All-meets, held_meets, meets_ascend, tasks_listed}
use Rattle.khe_told.specs.Fits.{AreTold, IsSlot}
use Rattle.khe_told.specs.Lists.{duties_of, meet_in, meets_in, tasks_in}
use Rattle.khe_told.specs.Slots.{held, held_by, length_of}
use Rattle.khe_told.specs.Valid.{AreMonitorsKept, AreValid, IsFixedAs, IsKeptBy}
use Rattle.khe_told.specs.declared.slots.Slot.{Slot}
use Rattle.khe_told.specs.declared.slots.Span.{Span}

pub subst2 : {A B : Type 0} (P : A → B → Type 0) {a c : A} {b d : B} → a ≡ c → b ≡ d → P a b → P c d
subst2 P {a} {c} {b} {d} e f h = subst (λ x. P x d) e (subst (P a) f h)

if_some : {A : Type 0} (P : A → Type 0) (o : Option A) → ((v : A) → o ≡ Some v → P v) → IfSome o P
if_some P None h = tt
if_some P (Some v) h = h v refl

pub if_given : {A : Type 0} (P : A → Type 0) (o : Option A) (v : A) → o ≡ Some v → IfSome o P → P v
if_given P o v e h = subst (λ q. IfSome q P) e h

-- the event of a place that is there
pub record IsPlaceOf (events : List EventInfo) (e k : ℕ) (place : Place) : Type 0 where
  pub event : EventInfo
  pub there : slice_get events e ≡ Some event
  pub here : slice_get event.places k ≡ Some place

pub place_there : (events : List EventInfo) (e k : ℕ) (place : Place) → place_at events e k ≡ Some place
    → IsPlaceOf events e k place
place_there events e k place h = by (slice_get events e) refl h
  where
    IsThere : Option Place → Type 0
    IsThere None = ⊥
    IsThere (Some a) = Unit {0}

    by : (o : Option EventInfo) → slice_get events e ≡ o
        → option_and_then (λ (event : EventInfo). slice_get event.places k) o ≡ Some place → IsPlaceOf events e k place
    by None at h = absurd (subst IsThere (sym h) tt)
    by (Some event) at h = record { event = event; there = at; here = h }

-- a slot with a meet, and the meet
abbrev meet_with : Slot → Span → Meet
meet_with x y = record { meet = x.meet; event = x.event; duration = y.duration; start = y.start }

-- told slots list a told state
slot_meets : (p : Parts) (s : List Slot) → All (IsFrame p.events) s → All (IsSlot p) s
    → All (λ x. IfSome (meet_in x) (IsMeet p)) s
slot_meets p [] f i = All-nil (λ x. IfSome (meet_in x) (IsMeet p))
slot_meets p (x ∷ s) f i =
    let g = All-head (IsFrame p.events) x s f in
    let h = All-head (IsSlot p) x s i in
    All-cons (λ x. IfSome (meet_in x) (IsMeet p)) x s (by x.span h.duration h.ends g)
    (slot_meets p s (All-tail (IsFrame p.events) x s f) (All-tail (IsSlot p) x s i))
  where
    by : (o : Option Span) → IfSome o (λ y. 1 ≤ y.duration)
        → IfSome o (λ y. IfSome y.start (λ t. t.0 + y.duration ≤ length p.times)) → IsFrame p.events x
        → IfSome (meet_in (record x { span = o })) (IsMeet p)
    by None d e g = tt
    by (Some y) d e g = record { slot = g.slot; duration = d; ends = e }

slot_given : (p : Parts) (s : List Slot) → All (IsSlot p) s → All (λ x. All (IsGiven p) (duties_of x)) s
slot_given p [] i = All-nil (λ x. All (IsGiven p) (duties_of x))
slot_given p (x ∷ s) i = All-cons (λ x. All (IsGiven p) (duties_of x)) x s (by x.span (All-head (IsSlot p) x s i))
    (slot_given p s (All-tail (IsSlot p) x s i))
  where
    by : (o : Option Span) → IsSlot p x → All (IsGiven p) (duties_of (record x { span = o }))
    by None h = All-nil (IsGiven p)
    by (Some y) h =
        All-duties_with (IsGiven p) (record { meet = x.meet; event = x.event; duration = y.duration; start = y.start })
        0 x.given
        (λ k r at. if_some (λ (place : Place). IfSome r (HasType p place.rtype)) (place_at p.events x.event.0 (0 + k))
        (λ place there. if_some (HasType p place.rtype) r
        (λ v is. (let e = place_there p.events x.event.0 (0 + k) place there in
        let z : 0 + k ≡ k = omega arith in
        h.given e.event k place v e.there (ap (slice_get e.event.places) (sym z) ∙ e.here) (at ∙ ap Some is)))))

pub listed_told : (p : Parts) (s : List Slot) → AreFirstMeets 0 p.events → AreTold p s
    → IsTold p (meets_in s) (tasks_in s)
listed_told p s first t =
    let f = frames p s first t.whose in
    let from = told_from p s first t.whose in
    record {
      meets = All-meets (IsMeet p) s (slot_meets p s f t.slots);
      ascending = meets_ascend 0 s from;
      durations = λ e event at. (let h = held_meets e s in let d = t.durations e event at in omega (arith, h, d));
      tasks = tasks_listed p s f;
      given = subst (All (IsGiven p)) (sym (duties_listed 0 s from))
          (All-flat_map (IsGiven p) duties_of s (slot_given p s t.slots));
    }

-- valid slots list a valid state
abbrev starts : ℕ → List Slot → List (Option TimeId)
starts e s = map (λ (m : Meet). m.start) (meets_of e (meets_in s))

none_start : (s : List Slot) (e : ℕ) (t : TimeId) (d : ℕ) → 1 ≤ d → All (IsFixedAs e t d) s → held e s ≡ 0
    → starts e s ≡ []
none_start [] e t d some f h = refl
none_start (x ∷ s) e t d some f h =
    by (x.event.0 == e) x.span refl (All-head (IsFixedAs e t d) x s f) (sym (sum_by-cons (held_by e) x s) ∙ h)
    (none_start s e t d some (All-tail (IsFixedAs e t d) x s f))
  where
    by : (b : Bool) (o : Option Span) → (x.event.0 == e) ≡ b → IsFixedAs e t d (record x { span = o })
        → cond b (length_of (record x { span = o })) 0 + held e s ≡ 0
        → (held e s ≡ 0 → starts e s ≡ []) → starts e (record x { span = o } ∷ s) ≡ []
    by false None test own h rest = rest (omega (arith, h))
    by true None test own h rest = rest (omega (arith, h))
    by false (Some y) test own h rest = ap (λ b. map (λ (m : Meet). m.start)
        (cond b (meet_with x y ∷ meets_of e (meets_in s)) (meets_of e (meets_in s)))) test ∙ rest (omega (arith, h))
    by true (Some y) test own h rest = absurd (let k = (own (eqb-true x.event.0 e test) refl).1 in
        omega (arith, k, h, some))

one_start : (s : List Slot) (e : ℕ) (t : TimeId) (d : ℕ) → 1 ≤ d → All (IsFixedAs e t d) s → held e s ≡ d
    → starts e s ≡ Some t ∷ []
one_start [] e t d some f h = absurd (omega (arith, some, h))
one_start (x ∷ s) e t d some f h =
    by (x.event.0 == e) x.span refl (All-head (IsFixedAs e t d) x s f) (sym (sum_by-cons (held_by e) x s) ∙ h)
    (one_start s e t d some (All-tail (IsFixedAs e t d) x s f))
    (none_start s e t d some (All-tail (IsFixedAs e t d) x s f))
  where
    by : (b : Bool) (o : Option Span) → (x.event.0 == e) ≡ b → IsFixedAs e t d (record x { span = o })
        → cond b (length_of (record x { span = o })) 0 + held e s ≡ d
        → (held e s ≡ d → starts e s ≡ Some t ∷ []) → (held e s ≡ 0 → starts e s ≡ [])
        → starts e (record x { span = o } ∷ s) ≡ Some t ∷ []
    by false None test own h rest none = rest (omega (arith, h))
    by true None test own h rest none = rest (omega (arith, h))
    by false (Some y) test own h rest none = ap (λ b. map (λ (m : Meet). m.start)
        (cond b (meet_with x y ∷ meets_of e (meets_in s)) (meets_of e (meets_in s)))) test ∙ rest (omega (arith, h))
    by true (Some y) test own h rest none =
        let is = own (eqb-true x.event.0 e test) refl in
        let left : held e s ≡ 0 = let k = is.1 in omega (arith, k, h) in
        ap (λ b. map (λ (m : Meet). m.start) (cond b (meet_with x y ∷ meets_of e (meets_in s))
        (meets_of e (meets_in s)))) test ∙ (λ i. is.0 i ∷ none left i)

slot_kept : (p : Parts) (s : List Slot) → All (IsKeptBy p) s → All (λ x. All (IsKept p) (duties_of x)) s
slot_kept p [] i = All-nil (λ x. All (IsKept p) (duties_of x))
slot_kept p (x ∷ s) i = All-cons (λ x. All (IsKept p) (duties_of x)) x s (by x.span (All-head (IsKeptBy p) x s i))
    (slot_kept p s (All-tail (IsKeptBy p) x s i))
  where
    by : (o : Option Span) → IsKeptBy p (record x { span = o }) → All (IsKept p) (duties_of (record x { span = o }))
    by None h = All-nil (IsKept p)
    by (Some y) h =
        All-duties_with (IsKept p) (record { meet = x.meet; event = x.event; duration = y.duration; start = y.start }) 0
        x.given
        (λ k o at. if_some (λ (place : Place). IfSome place.fixed (λ r. o ≡ Some r))
        (place_at p.events x.event.0 (0 + k))
        (λ place there. if_some (λ (r : ResourceId). o ≡ Some r) place.fixed
        (λ r fixed. (let z : 0 + k ≡ k = omega arith in
        sym (get_or_from_slice_get x.given k o None at)
        ∙ h k place r (ap (place_at p.events x.event.0) (sym z) ∙ there) fixed refl))))

pub listed_placed : (p : Parts) (s : List Slot) (e : ℕ) (event : EventInfo) → AreValid p s
    → slice_get p.events e ≡ Some event → 1 ≤ event.duration → IsPlaced (meets_in s) e event
listed_placed p s e event v at some = record {
  whole = held_meets e s ∙ v.whole e event at;
  fixed = if_some (λ t. starts e s ≡ Some t ∷ []) event.fixed
      (λ t fixed. one_start s e t event.duration some (v.fixed e event t at fixed) (v.whole e event at));
}

pub listed_kept : (p : Parts) (s : List Slot) → AreFirstMeets 0 p.events → AreValid p s
    → All (IsKept p) (duties (meets_in s) (tasks_in s))
listed_kept p s first v =
    subst (All (IsKept p)) (sym (duties_listed 0 s (told_from p s first v.told.whose)))
    (All-flat_map (IsKept p) duties_of s (slot_kept p s v.kept))

-- a Plain that lists valid slots is valid as far as meets and tasks go
pub listed_valid : (p : Parts) (s : List Slot) (plain : Plain) → AreWellMade p → AreValid p s → plain.meets ≡ meets_in s
    → plain.tasks ≡ tasks_in s
    → AreMonitorsKept p plain → IsValid p plain
listed_valid p s plain made v meets tasks kept = record {
  told = subst2 (IsTold p) (sym meets) (sym tasks) (listed_told p s made.first_meets v.told);
  events = λ e event at. subst (λ ms. IsPlaced ms e event) (sym meets)
      (listed_placed p s e event v at (all-there (IsEvent p) p.events e event made.events at).duration.0);
  kept = subst2 (λ ms ts. All (IsKept p) (duties ms ts)) (sym meets) (sym tasks) (listed_kept p s made.first_meets v);
  detached = kept.detached;
  detached_once = kept.detached_once;
  groups = kept.groups;
  groups_once = kept.groups_once;
}
