-- Slots that list a told or a valid state are told or valid.
use Rattle.std.proofs.Common.{ℕ, ◌≡◌, ◌+◌, ◌<◌, ◌∙◌, Bool, true, false, cond, zero, suc, Option, Some, None, List, []}
use Rattle.std.proofs.Common.{◌∷◌, length, get_or, map, slice_get, filter, refl, sym, ap, subst, arith}
use Rattle.std.specs.Prelude.{All, ◌==◌, IfSome, replicate}
use Rattle.std.specs.List.{sum_by}
use Rattle.std.specs.Option.{option_and_then, option_map_or}
use Rattle.std.proofs.lemmas.Bool.{eq-eqb, true≢false}
use Rattle.std.proofs.lemmas.List.Elements.{All-nil, All-cons, All-head, All-tail}
use Rattle.std.proofs.lemmas.List.Sums.{sum_by-cons}
use Rattle.std.proofs.lemmas.Option.{slice_get-get_or, slice_get_within}
use Rattle.khe_base.specs.declared.numbers.ResourceId.{ResourceId}
use Rattle.khe_base.specs.declared.numbers.TimeId.{TimeId}
use Rattle.khe_instance.specs.Lookups.{place_at, places_at}
use Rattle.khe_instance.specs.Running.{duties, meets_of}
use Rattle.khe_instance.specs.States.{IsGiven, IsKept, IsMeet, IsPlaced, IsTold, IsValid}
use Rattle.khe_instance.specs.WellMade.{AreFirstMeets, HasType}
use Rattle.khe_instance.specs.declared.parts.EventInfo.{EventInfo}
use Rattle.khe_instance.specs.declared.parts.Parts.{Parts}
use Rattle.khe_instance.specs.declared.parts.Place.{Place}
use Rattle.khe_instance.specs.declared.states.Meet.{Meet}
use Rattle.khe_instance.specs.declared.states.Plain.{Plain}
use Rattle.khe_told.proofs.DutyLaws.{duties_listed}
use Rattle.khe_told.proofs.FrameLaws.{IsFrame, frames, told_from}
use Rattle.khe_told.proofs.ListingLaws.{duties_with-each, flat_map-each, held_meets, meets-each}
use Rattle.khe_told.proofs.ValidLaws.{if_given, place_there, subst2}
use Rattle.khe_told.specs.Fits.{AreTold, IsSlot}
use Rattle.khe_told.specs.Lists.{duties_of, meet_in, meets_in, tasks_in}
use Rattle.khe_told.specs.Slots.{IsBareIfFree, emptied, no_meets}
use Rattle.khe_told.specs.Valid.{AreValid, IsFixedAs, IsKeptBy}
use Rattle.khe_told.specs.declared.slots.Slot.{Slot}
use Rattle.khe_told.specs.declared.slots.Span.{Span}

abbrev pub IsLive : Option Span → Type 0
IsLive None = ⊥
IsLive (Some y) = Unit {0}

abbrev IsResource : Option (Option ResourceId) → Type 0
IsResource None = ⊥
IsResource (Some None) = ⊥
IsResource (Some (Some r)) = Unit {0}

nothing_given : (n k : ℕ) (r : ResourceId) → slice_get (replicate n None) k ≡ Some (Some r) → ⊥
nothing_given zero k r h = subst IsResource (sym h) tt
nothing_given (suc n) zero r h = subst IsResource (sym h) tt
nothing_given (suc n) (suc k) r h = nothing_given n k r h

-- slots that list a told state are told
slot_told : (p : Parts) (s : List Slot) → All IsBareIfFree s → All (λ x. IfSome (meet_in x) (IsMeet p)) s
    → All (λ x. All (IsGiven p) (duties_of x)) s → All (IsSlot p) s
slot_told p [] b m g = All-nil (IsSlot p)
slot_told p (x ∷ s) b m g =
    All-cons (IsSlot p) x s
    (by x.span (All-head IsBareIfFree x s b) (All-head (λ x. IfSome (meet_in x) (IsMeet p)) x s m)
    (All-head (λ x. All (IsGiven p) (duties_of x)) x s g))
    (slot_told p s (All-tail IsBareIfFree x s b) (All-tail (λ x. IfSome (meet_in x) (IsMeet p)) x s m)
    (All-tail (λ x. All (IsGiven p) (duties_of x)) x s g))
  where
    by : (o : Option Span) → IsBareIfFree (record x { span = o }) → IfSome (meet_in (record x { span = o })) (IsMeet p)
        → All (IsGiven p) (duties_of (record x { span = o })) → IsSlot p (record x { span = o })
    by None bare meet given = record {
      duration = tt;
      ends = tt;
      given = λ e k place r at there is. absurd (nothing_given (length x.given) k r
          (ap (λ g. slice_get g k) (sym (bare refl)) ∙ is));
      empty = bare;
    }
    by (Some y) bare meet given = record {
      duration = meet.duration;
      ends = meet.ends;
      given = λ e k place r at there is.
          (let z : k ≡ 0 + k = omega arith in
          let here : place_at p.events x.event.0 (0 + k) ≡ Some place =
          ap (place_at p.events x.event.0) (sym z) ∙ ap (option_and_then
          (λ (event : EventInfo). slice_get event.places k)) at ∙ there in
          if_given (λ (place : Place). HasType p place.rtype r) (place_at p.events x.event.0 (0 + k)) place here
          (duties_with-each (IsGiven p) (record {
            meet = x.meet;
            event = x.event;
            duration = y.duration;
            start =
                y.start;
          }) 0 x.given given k (Some r) is));
      empty = λ h. absurd (subst IsLive h tt);
    }

pub told_listed : (p : Parts) (s : List Slot) → AreFirstMeets 0 p.events → map emptied s ≡ no_meets p
    → All IsBareIfFree s → IsTold p (meets_in s) (tasks_in s) → AreTold p s
told_listed p s first whose bare t = record {
  whose = whose;
  slots = slot_told p s bare (meets-each (IsMeet p) s t.meets)
      (flat_map-each (IsGiven p) duties_of s (subst (All (IsGiven p)) (duties_listed 0 s (told_from p s first whose))
      t.given));
  durations = λ e event at. (let h = held_meets e s in let d = t.durations e event at in omega (arith, h, d));
}

-- the one meet of an event with a preassigned time
abbrev IsOnly : TimeId → ℕ → Meet → Type 0
IsOnly t d m = (m.start ≡ Some t) × (m.duration ≡ d)

only : (ms : List Meet) (t : TimeId) (d : ℕ) → map (λ (m : Meet). m.start) ms ≡ Some t ∷ []
    → sum_by (λ (m : Meet). m.duration) ms ≡ d → All (IsOnly t d) ms
only [] t d h sum = All-nil (IsOnly t d)
only (m ∷ []) t d h sum =
    All-cons (IsOnly t d) m [] (
      ap (λ os. get_or os 0 m.start) h,
      (let k = sum_by-cons (λ (m : Meet). m.duration) m [] in
          let z : sum_by (λ (m : Meet). m.duration) [] ≡ 0 = refl in omega (arith, k, z, sum)),
    )
    (All-nil (IsOnly t d))
only (m ∷ (n ∷ ms)) t d h sum = absurd (let l = ap length h in omega (arith, l))

filter-each : {A : Type 0} (P : A → Type 0) (q : A → Bool) (xs : List A) → All P (filter q xs)
    → All (λ x. q x ≡ true → P x) xs
filter-each P q [] h = All-nil (λ x. q x ≡ true → P x)
filter-each P q (x ∷ xs) h = by (q x) refl h (filter-each P q xs)
  where
    by : (b : Bool) → q x ≡ b → All P (cond b (x ∷ filter q xs) (filter q xs))
        → (All P (filter q xs) → All (λ x. q x ≡ true → P x) xs) → All (λ x. q x ≡ true → P x) (x ∷ xs)
    by true test h rest = All-cons (λ x. q x ≡ true → P x) x xs (λ e. All-head P x (filter q xs) h)
        (rest (All-tail P x (filter q xs) h))
    by false test h rest = All-cons (λ x. q x ≡ true → P x) x xs (λ e. absurd (true≢false (sym e ∙ test))) (rest h)

slot_fixed : (s : List Slot) (e : ℕ) (t : TimeId) (d : ℕ)
    → All (λ x. IfSome (meet_in x) (λ m. (m.event.0 == e) ≡ true → IsOnly t d m)) s → All (IsFixedAs e t d) s
slot_fixed [] e t d h = All-nil (IsFixedAs e t d)
slot_fixed (x ∷ s) e t d h =
    All-cons (IsFixedAs e t d) x s (by x.span (All-head
    (λ x. IfSome (meet_in x) (λ m. (m.event.0 == e) ≡ true → IsOnly t d m)) x s h))
    (slot_fixed s e t d (All-tail (λ x. IfSome (meet_in x) (λ m. (m.event.0 == e) ≡ true → IsOnly t d m)) x s h))
  where
    by : (o : Option Span) → IfSome (meet_in (record x { span = o })) (λ m. (m.event.0 == e) ≡ true → IsOnly t d m)
        → IsFixedAs e t d (record x { span = o })
    by None h own live = absurd (true≢false (sym live))
    by (Some y) h own live = h (eq-eqb x.event.0 e own)

slot_keeps : (p : Parts) (s : List Slot) → All (IsFrame p.events) s → All (λ x. All (IsKept p) (duties_of x)) s
    → All (IsKeptBy p) s
slot_keeps p [] f h = All-nil (IsKeptBy p)
slot_keeps p (x ∷ s) f h =
    All-cons (IsKeptBy p) x s (by x.span (All-head (IsFrame p.events) x s f).places
    (All-head (λ x. All (IsKept p) (duties_of x)) x s h))
    (slot_keeps p s (All-tail (IsFrame p.events) x s f) (All-tail (λ x. All (IsKept p) (duties_of x)) x s h))
  where
    by : (o : Option Span) → length x.given ≡ places_at p.events x.event.0
        → All (IsKept p) (duties_of (record x { span = o })) → IsKeptBy p (record x { span = o })
    by None many kept k place r there fixed live = absurd (true≢false (sym live))
    by (Some y) many kept k place r there fixed live =
        let of = place_there p.events x.event.0 k place there in
        let l = slice_get_within of.event.places k place of.here in
        let n = ap (λ o. option_map_or (λ (event : EventInfo). length event.places) o 0) of.there in
        let within : k < length x.given = omega (arith, many, l, n) in
        let z : k ≡ 0 + k = omega arith in
        if_given (λ (r : ResourceId). get_or x.given k None ≡ Some r) place.fixed r fixed
        (if_given (λ (place : Place). IfSome place.fixed (λ r. get_or x.given k None ≡ Some r))
        (place_at p.events x.event.0 (0 + k)) place (ap (place_at p.events x.event.0) (sym z) ∙ there)
        (duties_with-each (IsKept p) (record { meet = x.meet; event = x.event; duration = y.duration; start = y.start })
        0 x.given kept k (get_or x.given k None) (slice_get-get_or x.given k None within)))

-- slots that list a valid state are valid
pub valid_listed : (p : Parts) (s : List Slot) (plain : Plain) → AreFirstMeets 0 p.events → map emptied s ≡ no_meets p
    → All IsBareIfFree s
    → plain.meets ≡ meets_in s → plain.tasks ≡ tasks_in s → IsValid p plain → AreValid p s
valid_listed p s plain first whose bare meets tasks v =
    let placed : (e : ℕ) (event : EventInfo) → slice_get p.events e ≡ Some event
    → IsPlaced (meets_in s) e event = λ e event at. subst (λ ms. IsPlaced ms e event) meets (v.events e event at) in
    let kept = subst2 (λ ms ts. All (IsKept p) (duties ms ts)) meets tasks v.kept in
    record {
      told = told_listed p s first whose bare (subst2 (IsTold p) meets tasks v.told);
      whole = λ e event at. sym (held_meets e s) ∙ (placed e event at).whole;
      fixed = λ e event t at fixed.
          slot_fixed s e t event.duration
          (meets-each (λ m. (m.event.0 == e) ≡ true → IsOnly t event.duration m) s
          (filter-each (IsOnly t event.duration) (λ (m : Meet). m.event.0 == e) (meets_in s)
          (only (meets_of e (meets_in s)) t event.duration
          (if_given (λ t. map (λ (m : Meet). m.start) (meets_of e (meets_in s)) ≡ Some t ∷ []) event.fixed t fixed
          (placed e event at).fixed)
          (placed e event at).whole)));
      kept = slot_keeps p s (frames p s first whose)
          (flat_map-each (IsKept p) duties_of s (subst (All (IsKept p)) (duties_listed 0 s (told_from p s first whose))
          kept));
    }
