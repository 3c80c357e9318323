-- Who watches what becomes of a slot watches one of the changes that lead there.
use Rattle.std.proofs.Common.{ℕ, ◌≡◌, ◌≢◌, ◌≤◌, ◌<◌, ◌+◌, ◌*◌, ◌⊎◌, ◌∙◌, inl, inr, zero, suc, cond, Bool, true, false}
use Rattle.std.proofs.Common.{Option, Some}
use Rattle.std.proofs.Common.{None, List, [], ◌∷◌, length, replicate, slice_get, slice_set, refl, sym, ap, subst, arith}
use Rattle.std.proofs.Common.{get_or, map}
use Rattle.std.specs.List.{count_by, filter_map, list_any}
use Rattle.std.specs.Prelude.{◌||◌}
use Rattle.std.specs.Option.{option_map, option_map_or}
use Rattle.std.proofs.Math.Dec.{eqb}
use Rattle.std.proofs.Math.Nat.{one-le-mul}
use Rattle.std.proofs.lemmas.Bool.{true≢false}
use Rattle.std.proofs.lemmas.Bool.Decides.{eqb_tells}
use Rattle.std.proofs.lemmas.List.{get_or-set_other, get_or-set_same, length-set}
use Rattle.std.proofs.lemmas.List.Elements.{All-get_or}
use Rattle.std.proofs.lemmas.List.Sums.{sum_by-cons}
use Rattle.std.proofs.lemmas.Option.{none-some, same_Some}
use Rattle.khe_base.proofs.ListLemmas.{get-other}
use Rattle.khe_base.specs.declared.numbers.ResourceId.{ResourceId}
use Rattle.khe_base.specs.declared.numbers.TimeId.{TimeId}
use Rattle.khe_instance.specs.Watching.{is_at, is_workload, lists_time, names_event}
use Rattle.khe_instance.specs.declared.parts.Parts.{Parts}
use Rattle.khe_instance.specs.declared.points.Monitor.{Monitor}
use Rattle.khe_instance.specs.declared.points.Point.{Point}
use Rattle.khe_instance.specs.declared.rules.Constraint.{Constraint}
use Rattle.khe_instance.specs.declared.rules.Rule.{Rule}
use Rattle.khe_told.proofs.SlotLaws.{set-there}
use Rattle.khe_told.specs.Changes.{after, after_all, changed, meet_of}
use Rattle.khe_told.specs.Fits.{AllFit, AreTold, Fits, IsSlot, Suits}
use Rattle.khe_told.specs.Slots.{IsBareIfFree, emptied, no_slot, slot_at}
use Rattle.khe_told.specs.Turns.{HasCell, HasLoad, IsWatched, Watches, duration_of}
use Rattle.khe_told.specs.Watchers.{covered, given_in, times_of, touched_times}
use Rattle.khe_told.specs.Watchers.{AreWatchersOf, watch_count, watch_counts, watches_with}
use Rattle.khe_told.specs.declared.changes.Change.{Change}
use Rattle.khe_told.specs.declared.changes.Change.TheVariants.{Add, Drop, Place as PlaceAt, Lift, Give, Take}
use Rattle.khe_told.specs.declared.slots.Slot.{Slot}
use Rattle.khe_told.specs.declared.slots.Span.{Span}
use Rattle.family_keepers.specs.Takes.{AreWatchersAt, IsEither, Mentions}

-- what a test finds it counts
counted : (f : ℕ → Bool) (xs : List ℕ) → list_any f xs ≡ true → 1 ≤ count_by f xs
counted f [] h = absurd (true≢false (sym h))
counted f (x ∷ xs) h = by (f x) refl (counted f xs)
  where
    by : (b : Bool) → f x ≡ b → (list_any f xs ≡ true → 1 ≤ count_by f xs) → 1 ≤ count_by f (x ∷ xs)
    by true e rest =
        let n = sum_by-cons (λ (y : ℕ). cond {A = ℕ} (f y) 1 0) x xs in
        let one : cond {A = ℕ} (f x) 1 0 ≡ 1 = ap (λ b. cond {A = ℕ} b 1 0) e in
        omega (arith, n, one)
    by false e rest =
        let n = sum_by-cons (λ (y : ℕ). cond {A = ℕ} (f y) 1 0) x xs in
        let r = rest (sym (ap (λ b. b || list_any f xs) e) ∙ h) in
        omega (arith, n, r)

-- the resource that a place is given is among those of its slot
given_counted : (f : ℕ → Bool) (given : List (Option ResourceId)) (j : ℕ) (r : ResourceId)
    → slice_get given j ≡ Some (Some r) → f r.0 ≡ true
    → 1 ≤ count_by f (filter_map (λ o. option_map_or (λ (r : ResourceId). Some r.0) o None) given)
given_counted f [] j r at h = absurd (none-some (Some r) at)
given_counted f (None ∷ given) zero r at h = absurd (none-some r (same_Some None (Some r) at))
given_counted f (None ∷ given) (suc j) r at h = given_counted f given j r at h
given_counted f (Some q ∷ given) zero r at h =
    let rest = filter_map (λ o. option_map_or (λ (r : ResourceId). Some r.0) o None) given in
    let n = sum_by-cons (λ (y : ℕ). cond {A = ℕ} (f y) 1 0) q.0 rest in
    let e : q ≡ r = same_Some q r (same_Some (Some q) (Some r) at) in
    let one : cond {A = ℕ} (f q.0) 1 0 ≡ 1 = ap (λ b. cond {A = ℕ} b 1 0) (ap (λ (x : ResourceId). f x.0) e ∙ h) in
    omega (arith, n, one)
given_counted f (Some q ∷ given) (suc j) r at h =
    let rest = filter_map (λ o. option_map_or (λ (r : ResourceId). Some r.0) o None) given in
    let n = sum_by-cons (λ (y : ℕ). cond {A = ℕ} (f y) 1 0) q.0 rest in
    let more = given_counted f given j r at h in
    omega (arith, n, more)

-- one alone
one_counted : (f : ℕ → Bool) (k : ℕ) → f k ≡ true → 1 ≤ count_by f (k ∷ [])
one_counted f k h =
    let n = sum_by-cons (λ (y : ℕ). cond {A = ℕ} (f y) 1 0) k [] in
    let one : cond {A = ℕ} (f k) 1 0 ≡ 1 = ap (λ b. cond {A = ℕ} b 1 0) h in
    omega (arith, n, one)

-- at a place both slots have the same
abbrev pub Alike : Slot → Slot → ℕ → Type 0
Alike x y j = (slice_get x.given j ≡ slice_get y.given j) × (x.span ≡ y.span)

abbrev pub LoadedAlike : Slot → Slot → ℕ → Type 0
LoadedAlike x y j = (slice_get x.given j ≡ slice_get y.given j) × (duration_of x ≡ duration_of y)

-- cells are told by what the place is given and by the meet
cell_alike : (rule : Rule) (point : Point) (x y : Slot) (j : ℕ) → Alike x y j → HasCell rule point x j
    → HasCell rule point y j
cell_alike rule point x y j e h = (
  h.0,
  sym e.0 ∙ h.1,
  h.2,
  ap (λ (o : Option Span). list_any (lists_time rule) (times_of (record x { span = o }))) (sym e.1) ∙ h.3,
)

load_alike : (rule : Rule) (point : Point) (x y : Slot) (j : ℕ) → slice_get x.given j ≡ slice_get y.given j
    → HasLoad rule point x j → HasLoad rule point y j
load_alike rule point x y j e h = (h.0, sym e ∙ h.1, h.2, h.3)

nothing_given : {G : Type 0} (given : List (Option ResourceId)) (j : ℕ) (r : ResourceId)
    → given ≡ replicate (length given) None → slice_get given j ≡ Some (Some r) → G
nothing_given given j r e at = absurd (by (length given) j (ap (λ g. slice_get g j) (sym e) ∙ at))
  where
    by : (n j : ℕ) → slice_get (replicate n None) j ≡ Some (Some r) → ⊥
    by zero j h = none-some (Some r) h
    by (suc n) zero h = none-some r (same_Some None (Some r) h)
    by (suc n) (suc j) h = by n j h

-- a slot without a start has no cells
no_cells : {G : Type 0} (rule : Rule) (point : Point) (x : Slot) (j d : ℕ)
    → x.span ≡ Some (record { duration = d; start = None }) → HasCell rule point x j → G
no_cells rule point x j d e h = absurd (true≢false
    (sym h.3 ∙ ap (λ (o : Option Span). list_any (lists_time rule) (times_of (record x { span = o }))) e))

-- cells that are there at a run are counted
cells_counted : (rule : Rule) (point : Point) (x : Slot) (j d : ℕ) (t : TimeId) → HasCell rule point x j
    → x.span ≡ Some (record { duration = d; start = Some t })
    → 1 ≤ count_by (is_at point) (given_in x) * count_by (lists_time rule) (covered t.0 d)
cells_counted rule point x j d t h e = one-le-mul
    (given_counted (is_at point) x.given j h.0 h.1 h.2)
    (counted (lists_time rule) (covered t.0 d)
    (ap (λ (o : Option Span). list_any (lists_time rule) (times_of (record x { span = o }))) (sym e) ∙ h.3))

-- one step: at a place the slot stays as it is, or the change is watched by who has a cell there
cell_step : (p : Parts) (x : Slot) (c : Change) (rule : Rule) (point : Point) (j : ℕ) → IsBareIfFree x → Suits x c
    → Alike x (changed x c) j
    ⊎ (HasCell rule point x j ⊎ HasCell rule point (changed x c) j → 1 ≤ watches_with p x c rule point)
cell_step p x (Add m d) rule point j bare h = inr by
  where
    by : HasCell rule point x j ⊎ HasCell rule point (changed x (Add m d)) j
        → 1 ≤ watches_with p x (Add m d) rule point
    by (inl a) = nothing_given x.given j a.0 (bare h) a.1
    by (inr a) = nothing_given x.given j a.0 (bare h) a.1
cell_step p x (Drop m d) rule point j bare h = inr by
  where
    by : HasCell rule point x j ⊎ HasCell rule point (changed x (Drop m d)) j
        → 1 ≤ watches_with p x (Drop m d) rule point
    by (inl a) = nothing_given x.given j a.0 h.1 a.1
    by (inr a) = nothing_given x.given j a.0 h.1 a.1
cell_step p x (PlaceAt m t) rule point j bare h = inr by
  where
    placed : (changed x (PlaceAt m t)).span ≡ Some (record { duration = h.0; start = Some t })
    placed = ap (option_map (λ (z : Span). record z { start = Some t })) h.1

    by : HasCell rule point x j ⊎ HasCell rule point (changed x (PlaceAt m t)) j
        → 1 ≤ watches_with p x (PlaceAt m t) rule point
    by (inl a) = no_cells rule point x j h.0 h.1 a
    by (inr a) =
        let n = cells_counted rule point (changed x (PlaceAt m t)) j h.0 t a placed in
        let e : count_by (is_at point) (given_in x) * count_by (lists_time rule) (touched_times x (PlaceAt m t))
        ≡ count_by (is_at point) (given_in x) * count_by (lists_time rule) (covered t.0 h.0) =
        ap (λ o. count_by (is_at point) (given_in x) * count_by (lists_time rule)
        (covered t.0 (option_map_or (λ (y : Span). y.duration) o 0))) h.1 in
        omega (arith, n, e)
cell_step p x (Lift m t) rule point j bare h = inr by
  where
    by : HasCell rule point x j ⊎ HasCell rule point (changed x (Lift m t)) j
        → 1 ≤ watches_with p x (Lift m t) rule point
    by (inl a) =
        let n = cells_counted rule point x j h.0 t a h.1 in
        let e : count_by (is_at point) (given_in x) * count_by (lists_time rule) (touched_times x (Lift m t))
        ≡ count_by (is_at point) (given_in x) * count_by (lists_time rule) (covered t.0 h.0) =
        ap (λ o. count_by (is_at point) (given_in x) * count_by (lists_time rule)
        (covered t.0 (option_map_or (λ (y : Span). y.duration) o 0))) h.1 in
        omega (arith, n, e)
    by (inr a) = no_cells rule point (changed x (Lift m t)) j h.0
        (ap (option_map (λ (z : Span). record z { start = None })) h.1) a
cell_step p x (Give t r) rule point j bare h = by (eqb_tells t.place j)
  where
    given_there : t.place ≡ j → slice_get (slice_set x.given t.place (Some r)) j ≡ Some (Some r)
    given_there e = ap (slice_get (slice_set x.given t.place (Some r))) (sym e)
        ∙ set-there x.given t.place (Some r) None h.2

    at : t.place ≡ j → HasCell rule point x j ⊎ HasCell rule point (changed x (Give t r)) j
        → 1 ≤ watches_with p x (Give t r) rule point
    at e (inl a) = absurd (none-some a.0 (same_Some None (Some a.0) (sym h.2 ∙ ap (slice_get x.given) e ∙ a.1)))
    at e (inr a) =
        let q : a.0 ≡ r = same_Some a.0 r (same_Some (Some a.0) (Some r) (sym a.1 ∙ given_there e)) in
        let n = one-le-mul (one_counted (is_at point) r.0 (ap (λ (z : ResourceId). is_at point z.0) (sym q) ∙ a.2))
        (counted (lists_time rule) (times_of x) a.3) in
        omega (arith, n)

    by : ((eqb t.place j ≡ true) × (t.place ≡ j)) ⊎ ((eqb t.place j ≡ false) × (t.place ≢ j))
        → Alike x (changed x (Give t r)) j
        ⊎ (HasCell rule point x j ⊎ HasCell rule point (changed x (Give t r)) j
        → 1 ≤ watches_with p x (Give t r) rule point)
    by (inl e) = inr (at e.1)
    by (inr e) = inl (sym (get-other x.given t.place j (Some r) e.1), refl)
cell_step p x (Take t r) rule point j bare h = by (eqb_tells t.place j)
  where
    gone_there : t.place ≡ j → slice_get (slice_set x.given t.place None) j ≡ Some None
    gone_there e = ap (slice_get (slice_set x.given t.place None)) (sym e)
        ∙ set-there x.given t.place None (Some r) h.2

    at : t.place ≡ j → HasCell rule point x j ⊎ HasCell rule point (changed x (Take t r)) j
        → 1 ≤ watches_with p x (Take t r) rule point
    at e (inl a) =
        let q : a.0 ≡ r = same_Some a.0 r (same_Some (Some a.0) (Some r)
        (sym a.1 ∙ ap (slice_get x.given) (sym e) ∙ h.2)) in
        let n = one-le-mul (one_counted (is_at point) r.0 (ap (λ (z : ResourceId). is_at point z.0) (sym q) ∙ a.2))
        (counted (lists_time rule) (times_of x) a.3) in
        omega (arith, n)
    at e (inr a) = absurd (none-some a.0 (same_Some None (Some a.0) (sym (gone_there e) ∙ a.1)))

    by : ((eqb t.place j ≡ true) × (t.place ≡ j)) ⊎ ((eqb t.place j ≡ false) × (t.place ≢ j))
        → Alike x (changed x (Take t r)) j
        ⊎ (HasCell rule point x j ⊎ HasCell rule point (changed x (Take t r)) j
        → 1 ≤ watches_with p x (Take t r) rule point)
    by (inl e) = inr (at e.1)
    by (inr e) = inl (sym (get-other x.given t.place j None e.1), refl)

-- one step: at a place the slot is given the same for as long, or the change is watched by who has a load there
load_step : (p : Parts) (x : Slot) (c : Change) (rule : Rule) (point : Point) (j : ℕ) → IsBareIfFree x → Suits x c
    → LoadedAlike x (changed x c) j
    ⊎ (HasLoad rule point x j ⊎ HasLoad rule point (changed x c) j → 1 ≤ watches_with p x c rule point)
load_step p x (Add m d) rule point j bare h = inr by
  where
    by : HasLoad rule point x j ⊎ HasLoad rule point (changed x (Add m d)) j
        → 1 ≤ watches_with p x (Add m d) rule point
    by (inl a) = nothing_given x.given j a.0 (bare h) a.1
    by (inr a) = nothing_given x.given j a.0 (bare h) a.1
load_step p x (Drop m d) rule point j bare h = inr by
  where
    by : HasLoad rule point x j ⊎ HasLoad rule point (changed x (Drop m d)) j
        → 1 ≤ watches_with p x (Drop m d) rule point
    by (inl a) = nothing_given x.given j a.0 h.1 a.1
    by (inr a) = nothing_given x.given j a.0 h.1 a.1
load_step p x (PlaceAt m t) rule point j bare h = inl (
  refl,
  ap (option_map (λ (y : Span). y.duration)) h.1
      ∙ sym (ap (option_map (λ (y : Span). y.duration))
      (ap (option_map (λ (z : Span). record z { start = Some t })) h.1)),
)
load_step p x (Lift m t) rule point j bare h = inl (
  refl,
  ap (option_map (λ (y : Span). y.duration)) h.1
      ∙ sym (ap (option_map (λ (y : Span). y.duration))
      (ap (option_map (λ (z : Span). record z { start = None })) h.1)),
)
load_step p x (Give t r) rule point j bare h = by (eqb_tells t.place j)
  where
    given_there : t.place ≡ j → slice_get (slice_set x.given t.place (Some r)) j ≡ Some (Some r)
    given_there e = ap (slice_get (slice_set x.given t.place (Some r))) (sym e)
        ∙ set-there x.given t.place (Some r) None h.2

    at : t.place ≡ j → HasLoad rule point x j ⊎ HasLoad rule point (changed x (Give t r)) j
        → 1 ≤ watches_with p x (Give t r) rule point
    at e (inl a) = absurd (none-some a.0 (same_Some None (Some a.0) (sym h.2 ∙ ap (slice_get x.given) e ∙ a.1)))
    at e (inr a) =
        let q : a.0 ≡ r = same_Some a.0 r (same_Some (Some a.0) (Some r) (sym a.1 ∙ given_there e)) in
        let n = one_counted (is_at point) r.0 (ap (λ (z : ResourceId). is_at point z.0) (sym q) ∙ a.2) in
        let w : cond (is_workload rule) (count_by (is_at point) (r.0 ∷ [])) 0 ≡ count_by (is_at point) (r.0 ∷ []) =
        ap (λ b. cond b (count_by (is_at point) (r.0 ∷ [])) 0) a.3 in
        omega (arith, n, w)

    by : ((eqb t.place j ≡ true) × (t.place ≡ j)) ⊎ ((eqb t.place j ≡ false) × (t.place ≢ j))
        → LoadedAlike x (changed x (Give t r)) j
        ⊎ (HasLoad rule point x j ⊎ HasLoad rule point (changed x (Give t r)) j
        → 1 ≤ watches_with p x (Give t r) rule point)
    by (inl e) = inr (at e.1)
    by (inr e) = inl (sym (get-other x.given t.place j (Some r) e.1), refl)
load_step p x (Take t r) rule point j bare h = by (eqb_tells t.place j)
  where
    gone_there : t.place ≡ j → slice_get (slice_set x.given t.place None) j ≡ Some None
    gone_there e = ap (slice_get (slice_set x.given t.place None)) (sym e)
        ∙ set-there x.given t.place None (Some r) h.2

    at : t.place ≡ j → HasLoad rule point x j ⊎ HasLoad rule point (changed x (Take t r)) j
        → 1 ≤ watches_with p x (Take t r) rule point
    at e (inl a) =
        let q : a.0 ≡ r = same_Some a.0 r (same_Some (Some a.0) (Some r)
        (sym a.1 ∙ ap (slice_get x.given) (sym e) ∙ h.2)) in
        let n = one_counted (is_at point) r.0 (ap (λ (z : ResourceId). is_at point z.0) (sym q) ∙ a.2) in
        let w : cond (is_workload rule) (count_by (is_at point) (r.0 ∷ [])) 0 ≡ count_by (is_at point) (r.0 ∷ []) =
        ap (λ b. cond b (count_by (is_at point) (r.0 ∷ [])) 0) a.3 in
        omega (arith, n, w)
    at e (inr a) = absurd (none-some a.0 (same_Some None (Some a.0) (sym (gone_there e) ∙ a.1)))

    by : ((eqb t.place j ≡ true) × (t.place ≡ j)) ⊎ ((eqb t.place j ≡ false) × (t.place ≢ j))
        → LoadedAlike x (changed x (Take t r)) j
        ⊎ (HasLoad rule point x j ⊎ HasLoad rule point (changed x (Take t r)) j
        → 1 ≤ watches_with p x (Take t r) rule point)
    by (inl e) = inr (at e.1)
    by (inr e) = inl (sym (get-other x.given t.place j None e.1), refl)

-- the slot with a number after a change: changed, or as it was
pub slot_after : (s : List Slot) (c : Change) (k : ℕ) → meet_of c < length s
    → ((meet_of c ≡ k) × (slot_at (after s c) k ≡ changed (slot_at s k) c))
    ⊎ ((meet_of c ≢ k) × (slot_at (after s c) k ≡ slot_at s k))
slot_after s c k l = by (eqb_tells (meet_of c) k)
  where
    by : ((eqb (meet_of c) k ≡ true) × (meet_of c ≡ k)) ⊎ ((eqb (meet_of c) k ≡ false) × (meet_of c ≢ k))
        → ((meet_of c ≡ k) × (slot_at (after s c) k ≡ changed (slot_at s k) c))
        ⊎ ((meet_of c ≢ k) × (slot_at (after s c) k ≡ slot_at s k))
    by (inl e) = inl (
      e.1,
      ap (slot_at (after s c)) (sym e.1) ∙ get_or-set_same s (meet_of c) (changed (slot_at s (meet_of c)) c) no_slot l
          ∙ ap (λ n. changed (slot_at s n) c) e.1,
    )
    by (inr e) = inr (
      e.1,
      get_or-set_other s (meet_of c) k (changed (slot_at s (meet_of c)) c) no_slot
          (λ q. e.1 (sym q)),
    )

-- slots of two states of an instance have the same events
pub emptied_at : (s t : List Slot) (k : ℕ) → map emptied t ≡ map emptied s
    → emptied (slot_at t k) ≡ emptied (slot_at s k)
emptied_at s t k e = sym (at t k) ∙ ap (λ (xs : List Slot). get_or xs k (emptied no_slot)) e ∙ at s k
  where
    at : (xs : List Slot) (k : ℕ) → get_or (map emptied xs) k (emptied no_slot) ≡ emptied (get_or xs k no_slot)
    at [] k = refl
    at (x ∷ xs) zero = refl
    at (x ∷ xs) (suc k) = at xs k

emptied_either : (s t : List Slot) (k : ℕ) (x : Slot) → k < length s → map emptied t ≡ map emptied s
    → IsEither s t k x → emptied x ≡ emptied (slot_at s k)
emptied_either s t k x l e (inl h) = ap emptied h
emptied_either s t k x l e (inr h) = ap emptied h ∙ emptied_at s t k e

-- the slots of a monitor's constraint, change by change
module _ (p : Parts) (m : Monitor) (q : Constraint) (there : slice_get p.constraints m.constraint ≡ Some q) where
  count_is : (x : Slot) (c : Change) → watch_count p x c m ≡ watches_with p x c q.rule m.point
  count_is x c = ap (λ o. option_map_or (λ (k : Constraint). watches_with p x c k.rule m.point) o 0) there

  -- who names a slot's event watches each change of the slot
  event_path : (s : List Slot) (cs : List Change) (k : ℕ) → AllFit p s cs → Mentions cs k
      → names_event p q.rule m.point (slot_at s k).event.0 ≡ true → 1 ≤ watch_counts p s cs m
  event_path s [] k fit h named = absurd h
  event_path s (c ∷ cs) k fit (inl e) named =
      let n = count_is (slot_at s (meet_of c)) c in
      let one : cond {A = ℕ} (names_event p q.rule m.point (slot_at s (meet_of c)).event.0) 1 0 ≡ 1 =
      ap (λ b. cond {A = ℕ} b 1 0) (ap (λ j. names_event p q.rule m.point (slot_at s j).event.0) e ∙ named) in
      omega (arith, n, one)
  event_path s (c ∷ cs) k fit (inr h) named =
      let r = event_path (after s c) cs k fit.1 h (ap (λ e. names_event p q.rule m.point e)
      (by (slot_after s c k fit.0.there))
      ∙ named) in
      omega (arith, r)
    where
      by : ((meet_of c ≡ k) × (slot_at (after s c) k ≡ changed (slot_at s k) c))
          ⊎ ((meet_of c ≢ k) × (slot_at (after s c) k ≡ slot_at s k))
          → (slot_at (after s c) k).event.0 ≡ (slot_at s k).event.0
      by (inl e) = ap (λ (x : Slot). x.event.0) e.1
      by (inr e) = ap (λ (x : Slot). x.event.0) e.1

  module _ (Like : Slot → Slot → Type 0) (Has : Slot → Type 0) (like_refl : (x : Slot) → Like x x)
      (like_trans : (x y z : Slot) → Like x y → Like y z → Like x z)
      (like_has : (x y : Slot) → Like x y → Has x → Has y) (has_like : (x y : Slot) → Like x y → Has y → Has x)
      (step : (x : Slot) (c : Change) → IsBareIfFree x → Suits x c
      → Like x (changed x c) ⊎ (Has x ⊎ Has (changed x c) → 1 ≤ watches_with p x c q.rule m.point)) where
    joined : (x y z : Slot) (v w : ℕ) → Like x y ⊎ (Has x ⊎ Has y → 1 ≤ v) → Like y z ⊎ (Has y ⊎ Has z → 1 ≤ w)
        → Like x z ⊎ (Has x ⊎ Has z → 1 ≤ v + w)
    joined x y z v w (inl a) (inl b) = inl (like_trans x y z a b)
    joined x y z v w (inl a) (inr g) = inr by
      where
        by : Has x ⊎ Has z → 1 ≤ v + w
        by (inl h) = let n = g (inl (like_has x y a h)) in omega (arith, n)
        by (inr h) = let n = g (inr h) in omega (arith, n)
    joined x y z v w (inr f) (inl b) = inr by
      where
        by : Has x ⊎ Has z → 1 ≤ v + w
        by (inl h) = let n = f (inl h) in omega (arith, n)
        by (inr h) = let n = f (inr (has_like y z b h)) in omega (arith, n)
    joined x y z v w (inr f) (inr g) = inr by
      where
        by : Has x ⊎ Has z → 1 ≤ v + w
        by (inl h) = let n = f (inl h) in omega (arith, n)
        by (inr h) = let n = g (inr h) in omega (arith, n)

    -- one change of any slot
    one_step : (s : List Slot) (c : Change) (k : ℕ) → k < length s → AreTold p s → Fits p s c
        → Like (slot_at s k) (slot_at (after s c) k)
        ⊎ (Has (slot_at s k) ⊎ Has (slot_at (after s c) k) → 1 ≤ watch_count p (slot_at s (meet_of c)) c m)
    one_step s c k l told fit = by (slot_after s c k fit.there)
      where
        stepped : (y : Slot) → meet_of c ≡ k → y ≡ changed (slot_at s k) c
            → Like (slot_at s k) (changed (slot_at s k) c)
            ⊎ (Has (slot_at s k) ⊎ Has (changed (slot_at s k) c) → 1 ≤ watches_with p (slot_at s k) c q.rule m.point)
            → Like (slot_at s k) y
            ⊎ (Has (slot_at s k) ⊎ Has y → 1 ≤ watch_count p (slot_at s (meet_of c)) c m)
        stepped y e n (inl a) = inl (subst (Like (slot_at s k)) (sym n) a)
        stepped y e n (inr f) = inr (λ h. subst (λ v. 1 ≤ v)
            (sym (ap (λ j. watch_count p (slot_at s j) c m) e ∙ count_is (slot_at s k) c))
            (f (subst (λ x. Has (slot_at s k) ⊎ Has x) n h)))

        by : ((meet_of c ≡ k) × (slot_at (after s c) k ≡ changed (slot_at s k) c))
            ⊎ ((meet_of c ≢ k) × (slot_at (after s c) k ≡ slot_at s k))
            → Like (slot_at s k) (slot_at (after s c) k)
            ⊎ (Has (slot_at s k) ⊎ Has (slot_at (after s c) k) → 1 ≤ watch_count p (slot_at s (meet_of c)) c m)
        by (inl e) = stepped (slot_at (after s c) k) e.0 e.1
            (step (slot_at s k) c (All-get_or (IsSlot p) s k no_slot l told.slots).empty
            (subst (λ j. Suits (slot_at s j) c) e.0 fit.suits))
        by (inr e) = inl (subst (Like (slot_at s k)) (sym e.1) (like_refl (slot_at s k)))

    -- a slot stays alike, or who has something of it before or after watches one of the changes
    path : (s : List Slot) (cs : List Change) (k : ℕ) → k < length s → AreTold p s → AllFit p s cs
        → Like (slot_at s k) (slot_at (after_all s cs) k)
        ⊎ (Has (slot_at s k) ⊎ Has (slot_at (after_all s cs) k) → 1 ≤ watch_counts p s cs m)
    path s [] k l told fit = inl (like_refl (slot_at s k))
    path s (c ∷ cs) k l told fit =
        joined (slot_at s k) (slot_at (after s c) k) (slot_at (after_all (after s c) cs) k)
        (watch_count p (slot_at s (meet_of c)) c m) (watch_counts p (after s c) cs m)
        (one_step s c k l told fit.0)
        (path (after s c) cs k (subst (λ n. k < n) (sym (length-set s (meet_of c)
        (changed (slot_at s (meet_of c)) c))) l) fit.0.told fit.1)

  cell_path : (s : List Slot) (cs : List Change) (k j : ℕ) → k < length s → AreTold p s → AllFit p s cs
      → Alike (slot_at s k) (slot_at (after_all s cs) k) j
      ⊎ (HasCell q.rule m.point (slot_at s k) j ⊎ HasCell q.rule m.point (slot_at (after_all s cs) k) j
      → 1 ≤ watch_counts p s cs m)
  cell_path s cs k j = path (λ x y. Alike x y j) (λ x. HasCell q.rule m.point x j) (λ x. (refl, refl))
      (λ x y z a b. (a.0 ∙ b.0, a.1 ∙ b.1)) (λ x y a. cell_alike q.rule m.point x y j a)
      (λ x y a. cell_alike q.rule m.point y x j (sym a.0, sym a.1))
      (λ x c bare suits. cell_step p x c q.rule m.point j bare suits) s cs k

  load_path : (s : List Slot) (cs : List Change) (k j : ℕ) → k < length s → AreTold p s → AllFit p s cs
      → LoadedAlike (slot_at s k) (slot_at (after_all s cs) k) j
      ⊎ (HasLoad q.rule m.point (slot_at s k) j ⊎ HasLoad q.rule m.point (slot_at (after_all s cs) k) j
      → 1 ≤ watch_counts p s cs m)
  load_path s cs k j = path (λ x y. LoadedAlike x y j) (λ x. HasLoad q.rule m.point x j) (λ x. (refl, refl))
      (λ x y z a b. (a.0 ∙ b.0, a.1 ∙ b.1)) (λ x y a. load_alike q.rule m.point x y j a.0)
      (λ x y a. load_alike q.rule m.point y x j (sym a.0))
      (λ x c bare suits. load_step p x c q.rule m.point j bare suits) s cs k

  -- who watches that a slot becomes what the changes make of it, from what it was or is
  watched : (s : List Slot) (cs : List Change) (k : ℕ) (x : Slot) → k < length s → AreTold p s → AllFit p s cs
      → Mentions cs k → IsEither s (after_all s cs) k x → emptied x ≡ emptied (slot_at s k)
      → IsWatched p (record { before = x; after = slot_at (after_all s cs) k }) q.rule m.point
      → 1 ≤ watch_counts p s cs m
  watched s cs k x l told fit there either same (inl named) =
      event_path s cs k fit there (ap (λ (y : Slot). names_event p q.rule m.point y.event.0) (sym same) ∙ named)
  watched s cs k x l told fit there (inl e) same (inr (inl (j, moves, has))) = by (cell_path s cs k j l told fit)
    where
      by : Alike (slot_at s k) (slot_at (after_all s cs) k) j
          ⊎ (HasCell q.rule m.point (slot_at s k) j ⊎ HasCell q.rule m.point (slot_at (after_all s cs) k) j
          → 1 ≤ watch_counts p s cs m) → 1 ≤ watch_counts p s cs m
      by (inl a) = absurd (moves (ap (λ (y : Slot). slice_get y.given j) e ∙ a.0) (ap (λ (y : Slot). y.span) e ∙ a.1))
      by (inr f) = f (subst (λ y. HasCell q.rule m.point y j
          ⊎ HasCell q.rule m.point (slot_at (after_all s cs) k) j) e has)
  watched s cs k x l told fit there (inr e) same (inr (inl (j, moves, has))) =
      absurd (moves (ap (λ (y : Slot). slice_get y.given j) e) (ap (λ (y : Slot). y.span) e))
  watched s cs k x l told fit there (inl e) same (inr (inr (j, moves, has))) = by (load_path s cs k j l told fit)
    where
      by : LoadedAlike (slot_at s k) (slot_at (after_all s cs) k) j
          ⊎ (HasLoad q.rule m.point (slot_at s k) j ⊎ HasLoad q.rule m.point (slot_at (after_all s cs) k) j
          → 1 ≤ watch_counts p s cs m) → 1 ≤ watch_counts p s cs m
      by (inl a) = absurd (moves (ap (λ (y : Slot). slice_get y.given j) e ∙ a.0)
          (ap (λ (y : Slot). duration_of y) e ∙ a.1))
      by (inr f) = f (subst (λ y. HasLoad q.rule m.point y j
          ⊎ HasLoad q.rule m.point (slot_at (after_all s cs) k) j) e has)
  watched s cs k x l told fit there (inr e) same (inr (inr (j, moves, has))) =
      absurd (moves (ap (λ (y : Slot). slice_get y.given j) e) (ap (λ (y : Slot). duration_of y) e))

-- so those that wait since the slots were taken over watch one of the changes
pub watchers_of : (p : Parts) (s t : List Slot) (cs : List Change) (old new : ℕ → Bool) → AreTold p s → AllFit p s cs
    → t ≡ after_all s cs → ((k : ℕ) → Mentions cs k → k < length s) → map emptied t ≡ map emptied s
    → AreWatchersAt p s t cs old new → AreWatchersOf p s cs old new
watchers_of p s t cs old new told fit leads there same h i waits = by (h i waits)
  where
    by : (old i ≡ true) ⊎ ((k : ℕ) × (x : Slot) × Mentions cs k × IsEither s t k x
        × Watches p (record { before = x; after = slot_at t k }) i)
        → (old i ≡ true) ⊎ ((m : Monitor) × (slice_get p.monitors i ≡ Some m) × (1 ≤ watch_counts p s cs m))
    by (inl w) = inl w
    by (inr (k, x, mentioned, either, w)) =
        let l = there k mentioned in
        inr (
          w.0,
          w.2,
          watched p w.0 w.1 w.3 s cs k x l told fit mentioned
              (subst (λ u. IsEither s u k x) leads either)
              (emptied_either s t k x l same either)
              (subst (λ u. IsWatched p (record { before = x; after = slot_at u k }) w.1.rule w.0.point) leads w.4),
        )
