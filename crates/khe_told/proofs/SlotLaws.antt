-- Laws of slots and changes, for every told state.
use Rattle.std.proofs.Common.{ℕ, ◌≡◌, ◌+◌, ◌<◌, ◌≤◌, Some, None, List, [], ◌∷◌, ◌++◌, length, set, slice_get, refl, sym}
use Rattle.std.proofs.Common.{ap, subst, ◌∙◌, arith, get_or-set_same, set-set}
use Rattle.std.proofs.Math.Seq.{map-set_same}
use Rattle.std.proofs.lemmas.List.{set-get_or, length-set}
use Rattle.std.proofs.lemmas.List.Elements.{All-set, All-get_or}
use Rattle.std.proofs.lemmas.List.Sums.{sum_by-set}
use Rattle.std.proofs.lemmas.Option.{slice_get_within, slice_get-get_or, get_or_from_slice_get}
use Rattle.khe_instance.specs.declared.parts.EventInfo.{EventInfo}
use Rattle.khe_instance.specs.declared.parts.Parts.{Parts}
use Rattle.khe_told.specs.Slots.{no_slot, slot_at, emptied, held, held_by}
use Rattle.khe_told.specs.Fits.{AreTold, IsSlot, Fits, Suits, AllFit}
use Rattle.khe_told.specs.Changes.{changed, after, after_all, inverse, inverses, meet_of}
use Rattle.khe_told.specs.declared.slots.Slot.{Slot}
use Rattle.khe_told.specs.declared.changes.Change.{Change}
use Rattle.khe_told.specs.declared.changes.Change.TheVariants.{Add, Drop, Place, Lift, Give, Take}

-- one slot in place of another of the same event
pub told_set : (p : Parts) (s : List Slot) (m : ℕ) (y : Slot) → AreTold p s → m < length s
    → emptied y ≡ emptied (slot_at s m) → IsSlot p y
    → ((e : ℕ) (event : EventInfo) → slice_get p.events e ≡ Some event
    → held e s + held_by e y ≤ event.duration + held_by e (slot_at s m)) → AreTold p (set s m y)
told_set p s m y t l k i h = record {
  whose = map-set_same emptied s m y no_slot k ∙ t.whose;
  slots = All-set (IsSlot p) s m y i t.slots;
  durations = λ e event g. let a = sum_by-set (held_by e) s m y no_slot l in let b = h e event g in omega (arith, a, b);
}

-- the same where it holds as much of its event
pub told_kept : (p : Parts) (s : List Slot) (m : ℕ) (y : Slot) → AreTold p s → m < length s
    → emptied y ≡ emptied (slot_at s m) → IsSlot p y
    → ((e : ℕ) → held_by e y ≡ held_by e (slot_at s m)) → AreTold p (set s m y)
told_kept p s m y t l k i h = told_set p s m y t l k i
    (λ e event g. let a = t.durations e event g in let b = h e in omega (arith, a, b))

-- a change and then its inverse leave the slot
pub slot_back : (p : Parts) (x : Slot) (c : Change) → IsSlot p x → Suits x c → changed (changed x c) (inverse c) ≡ x
slot_back p x (Add m d) i h = λ j. record x { span = sym h j }
slot_back p x (Drop m d) i h = λ j. record x { span = sym h.0 j }
slot_back p x (Place m t) i h = rw h.1 refl
slot_back p x (Lift m t) i h = rw h.1 refl
slot_back p x (Give t r) i h = λ j. record x {
  given =
      (set-set x.given t.place (Some r) None ∙ ap (set x.given t.place)
      (sym (get_or_from_slice_get x.given t.place None None h.2)) ∙ set-get_or x.given t.place None) j;
}
slot_back p x (Take t r) i h = λ j. record x {
  given =
      (set-set x.given t.place None (Some r) ∙ ap (set x.given t.place)
      (sym (get_or_from_slice_get x.given t.place (Some r) None h.2)) ∙ set-get_or x.given t.place None) j;
}

pub set-there : {A : Type 0} (xs : List A) (i : ℕ) (a b : A) → slice_get xs i ≡ Some b
    → slice_get (set xs i a) i ≡ Some a
set-there xs i a b h =
    let l = slice_get_within xs i b h in
    let m : i < length (set xs i a) = omega (arith, length-set xs i a) in
    slice_get-get_or (set xs i a) i a m ∙ ap Some (get_or-set_same xs i a a l)

pub suits_back : (p : Parts) (x : Slot) (c : Change) → IsSlot p x → Suits x c → Suits (changed x c) (inverse c)
suits_back p x (Add m d) i h = (refl, i.empty h)
suits_back p x (Drop m d) i h = refl
suits_back p x (Place m t) i h = (h.0, rw h.1 refl)
suits_back p x (Lift m t) i h = (h.0, rw h.1 refl)
suits_back p x (Give t r) i h = (h.0, h.1, set-there x.given t.place (Some r) None h.2)
suits_back p x (Take t r) i h = (h.0, h.1, set-there x.given t.place None (Some r) h.2)

pub meet_inverse : (c : Change) → meet_of (inverse c) ≡ meet_of c
meet_inverse (Add m d) = refl
meet_inverse (Drop m d) = refl
meet_inverse (Place m t) = refl
meet_inverse (Lift m t) = refl
meet_inverse (Give t r) = refl
meet_inverse (Take t r) = refl

pub after_back : (p : Parts) (s : List Slot) (c : Change) → AreTold p s → Fits p s c → after (after s c) (inverse c) ≡ s
after_back p s c t f =
    let x = slot_at s (meet_of c) in
    ap (λ n. set (after s c) n (changed (slot_at (after s c) n) (inverse c))) (meet_inverse c)
    ∙ ap (λ y. set (after s c) (meet_of c) (changed y (inverse c)))
    (get_or-set_same s (meet_of c) (changed x c) no_slot f.there)
    ∙ set-set s (meet_of c) (changed x c) (changed (changed x c) (inverse c))
    ∙ ap (set s (meet_of c)) (slot_back p x c (All-get_or (IsSlot p) s (meet_of c) no_slot f.there t.slots) f.suits)
    ∙ set-get_or s (meet_of c) no_slot

pub fits_back : (p : Parts) (s : List Slot) (c : Change) → AreTold p s → Fits p s c → Fits p (after s c) (inverse c)
fits_back p s c t f =
    let m = meet_of c in
    let x = slot_at s m in
    let same : slot_at (after s c) m ≡ changed x c = get_or-set_same s m (changed x c) no_slot f.there in
    let y = suits_back p x c (All-get_or (IsSlot p) s m no_slot f.there t.slots) f.suits in
    record {
      there = let e = meet_inverse c in let k = length-set s m (changed x c) in let l = f.there in
          omega (arith, e, k, l);
      suits = subst (λ n. Suits (slot_at (after s c) n) (inverse c)) (sym (meet_inverse c))
          (subst (λ z. Suits z (inverse c)) (sym same) y);
      told = subst (AreTold p) (sym (after_back p s c t f)) t;
    }

-- lists of changes
pub after_both : (s : List Slot) (more bs : List Change) → after_all s (more ++ bs) ≡ after_all (after_all s more) bs
after_both s [] bs = refl
after_both s (c ∷ cs) bs = after_both (after s c) cs bs

pub all_fit_both : (p : Parts) (s : List Slot) (more bs : List Change) → AllFit p s more
    → AllFit p (after_all s more) bs → AllFit p s (more ++ bs)
all_fit_both p s [] bs f g = g
all_fit_both p s (c ∷ cs) bs f g = (f.0, all_fit_both p (after s c) cs bs f.1 g)

-- changes and then their inverses in reverse order leave the told state
pub after_inverses : (p : Parts) (s : List Slot) (cs : List Change) → AreTold p s → AllFit p s cs
    → after_all (after_all s cs) (inverses cs) ≡ s
after_inverses p s [] t f = refl
after_inverses p s (c ∷ cs) t f =
    after_both (after_all (after s c) cs) (inverses cs) (inverse c ∷ [])
    ∙ ap (λ x. after x (inverse c)) (after_inverses p (after s c) cs f.0.told f.1)
    ∙ after_back p s c t f.0

pub all_fit_inverses : (p : Parts) (s : List Slot) (cs : List Change) → AreTold p s → AllFit p s cs
    → AllFit p (after_all s cs) (inverses cs)
all_fit_inverses p s [] t f = tt
all_fit_inverses p s (c ∷ cs) t f =
    all_fit_both p (after_all (after s c) cs) (inverses cs) (inverse c ∷ [])
    (all_fit_inverses p (after s c) cs f.0.told f.1)
    (subst (λ x. AllFit p x (inverse c ∷ [])) (sym (after_inverses p (after s c) cs f.0.told f.1))
    (fits_back p s c t f.0, tt))

-- changes lead to a told state
pub told_after : (p : Parts) (s : List Slot) (cs : List Change) → AreTold p s → AllFit p s cs → AreTold p (after_all s cs)
told_after p s [] told fit = told
told_after p s (c ∷ cs) told fit = told_after p (after s c) cs fit.0.told fit.1
