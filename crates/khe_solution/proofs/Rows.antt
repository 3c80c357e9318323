-- Taking and giving all that the places of one meet have.
use Rattle.std.proofs.Common.{ℕ, ◌≡◌, ◌+◌, zero, suc, ◌<◌, Option, Some, None, List, [], ◌∷◌, ◌++◌, length, set}
use Rattle.std.proofs.Common.{slice_get, refl, sym, ap, subst, ◌∙◌, arith, get_or-set_same, set-set, append_assoc}
use Rattle.std.proofs.Common.{length-append}
use Rattle.std.specs.Prelude.{replicate}
use Rattle.std.proofs.lemmas.List.{length-set}
use Rattle.khe_base.specs.declared.numbers.MeetId.{MeetId}
use Rattle.khe_base.specs.declared.numbers.ResourceId.{ResourceId}
use Rattle.khe_instance.specs.declared.parts.Parts.{Parts}
use Rattle.khe_told.proofs.SlotLaws.{told_kept}
use Rattle.khe_told.specs.Slots.{no_slot, slot_at, emptied, held_by}
use Rattle.khe_told.specs.Changes.{after, after_all}
use Rattle.khe_told.specs.Fits.{AreTold, IsSlot, Suits, AllFit}
use Rattle.khe_told.specs.declared.slots.Slot.{Slot}
use Rattle.khe_told.specs.declared.slots.Span.{Span}
use Rattle.khe_told.specs.declared.changes.Change.TheVariants as change
use Rattle.khe_solution.specs.Changing.{takes_from, gives_from}
use Rattle.khe_solution.proofs.Basics.{IsThere}

-- what is given in the one is given in the other
abbrev pub Below : List (Option ResourceId) → List (Option ResourceId) → Type 0
Below as_ bs = (j : ℕ) (r : ResourceId) → slice_get as_ j ≡ Some (Some r) → slice_get bs j ≡ Some (Some r)

-- a slot with these resources
abbrev pub having : Slot → List (Option ResourceId) → Slot
having x given = record x { given = given }

pub below_slot : (p : Parts) (x : Slot) (y : Span) (g h : List (Option ResourceId)) → x.span ≡ Some y
    → IsSlot p (having x h) → Below g h → IsSlot p (having x g)
below_slot p x y g h s i b = record {
  duration = i.duration;
  ends = i.ends;
  given = λ e k place r a c d. i.given e k place r a c (b k r d);
  empty = λ n. absurd (subst IsThere (sym s ∙ n) tt);
}

set-seam : {A : Type 0} (front rest : List A) (a b : A) (k : ℕ) → k ≡ length front
    → set (front ++ a ∷ rest) k b ≡ front ++ b ∷ rest
set-seam [] rest a b k e = ap (λ n. set (a ∷ rest) n b) e
set-seam (f ∷ front) rest a b k e = ap (λ n. set (f ∷ (front ++ a ∷ rest)) n b) e
    ∙ ap (λ xs. f ∷ xs) (set-seam front rest a b (length front) refl)

at-seam : {A : Type 0} (front rest : List A) (a : A) (k : ℕ) → k ≡ length front
    → slice_get (front ++ a ∷ rest) k ≡ Some a
at-seam [] rest a k e = ap (slice_get (a ∷ rest)) e
at-seam (f ∷ front) rest a k e = ap (slice_get (f ∷ (front ++ a ∷ rest))) e ∙ at-seam front rest a (length front) refl

one_more : {A : Type 0} (front rest : List A) (a : A) → (front ++ a ∷ []) ++ rest ≡ front ++ a ∷ rest
one_more front rest a = append_assoc front (a ∷ []) rest

length-more : {A : Type 0} (front : List A) (a : A) (k : ℕ) → k ≡ length front → k + 1 ≡ length (front ++ a ∷ [])
length-more front a k e = let h = length-append front (a ∷ []) in omega (arith, h, e)

none_below : (front rest : List (Option ResourceId)) (r : ResourceId)
    → Below (front ++ None ∷ rest) (front ++ Some r ∷ rest)
none_below [] rest r zero u h = absurd (subst (λ o. IsThere (flat o)) (sym h) tt)
  where
    flat : Option (Option ResourceId) → Option ResourceId
    flat None = None
    flat (Some o) = o
none_below [] rest r (suc j) u h = h
none_below (f ∷ front) rest r zero u h = h
none_below (f ∷ front) rest r (suc j) u h = none_below front rest r j u h

-- one change of the resources of a slot
turn_fits : (p : Parts) (s : List Slot) (m : ℕ) (x : Slot) (y : Span) (g h : List (Option ResourceId)) → m < length s
    → AreTold p (set s m (having x g)) → x.span ≡ Some y
    → length g ≡ length h → IsSlot p (having x h) → AreTold p (set s m (having x h))
turn_fits p s m x y g h l t e n i =
    let there : slot_at (set s m (having x g)) m ≡ having x g = get_or-set_same s m (having x g) no_slot l in
    let l2 : m < length (set s m (having x g)) = let k = length-set s m (having x g) in omega (arith, k, l) in
    subst (AreTold p) (set-set s m (having x g) (having x h))
    (told_kept p (set s m (having x g)) m (having x h) t l2
    ((λ j. record x { span = None; given = replicate (sym n j) None }) ∙ sym (ap emptied there)) i
    (λ e2. sym (ap (held_by e2) there)))

pub takes_fit : (p : Parts) (s : List Slot) (m : MeetId) (x : Slot) (y : Span) (front rest : List (Option ResourceId))
    (k : ℕ) → k ≡ length front → m.0 < length s → x.span ≡ Some y
    → AreTold p (set s m.0 (having x (front ++ rest))) → IsSlot p (having x (front ++ rest))
    → AllFit p (set s m.0 (having x (front ++ rest))) (takes_from m k rest)
    × (after_all (set s m.0 (having x (front ++ rest))) (takes_from m k rest)
    ≡ set s m.0 (having x (front ++ replicate (length rest) None)))
takes_fit p s m x y front [] k e l h t i = (tt, refl)
takes_fit p s m x y front (None ∷ rest) k e l h t i =
    let same = one_more front rest None in
    let f = takes_fit p s m x y (front ++ None ∷ []) rest (k + 1) (length-more front None k e) l h
    (subst (λ g. AreTold p (set s m.0 (having x g))) (sym same) t) (subst (λ g. IsSlot p (having x g)) (sym same) i) in (
      subst (λ g. AllFit p (set s m.0 (having x g)) (takes_from m (k + 1) rest)) same f.0,
      ap (λ g. after_all (set s m.0 (having x g)) (takes_from m (k + 1) rest)) (sym same) ∙ f.1
          ∙ ap (λ g. set s m.0 (having x g)) (one_more front (replicate (length rest) None) None),
    )
takes_fit p s m x y front (Some r ∷ rest) k e l h t i =
    let big = having x (front ++ Some r ∷ rest) in
    let now = set s m.0 big in
    let c = change.Take (record { meet = m; place = k }) r in
    let there : slot_at now m.0 ≡ big = get_or-set_same s m.0 big no_slot l in
    let one : after now c ≡ set s m.0 (having x (front ++ None ∷ rest)) =
    ap (λ z. set now m.0 (having z (set z.given k None))) there
    ∙ set-set s m.0 big (having x (set (front ++ Some r ∷ rest) k None))
    ∙ ap (λ g. set s m.0 (having x g)) (set-seam front rest (Some r) None k e) in
    let less = below_slot p x y (front ++ None ∷ rest) (front ++ Some r ∷ rest) h i (none_below front rest r) in
    let n : length (front ++ Some r ∷ rest) ≡ length (front ++ None ∷ rest) =
    length-append front (Some r ∷ rest) ∙ sym (length-append front (None ∷ rest)) in
    let told = turn_fits p s m.0 x y (front ++ Some r ∷ rest) (front ++ None ∷ rest) l t h n less in
    let same = one_more front rest None in
    let f = takes_fit p s m x y (front ++ None ∷ []) rest (k + 1) (length-more front None k e) l h
    (subst (λ g. AreTold p (set s m.0 (having x g))) (sym same) told)
    (subst (λ g. IsSlot p (having x g)) (sym same) less) in (
      (
        record {
          there = let j = length-set s m.0 big in omega (arith, j, l);
          suits = subst (λ z. Suits z c) (sym there) (y, h, at-seam front rest (Some r) k e);
          told = subst (AreTold p) (sym one) told;
        },
        subst (λ z. AllFit p z (takes_from m (k + 1) rest)) (ap (λ g. set s m.0 (having x g)) same ∙ sym one) f.0,
      ),
      ap (λ z. after_all z (takes_from m (k + 1) rest)) (one ∙ ap (λ g. set s m.0 (having x g)) (sym same)) ∙ f.1
          ∙ ap (λ g. set s m.0 (having x g)) (one_more front (replicate (length rest) None) None),
    )

-- nothing is given in a row of nothing
abbrev flat : Option (Option ResourceId) → Option ResourceId
flat None = None
flat (Some o) = o

pub nothing_given : (n i : ℕ) (u : ResourceId) → slice_get {X = Option ResourceId} (replicate n None) i ≡ Some (Some u)
    → ⊥
nothing_given zero i u k = subst IsThere (sym k) tt
nothing_given (suc n) zero u k = subst (λ o. IsThere (flat o)) (sym k) tt
nothing_given (suc n) (suc i) u k = nothing_given n i u k

seam_below : (front rest : List (Option ResourceId)) (r : ResourceId)
    → Below (front ++ Some r ∷ replicate (length rest) None) (front ++ Some r ∷ rest)
seam_below [] rest r zero u h = h
seam_below [] rest r (suc j) u h = absurd (nothing_given (length rest) j u h)
seam_below (f ∷ front) rest r zero u h = h
seam_below (f ∷ front) rest r (suc j) u h = seam_below front rest r j u h

pub gives_fit : (p : Parts) (s : List Slot) (m : MeetId) (x : Slot) (y : Span) (front rest : List (Option ResourceId))
    (k : ℕ) → k ≡ length front → m.0 < length s → x.span ≡ Some y
    → AreTold p (set s m.0 (having x (front ++ replicate (length rest) None))) → IsSlot p (having x (front ++ rest))
    → AllFit p (set s m.0 (having x (front ++ replicate (length rest) None))) (gives_from m k rest)
    × (after_all (set s m.0 (having x (front ++ replicate (length rest) None))) (gives_from m k rest)
    ≡ set s m.0 (having x (front ++ rest)))
gives_fit p s m x y front [] k e l h t i = (tt, refl)
gives_fit p s m x y front (None ∷ rest) k e l h t i =
    let same = one_more front (replicate (length rest) None) None in
    let last = one_more front rest None in
    let f = gives_fit p s m x y (front ++ None ∷ []) rest (k + 1) (length-more front None k e) l h
    (subst (λ g. AreTold p (set s m.0 (having x g))) (sym same) t) (subst (λ g. IsSlot p (having x g)) (sym last) i) in (
      subst (λ g. AllFit p (set s m.0 (having x g)) (gives_from m (k + 1) rest)) same f.0,
      ap (λ g. after_all (set s m.0 (having x g)) (gives_from m (k + 1) rest)) (sym same) ∙ f.1
          ∙ ap (λ g. set s m.0 (having x g)) last,
    )
gives_fit p s m x y front (Some r ∷ rest) k e l h t i =
    let none = replicate (length rest) None in
    let big = having x (front ++ None ∷ none) in
    let now = set s m.0 big in
    let c = change.Give (record { meet = m; place = k }) r in
    let there : slot_at now m.0 ≡ big = get_or-set_same s m.0 big no_slot l in
    let one : after now c ≡ set s m.0 (having x (front ++ Some r ∷ none)) =
    ap (λ z. set now m.0 (having z (set z.given k (Some r)))) there
    ∙ set-set s m.0 big (having x (set (front ++ None ∷ none) k (Some r)))
    ∙ ap (λ g. set s m.0 (having x g)) (set-seam front none None (Some r) k e) in
    let more = below_slot p x y (front ++ Some r ∷ none) (front ++ Some r ∷ rest) h i (seam_below front rest r) in
    let n : length (front ++ None ∷ none) ≡ length (front ++ Some r ∷ none) =
    length-append front (None ∷ none) ∙ sym (length-append front (Some r ∷ none)) in
    let told = turn_fits p s m.0 x y (front ++ None ∷ none) (front ++ Some r ∷ none) l t h n more in
    let same = one_more front none (Some r) in
    let last = one_more front rest (Some r) in
    let f = gives_fit p s m x y (front ++ Some r ∷ []) rest (k + 1) (length-more front (Some r) k e) l h
    (subst (λ g. AreTold p (set s m.0 (having x g))) (sym same) told)
    (subst (λ g. IsSlot p (having x g)) (sym last) i) in (
      (
        record {
          there = let j = length-set s m.0 big in omega (arith, j, l);
          suits = subst (λ z. Suits z c) (sym there) (y, h, at-seam front none None k e);
          told = subst (AreTold p) (sym one) told;
        },
        subst (λ z. AllFit p z (gives_from m (k + 1) rest)) (ap (λ g. set s m.0 (having x g)) same ∙ sym one) f.0,
      ),
      ap (λ z. after_all z (gives_from m (k + 1) rest)) (one ∙ ap (λ g. set s m.0 (having x g)) (sym same)) ∙ f.1
          ∙ ap (λ g. set s m.0 (having x g)) last,
    )
