-- Slots that are taken over one by one: each state between is told, and the last is the one that was told.
use Rattle.std.proofs.Common.{ℕ, ◌≡◌, ◌≢◌, ◌≤◌, ◌<◌, ◌+◌, ◌⊎◌, ◌∙◌, inl, inr, zero, suc, cond, Bool, true, false, List}
use Rattle.std.proofs.Common.{[]}
use Rattle.std.proofs.Common.{◌∷◌, ◌++◌, length, map, get_or, slice_get, slice_set, take, refl, sym, ap, subst, arith}
use Rattle.std.specs.Prelude.{◌==◌}
use Rattle.std.proofs.Math.Dec.{eqb}
use Rattle.std.proofs.Math.Seq.{map-set_same}
use Rattle.std.proofs.lemmas.Bool.{true≢false}
use Rattle.std.proofs.lemmas.Bool.Decides.{eqb_tells}
use Rattle.std.proofs.lemmas.List.{get_or-set_other, get_or-set_same, length-map, length-set, take_more}
use Rattle.std.proofs.lemmas.List.Elements.{All-get_or, All-set}
use Rattle.std.proofs.lemmas.List.Sums.{sum_by-cons}
use Rattle.khe_instance.specs.declared.parts.Parts.{Parts}
use Rattle.khe_instance.specs.declared.rules.Kind.{Kind}
use Rattle.khe_told.specs.Changes.{after, after_all, changed, meet_of}
use Rattle.khe_told.specs.Fits.{AllFit, AreTold, IsSlot}
use Rattle.khe_told.specs.Naming.{AreSameBut}
use Rattle.khe_told.specs.Slots.{emptied, held, held_by, length_of, no_slot, slot_at}
use Rattle.khe_told.specs.Turns.{AreWatchers, Watches, turn_to}
use Rattle.khe_told.specs.Waits.{AreUnmoved, WaitOn}
use Rattle.khe_told.specs.declared.changes.Change.{Change}
use Rattle.khe_told.specs.declared.naming.Places.{Places}
use Rattle.khe_told.specs.declared.slots.Slot.{Slot}
use Rattle.family_keepers.specs.Takes.{AreWatchersAt, IsEither, IsMix, Mentions}
use Rattle.family_keepers.proofs.WatchLaws.{emptied_at, slot_after}

-- each slot is of one of the changes, or stays as it is
pub elsewhere : (p : Parts) (s : List Slot) (cs : List Change) (k : ℕ) → AllFit p s cs
    → Mentions cs k ⊎ (slot_at (after_all s cs) k ≡ slot_at s k)
elsewhere p s [] k fit = inr refl
elsewhere p s (c ∷ cs) k fit = by (slot_after s c k fit.0.there) (elsewhere p (after s c) cs k fit.1)
  where
    by : ((meet_of c ≡ k) × (slot_at (after s c) k ≡ changed (slot_at s k) c))
        ⊎ ((meet_of c ≢ k) × (slot_at (after s c) k ≡ slot_at s k))
        → Mentions cs k ⊎ (slot_at (after_all (after s c) cs) k ≡ slot_at (after s c) k)
        → Mentions (c ∷ cs) k ⊎ (slot_at (after_all (after s c) cs) k ≡ slot_at s k)
    by (inl e) r = inl (inl e.0)
    by (inr e) (inl m) = inl (inr m)
    by (inr e) (inr q) = inr (q ∙ e.1)

-- the slots of changes that fit are there
pub mentioned_there : (p : Parts) (s : List Slot) (cs : List Change) (k : ℕ) → AllFit p s cs → Mentions cs k
    → k < length s
mentioned_there p s [] k fit h = absurd h
mentioned_there p s (c ∷ cs) k fit (inl e) = subst (λ n. n < length s) e fit.0.there
mentioned_there p s (c ∷ cs) k fit (inr h) =
    let l = mentioned_there p (after s c) cs k fit.1 h in
    let n = length-set s (meet_of c) (changed (slot_at s (meet_of c)) c) in
    omega (arith, l, n)

pub mention_at : (cs : List Change) (i : ℕ) (d : Change) → i < length cs → Mentions cs (meet_of (get_or cs i d))
mention_at [] i d l = absurd (omega (arith, l))
mention_at (c ∷ cs) zero d l = inl refl
mention_at (c ∷ cs) (suc i) d l = inr (mention_at cs i d (omega (arith, l)))

mention_last : (cs : List Change) (c : Change) (k : ℕ) → Mentions (cs ++ c ∷ []) k → Mentions cs k ⊎ (meet_of c ≡ k)
mention_last [] c k (inl e) = inr e
mention_last [] c k (inr h) = absurd h
mention_last (x ∷ cs) c k (inl e) = inl (inl e)
mention_last (x ∷ cs) c k (inr h) = by (mention_last cs c k h)
  where
    by : Mentions cs k ⊎ (meet_of c ≡ k) → Mentions (x ∷ cs) k ⊎ (meet_of c ≡ k)
    by (inl m) = inl (inr m)
    by (inr e) = inr e

pub mention_more : (cs : List Change) (i : ℕ) (d : Change) (k : ℕ) → i < length cs → Mentions (take (i + 1) cs) k
    → Mentions (take i cs) k ⊎ (meet_of (get_or cs i d) ≡ k)
mention_more cs i d k l h = mention_last (take i cs) (get_or cs i d) k
    (subst (λ xs. Mentions xs k) (take_more cs i d l) h)

-- states of the same slots
pub same_slots : (a b : List Slot) → length a ≡ length b → ((k : ℕ) → slot_at a k ≡ slot_at b k) → a ≡ b
same_slots [] [] n h = refl
same_slots [] (y ∷ b) n h = absurd (omega (arith, n))
same_slots (x ∷ a) [] n h = absurd (omega (arith, n))
same_slots (x ∷ a) (y ∷ b) n h = λ i. h 0 i ∷ same_slots a b (omega (arith, n)) (λ k. h (suc k)) i

-- what is no longer slot by slot holds no more
held_less : (e : ℕ) (a b : List Slot) → map emptied a ≡ map emptied b
    → ((k : ℕ) → length_of (slot_at a k) ≤ length_of (slot_at b k)) → held e a ≤ held e b
held_less e [] [] same h = omega arith
held_less e [] (y ∷ b) same h = absurd (let n : 0 ≡ suc (length (map emptied b)) = ap length same in omega (arith, n))
held_less e (x ∷ a) [] same h = absurd (let n : suc (length (map emptied a)) ≡ 0 = ap length same in omega (arith, n))
held_less e (x ∷ a) (y ∷ b) same h =
    let m = sum_by-cons (held_by e) x a in
    let n = sum_by-cons (held_by e) y b in
    let r = held_less e a b (ap (drop_one {A = Slot}) same) (λ k. h (suc k)) in
    let o : held_by e x ≤ held_by e y =
    one (x.event.0 == e) (y.event.0 == e)
    (ap (λ (z : Slot). z.event.0 == e) (ap (λ (zs : List Slot). get_or zs 0 no_slot) same)) (h 0) in
    omega (arith, m, n, r, o)
  where
    drop_one : {A : Type 0} → List A → List A
    drop_one [] = []
    drop_one (z ∷ zs) = zs

    one : (f g : Bool) → f ≡ g → length_of x ≤ length_of y
        → cond {A = ℕ} f (length_of x) 0 ≤ cond {A = ℕ} g (length_of y) 0
    one true true q l = l
    one false false q l = omega arith
    one true false q l = absurd (true≢false q)
    one false true q l = absurd (true≢false (sym q))

-- a slot taken over leaves a told state, where no slot is longer than in one that is told
pub later_told : (p : Parts) (now t r : List Slot) (k : ℕ) → AreTold p now → AreTold p t → AreTold p r → k < length now
    → ((l : ℕ) → length_of (slot_at (slice_set now k (slot_at t k)) l) ≤ length_of (slot_at r l))
    → AreTold p (slice_set now k (slot_at t k))
later_told p now t r k told after_it bound l h =
    let same = emptied_at now t k (after_it.whose ∙ sym told.whose) in
    let whose = map-set_same emptied now k (slot_at t k) no_slot same ∙ told.whose in
    let there : k < length t =
    let a = ap length (after_it.whose ∙ sym told.whose) in let b = length-map t emptied in let c =
    length-map now emptied in
    omega (arith, l, a, b, c) in
    record {
      whose = whose;
      slots = All-set (IsSlot p) now k (slot_at t k) (All-get_or (IsSlot p) t k no_slot there after_it.slots)
          told.slots;
      durations = λ e event g.
          (let a = held_less e (slice_set now k (slot_at t k)) r (whose ∙ sym bound.whose) h in
          let b = bound.durations e event g in
          omega (arith, a, b));
    }

-- the slots of a state with one taken over
taken_at : (now t : List Slot) (k l : ℕ) → k < length now
    → ((l ≡ k) × (slot_at (slice_set now k (slot_at t k)) l ≡ slot_at t l))
    ⊎ ((l ≢ k) × (slot_at (slice_set now k (slot_at t k)) l ≡ slot_at now l))
taken_at now t k l there = by (eqb_tells l k)
  where
    by : ((eqb l k ≡ true) × (l ≡ k)) ⊎ ((eqb l k ≡ false) × (l ≢ k))
        → ((l ≡ k) × (slot_at (slice_set now k (slot_at t k)) l ≡ slot_at t l))
        ⊎ ((l ≢ k) × (slot_at (slice_set now k (slot_at t k)) l ≡ slot_at now l))
    by (inl e) = inl (
      e.1,
      ap (slot_at (slice_set now k (slot_at t k))) e.1 ∙ get_or-set_same now k (slot_at t k) no_slot there
          ∙ ap (slot_at t) (sym e.1),
    )
    by (inr e) = inr (e.1, get_or-set_other now k l (slot_at t k) no_slot e.1)

-- while slots are taken over: what the states between have in common, and who waits
pub record IsTaking (p : Parts) (s t now : List Slot) (cs : List Change) (served : Kind → Bool) (hears : Bool)
    (old waits : ℕ → Bool) : Type 0 where
  pub mix : IsMix p s t now
  pub unmoved : hears ≡ true → AreUnmoved p served waits s now
  pub kept : WaitOn old waits
  pub watchers : AreWatchersAt p s t cs old waits

pub taking_start : (p : Parts) (s t : List Slot) (cs : List Change) (served : Kind → Bool) (hears : Bool)
    (waits : ℕ → Bool) → AreTold p s → IsTaking p s t s cs served hears waits waits
taking_start p s t cs served hears waits told = record {
  mix = record { told = told; each = λ k. inl refl };
  unmoved = λ h i m at kind w. refl;
  kept = λ k w. w;
  watchers = λ i w. inl w;
}

pub taking_more : (p : Parts) (s t now : List Slot) (cs : List Change) (served : Kind → Bool) (hears : Bool)
    (old waits new : ℕ → Bool) (k : ℕ) → IsTaking p s t now cs served hears old waits → Mentions cs k → k < length now
    → AreTold p (slice_set now k (slot_at t k)) → WaitOn waits new
    → (hears ≡ true → AreUnmoved p served new now (slice_set now k (slot_at t k)))
    → AreWatchers p (turn_to now t k) waits new
    → IsTaking p s t (slice_set now k (slot_at t k)) cs served hears old new
taking_more p s t now cs served hears old waits new k h mentioned l told on unmoved watchers = record {
  mix = record { told = told; each = λ j. mixed j (taken_at now t k j l) (h.mix.each j) };
  unmoved = λ heard i m at kind w. unmoved heard i m at kind w
      ∙ h.unmoved heard i m at kind (still (waits i) refl i w);
  kept = λ i w. on i (h.kept i w);
  watchers = λ i w. more i (watchers i w);
}
  where
    mixed : (j : ℕ) → ((j ≡ k) × (slot_at (slice_set now k (slot_at t k)) j ≡ slot_at t j))
        ⊎ ((j ≢ k) × (slot_at (slice_set now k (slot_at t k)) j ≡ slot_at now j))
        → IsEither s t j (slot_at now j) → IsEither s t j (slot_at (slice_set now k (slot_at t k)) j)
    mixed j (inl e) either = inr e.1
    mixed j (inr e) (inl a) = inl (e.1 ∙ a)
    mixed j (inr e) (inr a) = inr (e.1 ∙ a)

    still : (b : Bool) → b ≡ b → (i : ℕ) → new i ≡ false → waits i ≡ false
    still b e i w = go (waits i) refl
      where
        go : (c : Bool) → waits i ≡ c → waits i ≡ false
        go true a = absurd (true≢false (sym (on i a) ∙ w))
        go false a = a

    more : (i : ℕ) → (waits i ≡ true) ⊎ Watches p (turn_to now t k) i → (old i ≡ true)
        ⊎ ((j : ℕ) × (x : Slot) × Mentions cs j × IsEither s t j x
        × Watches p (record { before = x; after = slot_at t j }) i)
    more i (inl w) = h.watchers i w
    more i (inr w) = inr (k, slot_at now k, mentioned, h.mix.each k, w)

-- a place that is not named is given what it is in the second state, whatever slots are taken over
pub same_but : (places : Places) (p : Parts) (s t now : List Slot) → IsMix p s t now
    → ((k : ℕ) → AreSameBut places (slot_at s k).given (slot_at t k).given)
    → (k : ℕ) → AreSameBut places (slot_at now k).given (slot_at t k).given
same_but places p s t now mix h k j n = by (mix.each k)
  where
    by : IsEither s t k (slot_at now k) → slice_get (slot_at now k).given j ≡ slice_get (slot_at t k).given j
    by (inl e) = ap (λ (x : Slot). slice_get x.given j) e ∙ h k j n
    by (inr e) = ap (λ (x : Slot). slice_get x.given j) e

-- where no slot is longer than in the second state, it stays so
pub taken_short : (now t : List Slot) (k : ℕ) → k < length now
    → ((l : ℕ) → length_of (slot_at now l) ≤ length_of (slot_at t l))
    → (l : ℕ) → length_of (slot_at (slice_set now k (slot_at t k)) l) ≤ length_of (slot_at t l)
taken_short now t k there h l = by (taken_at now t k l there)
  where
    by : ((l ≡ k) × (slot_at (slice_set now k (slot_at t k)) l ≡ slot_at t l))
        ⊎ ((l ≢ k) × (slot_at (slice_set now k (slot_at t k)) l ≡ slot_at now l))
        → length_of (slot_at (slice_set now k (slot_at t k)) l) ≤ length_of (slot_at t l)
    by (inl e) = let n = ap length_of e.1 in omega (arith, n)
    by (inr e) = let n = ap length_of e.1 in let m = h l in omega (arith, n, m)

pub later_taken : (p : Parts) (now t : List Slot) (k : ℕ) → AreTold p now → AreTold p t → k < length now
    → ((l : ℕ) → length_of (slot_at now l) ≤ length_of (slot_at t l))
    → AreTold p (slice_set now k (slot_at t k))
later_taken p now t k told after_it l h = later_told p now t t k told after_it after_it l (taken_short now t k l h)

-- where a slot gets shorter, none is longer than in the first state
pub less_short : (now t s : List Slot) (k : ℕ) → k < length now → length_of (slot_at t k) ≤ length_of (slot_at now k)
    → ((l : ℕ) → length_of (slot_at now l) ≤ length_of (slot_at s l))
    → (l : ℕ) → length_of (slot_at (slice_set now k (slot_at t k)) l) ≤ length_of (slot_at s l)
less_short now t s k there less h l = by (taken_at now t k l there)
  where
    by : ((l ≡ k) × (slot_at (slice_set now k (slot_at t k)) l ≡ slot_at t l))
        ⊎ ((l ≢ k) × (slot_at (slice_set now k (slot_at t k)) l ≡ slot_at now l))
        → length_of (slot_at (slice_set now k (slot_at t k)) l) ≤ length_of (slot_at s l)
    by (inl e) =
        let n = ap length_of e.1 in
        let q = ap (λ j. length_of (slot_at t j)) e.0 in
        let r = ap (λ j. length_of (slot_at now j)) e.0 in
        let m = h l in
        omega (arith, n, q, r, m, less)
    by (inr e) = let n = ap length_of e.1 in let m = h l in omega (arith, n, m)

-- the slots of the changes up to one are taken over with that one's
pub taken_done : (cs : List Change) (i : ℕ) (d : Change) (now t : List Slot) (k : ℕ) → i < length cs
    → meet_of (get_or cs i d) ≡ k → k < length now
    → ((l : ℕ) → Mentions (take i cs) l → slot_at now l ≡ slot_at t l)
    → (l : ℕ) → Mentions (take (i + 1) cs) l → slot_at (slice_set now k (slot_at t k)) l ≡ slot_at t l
taken_done cs i d now t k l e there h j m = by (taken_at now t k j there) (mention_more cs i d j l m)
  where
    by : ((j ≡ k) × (slot_at (slice_set now k (slot_at t k)) j ≡ slot_at t j))
        ⊎ ((j ≢ k) × (slot_at (slice_set now k (slot_at t k)) j ≡ slot_at now j))
        → Mentions (take i cs) j ⊎ (meet_of (get_or cs i d) ≡ j)
        → slot_at (slice_set now k (slot_at t k)) j ≡ slot_at t j
    by (inl a) b = a.1
    by (inr a) (inl b) = a.1 ∙ h j b
    by (inr a) (inr b) = absurd (a.0 (sym b ∙ e))

-- and are no longer than they are to be
pub less_done : (cs : List Change) (i : ℕ) (d : Change) (now new t : List Slot) → i < length cs
    → ((l : ℕ) → Mentions (take i cs) l → length_of (slot_at now l) ≤ length_of (slot_at t l))
    → ((l : ℕ) → (length_of (slot_at now l) ≤ length_of (slot_at t l))
    → length_of (slot_at new l) ≤ length_of (slot_at t l))
    → length_of (slot_at new (meet_of (get_or cs i d))) ≤ length_of (slot_at t (meet_of (get_or cs i d)))
    → (l : ℕ) → Mentions (take (i + 1) cs) l → length_of (slot_at new l) ≤ length_of (slot_at t l)
less_done cs i d now new t l h stays this j m = by (mention_more cs i d j l m)
  where
    by : Mentions (take i cs) j ⊎ (meet_of (get_or cs i d) ≡ j) → length_of (slot_at new j) ≤ length_of (slot_at t j)
    by (inl b) = stays j (h j b)
    by (inr b) = subst (λ n. length_of (slot_at new n) ≤ length_of (slot_at t n)) b this

-- a slot that is no longer than it is to be stays so where another is taken over
pub less_stays : (now t : List Slot) (k : ℕ) → k < length now → (l : ℕ)
    → length_of (slot_at now l) ≤ length_of (slot_at t l)
    → length_of (slot_at (slice_set now k (slot_at t k)) l) ≤ length_of (slot_at t l)
less_stays now t k there l h = by (taken_at now t k l there)
  where
    by : ((l ≡ k) × (slot_at (slice_set now k (slot_at t k)) l ≡ slot_at t l))
        ⊎ ((l ≢ k) × (slot_at (slice_set now k (slot_at t k)) l ≡ slot_at now l))
        → length_of (slot_at (slice_set now k (slot_at t k)) l) ≤ length_of (slot_at t l)
    by (inl e) = let n = ap length_of e.1 in omega (arith, n)
    by (inr e) = let n = ap length_of e.1 in omega (arith, n, h)

-- and the one that is taken over is as long as it is to be
pub taken_least : (now t : List Slot) (k : ℕ) → k < length now
    → length_of (slot_at (slice_set now k (slot_at t k)) k) ≤ length_of (slot_at t k)
taken_least now t k there =
    let n = ap length_of (get_or-set_same now k (slot_at t k) no_slot there) in
    omega (arith, n)

pub same_length : (a b : List Slot) → map emptied a ≡ map emptied b → length a ≡ length b
same_length a b same = sym (length-map a emptied) ∙ ap length same ∙ length-map b emptied

-- where the slots that get shorter were taken over, none is longer than it is to be
pub all_short : (p : Parts) (s t mid : List Slot) (cs : List Change) → AllFit p s cs → t ≡ after_all s cs
    → IsMix p s t mid
    → ((k : ℕ) → Mentions cs k → length_of (slot_at mid k) ≤ length_of (slot_at t k))
    → (k : ℕ) → length_of (slot_at mid k) ≤ length_of (slot_at t k)
all_short p s t mid cs fit leads mix h k = by (elsewhere p s cs k fit) (mix.each k)
  where
    by : Mentions cs k ⊎ (slot_at (after_all s cs) k ≡ slot_at s k) → IsEither s t k (slot_at mid k)
        → length_of (slot_at mid k) ≤ length_of (slot_at t k)
    by (inl m) either = h k m
    by (inr e) (inr q) = let n = ap length_of q in omega (arith, n)
    by (inr e) (inl q) =
        let n = ap length_of (q ∙ sym e ∙ ap (λ u. slot_at u k) (sym leads)) in
        omega (arith, n)

-- where the slots of all changes were taken over, the state is the one that was told
pub taken_over : (p : Parts) (s t mid last : List Slot) (cs : List Change) → AllFit p s cs → t ≡ after_all s cs
    → AreTold p t → IsMix p s t mid → IsMix p mid t last
    → ((k : ℕ) → Mentions cs k → slot_at last k ≡ slot_at t k) → last ≡ t
taken_over p s t mid last cs fit leads told first second h =
    same_slots last t (same_length last t (second.told.whose ∙ sym told.whose))
    (λ k. by k (elsewhere p s cs k fit) (second.each k) (first.each k))
  where
    by : (k : ℕ) → Mentions cs k ⊎ (slot_at (after_all s cs) k ≡ slot_at s k) → IsEither mid t k (slot_at last k)
        → IsEither s t k (slot_at mid k) → slot_at last k ≡ slot_at t k
    by k (inl m) a b = h k m
    by k (inr e) (inr a) b = a
    by k (inr e) (inl a) (inr b) = a ∙ b
    by k (inr e) (inl a) (inl b) = a ∙ b ∙ sym e ∙ ap (λ u. slot_at u k) (sym leads)

-- who waits since both were taken over
pub watchers_joined : (p : Parts) (s t mid : List Slot) (cs : List Change) (old between new : ℕ → Bool)
    → IsMix p s t mid → AreWatchersAt p s t cs old between → AreWatchersAt p mid t cs between new
    → AreWatchersAt p s t cs old new
watchers_joined p s t mid cs old between new mix a b i w = by (b i w)
  where
    either : (k : ℕ) (x : Slot) → IsEither mid t k x → IsEither s t k (slot_at mid k) → IsEither s t k x
    either k x (inr e) m = inr e
    either k x (inl e) (inl m) = inl (e ∙ m)
    either k x (inl e) (inr m) = inr (e ∙ m)

    by : (between i ≡ true) ⊎ ((k : ℕ) × (x : Slot) × Mentions cs k × IsEither mid t k x
        × Watches p (record { before = x; after = slot_at t k }) i)
        → (old i ≡ true) ⊎ ((k : ℕ) × (x : Slot) × Mentions cs k × IsEither s t k x
        × Watches p (record { before = x; after = slot_at t k }) i)
    by (inl v) = a i v
    by (inr (k, x, m, e, v)) = inr (k, x, m, either k x e (mix.each k), v)

-- who waits since the slot of one change was taken over
pub watchers_one : (p : Parts) (s t : List Slot) (cs : List Change) (k : ℕ) (old new : ℕ → Bool) → Mentions cs k
    → AreWatchers p (turn_to s t k) old new → AreWatchersAt p s t cs old new
watchers_one p s t cs k old new mentioned h i w = by (h i w)
  where
    by : (old i ≡ true) ⊎ Watches p (turn_to s t k) i → (old i ≡ true)
        ⊎ ((j : ℕ) × (x : Slot) × Mentions cs j × IsEither s t j x
        × Watches p (record { before = x; after = slot_at t j }) i)
    by (inl v) = inl v
    by (inr v) = inr (k, slot_at s k, mentioned, inl refl, v)
