-- A change and its inverse have as many watchers.
use Rattle.std.proofs.Common.{◌≡◌, ◌+◌, List, [], ◌∷◌, ◌++◌, get_or-set_same, refl, sym, ap, ◌∙◌, arith, zero-add}
use Rattle.std.specs.List.{sum_by}
use Rattle.khe_instance.specs.declared.parts.Parts.{Parts}
use Rattle.khe_told.proofs.SlotLaws.{after_inverses, meet_inverse}
use Rattle.khe_told.specs.Watchers.{watch_count, watcher_count, watcher_counts}
use Rattle.khe_told.specs.Slots.{no_slot, slot_at}
use Rattle.khe_told.specs.Fits.{AreTold, Fits, Suits, AllFit}
use Rattle.khe_told.specs.Changes.{changed, after, after_all, inverse, inverses, meet_of}
use Rattle.khe_told.specs.declared.slots.Slot.{Slot}
use Rattle.khe_told.specs.declared.changes.Change.{Change}
use Rattle.khe_told.specs.declared.changes.Change.TheVariants.{Add, Drop, Place, Lift, Give, Take}

watch_back : (p : Parts) (x : Slot) (c : Change) → Suits x c
    → watch_count p (changed x c) (inverse c) ≡ watch_count p x c
watch_back p x (Add m d) h = refl
watch_back p x (Drop m d) h = refl
watch_back p x (Place m t) h = rw h.1 refl
watch_back p x (Lift m t) h = rw h.1 refl
watch_back p x (Give t r) h = refl
watch_back p x (Take t r) h = refl

pub watchers_back : (p : Parts) (s : List Slot) (c : Change) → Fits p s c
    → watcher_count p (after s c) (inverse c) ≡ watcher_count p s c
unfolding watcher_count
watchers_back p s c f =
    ap (λ n. sum_by (watch_count p (slot_at (after s c) n) (inverse c)) p.monitors) (meet_inverse c)
    ∙ ap (λ y. sum_by (watch_count p y (inverse c)) p.monitors)
    (get_or-set_same s (meet_of c) (changed (slot_at s (meet_of c)) c) no_slot f.there)
    ∙ ap (λ w. sum_by w p.monitors) (watch_back p (slot_at s (meet_of c)) c f.suits)

pub watchers_both : (p : Parts) (s : List Slot) (cs ds : List Change)
    → watcher_counts p s (cs ++ ds) ≡ watcher_counts p s cs + watcher_counts p (after_all s cs) ds
watchers_both p s [] ds = sym (zero-add _)
watchers_both p s (c ∷ cs) ds = let h = watchers_both p (after s c) cs ds in omega (arith, h)

pub watchers_inverses : (p : Parts) (s : List Slot) (cs : List Change) → AreTold p s → AllFit p s cs
    → watcher_counts p (after_all s cs) (inverses cs) ≡ watcher_counts p s cs
watchers_inverses p s [] t f = refl
watchers_inverses p s (c ∷ cs) t f =
    let a = watchers_both p (after_all (after s c) cs) (inverses cs) (inverse c ∷ []) in
    let b = watchers_inverses p (after s c) cs f.0.told f.1 in
    let d : watcher_count p (after_all (after_all (after s c) cs) (inverses cs)) (inverse c) ≡ watcher_count p s c =
    ap (λ x. watcher_count p x (inverse c)) (after_inverses p (after s c) cs f.0.told f.1) ∙ watchers_back p s c f.0 in
    omega (arith, a, b, d)
