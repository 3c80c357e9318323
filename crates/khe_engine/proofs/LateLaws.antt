-- What is put into a list of changes leads where it leads after them.
use Rattle.std.proofs.Common.{ℕ, ◌≡◌, ◌≤◌, inl, inr, List, [], ◌∷◌, ◌++◌, refl, sym, ap, subst, ◌∙◌, arith}
use Rattle.khe_instance.specs.declared.parts.Parts.{Parts}
use Rattle.khe_solution.specs.Timetables.{HasRoom}
use Rattle.khe_told.proofs.SlotLaws.{after_back, after_both, all_fit_both, told_after}
use Rattle.khe_told.proofs.WatcherLaws.{watchers_both}
use Rattle.khe_told.specs.Changes.{after, after_all}
use Rattle.khe_told.specs.Fits.{AllFit, Fits}
use Rattle.khe_told.specs.Watchers.{watcher_counts}
use Rattle.khe_told.specs.declared.changes.Change.{Change}
use Rattle.khe_told.specs.declared.slots.Slot.{Slot}
use Rattle.khe_engine.specs.Late.{IsPut, LeadAlike}

-- the first of some changes that fit, and the others after them
fit_front : (p : Parts) (s : List Slot) (cs ds : List Change) → AllFit p s (cs ++ ds) → AllFit p s cs
fit_front p s [] ds f = tt
fit_front p s (c ∷ cs) ds f = (f.0, fit_front p (after s c) cs ds f.1)

fit_rest : (p : Parts) (s : List Slot) (cs ds : List Change) → AllFit p s (cs ++ ds) → AllFit p (after_all s cs) ds
fit_rest p s [] ds f = f
fit_rest p s (c ∷ cs) ds f = fit_rest p (after s c) cs ds f.1

-- a list that was put to leads where its changes and the new one do
pub put_alike : (cs ds : List Change) (c : Change) → IsPut cs c ds → LeadAlike cs (c ∷ []) ds
put_alike cs ds c (inl e) p s b f = (
  record { told = b.told; fit = subst (AllFit p s) (sym e) (all_fit_both p s cs (c ∷ []) b.fit f) },
  ap (after_all s) e ∙ after_both s cs (c ∷ []),
  let n = ap (watcher_counts p s) e in let w = watchers_both p s cs (c ∷ []) in omega (arith, n, w),
)
put_alike cs ds c (inr (d, e, i)) p s b f =
    let whole = subst (AllFit p s) e b.fit in
    let front = fit_front p s ds (d ∷ []) whole in
    let x = after_all s ds in
    let last : Fits p x d = (fit_rest p s ds (d ∷ []) whole).0 in
    let there : after_all s cs ≡ after x d = ap (after_all s) e ∙ after_both s ds (d ∷ []) in
    let back = after_back p x d (told_after p s ds b.told front) last in (
      record { told = b.told; fit = front },
      sym ((λ j. after (there j) (i j)) ∙ back),
      let n = ap (watcher_counts p s) e in let w = watchers_both p s ds (d ∷ []) in omega (arith, n, w),
    )

-- nothing was put to a list
pub none_alike : (cs : List Change) → LeadAlike cs [] cs
none_alike cs p s b f = (b, refl, omega arith)

-- one change, and then others
pub then_alike : (cs ds more es : List Change) (c : Change) → LeadAlike cs (c ∷ []) ds → LeadAlike ds more es
    → LeadAlike cs (c ∷ more) es
then_alike cs ds more es c first next p s b f =
    let a = first p s b (f.0, tt) in
    let n = next p s a.0 (subst (λ x. AllFit p x more) (sym a.1) f.1) in
    let fewer = a.2 in
    let few = n.2 in
    let there = ap (λ x. watcher_counts p x more) a.1 in
    (n.0, n.1 ∙ ap (λ x. after_all x more) a.1, omega (arith, fewer, few, there))

-- more room is room
pub roomier : (p : Parts) (m n : ℕ) → HasRoom p m → m ≤ n → HasRoom p n
roomier p m n h l = record {
  least = let a = h.least in omega (arith, a, l);
  each = λ e event at. let a = h.each e event at in omega (arith, a, l);
  few = h.few;
}
