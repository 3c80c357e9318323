-- Stuck monitors are left out of a walk.
use Rattle.std.proofs.Common.{ℕ, zero, suc, ◌≡◌, ◌+◌, ◌-◌, ◌<◌, ◌≤◌, Bool, true, false, cond, Option, Some}
use Rattle.std.proofs.Common.{List, [], ◌∷◌, ◌++◌, length, take, refl, ap, sym, subst, ◌∙◌, arith, inl, inr, length-append}
use Rattle.std.specs.List.{flat_map}
use Rattle.std.specs.Option.{option_map_or}
use Rattle.std.proofs.lemmas.Bool.{cases_lt}
use Rattle.std.proofs.lemmas.Grind.{flat_map-append}
use Rattle.khe_base.specs.declared.numbers.MonitorId.{MonitorId}
use Rattle.khe_instance.specs.Costs.{is_defect}
use Rattle.khe_instance.specs.declared.parts.Parts.{Parts}
use Rattle.khe_engine.specs.Worlds.{World}
use Rattle.khe_told.specs.declared.slots.Slot.{Slot}
use Rattle.monitor_graph.specs.Dearer.{dearer, only}
use Rattle.repair_moves.specs.Moves.{moves}
use Rattle.repair_moves.specs.Picked.{picked}
use Rattle.repair_moves.specs.Stuck.{IsStuck}
use Rattle.repair_moves.proofs.PickedLaws.{picked_none, picked_step}
use Rattle.ejection_repair.specs.Chains.{Chain, extensions, rotated, tried}
use Rattle.ejection_repair.specs.Kept.{IsBack}
use Rattle.ejection_repair.specs.Looks.{chain_at}
use Rattle.ejection_repair.specs.Rounds.{defects_ahead}
use Rattle.ejection_repair.specs.Stuck.{AreStuckFrom, IsNextFree, LeavesOutStuck}
use Rattle.ejection_repair.specs.Values.{costs_at, defects_from}
use Rattle.ejection_repair.specs.declared.rounds.DefectRound.{DefectRound}
use Rattle.ejection_repair.specs.declared.trails.Trail.{Trail}
use Rattle.ejection_repair.proofs.RoundLaws.{rotated_nothing}

-- past numbers of which nothing comes
picked_past : (f : ℕ → List Chain) (test : ℕ → Bool) (gap from to : ℕ)
    → ((n : ℕ) → from ≤ n → n < from + gap → f n ≡ [])
    → flat_map f (picked test from to) ≡ flat_map f (picked test (from + gap) to)
picked_past f test zero from to h = ap (λ k. flat_map f (picked test k to)) (let e : from ≡ from + 0 = omega arith in e)
picked_past f test (suc gap) from to h = elim (cases_lt from to) [
  | inl l ↦
      by (test from) (picked_step test from to (test from) l refl) (h from (omega arith) (omega arith))
      ∙ picked_past f test gap (from + 1) to (λ n a b. h n (omega (arith, a)) (omega (arith, b)))
      ∙ ap (λ k. flat_map f (picked test k to)) (let e : from + 1 + gap ≡ from + suc gap = omega arith in e)
  | inr g ↦
      ap (flat_map f) (picked_none test from to g ∙ sym (picked_none test (from + suc gap) to (omega (arith, g))))
]
  where
    by : (b : Bool) → picked test from to ≡ cond b (from ∷ picked test (from + 1) to) (picked test (from + 1) to)
        → f from ≡ [] → flat_map f (picked test from to) ≡ flat_map f (picked test (from + 1) to)
    by true e none = ap (flat_map f) e ∙ ap (λ cs. cs ++ flat_map f (picked test (from + 1) to)) none
    by false e none = ap (flat_map f) e

picked_fewer : (test : ℕ → Bool) (gap from to : ℕ)
    → length (picked test (from + gap) to) ≤ length (picked test from to)
picked_fewer test zero from to =
    let e = ap (λ k. length (picked test k to)) (let e : from + 0 ≡ from = omega arith in e) in omega (arith, e)
picked_fewer test (suc gap) from to = elim (cases_lt from to) [
  | inl l ↦
      (let more = picked_fewer test gap (from + 1) to in
      let e = ap (λ k. length (picked test k to)) (let e : from + 1 + gap ≡ from + suc gap = omega arith in e) in
      let one = by (test from) (picked_step test from to (test from) l refl) in omega (arith, more, e, one))
  | inr g ↦
      (let e = ap length (picked_none test (from + suc gap) to (omega (arith, g))) in omega (arith, e))
]
  where
    by : (b : Bool) → picked test from to ≡ cond b (from ∷ picked test (from + 1) to) (picked test (from + 1) to)
        → length (picked test (from + 1) to) ≤ length (picked test from to)
    by true e = let n = ap length e in omega (arith, n)
    by false e = let n = ap length e in omega (arith, n)

-- the defects ahead, past numbers of which nothing comes
flat_front : (f : ℕ → List Chain) (xs ys zs : List ℕ) → flat_map f xs ≡ flat_map f ys
    → flat_map f (xs ++ zs) ≡ flat_map f (ys ++ zs)
flat_front f xs ys zs e =
    flat_map-append f xs zs ∙ ap (λ cs. cs ++ flat_map f zs) e ∙ sym (flat_map-append f ys zs)

on_from : (from end : ℕ) → from < end → from + (end - from) ≡ end
on_from from end l = omega (arith, l)

pub ahead_past : (p : Parts) (costs : List ℕ) (f : ℕ → List Chain) (r q : DefectRound) (end : ℕ) → r.wrapped ≡ false
    → q ≡ record r { from = end } → r.from < end → LeavesOutStuck p f → AreStuckFrom p r.from end
    → flat_map f (defects_ahead costs r) ≡ flat_map f (defects_ahead costs q)
unfolding defects_ahead defects_from
ahead_past p costs f r q end whole is l leaves stuck =
    let test = is_defect costs in
    let to = length costs in
    let e = on_from r.from end l in
    let begun = take r.before (picked test 0 to) in
    let first = picked_past f test (end - r.from) r.from to
    (λ n a b. leaves n (stuck n a (let h : n < end = omega (arith, b, e) in h)))
    ∙ ap (λ k. flat_map f (picked test k to)) e in
    ap (λ b. flat_map f (cond b (take r.before (picked test r.from to)) (picked test r.from to ++ begun))) whole
    ∙ flat_front f (picked test r.from to) (picked test end to) begun first
    ∙ ap (λ b. flat_map f (cond b (take r.before (picked test end to)) (picked test end to ++ begun))) (sym whole)
    ∙ ap (λ x. flat_map f (defects_ahead costs x)) (sym is)

pub ahead_fewer : (costs : List ℕ) (r q : DefectRound) (end : ℕ) → r.wrapped ≡ false
    → q ≡ record r { from = end } → r.from < end
    → length (defects_ahead costs q) ≤ length (defects_ahead costs r)
unfolding defects_ahead defects_from
ahead_fewer costs r q end whole is l =
    let test = is_defect costs in
    let to = length costs in
    let begun = take r.before (picked test 0 to) in
    let fewer = picked_fewer test (end - r.from) r.from to in
    let e = ap (λ k. length (picked test k to)) (on_from r.from end l) in
    let new = ap (λ x. length (defects_ahead costs x)) is
    ∙ ap (λ b. length (cond b (take r.before (picked test end to)) (picked test end to ++ begun))) whole
    ∙ length-append (picked test end to) begun in
    let old = ap (λ b. length (cond b (take r.before (picked test r.from to)) (picked test r.from to ++ begun))) whole
    ∙ length-append (picked test r.from to) begun in
    omega (arith, fewer, e, new, old)

-- the next monitor that is not stuck
pub free_one : (f : ℕ → List Chain) (before mid after : List ℕ) (m : MonitorId)
    → flat_map f before ≡ flat_map f mid → mid ≡ m.0 ∷ after → IsNextFree f (Some m) before after
free_one f before mid after m e h = e ∙ ap (flat_map f) h

pub free_none : (f : ℕ → List Chain) (before mid : List ℕ) → flat_map f before ≡ flat_map f mid → mid ≡ []
    → flat_map f before ≡ []
free_none f before mid e h = e ∙ ap (flat_map f) h

-- a stuck one is gone past
pub free_past : (p : Parts) (f : ℕ → List Chain) (before mid next after : List ℕ) (m : ℕ) → LeavesOutStuck p f
    → IsStuck p m → flat_map f before ≡ flat_map f mid → mid ≡ m ∷ next → flat_map f next ≡ flat_map f after
    → flat_map f before ≡ flat_map f after
free_past p f before mid next after m leaves stuck e h g =
    e ∙ ap (flat_map f) h ∙ ap (λ cs. cs ++ flat_map f next) (leaves m stuck) ∙ g

-- a list without moves has no extensions
no_extensions : (p : Parts) (marked : List ℕ) (v k : ℕ) (c : Chain) (n : ℕ) → moves p c.state.slots n ≡ []
    → extensions p marked v k c n ≡ []
unfolding extensions tried
no_extensions p marked v zero c n h = refl
no_extensions p marked v (suc k) c n h =
    ap (tried (λ d. option_map_or (extensions p marked v k d) (only (dearer marked (costs_at p d.state))) []) c)
    (ap (rotated v) h ∙ rotated_nothing v [] refl)

pub leaves_out : (w u : World) (t : Trail) (v k : ℕ) → IsBack w u
    → LeavesOutStuck u.parts (extensions w.parts w.marked v k (chain_at t w))
leaves_out w u t v k back n stuck =
    let Q : Parts → Type 0 = λ q. (s : List Slot) → moves q s n ≡ [] in
    no_extensions w.parts w.marked v k (chain_at t w) n (subst Q back.parts stuck w.state.slots)

-- in the world where the walk began
pub free_back : (w u : World) (f : ℕ → List Chain) (o : Option MonitorId) (r q : DefectRound) → IsBack w u
    → IsNextFree f o (defects_ahead (costs_at u.parts u.state) r) (defects_ahead (costs_at u.parts u.state) q)
    → IsNextFree f o (defects_ahead (costs_at w.parts w.state) r) (defects_ahead (costs_at w.parts w.state) q)
free_back w u f o r q back h =
    let e : costs_at u.parts u.state ≡ costs_at w.parts w.state =
    ap (λ q. costs_at q u.state) back.parts ∙ ap (λ s. costs_at w.parts s) back.state in
    let P : List ℕ → Type 0 = λ cs. IsNextFree f o (defects_ahead cs r) (defects_ahead cs q) in subst P e h
