-- What a session keeps, before it is woken and after it rests again.
use Rattle.std.proofs.Common.{ℕ, ◌≡◌, ◌∙◌, Option, None, Some, List, ap, slice_get, subst, sym}
use Rattle.std.specs.Prelude.{◌-◌, ◌^◌}
use Rattle.khe_base.specs.declared.sums.Totals.{Totals}
use Rattle.khe_engine.specs.Resting.{FitsIn, world_of}
use Rattle.khe_engine.specs.Values.{costs, totals}
use Rattle.khe_engine.specs.Worlds.{World}
use Rattle.khe_instance.specs.declared.parts.Parts.{Parts}
use Rattle.khe_told.specs.declared.slots.Slot.{Slot}
use Rattle.script_run.specs.Plays.{play_of}
use Rattle.xhstt_shape.specs.declared.records.Archive.{Archive}
use Rattle.khe_session.specs.States.{IsAtRest, IsLined, IsSpent, SessionState, blank, cost_of, state_in, totals_of}
use Rattle.khe_session.specs.declared.resting.Kept.{Kept}

pub held_fits : {Fam : Type 0} (IsOf : Fam → Parts → Type 0) (told : Fam → List Slot) (p : Parts) (o : Option (Kept Fam))
    (k : Kept Fam) → o ≡ Some k → IsAtRest IsOf told p o → FitsIn IsOf told p k.rest
held_fits IsOf told p o k e h = subst (IsAtRest IsOf told p) e h

pub left_rests : {Fam : Type 0} (IsOf : Fam → Parts → Type 0) (told : Fam → List Slot) (p : Parts) (o : Option (Kept Fam))
    (k : Kept Fam) → o ≡ Some k → FitsIn IsOf told p k.rest → IsAtRest IsOf told p o
left_rests IsOf told p o k e h = subst (IsAtRest IsOf told p) (sym e) h

pub none_rests : {Fam : Type 0} (IsOf : Fam → Parts → Type 0) (told : Fam → List Slot) (p : Parts) (o : Option (Kept Fam))
    → o ≡ None → IsAtRest IsOf told p o
none_rests IsOf told p o e = subst (IsAtRest IsOf told p) (sym e) tt

-- the parts of an engine that was woken are those of the instance
pub woken_parts : {Fam : Type 0} (p : Parts) (k : Kept Fam) (w : World) → w ≡ world_of p k.rest → w.parts ≡ p
woken_parts p k w woken = ap (λ (x : World). x.parts) woken

-- where nothing but the way of keeping it changes, the state stays
abbrev state_with : Archive → ℕ → Parts → World → ℕ → Option SessionState
state_with a number p w lines =
    Some (record { archive = blank a number p; solution = number; parts = p; play = play_of w; lines = lines })

pub same_rest : {Fam : Type 0} (p : Parts) (number lines : ℕ) (o o2 : Option (Kept Fam)) (k k2 : Kept Fam) (w : World)
    → o ≡ Some k → o2 ≡ Some k2 → k2.archive ≡ k.archive → w ≡ world_of p k.rest → world_of w.parts k2.rest ≡ w
    → state_in p number lines o2 ≡ state_in p number lines o
same_rest p number lines o o2 k k2 w e e2 archive woken rests =
    let at : world_of p k2.rest ≡ w = subst (λ q. world_of q k2.rest ≡ w) (woken_parts p k w woken) rests in
    let before : state_with k.archive number p (world_of p k.rest) lines ≡ state_in p number lines o =
    ap (state_in p number lines) (sym e) in
    let after : state_in p number lines o2 ≡ state_with k2.archive number p (world_of p k2.rest) lines =
    ap (state_in p number lines) e2 in
    after ∙ ap (λ a. state_with a number p (world_of p k2.rest) lines) archive
    ∙ ap (λ v. state_with k.archive number p v lines) (at ∙ woken) ∙ before

pub totals_told : {Fam : Type 0} (p : Parts) (number lines : ℕ) (o : Option (Kept Fam)) (k : Kept Fam) (w : World)
    (t : Totals) → o ≡ Some k → w ≡ world_of p k.rest → t ≡ totals w.parts w.state
    → Some t ≡ totals_of (state_in p number lines o)
totals_told p number lines o k w t e woken told =
    let before : Some (totals (world_of p k.rest).parts (world_of p k.rest).state) ≡ totals_of (state_in p number lines o) =
    ap (λ x. totals_of (state_in p number lines x)) (sym e) in
    ap Some told ∙ ap (λ (v : World). Some (totals v.parts v.state)) woken ∙ before

pub cost_told : {Fam : Type 0} (p : Parts) (number lines : ℕ) (o : Option (Kept Fam)) (k : Kept Fam) (w : World)
    (monitor : ℕ) (c : Option ℕ) → o ≡ Some k → w ≡ world_of p k.rest → c ≡ slice_get (costs w.parts w.state) monitor
    → c ≡ cost_of (state_in p number lines o) monitor
cost_told p number lines o k w monitor c e woken told =
    let before : slice_get (costs (world_of p k.rest).parts (world_of p k.rest).state) monitor
    ≡ cost_of (state_in p number lines o) monitor =
    ap (λ x. cost_of (state_in p number lines x) monitor) (sym e) in
    told ∙ ap (λ (v : World). slice_get (costs v.parts v.state) monitor) woken ∙ before

-- where nothing is kept
pub none_same : {Fam : Type 0} (p : Parts) (number lines : ℕ) (o o2 : Option (Kept Fam)) → o ≡ None → o2 ≡ None
    → state_in p number lines o2 ≡ state_in p number lines o
none_same p number lines o o2 e e2 = ap (state_in p number lines) (e2 ∙ sym e)

pub none_starved : {Fam : Type 0} (p : Parts) (number lines : ℕ) (o : Option (Kept Fam)) → o ≡ None
    → state_in p number lines o ≡ None
none_starved p number lines o e = ap (state_in p number lines) e

pub none_totals : {Fam : Type 0} (p : Parts) (number lines : ℕ) (o : Option (Kept Fam)) → o ≡ None
    → None ≡ totals_of (state_in p number lines o)
none_totals p number lines o e = ap (λ x. totals_of (state_in p number lines x)) (sym e)

pub none_cost : {Fam : Type 0} (p : Parts) (number lines monitor : ℕ) (o : Option (Kept Fam)) → o ≡ None
    → None ≡ cost_of (state_in p number lines o) monitor
none_cost p number lines monitor o e = ap (λ x. cost_of (state_in p number lines x) monitor) (sym e)

pub none_spent : {Fam : Type 0} (p : Parts) (number lines : ℕ) (o : Option (Kept Fam)) → o ≡ None
    → IsSpent (state_in p number lines o)
none_spent p number lines o e = subst (λ x. IsSpent (state_in p number lines x)) (sym e) tt

pub full_spent : {Fam : Type 0} (p : Parts) (number lines : ℕ) (o : Option (Kept Fam)) → lines ≡ 2 ^ 64 - 1
    → IsSpent (state_in p number lines o)
full_spent p number lines None e = tt
full_spent p number lines (Some k) e = e

-- a line was carried out, by what was held before and what is left after it
pub lined_in : {Fam : Type 0} (p : Parts) (number lines n : ℕ) (o o2 : Option (Kept Fam)) (k k2 : Kept Fam)
    (line answer : List ℕ) → o ≡ Some k → o2 ≡ Some k2
    → IsLined line (state_in p number lines (Some k)) (state_in p number n (Some k2)) answer
    → IsLined line (state_in p number lines o) (state_in p number n o2) answer
lined_in p number lines n o o2 k k2 line answer e e2 h =
    subst (λ x. IsLined line (state_in p number lines x) (state_in p number n o2) answer) (sym e)
    (subst (λ x. IsLined line (state_in p number lines (Some k)) (state_in p number n x) answer) (sym e2) h)
