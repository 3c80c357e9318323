-- A timetable that is bare inside the only mark, and what is made or asked there.
use Rattle.std.proofs.Common.{ℕ, ◌≡◌, ◌<◌, Bool, Option, Some, List, length, sym, ap, subst, ◌∙◌, arith}
use Rattle.std.specs.Prelude.{All, AllPairs}
use Rattle.khe_base.specs.Totals.{is_lower}
use Rattle.khe_base.specs.declared.numbers.ResourceId.{ResourceId}
use Rattle.khe_base.specs.declared.numbers.TaskId.{TaskId}
use Rattle.khe_base.specs.declared.sums.Totals.{Totals}
use Rattle.khe_engine.specs.States.{State}
use Rattle.khe_engine.specs.Values.{totals}
use Rattle.khe_engine.specs.Worlds.{World}
use Rattle.khe_instance.specs.declared.parts.Parts.{Parts}
use Rattle.resource_match.specs.Choices.{IsCertified, choice_at}
use Rattle.resource_match.specs.declared.choices.Cheapest.{Cheapest}
use Rattle.time_match.specs.Costs.{bare, chosen, costs_in}
use Rattle.time_match.specs.Marks.{IsInside}
use Rattle.time_match.specs.Open.{AreApart, AreReady, IsOpenFor}
use Rattle.time_match.proofs.OpenLaws.{bare_ready}

pub record IsBare (w v : World) (ts : List TaskId) : Type 0 where
  pub parts : v.parts ≡ w.parts
  pub state : v.state ≡ bare w.state ts
  pub inside : IsInside w v

pub bared : (w b v : World) (ts : List TaskId) → IsInside w b → b.state ≡ w.state → v.parts ≡ b.parts
    → v.state ≡ bare b.state ts → ((x : World) → IsInside x b → IsInside x v) → IsBare w v ts
bared w b v ts h bs vp vs inside = record {
  parts = vp ∙ h.parts;
  state = vs ∙ ap (λ z. bare z ts) bs;
  inside = inside w h;
}

pub ready_in : (w v : World) (rs : List ResourceId) (ts : List TaskId) → IsBare w v ts
    → All (IsOpenFor w.parts rs w.state.slots) ts → AllPairs AreApart ts → AreReady v.parts rs v.state.slots ts
ready_in w v rs ts h free apart =
    subst (λ q. AreReady q rs v.state.slots ts) (sym h.parts)
    (subst (λ (z : State). AreReady w.parts rs z.slots ts) (sym h.state) (bare_ready w.parts rs w.state ts free apart))

pub mark_open : (w v : World) → IsInside w v → 0 < length v.saved
mark_open w v h = let e = ap length h.saved in omega (arith, e)

-- the totals with the whole choice, compared with those before it
pub lower_in : (w v u : World) (rs : List ResourceId) (ts : List TaskId) (cs : List (Option ℕ)) (t before : Totals)
    (r b : Bool) → IsBare w v ts → u.parts ≡ v.parts → u.state ≡ chosen v.state rs ts cs → t ≡ totals u.parts u.state
    → before ≡ totals w.parts w.state → r ≡ is_lower t before → r ≡ b
    → b ≡ is_lower (totals w.parts (chosen (bare w.state ts) rs ts cs)) (totals w.parts w.state)
lower_in w v u rs ts cs t before r b h up us ts_are before_is is e =
    let parts = up ∙ h.parts in
    let state = us ∙ ap (λ z. chosen z rs ts cs) h.state in
    sym e ∙ is ∙ (λ i. is_lower (ts_are i) (before_is i))
    ∙ (λ i. is_lower (totals (parts i) (state i)) (totals w.parts w.state))

-- a choice that is certified is one
pub choice_each : (p : Parts) (b : State) (ts : List TaskId) (rs : List ResourceId) (x : Cheapest)
    (cs : List (Option ℕ)) → IsCertified (costs_in p b ts rs) x → cs ≡ x.chosen → length cs ≡ length ts
unfolding costs_in
choice_each p b ts rs x cs h e = ap length e ∙ h.choice.each

pub choice_range : (p : Parts) (b : State) (ts : List TaskId) (rs : List ResourceId) (x : Cheapest)
    (cs : List (Option ℕ)) → IsCertified (costs_in p b ts rs) x → cs ≡ x.chosen
    → (k r : ℕ) → choice_at cs k ≡ Some r → r < length rs
unfolding costs_in
choice_range p b ts rs x cs h e k r at = h.choice.in_range k r (ap (λ xs. choice_at xs k) (sym e) ∙ at)

-- what is true of a world is true of one with the same instance and state
pub same_lower : (w v : World) (rs : List ResourceId) (ts : List TaskId) (cs ds : List (Option ℕ)) (r : Bool)
    → v.parts ≡ w.parts → v.state ≡ w.state → cs ≡ ds
    → r ≡ is_lower (totals v.parts (chosen (bare v.state ts) rs ts cs)) (totals v.parts v.state)
    → r ≡ is_lower (totals w.parts (chosen (bare w.state ts) rs ts ds)) (totals w.parts w.state)
same_lower w v rs ts cs ds r p s c h =
    h ∙ (λ i. is_lower (totals (p i) (chosen (bare (s i) ts) rs ts (c i))) (totals (p i) (s i)))
