-- Tasks that are given what a choice gives them, one after the other.
use Rattle.std.proofs.Common.{ℕ, ◌≡◌, ◌+◌, ◌<◌, ◌≤◌, Option, Some, None, List, length, drop, drop-cons, add-one}
use Rattle.std.proofs.Common.{get_or, refl, sym, ap, subst, ◌∙◌, arith}
use Rattle.std.proofs.lemmas.List.{drop_all}
use Rattle.khe_base.specs.declared.numbers.ResourceId.{ResourceId}
use Rattle.khe_base.specs.declared.numbers.TaskId.{TaskId}
use Rattle.khe_engine.specs.States.{State, edited}
use Rattle.khe_engine.specs.Worlds.{World}
use Rattle.khe_solution.specs.Refusing.{refusal}
use Rattle.khe_told.specs.declared.edits.Edit.TheVariants.{Give}
use Rattle.time_match.specs.Costs.{chosen, given, no_resource}
use Rattle.time_match.specs.Marks.{IsInside}
use Rattle.time_match.specs.Open.{AreReady}
use Rattle.time_match.proofs.OpenLaws.{chosen_next, may_give_each, ready_next}

-- n of the tasks have what the choice gives them
pub record AreGiven (w v : World) (rs : List ResourceId) (ts : List TaskId) (cs : List (Option ℕ)) (k : ℕ) : Type
    0 where
  pub parts : v.parts ≡ w.parts
  pub ready : AreReady v.parts rs v.state.slots (drop k ts)
  pub state : chosen v.state rs (drop k ts) (drop k cs) ≡ chosen w.state rs ts cs
  pub inside : (x : World) → IsInside x w → IsInside x v
  pub spare : w.spare ≤ v.spare + k

pub give_begun : (w : World) (rs : List ResourceId) (ts : List TaskId) (cs : List (Option ℕ))
    → AreReady w.parts rs w.state.slots ts → AreGiven w w rs ts cs 0
give_begun w rs ts cs ready = record {
  parts = refl;
  ready = ready;
  state = refl;
  inside = λ x h. h;
  spare = omega arith;
}

pub give_next : (w v u : World) (rs : List ResourceId) (ts : List TaskId) (cs : List (Option ℕ)) (k : ℕ) (t : TaskId)
    → AreGiven w v rs ts cs k → k < length ts → length cs ≡ length ts → u.parts ≡ v.parts
    → u.state ≡ given v.state rs (get_or ts k t) (get_or cs k None)
    → ((x : World) → IsInside x v → IsInside x u) → v.spare ≤ u.spare + 1 → AreGiven w u rs ts cs (k + 1)
give_next w v u rs ts cs k t h l long up us inside spare =
    let c = get_or cs k None in
    let own = get_or ts k t in
    let ready = subst (AreReady v.parts rs v.state.slots) (drop-cons ts k t l) h.ready in
    let then : AreReady v.parts rs (given v.state rs own c).slots (drop (k + 1) ts) =
    subst (λ n. AreReady v.parts rs (given v.state rs own c).slots (drop n ts)) (sym (add-one k))
    (ready_next v.parts rs v.state own _ c ready) in
    let a = h.spare in
    record {
      parts = up ∙ h.parts;
      ready =
          subst (λ q. AreReady q rs u.state.slots (drop (k + 1) ts)) (sym up)
          (subst (λ (z : State). AreReady v.parts rs z.slots (drop (k + 1) ts)) (sym us) then);
      state = ap (λ z. chosen z rs (drop (k + 1) ts) (drop (k + 1) cs)) us
          ∙ sym (chosen_next v.state rs ts cs k t l long) ∙ h.state;
      inside = λ x g. inside x (h.inside x g);
      spare = omega (arith, a, spare);
    }

pub give_passed : (w v : World) (rs : List ResourceId) (ts : List TaskId) (cs : List (Option ℕ)) (k : ℕ) (t : TaskId)
    → AreGiven w v rs ts cs k → k < length ts → length cs ≡ length ts → get_or cs k None ≡ None
    → AreGiven w v rs ts cs (k + 1)
give_passed w v rs ts cs k t h l long none =
    give_next w v v rs ts cs k t h l long refl (sym (ap (given v.state rs (get_or ts k t)) none)) (λ x g. g)
    (omega arith)

pub give_made : (w v u : World) (rs : List ResourceId) (ts : List TaskId) (cs : List (Option ℕ)) (k : ℕ) (t d : TaskId)
    (r : ResourceId) (place : ℕ)
    → AreGiven w v rs ts cs k → k < length ts → length cs ≡ length ts → get_or cs k None ≡ Some place
    → get_or ts k d ≡ t → get_or rs place no_resource ≡ r → u.parts ≡ v.parts → u.state ≡ edited v.state (Give t r)
    → ((x : World) → IsInside x v → IsInside x u) → v.spare ≤ u.spare + 1 → AreGiven w u rs ts cs (k + 1)
give_made w v u rs ts cs k t d r place h l long is at named up us inside spare =
    give_next w v u rs ts cs k d h l long up
    (us ∙ (λ i. edited v.state (Give (sym at i) (sym named i)))
    ∙ sym (ap (given v.state rs (get_or ts k d)) is))
    inside spare

pub give_accepted : (w v : World) (rs : List ResourceId) (ts : List TaskId) (cs : List (Option ℕ)) (k : ℕ)
    (t d : TaskId)
    (r : ResourceId) (place : ℕ)
    → AreGiven w v rs ts cs k → k < length ts → place < length rs → get_or ts k d ≡ t
    → get_or rs place no_resource ≡ r → refusal v.parts v.state.slots (Give t r) ≡ None
give_accepted w v rs ts cs k t d r place h l b at named =
    let ready = subst (AreReady v.parts rs v.state.slots) (drop-cons ts k d l) h.ready in
    let each = may_give_each v.parts rs v.state.slots _ ready 0 d (omega arith) place no_resource b in
    (λ i. refusal v.parts v.state.slots (Give (sym at i) (sym named i))) ∙ each

pub give_done : (w v : World) (rs : List ResourceId) (ts : List TaskId) (cs : List (Option ℕ)) (n : ℕ)
    → AreGiven w v rs ts cs n → n ≡ length ts → v.state ≡ chosen w.state rs ts cs
unfolding chosen
give_done w v rs ts cs n h e =
    ap (λ xs. chosen v.state rs xs (drop n cs)) (sym (drop_all n ts (omega (arith, e)))) ∙ h.state
