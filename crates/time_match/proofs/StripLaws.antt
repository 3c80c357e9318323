-- Tasks that are stripped one after the other.
use Rattle.std.proofs.Common.{ℕ, Bool, Option, None, ◌≡◌, ◌+◌, ◌<◌, ◌≤◌, true, false, cond, List, length, drop, get_or}
use Rattle.std.proofs.Common.{refl, sym}
use Rattle.std.proofs.Common.{ap, subst, ◌∙◌, arith}
use Rattle.std.specs.Prelude.{All, is_some}
use Rattle.std.proofs.lemmas.List.{drop_all}
use Rattle.khe_base.specs.declared.numbers.ResourceId.{ResourceId}
use Rattle.khe_base.specs.declared.numbers.TaskId.{TaskId}
use Rattle.khe_engine.specs.States.{State, edited}
use Rattle.khe_engine.specs.Worlds.{World}
use Rattle.khe_solution.specs.Reading.{resource_at}
use Rattle.khe_solution.specs.Refusing.{refusal}
use Rattle.khe_told.specs.declared.edits.Edit.TheVariants.{Take}
use Rattle.khe_told.specs.declared.slots.Slot.{Slot}
use Rattle.time_match.specs.Costs.{bare, stripped}
use Rattle.time_match.specs.Marks.{IsInside}
use Rattle.time_match.specs.Open.{IsOpenFor}
use Rattle.time_match.proofs.OpenLaws.{bare_next, may_take, stripped_all}

-- n of the tasks are stripped
pub record IsStripped (w v : World) (ts : List TaskId) (k : ℕ) : Type 0 where
  pub parts : v.parts ≡ w.parts
  pub free : (rs : List ResourceId) × All (IsOpenFor v.parts rs v.state.slots) ts
  pub state : bare v.state (drop k ts) ≡ bare w.state ts
  pub inside : (x : World) → IsInside x w → IsInside x v
  pub spare : w.spare ≤ v.spare + k

pub strip_begun : (w : World) (ts : List TaskId) → (rs : List ResourceId) × All (IsOpenFor w.parts rs w.state.slots) ts
    → IsStripped w w ts 0
strip_begun w ts free = record {
  parts = refl;
  free = free;
  state = refl;
  inside = λ x h. h;
  spare = omega arith;
}

pub strip_next : (w v u : World) (ts : List TaskId) (k : ℕ) (t d : TaskId) → IsStripped w v ts k → k < length ts
    → get_or ts k d ≡ t → u.parts ≡ v.parts → u.state ≡ stripped v.state t
    → ((x : World) → IsInside x v → IsInside x u) → v.spare ≤ u.spare + 1 → IsStripped w u ts (k + 1)
strip_next w v u ts k t d h l e up us inside spare =
    let rs = h.free.0 in
    let all = h.free.1 in
    let own : IsOpenFor v.parts rs v.state.slots t = subst (IsOpenFor v.parts rs v.state.slots) e (all k d l) in
    let then = stripped_all v.parts rs v.state t ts own all in
    let a = h.spare in
    record {
      parts = up ∙ h.parts;
      free = (
        rs,
        subst (λ q. All (IsOpenFor q rs u.state.slots) ts) (sym up)
            (subst (λ (z : State). All (IsOpenFor v.parts rs z.slots) ts) (sym us) then),
      );
      state = ap (λ z. bare z (drop (k + 1) ts)) us ∙ sym (bare_next v.state ts k t d l e) ∙ h.state;
      inside = λ x g. inside x (h.inside x g);
      spare = omega (arith, a, spare);
    }

-- a task that has a resource, and one that has none
pub takes : (s : State) (t : TaskId) → is_some (resource_at s.slots t) ≡ true → edited s (Take t) ≡ stripped s t
takes s t h = sym (ap (λ b. cond b (edited s (Take t)) s) h)

pub leaves : (s : State) (t : TaskId) → is_some (resource_at s.slots t) ≡ false → s ≡ stripped s t
leaves s t h = sym (ap (λ b. cond b (edited s (Take t)) s) h)

pub strip_passed : (w v : World) (ts : List TaskId) (k : ℕ) (t d : TaskId) → IsStripped w v ts k → k < length ts
    → get_or ts k d ≡ t → is_some (resource_at v.state.slots t) ≡ false → IsStripped w v ts (k + 1)
strip_passed w v ts k t d h l e none = strip_next w v v ts k t d h l e refl (leaves v.state t none) (λ x g. g)
    (omega arith)

pub strip_open : (w v : World) (ts : List TaskId) (k : ℕ) (t d : TaskId) → IsStripped w v ts k → k < length ts
    → get_or ts k d ≡ t → (rs : List ResourceId) × IsOpenFor v.parts rs v.state.slots t
strip_open w v ts k t d h l e = (h.free.0, subst (IsOpenFor v.parts h.free.0 v.state.slots) e (h.free.1 k d l))

pub strip_accepted : (w v : World) (ts : List TaskId) (k : ℕ) (t d : TaskId) → IsStripped w v ts k → k < length ts
    → get_or ts k d ≡ t → is_some (resource_at v.state.slots t) ≡ true
    → refusal v.parts v.state.slots (Take t) ≡ None
strip_accepted w v ts k t d h l e some =
    let o = strip_open w v ts k t d h l e in may_take v.parts o.0 v.state.slots t o.1 some

pub strip_done : (w v : World) (ts : List TaskId) (n : ℕ) → IsStripped w v ts n → n ≡ length ts
    → v.state ≡ bare w.state ts
unfolding bare
strip_done w v ts n h e = ap (bare v.state) (sym (drop_all n ts (omega (arith, e)))) ∙ h.state

-- whether a task has a resource, by what was read of the timetable
pub has_any : (r s : List Slot) (t : TaskId) (o : Option ResourceId) (found b : Bool) → r ≡ s → o ≡ resource_at r t
    → found ≡ is_some o → found ≡ b → is_some (resource_at s t) ≡ b
has_any r s t o found b same read is e =
    ap (λ (xs : List Slot). is_some (resource_at xs t)) (sym same) ∙ ap is_some (sym read) ∙ sym is ∙ e
