-- Monitors while they are let wait.
use Rattle.std.proofs.Common.{ℕ, ◌≡◌, ◌<◌, ◌≤◌, ◌+◌, ◌-◌, ◌∙◌, ◌||◌, ◌&&◌, suc, Bool, true, false, Some}
use Rattle.std.proofs.Common.{List, length, slice_get, refl, sym, ap, subst, arith, zero-add, ◌⊎◌, inl, inr}
use Rattle.std.specs.Prelude.{nat_eq}
use Rattle.std.specs.List.{range_with_len, list_any}
use Rattle.std.proofs.lemmas.Bool.{and_parts, eq-eqb, eqb-true, true≢false}
use Rattle.std.proofs.lemmas.Option.{same_Some, slice_get_within}
use Rattle.khe_base.specs.declared.numbers.ResourceId.{ResourceId}
use Rattle.khe_instance.specs.Watching.{is_at}
use Rattle.khe_instance.specs.declared.parts.Parts.{Parts}
use Rattle.khe_instance.specs.declared.points.Monitor.{Monitor}
use Rattle.khe_instance.specs.declared.points.Point.TheVariants.{Resource}
use Rattle.khe_instance.specs.declared.rules.Kind.{Kind}
use Rattle.khe_told.specs.Waits.{WaitOn}
use Rattle.resource_monitors.specs.Posts.{AreAdded, AreSame, IsDueIn, post, is_served_at, posts_of}
use Rattle.resource_monitors.specs.declared.posts.Post.{Post}
use Rattle.resource_monitors.proofs.PostLaws.{posts_all}

-- one more time that isn't listed
pub run_step : (f : ℕ → Bool) (t end : ℕ) → t < end → f t ≡ false
    → list_any f (range_with_len (t + 1) (end - (t + 1))) ≡ list_any f (range_with_len t (end - t))
run_step f t end l h =
    let a : end - t ≡ suc (end - (t + 1)) = omega (arith, l) in
    sym (ap (λ n. list_any f (range_with_len t n)) a
    ∙ ap (λ b. b || list_any f (range_with_len (t + 1) (end - (t + 1)))) h)

-- the posts of a list from a place on that pass a test wait, those that waited wait on, and no other comes
pub record AreAddedFrom (test : Monitor → Bool) (list : List Post) (k : ℕ) (old new : ℕ → Bool) : Type 0 where
  pub each : (j : ℕ) (a : Post) → k ≤ j → slice_get list j ≡ Some a → test a.monitor ≡ true → new a.number.0 ≡ true
  pub kept : WaitOn old new
  pub only : (i : ℕ) → new i ≡ true → (old i ≡ true) ⊎ IsDueIn test list i

-- from the end on none, and from the head on all
pub added_none : (test : Monitor → Bool) (list : List Post) (waits : ℕ → Bool)
    → AreAddedFrom test list (length list) waits waits
added_none test list waits = record {
  each = λ j a l t e. absurd (let w = slice_get_within list j a t in omega (arith, w, l));
  kept = λ i e. e;
  only = λ i e. inl e;
}

pub added_all : (test : Monitor → Bool) (list : List Post) (old new : ℕ → Bool) → AreAddedFrom test list 0 old new
    → AreAdded test list (length list) old new
added_all test list old new u = record {
  each = λ j a l t e. u.each j a (omega arith) t e;
  kept = u.kept;
  only = u.only;
}

is_last : (j k : ℕ) → j < k + 1 → (j < k) ⊎ (j ≡ k)
is_last j k l = grind arith

is_first : (j k : ℕ) → k ≤ j → (k + 1 ≤ j) ⊎ (j ≡ k)
is_first j k l = grind arith

-- what one more post of a list does
record IsOneMore (test : Monitor → Bool) (list : List Post) (k : ℕ) (old mid new : ℕ → Bool) : Type 0 where
  own : (a : Post) → slice_get list k ≡ Some a → test a.monitor ≡ true → new a.number.0 ≡ true
  keep : WaitOn mid new
  only : (i : ℕ) → new i ≡ true → (old i ≡ true) ⊎ IsDueIn test list i

one_more : (test : Monitor → Bool) (list : List Post) (k : ℕ) (a : Post) (old mid new : ℕ → Bool)
    → slice_get list k ≡ Some a → ((i : ℕ) → new i ≡ (mid i || (test a.monitor && nat_eq i a.number.0)))
    → ((i : ℕ) → mid i ≡ true → (old i ≡ true) ⊎ IsDueIn test list i) → IsOneMore test list k old mid new
one_more test list k a old mid new there is before = record {
  own = λ b t e.
      let s : a ≡ b = same_Some a b (sym there ∙ t) in
      subst (λ (c : Post). new c.number.0 ≡ true) s (own (ap (λ (c : Post). test c.monitor) s ∙ e));
  keep = λ i e. is i ∙ ap (λ b. b || (test a.monitor && nat_eq i a.number.0)) e;
  only = λ i e. came i e (cases (mid i));
}
  where
    cases : (b : Bool) → (b ≡ true) ⊎ (b ≡ false)
    cases true = inl refl
    cases false = inr refl

    came : (i : ℕ) → new i ≡ true → (mid i ≡ true) ⊎ (mid i ≡ false) → (old i ≡ true) ⊎ IsDueIn test list i
    came i e (inl w) = before i w
    came i e (inr w) =
        let parts = and_parts (test a.monitor) (nat_eq i a.number.0)
        (sym (ap (λ b. b || (test a.monitor && nat_eq i a.number.0)) w) ∙ sym (is i) ∙ e) in
        inr (k, a, there, sym (eqb-true i a.number.0 parts.1), parts.0)

    both : (b : Bool) → (b || true) ≡ true
    both true = refl
    both false = refl

    own : test a.monitor ≡ true → new a.number.0 ≡ true
    own e = is a.number.0 ∙ ap (λ b. mid a.number.0 || (b && nat_eq a.number.0 a.number.0)) e
        ∙ ap (λ b. mid a.number.0 || b) (eq-eqb a.number.0 a.number.0 refl) ∙ both (mid a.number.0)

-- one more post of a list, after those before it and before those after it
pub added_step : (test : Monitor → Bool) (list : List Post) (k : ℕ) (a : Post) (old mid new : ℕ → Bool)
    → slice_get list k ≡ Some a → ((i : ℕ) → new i ≡ (mid i || (test a.monitor && nat_eq i a.number.0)))
    → AreAdded test list k old mid → AreAdded test list (k + 1) old new
added_step test list k a old mid new there is u =
    let m = one_more test list k a old mid new there is u.only in
    record {
      each = λ j b h t e. elim (is_last j k h) [
        | inl less ↦ m.keep b.number.0 (u.each j b less t e)
        | inr same ↦ m.own b (ap (slice_get list) (sym same) ∙ t) e
      ];
      kept = λ i e. m.keep i (u.kept i e);
      only = m.only;
    }

pub added_step_down : (test : Monitor → Bool) (list : List Post) (k : ℕ) (a : Post) (old mid new : ℕ → Bool)
    → slice_get list k ≡ Some a → ((i : ℕ) → new i ≡ (mid i || (test a.monitor && nat_eq i a.number.0)))
    → AreAddedFrom test list (k + 1) old mid → AreAddedFrom test list k old new
added_step_down test list k a old mid new there is u =
    let m = one_more test list k a old mid new there is u.only in
    record {
      each = λ j b h t e. elim (is_first j k h) [
        | inl more ↦ m.keep b.number.0 (u.each j b more t e)
        | inr same ↦ m.own b (ap (slice_get list) (sym same) ∙ t) e
      ];
      kept = λ i e. m.keep i (u.kept i e);
      only = m.only;
    }

-- a served monitor at a resource is in its list
abbrev IsPosted : Parts → (Kind → Bool) → ℕ → ℕ → Monitor → Type 0
IsPosted p served r i m = (j : ℕ) × (slice_get (posts_of served p.monitors r) j ≡ Some (post i m))

pub posted : (p : Parts) (served : Kind → Bool) (r : ℕ) (q : ResourceId) (i : ℕ) (m : Monitor)
    → slice_get p.monitors i ≡ Some m → served m.kind ≡ true → m.point ≡ Resource q → q.0 ≡ r
    → IsPosted p served r i m
posted p served r q i m t s at e =
    let both : is_served_at served r m ≡ true =
    ap (λ b. b && is_at m.point r) s ∙ ap (λ x. is_at x r) at ∙ eq-eqb q.0 r e in
    let f = posts_all (is_served_at served r) 0 p.monitors i m t both in
    (f.0, f.1 ∙ ap (λ n. Some (post n m)) (zero-add i))

-- one step after the other
pub same_on : (p : Parts) (served : Kind → Bool) (old mid new : Monitor → ℕ) (mid_waits waits : ℕ → Bool)
    → AreSame p served mid_waits old mid → WaitOn mid_waits waits → AreSame p served waits mid new
    → AreSame p served waits old new
same_on p served old mid new mid_waits waits first on second i m there serves idle =
    second i m there serves idle ∙ first i m there serves (by (mid_waits i) refl)
  where
    by : (b : Bool) → mid_waits i ≡ b → mid_waits i ≡ false
    by false e = e
    by true e = absurd (true≢false (sym (on i e) ∙ idle))
