-- Facts of the monitors at the places of a list, and effects that those which name the events foresee.
use Rattle.std.proofs.Common.{ℕ, ◌≡◌, ◌∙◌, ◌==◌, ◌||◌, Bool, true, false, Some, None, List, [], ◌∷◌, slice_get}
use Rattle.std.proofs.Common.{sym, ap, refl, subst, ◌⊎◌, inl, inr}
use Rattle.std.proofs.lemmas.Bool.{cases_eq, ne_eqb, true≢false}
use Rattle.khe_instance.specs.declared.parts.Parts.{Parts}
use Rattle.khe_instance.specs.declared.points.Monitor.{Monitor}
use Rattle.khe_told.specs.Effects.{effects_of}
use Rattle.khe_told.specs.Turns.{SlotTurn}
use Rattle.event_monitors.specs.Effects.{HoldAt, NameNone}
use Rattle.event_monitors.specs.Posts.{names}
use Rattle.event_monitors.specs.Turns.{has}
use Rattle.event_monitors.specs.declared.posts.Post.{Post}

-- one that is at such a place
pub held_at : (fact : Monitor → Type 0) (posts : List Post) (ks : List ℕ) (k : ℕ) (a : Post) → HoldAt fact posts ks
    → has ks k ≡ true → slice_get posts k ≡ Some a → fact a.monitor
held_at fact posts [] k a hold h at = absurd (true≢false (sym h))
held_at fact posts (j ∷ ks) k a hold h at = by (λ g. held_at fact posts ks k a hold.1 g at) (cases_eq j k)
  where
    by : (has ks k ≡ true → fact a.monitor) → (j ≡ k) ⊎ (j ≡ k → ⊥) → fact a.monitor
    by more (inl e) = hold.0 a (ap (slice_get posts) e ∙ at)
    by more (inr n) = more (sym (λ i. ne_eqb j k n i || has ks k) ∙ h)

-- effects are foreseen where a monitor names no slot's event, and else by those that do
module _ (foresees : Parts → Monitor → List SlotTurn → Type 0)
    (law : (p : Parts) (m : Monitor) (ts : List SlotTurn) → NameNone p m ts → foresees p m ts) where
  pub foreseen_one : (p : Parts) (m : Monitor) (a : SlotTurn) (ts : List SlotTurn) → effects_of a None ≡ ts
      → (names p a.before.event.0 m ≡ true → foresees p m ts) → foresees p m ts
  foreseen_one p m a ts is first = by (names p a.before.event.0 m) refl
    where
      by : (b : Bool) → names p a.before.event.0 m ≡ b → foresees p m ts
      by true e = first e
      by false e = law p m ts (subst (NameNone p m) is (e, tt))

  pub foreseen_two : (p : Parts) (m : Monitor) (a b : SlotTurn) (ts : List SlotTurn) → effects_of a (Some b) ≡ ts
      → (names p a.before.event.0 m ≡ true → foresees p m ts) → (names p b.before.event.0 m ≡ true → foresees p m ts)
      → foresees p m ts
  foreseen_two p m a b ts is first second = by (names p a.before.event.0 m) (names p b.before.event.0 m) refl refl
    where
      by : (x y : Bool) → names p a.before.event.0 m ≡ x → names p b.before.event.0 m ≡ y → foresees p m ts
      by true y e f = first e
      by false true e f = second f
      by false false e f = law p m ts (subst (NameNone p m) is (e, (f, tt)))
