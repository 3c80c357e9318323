-- Effects of one slot or of two, and the gauges that they leave.
use Rattle.std.proofs.Common.{ℕ, ◌≡◌, ◌<◌, ◌∙◌, ◌⊎◌, inl, inr, Bool, true, false, Option, Some, None, List, [], ◌∷◌}
use Rattle.std.proofs.Common.{length, slice_get, refl, sym, ap, subst, arith}
use Rattle.std.proofs.lemmas.Bool.{cases_eq, true≢false}
use Rattle.std.proofs.lemmas.Option.{same_Some, slice_get_within}
use Rattle.khe_base.proofs.ListLemmas.{there}
use Rattle.khe_instance.specs.declared.parts.Parts.{Parts}
use Rattle.khe_instance.specs.declared.points.Monitor.{Monitor}
use Rattle.khe_instance.specs.declared.rules.Kind.{Kind}
use Rattle.khe_told.specs.Agreement.{deviation_in}
use Rattle.khe_told.specs.Effects.{AreCut, AreTurns, IsCut, effects_of, turned_all}
use Rattle.khe_told.specs.Slots.{emptied, slot_at}
use Rattle.khe_told.specs.Turns.{IsTurn, SlotTurn, turned}
use Rattle.khe_told.specs.Waits.{AreUnmoved, WaitOn}
use Rattle.khe_told.specs.declared.slots.Slot.{Slot}
use Rattle.std.specs.Prelude.{slice_set}
use Rattle.event_monitors.specs.Effects.{AreKeptOrWait, HoldOrWait, IsUncut}
use Rattle.event_monitors.specs.Posts.{AreKept, ArePosts, names, posts_at}
use Rattle.event_monitors.specs.Turns.{has}
use Rattle.event_monitors.specs.declared.posts.Post.{Post}
use Rattle.event_monitors.proofs.TurnLaws.{listed_as, or_less, still}

-- the first of one or two turns, and the second
pub first_turn : (p : Parts) (s : List Slot) (a : SlotTurn) (o : Option SlotTurn) (ts : List SlotTurn)
    → effects_of a o ≡ ts → AreTurns p s ts → IsTurn p s a
first_turn p s a None ts is turns = (subst (AreTurns p s) (sym is) turns).0
first_turn p s a (Some b) ts is turns = (subst (AreTurns p s) (sym is) turns).0

pub second_turn : (p : Parts) (s : List Slot) (a b : SlotTurn) (ts : List SlotTurn)
    → effects_of a (Some b) ≡ ts → AreTurns p s ts → IsTurn p (turned s a) b
second_turn p s a b ts is turns = (subst (AreTurns p s) (sym is) turns).1.0

-- nothing, where it is not something
pub none_of : {X : Type 0} (o : Option X) → ((x : X) → o ≡ Some x → ⊥) → o ≡ None
none_of None not = refl
none_of (Some x) not = absurd (not x refl)

-- a slot's place in a state where another of the same event stands
module _ {G : Type 0} (keeps : G → Parts → Monitor → List Slot → Type 0)
    (elsewhere : (g : G) (p : Parts) (m : Monitor) (s : List Slot) (k : ℕ) (x : Slot) → k < length s
    → emptied x ≡ emptied (slot_at s k) → names p (slot_at s k).event.0 m ≡ false → keeps g p m s
    → keeps g p m (slice_set s k x)) (p : Parts) where
  -- a turn of a slot of an event that a monitor does not name leaves its gauge
  pub other_kept : (g : G) (m : Monitor) (s : List Slot) (t : SlotTurn) → IsTurn p s t
      → names p t.before.event.0 m ≡ false → keeps g p m s → keeps g p m (turned s t)
  other_kept g m s t turns named kept = elsewhere g p m s t.before.meet.0 t.after turns.there
      (turns.same ∙ sym (ap emptied turns.slot)) (ap (λ (x : Slot). names p x.event.0 m) turns.slot ∙ named) kept

module _ {G : Type 0} (keeps : G → Parts → Monitor → List Slot → Type 0) (p : Parts) (posts : List Post)
    (gauges : List G) where
  -- gauges that are kept
  pub all_kept : (waits : ℕ → Bool) (s : List Slot) → AreKept keeps p posts gauges s
      → AreKeptOrWait keeps p posts gauges waits s
  all_kept waits s kept k a g there here not = kept k a g there here

  -- a turn that all gauges leave, but those of monitors that wait
  pub turn_kept : (old new : ℕ → Bool) (s : List Slot) (t : SlotTurn) → WaitOn old new
      → ((k : ℕ) (a : Post) (g : G) → slice_get posts k ≡ Some a → slice_get gauges k ≡ Some g
      → new a.number.0 ≡ false → keeps g p a.monitor s → keeps g p a.monitor (turned s t))
      → AreKeptOrWait keeps p posts gauges old s → AreKeptOrWait keeps p posts gauges new (turned s t)
  turn_kept old new s t on law kept k a g at here not = law k a g at here not
      (kept k a g at here (still old new a.number.0 on not))

  -- of the monitors that name an event, those at listed places
  pub listed_kept : (elsewhere : (g : G) (p : Parts) (m : Monitor) (s : List Slot) (k : ℕ) (x : Slot) → k < length s
      → emptied x ≡ emptied (slot_at s k) → names p (slot_at s k).event.0 m ≡ false → keeps g p m s
      → keeps g p m (slice_set s k x))
      (same : G → Parts → Monitor → SlotTurn → Type 0)
      (unaffected : (g : G) (p : Parts) (m : Monitor) (s : List Slot) (t : SlotTurn) → same g p m t → IsTurn p s t
      → keeps g p m s → keeps g p m (turned s t))
      (old new : ℕ → Bool) (s : List Slot) (t : SlotTurn) (list : List ℕ)
      → list ≡ posts_at p posts t.before.event.0 → IsTurn p s t → WaitOn old new
      → HoldOrWait (λ k a. (g : G) → slice_get gauges k ≡ Some g → same g p a.monitor t) posts list [] new
      → AreKeptOrWait keeps p posts gauges old s → AreKeptOrWait keeps p posts gauges new (turned s t)
  listed_kept elsewhere same unaffected old new s t list is turns on hold =
      turn_kept old new s t on (λ k a g at here not kept. by k a g at here not kept (names p t.before.event.0 a.monitor)
      refl)
    where
      by : (k : ℕ) (a : Post) (g : G) → slice_get posts k ≡ Some a → slice_get gauges k ≡ Some g
          → new a.number.0 ≡ false → keeps g p a.monitor s → (n : Bool) → names p t.before.event.0 a.monitor ≡ n
          → keeps g p a.monitor (turned s t)
      by k a g at here not kept true n =
          unaffected g p a.monitor s t (hold k a (ap (λ ks. has ks k) is ∙ listed_as p posts t.before.event.0 k a at
          ∙ n)
          refl at not g here) turns kept
      by k a g at here not kept false n = other_kept keeps elsewhere p g a.monitor s t turns n kept

  -- monitors that do not wait have the deviation that they had, where their gauges keep both states
  module _ (value : G → Parts → Monitor → ℕ)
      (exact : (g : G) (p : Parts) (m : Monitor) (s : List Slot) → keeps g p m s → deviation_in p s m ≡ value g p m)
      (served : Kind → Bool) (all : ArePosts p served posts) (amount : length gauges ≡ length posts) where
    pub unmoved_by : (s s2 : List Slot) (waits : ℕ → Bool) → AreKept keeps p posts gauges s
        → ((k : ℕ) (a : Post) (g : G) → slice_get posts k ≡ Some a → slice_get gauges k ≡ Some g
        → waits a.number.0 ≡ false → deviation_in p s2 a.monitor ≡ value g p a.monitor)
        → AreUnmoved p served waits s s2
    unmoved_by s s2 waits kept law i m at serves not =
        let found = all.all i m at serves in
        let l : found.0 < length gauges = let w = slice_get_within posts found.0 _ found.1 in omega (
          arith,
          amount,
          w,
        ) in
        let g = there gauges found.0 l in
        law found.0 _ g.value found.1 g.found not ∙ sym (exact g.value p m s (kept found.0 _ g.value found.1 g.found))

    pub unmoved_kept : (s s2 : List Slot) (waits : ℕ → Bool) → AreKept keeps p posts gauges s
        → AreKeptOrWait keeps p posts gauges waits s2 → AreUnmoved p served waits s s2
    unmoved_kept s s2 waits kept more = unmoved_by s s2 waits kept
        (λ k a g at here not. exact g p a.monitor s2 (more k a g at here not))

    -- after a cut
    pub unmoved_cut : (elsewhere : (g : G) (p : Parts) (m : Monitor) (s : List Slot) (k : ℕ) (x : Slot) → k < length s
        → emptied x ≡ emptied (slot_at s k) → names p (slot_at s k).event.0 m ≡ false → keeps g p m s
        → keeps g p m (slice_set s k x))
        (s : List Slot) (a : SlotTurn) (o : Option SlotTurn) (ts : List SlotTurn) (waits : ℕ → Bool)
        → effects_of a o ≡ ts → AreCut ts → AreTurns p s ts → AreKept keeps p posts gauges s
        → ((k : ℕ) (x : Post) (g : G) → slice_get posts k ≡ Some x → slice_get gauges k ≡ Some g
        → waits x.number.0 ≡ false → names p a.before.event.0 x.monitor ≡ true → IsUncut keeps value g)
        → AreUnmoved p served waits s (turned_all s ts)
    unmoved_cut elsewhere s a None ts waits is cut turns kept law = absurd (subst AreCut (sym is) cut)
    unmoved_cut elsewhere s a (Some b) ts waits is cut turns kept law =
        subst (λ us. AreUnmoved p served waits s (turned_all s us)) is
        (unmoved_by s (turned (turned s a) b) waits kept
        (λ k x g at here not. by k x g at here not (names p a.before.event.0 x.monitor) refl))
      where
        both : AreTurns p s (a ∷ b ∷ [])
        both = subst (AreTurns p s) (sym is) turns

        halves : IsCut a b
        halves = subst AreCut (sym is) cut

        by : (k : ℕ) (x : Post) (g : G) → slice_get posts k ≡ Some x → slice_get gauges k ≡ Some g
            → waits x.number.0 ≡ false → (n : Bool) → names p a.before.event.0 x.monitor ≡ n
            → deviation_in p (turned (turned s a) b) x.monitor ≡ value g p x.monitor
        by k x g at here not true n = law k x g at here not n p x.monitor s a b halves both (kept k x g at here)
        by k x g at here not false n =
            exact g p x.monitor (turned (turned s a) b)
            (other_kept keeps elsewhere p g x.monitor (turned s a) b both.1.0
            (ap (λ e. names p e.0 x.monitor) halves.event ∙ n)
            (other_kept keeps elsewhere p g x.monitor s a both.0 n (kept k x g at here)))

-- queueing the monitors at the places of a list
module _ (fact : ℕ → Post → Type 0) (posts : List Post) where
  -- none yet
  pub hold_start : (list : List ℕ) (waits : ℕ → Bool) → HoldOrWait fact posts list list waits
  hold_start list waits k a listed fresh at not = absurd (true≢false (sym listed ∙ fresh))

  -- one more, where the fact holds or the monitor waits
  pub hold_step : (list rest : List ℕ) (k : ℕ) (a : Post) (waits more : ℕ → Bool) → slice_get posts k ≡ Some a
      → WaitOn waits more → (more a.number.0 ≡ false → fact k a) → HoldOrWait fact posts list (k ∷ rest) waits
      → HoldOrWait fact posts list rest more
  hold_step list rest k a waits more there on law hold j b listed fresh at not = by (cases_eq k j)
    where
      by : (k ≡ j) ⊎ (k ≡ j → ⊥) → fact j b
      by (inl e) = subst (λ i. fact i b) e (subst (fact k) (same_post (sym there ∙ ap (slice_get posts) e ∙ at))
          (law (ap (λ (x : Post). more x.number.0) (same_post (sym there ∙ ap (slice_get posts) e ∙ at)) ∙ not)))
        where
          same_post : Some a ≡ Some b → a ≡ b
          same_post h = same_Some a b h
      by (inr n) = hold j b listed (or_less k j rest fresh n) at (still waits more b.number.0 on not)
