-- A cut leaves the sums of shares that add up.
use Rattle.std.proofs.Common.{ℕ, ◌≡◌, ◌≤◌, ◌+◌, ◌∙◌, Bool, true, false, cond, Option, Some, None, List, [], ◌∷◌}
use Rattle.std.proofs.Common.{slice_get, refl, sym, ap, arith}
use Rattle.std.specs.Option.{option_map_or}
use Rattle.std.proofs.lemmas.List.Sums.{sum_by-set}
use Rattle.khe_base.specs.declared.numbers.ResourceId.{ResourceId}
use Rattle.khe_instance.specs.Watching.{names_event}
use Rattle.khe_instance.specs.declared.parts.Parts.{Parts}
use Rattle.khe_instance.specs.declared.points.Monitor.{Monitor}
use Rattle.khe_instance.specs.declared.points.Point.{Point}
use Rattle.khe_instance.specs.declared.rules.Constraint.{Constraint}
use Rattle.khe_instance.specs.declared.rules.Rule.{Rule}
use Rattle.khe_told.specs.Effects.{AreTurns, IsCut, turned_all}
use Rattle.khe_told.specs.Slots.{no_slot, slot_at}
use Rattle.khe_told.specs.Turns.{IsTurn, SlotTurn, turned}
use Rattle.khe_told.specs.declared.slots.Slot.{Slot}
use Rattle.khe_told.specs.declared.slots.Span.{Span}
use Rattle.event_monitors.specs.Shares.{AddsUp, given_at, most_of, share_of, total_at, total_of}

module _ (share : Rule → Option Span → Option (Option ResourceId) → ℕ)
    (bounded : (rule : Rule) (span : Option Span) (given : Option (Option ResourceId))
    → share rule span given ≤ most_of span) (adds : AddsUp share) where
  -- what the slots of a cut count for
  parts : (p : Parts) (rule : Rule) (point : Point) (s : List Slot) (a b : SlotTurn) → IsCut a b → IsTurn p s a
      → IsTurn p (turned s a) b
      → share_of share p rule point a.before
      ≡ share_of share p rule point a.after + share_of share p rule point b.after
  parts p rule point s a b cut first second =
      by (names_event p rule point a.before.event.0)
      ∙ sym (λ i. cond {A = ℕ} (names_event p rule point (one i)) (share rule a.after.span (given_at point
      a.after.given))
      0 + cond {A = ℕ} (names_event p rule point (two i)) (share rule b.after.span (given_at point b.after.given)) 0)
    where
      one : a.after.event.0 ≡ a.before.event.0
      one = ap (λ (y : Slot). y.event.0) first.same

      two : b.after.event.0 ≡ a.before.event.0
      two = ap (λ (y : Slot). y.event.0) second.same ∙ ap (λ e. e.0) cut.event

      is : share rule a.before.span (given_at point a.before.given)
          ≡ share rule a.after.span (given_at point a.after.given)
          + share rule b.after.span (given_at point b.after.given)
      is =
          (λ i. share rule (cut.whole i) (given_at point a.before.given))
          ∙ adds rule cut.cut cut.rest cut.start (given_at point a.before.given)
          ∙ sym (λ i. share rule (cut.first i) (given_at point (cut.given i))
          + share rule (cut.second i) (given_at point (cut.same i)))

      by : (n : Bool) → cond {A = ℕ} n (share rule a.before.span (given_at point a.before.given)) 0
          ≡ cond {A = ℕ} n (share rule a.after.span (given_at point a.after.given)) 0
          + cond {A = ℕ} n (share rule b.after.span (given_at point b.after.given)) 0
      by true = is
      by false = refl

  -- a free slot counts for nothing
  free_part : (p : Parts) (rule : Rule) (point : Point) (x : Slot) → x.span ≡ None → share_of share p rule point x ≡ 0
  free_part p rule point x free = by (names_event p rule point x.event.0)
    where
      none : share rule x.span (given_at point x.given) ≡ 0
      none = let h = bounded rule x.span (given_at point x.given) in let e = ap most_of free in omega (arith, h, e)

      by : (n : Bool) → cond {A = ℕ} n (share rule x.span (given_at point x.given)) 0 ≡ 0
      by true = none
      by false = refl

  sum_uncut : (p : Parts) (rule : Rule) (point : Point) (s : List Slot) (a b : SlotTurn) → IsCut a b → IsTurn p s a
      → IsTurn p (turned s a) b → total_at share p rule point (turned (turned s a) b) ≡ total_at share p rule point s
  sum_uncut p rule point s a b cut first second =
      let f = share_of share p rule point in
      let one = sum_by-set f s a.before.meet.0 a.after no_slot first.there in
      let two = sum_by-set f (turned s a) b.before.meet.0 b.after no_slot second.there in
      let whole : f (slot_at s a.before.meet.0) ≡ f a.before = ap f first.slot in
      let none : f (slot_at (turned s a) b.before.meet.0) ≡ 0 = ap f second.slot ∙ free_part p rule point b.before
      cut.free in
      let both = parts p rule point s a b cut first second in
      omega (arith, one, two, whole, none, both)

  pub total_uncut : (p : Parts) (m : Monitor) (s : List Slot) (a b : SlotTurn) (total : ℕ) → IsCut a b
      → AreTurns p s (a ∷ b ∷ []) → total ≡ total_of share p m s
      → total ≡ total_of share p m (turned_all s (a ∷ b ∷ []))
  total_uncut p m s a b total cut turns h = h ∙ sym (by (slice_get p.constraints m.constraint))
    where
      by : (o : Option Constraint)
          → option_map_or (λ (k : Constraint). total_at share p k.rule m.point (turned (turned s a) b)) o 0
          ≡ option_map_or (λ (k : Constraint). total_at share p k.rule m.point s) o 0
      by None = refl
      by (Some k) = sum_uncut p k.rule m.point s a b cut turns.0 turns.1.0
