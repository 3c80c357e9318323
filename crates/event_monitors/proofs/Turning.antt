-- A monitor's sum and one more turn of a slot.
use Rattle.std.proofs.Common.{ℕ, ◌≡◌, ◌≤◌, ◌<◌, ◌+◌, ◌-◌, ◌∙◌, Bool, true, false, cond, Option, Some, None, List, []}
use Rattle.std.proofs.Common.{◌∷◌, length, slice_get, refl, sym, ap, arith, sum_by}
use Rattle.std.specs.Option.{option_map_or}
use Rattle.std.proofs.lemmas.List.Sums.{sum_by-cons, sum_by-set}
use Rattle.khe_base.specs.declared.numbers.ResourceId.{ResourceId}
use Rattle.khe_instance.specs.Watching.{names_event}
use Rattle.khe_instance.specs.WellMade.{AreWellMade, IsMonitor}
use Rattle.khe_instance.specs.declared.parts.Parts.{Parts}
use Rattle.khe_instance.specs.declared.points.Monitor.{Monitor}
use Rattle.khe_instance.specs.declared.points.Point.{Point}
use Rattle.khe_instance.specs.declared.rules.Constraint.{Constraint}
use Rattle.khe_instance.specs.declared.rules.Rule.{Rule}
use Rattle.khe_told.specs.Slots.{no_meets, no_slot, slot_at}
use Rattle.khe_told.specs.Turns.{IsTurn, SlotTurn, turned}
use Rattle.khe_told.specs.declared.slots.Slot.{Slot}
use Rattle.khe_told.specs.declared.slots.Span.{Span}
use Rattle.event_monitors.specs.Posts.{names}
use Rattle.event_monitors.specs.Shares.{given_at, greatest_total, most_of, share_of, total_at, total_of}
use Rattle.event_monitors.proofs.SlotFacts.{none_of_no_meets, part_of_sum, totals_small}

-- the sum with one slot become another
turned_sum : (f : Slot → ℕ) (s : List Slot) (t : SlotTurn) (amount before later : ℕ) → t.before.meet.0 < length s
    → slot_at s t.before.meet.0 ≡ t.before → amount ≡ sum_by f s → before ≡ f t.before → later ≡ f t.after
    → (before ≤ amount) × (amount - before + later ≡ sum_by f (turned s t))
turned_sum f s t amount before later l slot h b a =
    let k = t.before.meet.0 in
    let e = sum_by-set f s k t.after no_slot l in
    let part = part_of_sum f s k no_slot l in
    let is : f (slot_at s k) ≡ f t.before = ap f slot in
    (omega (arith, part, h, b, is), omega (arith, e, part, h, b, a, is))

-- sums grow with their parts
pub sum_le : (f g : Slot → ℕ) (s : List Slot) → ((x : Slot) → f x ≤ g x) → sum_by f s ≤ sum_by g s
sum_le f g [] h = omega arith
sum_le f g (x ∷ s) h = let a = sum_by-cons f x s in let b = sum_by-cons g x s in let k = h x in let r =
    sum_le f g s h in omega (arith, a, b, k, r)

module _ (share : Rule → Option Span → Option (Option ResourceId) → ℕ)
    (bounded : (rule : Rule) (span : Option Span) (given : Option (Option ResourceId))
    → share rule span given ≤ most_of span) where
  part : (p : Parts) (rule : Rule) (point : Point) (x : Slot) → share_of share p rule point x ≤ most_of x.span
  part p rule point x = by (names_event p rule point x.event.0) (share rule x.span (given_at point x.given))
      (bounded rule x.span (given_at point x.given))
    where
      by : (b : Bool) (n : ℕ) → n ≤ most_of x.span → cond b n 0 ≤ most_of x.span
      by true n h = h
      by false n h = omega arith

  -- what the code computes is the sum after the turn
  pub record IsTurned (p : Parts) (m : Monitor) (s : List Slot) (t : SlotTurn) (total before later : ℕ) : Type 0 where
    pub part : before ≤ total
    pub is : total - before + later ≡ total_of share p m (turned s t)
    pub small : total - before + later ≤ greatest_total

  pub turned_total : (p : Parts) (m : Monitor) (k : Constraint) (s : List Slot) (t : SlotTurn) (total before later : ℕ)
      → AreWellMade p → IsTurn p s t → IsMonitor p m → slice_get p.constraints m.constraint ≡ Some k
      → names p t.before.event.0 m ≡ true → total ≡ total_of share p m s
      → before ≡ share k.rule t.before.span (given_at m.point t.before.given)
      → later ≡ share k.rule t.after.span (given_at m.point t.after.given)
      → IsTurned p m s t total before later
  turned_total p m k s t total before later made turns monitor there named h b a =
      let x = t.before in
      let y = t.after in
      let f = share_of share p k.rule m.point in
      let n : names_event p k.rule m.point x.event.0 ≡ true =
      sym (ap (λ o. option_map_or (λ (c : Constraint). names_event p c.rule m.point x.event.0) o false) there)
      ∙ named in
      let n2 : names_event p k.rule m.point y.event.0 ≡ true =
      ap (λ (z : Slot). names_event p k.rule m.point z.event.0) turns.same ∙ n in
      let e : total_of share p m s ≡ sum_by f s = ap (λ o. option_map_or
      (λ (c : Constraint). total_at share p c.rule m.point s) o 0) there in
      let e2 : total_of share p m (turned s t) ≡ sum_by f (turned s t) =
      ap (λ o. option_map_or (λ (q : Constraint). total_at share p q.rule m.point (turned s t)) o 0) there in
      let one : before ≡ f x = b ∙ sym (ap (λ b. cond b (share k.rule x.span (given_at m.point x.given)) 0) n) in
      let two : later ≡ f y = a ∙ sym (ap (λ b. cond b (share k.rule y.span (given_at m.point y.given)) 0) n2) in
      let r = turned_sum f s t total before later turns.there turns.slot (h ∙ e) one two in
      let q = sum_le f (λ (z : Slot). most_of z.span) (turned s t) (part p k.rule m.point) in
      let w = totals_small p (turned s t) made turns.later in
      let r1 = r.1 in
      record { part = r.0; is = r.1 ∙ sym e2; small = omega (arith, r1, q, w) }

  -- without meets it is 0
  pub nothing_yet : (p : Parts) (m : Monitor) → total_of share p m (no_meets p) ≡ 0
  nothing_yet p m = by (slice_get p.constraints m.constraint)
    where
      by : (o : Option Constraint) → option_map_or (λ (c : Constraint). total_at share p c.rule m.point (no_meets p)) o
          0 ≡ 0
      by None = refl
      by (Some k) =
          let a = sum_le (share_of share p k.rule m.point) (λ (z : Slot). most_of z.span) (no_meets p)
          (part p k.rule m.point) in
          let b = none_of_no_meets p in
          omega (arith, a, b)
