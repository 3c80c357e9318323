-- A turn of a slot of an event that a monitor does not name leaves its counts, and so does one that keeps the
-- slot's meet.
use Rattle.std.proofs.Common.{ℕ, ◌≡◌, ◌<◌, ◌+◌, ◌==◌, ◌&&◌, ◌∙◌, Bool, false, Some, List, set, length, slice_get}
use Rattle.std.proofs.Common.{sym, ap, arith}
use Rattle.std.specs.Option.{option_map_or}
use Rattle.std.proofs.lemmas.Bool.{ne_eqb, true≢false}
use Rattle.std.proofs.lemmas.List.Sums.{sum_by-set}
use Rattle.khe_instance.specs.Watching.{names_event}
use Rattle.khe_instance.specs.WellMade.{IsMonitor}
use Rattle.khe_instance.specs.declared.parts.Parts.{Parts}
use Rattle.khe_instance.specs.declared.points.Monitor.{Monitor}
use Rattle.khe_instance.specs.declared.points.Point.{Point}
use Rattle.khe_instance.specs.declared.rules.Constraint.{Constraint}
use Rattle.khe_told.specs.Slots.{emptied, no_slot, slot_at}
use Rattle.khe_told.specs.Turns.{IsTurn, SlotTurn, turned}
use Rattle.khe_told.specs.declared.slots.Slot.{Slot}
use Rattle.event_monitors.specs.Posts.{names}
use Rattle.event_monitors.specs.Shares.{KeepsMeet}
use Rattle.set_monitors.specs.LinkCounts.{one_if}
use Rattle.set_monitors.specs.Links.{AreOfGroup, members_at, meets_at, runs_in, slot_runs}
use Rattle.set_monitors.specs.MemberLaws.{member_named}

-- a slot counts for an event's meets at a time
abbrev pub test : ℕ → ℕ → Slot → Bool
test e t x = (x.event.0 == e) && slot_runs x t

pub meets_set : (s : List Slot) (k : ℕ) (x : Slot) (e t : ℕ) → k < length s
    → meets_at (set s k x) e t + one_if (test e t (slot_at s k)) ≡ meets_at s e t + one_if (test e t x)
meets_set s k x e t l = sum_by-set (λ y. one_if (test e t y)) s k x no_slot l

-- at a turn of a slot
pub meets_turned : (p : Parts) (s : List Slot) (t : SlotTurn) (e u : ℕ) → IsTurn p s t
    → meets_at (turned s t) e u + one_if ((t.before.event.0 == e) && runs_in t.before.span u)
    ≡ meets_at s e u + one_if ((t.before.event.0 == e) && runs_in t.after.span u)
meets_turned p s t e u turns =
    let a = meets_set s t.before.meet.0 t.after e u turns.there in
    let b = ap (λ x. one_if (test e u x)) turns.slot in
    let d = ap (λ x. one_if ((x.event.0 == e) && runs_in t.after.span u)) turns.same in
    omega (arith, a, b, d)

-- a monitor's names are those of its rule and point
pub named_by : (p : Parts) (m : Monitor) (monitor : IsMonitor p m) (e : ℕ)
    → names p e m ≡ names_event p monitor.0.rule m.point e
named_by p m monitor e = ap (λ o. option_map_or (λ (c : Constraint). names_event p c.rule m.point e) o false) monitor.1

-- a turn of a slot of another event leaves the counts
pub group_elsewhere : (p : Parts) (m : Monitor) (s : List Slot) (rows : List (List ℕ)) (times k : ℕ) (x : Slot)
    → IsMonitor p m → k < length s → emptied x ≡ emptied (slot_at s k)
    → names p (slot_at s k).event.0 m ≡ false → AreOfGroup p m.point s rows times
    → AreOfGroup p m.point (set s k x) rows times
group_elsewhere p m s rows times k x monitor l same named of = record {
  amount = of.amount;
  all = of.all;
  cells = λ i e t h. of.cells i e t h ∙ still e t (other i e h);
}
  where
    other : (i e : ℕ) → slice_get (members_at p m.point) i ≡ Some e → (slot_at s k).event.0 ≡ e → ⊥
    other i e h is = true≢false (sym (member_named p monitor.0.rule m.point i e h) ∙ sym (named_by p m monitor e)
        ∙ ap (λ n. names p n m) (sym is) ∙ named)

    off : (y : Slot) (e t : ℕ) → (y.event.0 ≡ e → ⊥) → one_if (test e t y) ≡ 0
    off y e t n = ap (λ b. one_if (b && slot_runs y t)) (ne_eqb y.event.0 e n)

    still : (e t : ℕ) → ((slot_at s k).event.0 ≡ e → ⊥) → meets_at s e t ≡ meets_at (set s k x) e t
    still e t n =
        let a = meets_set s k x e t l in
        let b = off (slot_at s k) e t n in
        let d = off x e t (λ is. n (sym (ap (λ (y : Slot). y.event.0) same) ∙ is)) in
        omega (arith, a, b, d)

-- so does a turn that keeps the slot's meet
pub group_unheard : (p : Parts) (point : Point) (s : List Slot) (t : SlotTurn) (rows : List (List ℕ)) (times : ℕ)
    → KeepsMeet t → IsTurn p s t → AreOfGroup p point s rows times → AreOfGroup p point (turned s t) rows times
group_unheard p point s t rows times kept turns of = record {
  amount = of.amount;
  all = of.all;
  cells = λ i e u h. of.cells i e u h ∙ still e u;
}
  where
    still : (e u : ℕ) → meets_at s e u ≡ meets_at (turned s t) e u
    still e u =
        let a = meets_turned p s t e u turns in
        let b = ap (λ y. one_if ((t.before.event.0 == e) && runs_in y u)) kept in
        omega (arith, a, b)
