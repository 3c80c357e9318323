-- A cut leaves who has tasks in a role, and which events run at each time.
use Rattle.std.proofs.Common.{ℕ, ◌≡◌, ◌≤◌, ◌+◌, ◌==◌, ◌&&◌, ◌∙◌, zero, suc, ltb, Bool, true, false, cond, Option}
use Rattle.std.proofs.Common.{Some, None, List, [], ◌∷◌, map, length, refl, sym, ap, subst, arith, count_by}
use Rattle.std.specs.List.{range_with_len}
use Rattle.std.specs.Prelude.{replicate}
use Rattle.std.specs.Option.{option_map}
use Rattle.std.proofs.lemmas.Bool.{lt-ltb}
use Rattle.std.proofs.lemmas.List.Elements.{All-get_or}
use Rattle.std.proofs.lemmas.List.Sums.{sum_by-set}
use Rattle.khe_base.specs.declared.numbers.TimeId.{TimeId}
use Rattle.khe_instance.specs.Running.{covers}
use Rattle.khe_instance.specs.declared.parts.Parts.{Parts}
use Rattle.khe_instance.specs.declared.points.Monitor.{Monitor}
use Rattle.khe_instance.specs.declared.points.Point.{Point}
use Rattle.khe_told.specs.Effects.{AreTurns, IsCut}
use Rattle.khe_told.specs.Fits.{IsSlot}
use Rattle.khe_told.specs.Slots.{no_slot, slot_at}
use Rattle.khe_told.specs.Turns.{SlotTurn, turned}
use Rattle.khe_told.specs.declared.slots.Slot.{Slot}
use Rattle.event_monitors.specs.Posts.{names}
use Rattle.event_monitors.proofs.SlotFacts.{part_of_sum}
use Rattle.set_monitors.specs.AvoidSplitAssignments.{IsShared, given_from, given_in, given_none, held}
use Rattle.set_monitors.specs.AvoidSplitAssignments.{in_role}
use Rattle.set_monitors.specs.LinkCounts.{one_if}
use Rattle.set_monitors.specs.LinkElsewhereLaws.{meets_turned}
use Rattle.set_monitors.specs.Links.{AreOfGroup, meets_at, runs_in}
use Rattle.set_monitors.specs.NamedSums.{named_part}
use Rattle.set_monitors.proofs.HandingLaws.{shared_of_state}

-- both parts of a meet together run when the whole does
covers_parts : (cut rest : ℕ) (start : Option TimeId) (u : ℕ)
    → one_if (covers (cut + rest) start u)
    ≡ one_if (covers cut start u) + one_if (covers rest (option_map (λ (t : TimeId). record { 0 = t.0 + cut }) start) u)
covers_parts cut rest None u = refl
covers_parts cut rest (Some t) u = grind arith

module _ (p : Parts) (s : List Slot) (a b : SlotTurn) (cut : IsCut a b) (turns : AreTurns p s (a ∷ b ∷ [])) where
  -- as many meets run after a cut
  meets_cut : (e u : ℕ) → meets_at (turned (turned s a) b) e u ≡ meets_at s e u
  meets_cut e u =
      let one = meets_turned p s a e u turns.0 in
      let two = meets_turned p (turned s a) b e u turns.1.0 in
      let w : ℕ = one_if ((a.before.event.0 == e) && runs_in a.before.span u) in
      let x : ℕ = one_if ((a.before.event.0 == e) && runs_in a.after.span u) in
      let y : ℕ = one_if ((b.before.event.0 == e) && runs_in b.after.span u) in
      let z : ℕ = one_if ((b.before.event.0 == e) && runs_in b.before.span u) in
      let none : z ≡ 0 = ap (λ o. one_if ((b.before.event.0 == e) && runs_in o u)) cut.free ∙ off (b.before.event.0
      == e)
      in
      let both : w ≡ x + y = parts in
      omega (arith, one, two, none, both)
    where
      off : (n : Bool) → one_if (n && false) ≡ 0
      off true = refl
      off false = refl

      by : (n : Bool) → one_if (n && covers (cut.cut + cut.rest) cut.start u)
          ≡ one_if (n && covers cut.cut cut.start u)
          + one_if (n && covers cut.rest (option_map (λ (t : TimeId). record { 0 = t.0 + cut.cut }) cut.start) u)
      by true = covers_parts cut.cut cut.rest cut.start u
      by false = refl

      parts : one_if ((a.before.event.0 == e) && runs_in a.before.span u)
          ≡ one_if ((a.before.event.0 == e) && runs_in a.after.span u)
          + one_if ((b.before.event.0 == e) && runs_in b.after.span u)
      parts =
          ap (λ o. one_if ((a.before.event.0 == e) && runs_in o u)) cut.whole ∙ by (a.before.event.0 == e)
          ∙ sym (λ i. one_if ((a.before.event.0 == e) && runs_in (cut.first i) u)
          + one_if (((cut.event i).0 == e) && runs_in (cut.second i) u))

  pub group_cut : (point : Point) (rows : List (List ℕ)) (times : ℕ) → AreOfGroup p point s rows times
      → AreOfGroup p point (turned (turned s a) b) rows times
  group_cut point rows times of = record {
    amount = of.amount;
    all = of.all;
    cells = λ i e u h. of.cells i e u h ∙ sym (meets_cut e u);
  }

  module _ (m : Monitor) where
    -- a free slot has no task
    bare : (r : ℕ) → named_part p m (given_in p m r) b.before ≡ 0
    bare r = by (names p b.before.event.0 m) (ap (given_from (in_role p m b.before.event.0) r 0) given
        ∙ given_none (in_role p m b.before.event.0) r 0 (length b.before.given))
      where
        given : b.before.given ≡ replicate (length b.before.given) None
        given = (subst (IsSlot p) turns.1.0.slot
            (All-get_or (IsSlot p) (turned s a) b.before.meet.0 no_slot turns.1.0.there turns.1.0.told.slots)).empty
            cut.free

        by : (n : Bool) → given_in p m r b.before ≡ 0 → cond {A = ℕ} n (given_in p m r b.before) 0 ≡ 0
        by true h = h
        by false h = refl

    -- the same places of both slots
    same_part : (r : ℕ) → named_part p m (given_in p m r) a.after ≡ named_part p m (given_in p m r) a.before
    same_part r = λ i. cond (names p (ap (λ (y : Slot). y.event.0) turns.0.same i) m)
        (given_from (in_role p m (ap (λ (y : Slot). y.event.0) turns.0.same i)) r 0 (cut.given i)) 0

    other_part : (r : ℕ) → named_part p m (given_in p m r) b.after ≡ named_part p m (given_in p m r) a.before
    other_part r = λ i. cond (names p (event i) m) (given_from (in_role p m (event i)) r 0 (cut.same i)) 0
      where
        event : b.after.event.0 ≡ a.before.event.0
        event = ap (λ (y : Slot). y.event.0) turns.1.0.same ∙ ap (λ e. e.0) cut.event

    -- who has a task has one after a cut, and no other has
    some_held : (r : ℕ) → ltb 0 (held p m (turned (turned s a) b) r) ≡ ltb 0 (held p m s r)
    some_held r =
        let f = named_part p m (given_in p m r) in
        let one = sum_by-set f s a.before.meet.0 a.after no_slot turns.0.there in
        let two = sum_by-set f (turned s a) b.before.meet.0 b.after no_slot turns.1.0.there in
        let first : f (slot_at s a.before.meet.0) ≡ f a.before = ap f turns.0.slot in
        let second : f (slot_at (turned s a) b.before.meet.0) ≡ 0 = ap f turns.1.0.slot ∙ bare r in
        let more = part_of_sum f s a.before.meet.0 no_slot turns.0.there in
        let same = same_part r in
        let other = other_part r in
        by (held p m (turned (turned s a) b) r) (held p m s r) (f a.before)
        (omega (arith, one, two, first, second, same, other)) (omega (arith, more, first))
      where
        zeros : (n k : ℕ) → n ≡ k → ltb 0 n ≡ ltb 0 k
        zeros n k h = ap (ltb 0) h

        by : (n k u : ℕ) → n ≡ k + u → u ≤ k → ltb 0 n ≡ ltb 0 k
        by n zero u h l = zeros n zero (omega (arith, h, l))
        by n (suc k) u h l = lt-ltb 0 n (omega (arith, h)) ∙ sym (lt-ltb 0 (suc k) (omega arith))

    pub shared_cut : (numbers row : List ℕ) (n : ℕ) → IsShared p m s numbers row n
        → IsShared p m (turned (turned s a) b) numbers (map (held p m (turned (turned s a) b)) numbers) n
    shared_cut numbers row n kept = shared_of_state p m s (turned (turned s a) b) numbers row n n turns.1.0.later
        (kept.above ∙ sym (λ i. count_by (λ r. some_held r i) (range_with_len 0 (length p.resources)))) kept
