-- The event's place in the role, where it has one, is the only place that counts.
use Rattle.std.proofs.Common.{ℕ, ◌≡◌, ◌<◌, ◌∙◌, inr, None, get_or, length, sym, ap, subst, arith}
use Rattle.event_monitors.proofs.SlotFacts.{turn_event}
use Rattle.set_monitors.specs.AvoidSplitAssignments.{held}
use Rattle.set_monitors.specs.RolePlaces.{IsAt, IsPlaceAt}
use Rattle.set_monitors.proofs.HolderLaws.{held_few, holders_few}
use Rattle.set_monitors.proofs.HolderTurns.{held_within, listed_after, listed_before, listed_within, midway_turned}
use Rattle.set_monitors.proofs.HolderTurns.{read_at, same_places, still_one, turned_at, turned_still, within_other}
use Rattle.set_monitors.proofs.RoleLaws.{none_in_role, others_not, place_only}
use Rattle.set_monitors.proofs.avoid_split_assignments.turned.Goals as goal

pub place_of-requires : goal.place_of-requires
place_of-requires c = c.requires.places.ordered

pub returns-in_default : goal.returns-in_default
returns-in_default c =
    let p = c.args.inst.now in
    let m = c.args.monitor in
    let s = c.args.told.now in
    let t = c.args.turn.now in
    let e : c.event.result.0 ≡ t.before.event.0 = ap (λ n. n.0) c.event.ensures in
    let none = none_in_role p m c.args.role.now.places.now t.before.event.0 c.requires.places
    (turn_event p s t c.requires.turns) c.requires.named
    (subst (λ (n : ℕ). (i : ℕ) → IsAt c.args.role.now.places.now n i → ⊥) e c.in_default.ensures) in
    record {
      keeps = turned_still p m s t c.requires.turns c.requires.named c.args.role.now.candidates.now
          c.args.counts.now.items
          c.args.above (λ j o new was is. inr (none j)) c.requires.keeps;
    }

pub rise-above-requires-clause-listed : goal.rise-above-requires-clause-listed
rise-above-requires-clause-listed c =
    let p = c.args.inst.now in
    let m = c.args.monitor in
    let s = c.args.told.now in
    let t = c.args.turn.now in
    let k = c.in-Some.place in
    let e : c.event.result.0 ≡ t.before.event.0 = ap (λ n. n.0) c.event.ensures in
    let only = place_only p m c.args.role.now.places.now t.before.event.0 k c.requires.places
    (subst (λ (n : ℕ). IsPlaceAt c.args.role.now.places.now n k) e c.in-Some.ensures) in
    let old = c.given_at-before.ensures ∙ ap (λ xs. get_or xs k None) c.given_before.ensures in
    let new = c.given_at-after.ensures ∙ ap (λ xs. get_or xs k None) c.given_after.ensures in
    let l : k < length t.after.given = within_other p m s t c.requires.turns c.requires.named k
    (λ h. c.is_other.ensures.differ c.if-is_other.true (old ∙ h ∙ sym new)) in
    listed_after p m s t c.args.role.now.candidates.now c.args.counts.now.items c.args.above c.requires.keeps
    c.requires.turns
    c.requires.named k c.given_at-after.result only.0
    (read_at c.given_after.result.now t.after.given k c.given_at-after.result c.given_after.ensures
    c.given_at-after.ensures l)

pub rise-above-requires-clause-within : goal.rise-above-requires-clause-within
rise-above-requires-clause-within c =
    held_within (held c.args.inst.now c.args.monitor c.args.told.now) c.args.role.now.candidates.now
    c.args.counts.now.items
    c.requires.keeps.amount c.requires.keeps.counts
    (λ q. held_few c.args.inst.now c.args.monitor c.args.told.now q c.facts.ensures c.requires.turns.told.whose)

pub rise-above-requires-clause-above : goal.rise-above-requires-clause-above
rise-above-requires-clause-above c =
    let a = holders_few c.args.inst.now (held c.args.inst.now c.args.monitor c.args.told.now) c.facts.ensures in
    let b = c.requires.keeps.above in
    omega (arith, a, b)

pub fall-requires-clause-listed : goal.fall-requires-clause-listed
fall-requires-clause-listed c =
    let p = c.args.inst.now in
    let m = c.args.monitor in
    let s = c.args.told.now in
    let t = c.args.turn.now in
    let k = c.in-Some.place in
    let e : c.event.result.0 ≡ t.before.event.0 = ap (λ n. n.0) c.event.ensures in
    let only = place_only p m c.args.role.now.places.now t.before.event.0 k c.requires.places
    (subst (λ (n : ℕ). IsPlaceAt c.args.role.now.places.now n k) e c.in-Some.ensures) in
    let old = c.given_at-before.ensures ∙ ap (λ xs. get_or xs k None) c.given_before.ensures in
    let new = c.given_at-after.ensures ∙ ap (λ xs. get_or xs k None) c.given_after.ensures in
    let l : k < length t.after.given = within_other p m s t c.requires.turns c.requires.named k
    (λ h. c.is_other.ensures.differ c.if-is_other.true (old ∙ h ∙ sym new)) in
    let same = same_places p s t c.requires.turns in
    let l_old : k < length t.before.given = omega (arith, l, same) in
    listed_before p m s t c.args.role.now.candidates.now c.args.counts.now.items c.args.above c.requires.keeps
    c.requires.turns
    c.requires.named k c.given_at-before.result only.0
    (read_at c.given_before.result.now t.before.given k c.given_at-before.result c.given_before.ensures
    c.given_at-before.ensures l_old)

pub returns-then-is_other : goal.returns-then-is_other
returns-then-is_other c =
    let p = c.args.inst.now in
    let m = c.args.monitor in
    let s = c.args.told.now in
    let t = c.args.turn.now in
    let turns = c.requires.turns in
    let named = c.requires.named in
    let kept = c.requires.keeps in
    let numbers = c.args.role.now.candidates.now in
    let row = c.args.counts.now.items in
    let n = c.args.above in
    let k = c.in-Some.place in
    let o = c.given_at-before.result in
    let o_new = c.given_at-after.result in
    let e : c.event.result.0 ≡ t.before.event.0 = ap (λ n. n.0) c.event.ensures in
    let only = place_only p m c.args.role.now.places.now t.before.event.0 k c.requires.places
    (subst (λ (n : ℕ). IsPlaceAt c.args.role.now.places.now n k) e c.in-Some.ensures) in
    let old = c.given_at-before.ensures ∙ ap (λ xs. get_or xs k None) c.given_before.ensures in
    let new = c.given_at-after.ensures ∙ ap (λ xs. get_or xs k None) c.given_after.ensures in
    let l : k < length t.after.given = within_other p m s t turns named k
    (λ h. c.is_other.ensures.differ c.if-is_other.true (old ∙ h ∙ sym new)) in
    let same = same_places p s t turns in
    let l_old : k < length t.before.given = omega (arith, l, same) in
    let was = read_at c.given_before.result.now t.before.given k o c.given_before.ensures c.given_at-before.ensures
    l_old in
    let is = read_at c.given_after.result.now t.after.given k o_new c.given_after.ensures c.given_at-after.ensures l in
    let there_old = listed_within p m s numbers row n kept o
    (listed_before p m s t numbers row n kept turns named k o only.0 was) in
    let there_new = listed_within p m s numbers row n kept o_new
    (listed_after p m s t numbers row n kept turns named k o_new only.0 is) in
    record {
      keeps = turned_at p m s t turns named numbers row c.fall.new.counts.items n c.fall.result k l
          (λ j apart a b u v. inr (others_not p m t.before.event.0 k only j apart))
          (midway_turned p m s t turns named numbers row c.rise-above.new.counts.items c.fall.new.counts.items n
          c.rise-above.result c.fall.result k o o_new was is only.0 there_old there_new c.fall.ensures.amount
          c.rise-above.ensures.counts c.rise-above.ensures.above c.fall.ensures.counts c.fall.ensures.above)
          kept;
    }

pub returns : goal.returns
returns c =
    let p = c.args.inst.now in
    let m = c.args.monitor in
    let s = c.args.told.now in
    let t = c.args.turn.now in
    let k = c.in-Some.place in
    let e : c.event.result.0 ≡ t.before.event.0 = ap (λ n. n.0) c.event.ensures in
    let only = place_only p m c.args.role.now.places.now t.before.event.0 k c.requires.places
    (subst (λ (n : ℕ). IsPlaceAt c.args.role.now.places.now n k) e c.in-Some.ensures) in
    let old = c.given_at-before.ensures ∙ ap (λ xs. get_or xs k None) c.given_before.ensures in
    let new = c.given_at-after.ensures ∙ ap (λ xs. get_or xs k None) c.given_after.ensures in
    record {
      keeps = turned_still p m s t c.requires.turns c.requires.named c.args.role.now.candidates.now
          c.args.counts.now.items
          c.args.above
          (still_one p m s t c.requires.turns c.requires.named k
          (sym old ∙ c.is_other.ensures.same c.if-is_other.false ∙ new)
          (others_not p m t.before.event.0 k only))
          c.requires.keeps;
    }
