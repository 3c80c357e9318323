use Rattle.std.proofs.Common.{ℕ, ◌≡◌, ◌≤◌, ◌<◌, ◌+◌, ◌∙◌, ap, arith, length, slice_set, subst, sym, take, true}
use Rattle.std.specs.Prelude.{Bool, List}
use Rattle.std.proofs.lemmas.List.{length-set}
use Rattle.khe_told.specs.Slots.{length_of, slot_at}
use Rattle.khe_told.specs.Waits.{AreUnmoved}
use Rattle.khe_told.specs.declared.changes.Change.{Change}
use Rattle.khe_told.specs.declared.changes.Change.TheVariants.{Add}
use Rattle.khe_told.specs.declared.slots.Slot.{Slot}
use Rattle.family_keepers.specs.Takes.{Mentions}
use Rattle.family_keepers.proofs.TakeLaws.{IsTaking, later_told, less_done, less_short, less_stays, mention_at}
use Rattle.family_keepers.proofs.TakeLaws.{same_but, taken_least, taking_more}
use Rattle.family_keepers.proofs.WatchLaws.{emptied_at}
use Rattle.family_keepers.proofs.keeping.take_shorter.Goals.{then-duration, else-duration}
use Rattle.family_keepers.proofs.keeping.take_shorter.Goals as goal

abbrev none : Change
none = Add (record { 0 = 0 }) 0

pub take-requires-clause-same : goal.take-requires-clause-same
take-requires-clause-same g c = emptied_at c.loop-change.told c.args.ahead.now c.meet-meet.result.0
    (c.requires.ahead.whose ∙ sym c.loop-change.invariant.taking.mix.told.whose)

pub take-requires-clause-later : goal.take-requires-clause-later
take-requires-clause-later g c =
    let cs = c.args.changes.now in
    let v = c.loop-change.invariant in
    let k = c.meet-meet.result.0 in
    let now = c.loop-change.told in
    let t = c.args.ahead.now in
    let m : Mentions cs k = subst (Mentions cs) (sym c.meet-meet.ensures)
    (mention_at cs c.loop-change.change-index none c.loop-change-test.true) in
    let l : k < length now = let a = c.requires.there k m in let n = v.amount in omega (arith, a, n) in
    let less : length_of (slot_at t k) ≤ length_of (slot_at now k) =
    let a = c.duration.ensures in let b = c.duration-in-loop-change.ensures in let d = c.if-duration.true in
    omega (arith, a, b, d) in
    later_told c.args.inst.now now t c.args.told.now k v.taking.mix.told c.requires.ahead c.requires.told l
    (less_short now t c.args.told.now k l less v.short)

pub take-requires-clause-elsewhere : goal.take-requires-clause-elsewhere
take-requires-clause-elsewhere g c = same_but c.args.places c.args.inst.now c.args.told.now c.args.ahead.now
    c.loop-change.told c.loop-change.invariant.taking.mix c.requires.elsewhere c.meet-meet.result.0

pub loop-change-preserved : goal.loop-change-preserved
loop-change-preserved g c =
    let p = c.args.inst.now in
    let cs = c.args.changes.now in
    let v = c.loop-change.invariant in
    let i = c.loop-change.change-index in
    let k = c.meet-meet.result.0 in
    let now = c.loop-change.told in
    let t = c.args.ahead.now in
    let first = c.args.told.now in
    let served = g.K.Keeper.serves_kind in
    let hears = g.W.Waits.hears in
    let waits = g.W.Waits.waits in
    let m : Mentions cs k = subst (Mentions cs) (sym c.meet-meet.ensures)
    (mention_at cs i none c.loop-change-test.true) in
    let l : k < length now = let a = c.requires.there k m in let n = v.amount in omega (arith, a, n) in
    elim c.if-duration.branch [
      | then-duration w ↦
          let less : length_of (slot_at t k) ≤ length_of (slot_at now k) =
          let a = c.duration.ensures in let b = c.duration-in-loop-change.ensures in let d = w.if-duration.true in
          omega (arith, a, b, d) in
          let short = less_short now t first k l less v.short in
          let later = later_told p now t first k v.taking.mix.told c.requires.ahead c.requires.told l short in
          let e = w.take.ensures in
          let is : c.if-duration.told ≡ slice_set now k (slot_at t k) = w.told-is ∙ e.told in
          let wait : waits c.if-duration.waits ≡ waits w.take.new.waits = ap waits w.waits-is in
          record {
            keeps = subst (λ x. g.K.Keeper.Keeps x p c.if-duration.told) (sym w.keeper-is)
                (subst (λ (u : List Slot). g.K.Keeper.Keeps w.take.new.keeper p u) (sym w.told-is) e.keeps);
            taking = subst (λ (f : ℕ → Bool). IsTaking p first t c.if-duration.told cs served hears
                (waits c.args.waits.now) f)
                (sym wait)
                (subst (λ (u : List Slot). IsTaking p first t u cs served hears (waits c.args.waits.now)
                (waits w.take.new.waits)) (sym is)
                (taking_more p first t now cs served hears (waits c.args.waits.now) (waits c.loop-change.waits)
                (waits w.take.new.waits) k v.taking m l later e.kept
                (subst (λ (u : List Slot). hears ≡ true → AreUnmoved p served (waits w.take.new.waits) now u) e.told
                e.unmoved) e.watchers));
            amount = ap length is ∙ length-set now k (slot_at t k) ∙ v.amount;
            short = subst (λ (u : List Slot). (j : ℕ) → length_of (slot_at u j) ≤ length_of (slot_at first j)) (sym is)
                short;
            done = subst (λ (u : List Slot). (j : ℕ) → Mentions (take (i + 1) cs) j
                → length_of (slot_at u j) ≤ length_of (slot_at t j)) (sym is)
                (less_done cs i none now (slice_set now k (slot_at t k)) t c.loop-change-test.true v.done
                (less_stays now t k l)
                (subst (λ j. length_of (slot_at (slice_set now k (slot_at t k)) j) ≤ length_of (slot_at t j))
                c.meet-meet.ensures (taken_least now t k l)));
            monitors = ap g.W.Waits.monitors w.waits-is ∙ e.monitors ∙ v.monitors;
          }
      | else-duration w ↦
          let least : length_of (slot_at now k) ≤ length_of (slot_at t k) =
          let a = c.duration.ensures in let b = c.duration-in-loop-change.ensures in let d = w.if-duration.false in
          omega (arith, a, b, d) in
          record {
            keeps = subst (λ x. g.K.Keeper.Keeps x p c.if-duration.told) (sym w.keeper-is)
                (subst (λ (u : List Slot). g.K.Keeper.Keeps c.loop-change.keeper p u) (sym w.told-is) v.keeps);
            taking = subst (λ (f : ℕ → Bool). IsTaking p first t c.if-duration.told cs served hears
                (waits c.args.waits.now) f)
                (sym (ap waits w.waits-is))
                (subst (λ (u : List Slot). IsTaking p first t u cs served hears (waits c.args.waits.now)
                (waits c.loop-change.waits)) (sym w.told-is) v.taking);
            amount = ap length w.told-is ∙ v.amount;
            short = subst (λ (u : List Slot). (j : ℕ) → length_of (slot_at u j) ≤ length_of (slot_at first j))
                (sym w.told-is) v.short;
            done = subst (λ (u : List Slot). (j : ℕ) → Mentions (take (i + 1) cs) j
                → length_of (slot_at u j) ≤ length_of (slot_at t j)) (sym w.told-is)
                (less_done cs i none now now t c.loop-change-test.true v.done (λ j h. h)
                (subst (λ j. length_of (slot_at now j) ≤ length_of (slot_at t j)) c.meet-meet.ensures least));
            monitors = ap g.W.Waits.monitors w.waits-is ∙ v.monitors;
          }
    ]
