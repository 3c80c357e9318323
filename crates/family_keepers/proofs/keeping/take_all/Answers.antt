use Rattle.std.proofs.Common.{ℕ, ◌≡◌, ◌≤◌, ◌<◌, ◌+◌, ◌∙◌, ap, take, true, arith, length, subst, sym, slice_set}
use Rattle.khe_told.specs.Slots.{length_of, slot_at}
use Rattle.khe_told.specs.declared.changes.Change.TheVariants.{Add}
use Rattle.khe_told.specs.declared.slots.Slot.{Slot}
use Rattle.khe_told.specs.declared.changes.Change.{Change}
use Rattle.std.specs.Prelude.{List}
use Rattle.std.proofs.lemmas.List.{length-set}
use Rattle.khe_told.specs.Waits.{AreUnmoved}
use Rattle.family_keepers.specs.Takes.{Mentions}
use Rattle.family_keepers.proofs.TakeLaws.{IsTaking, later_taken, mention_at, same_but, taken_done, taken_short}
use Rattle.family_keepers.proofs.TakeLaws.{taking_more}
use Rattle.family_keepers.proofs.WatchLaws.{emptied_at}
use Rattle.family_keepers.proofs.keeping.take_all.Goals as goal

abbrev none : Change
none = Add (record { 0 = 0 }) 0

pub take_new-requires-clause-there : goal.take_new-requires-clause-there
take_new-requires-clause-there g c =
    let cs = c.args.changes.now in
    let m = subst (Mentions cs) (sym c.meet-meet.ensures)
    (mention_at cs c.loop-change.change-index none c.loop-change-test.true) in
    let l = c.requires.there c.meet-meet.result.0 m in
    let n = c.loop-change.invariant.amount in
    omega (arith, l, n)

pub take_new-requires-clause-same : goal.take_new-requires-clause-same
take_new-requires-clause-same g c = emptied_at c.loop-change.told c.args.ahead.now c.meet-meet.result.0
    (c.requires.ahead.whose ∙ sym c.loop-change.invariant.taking.mix.told.whose)

pub take_new-requires-clause-later : goal.take_new-requires-clause-later
take_new-requires-clause-later g c =
    let cs = c.args.changes.now in
    let v = c.loop-change.invariant in
    let m = subst (Mentions cs) (sym c.meet-meet.ensures)
    (mention_at cs c.loop-change.change-index none c.loop-change-test.true) in
    let l = c.requires.there c.meet-meet.result.0 m in
    let n = v.amount in
    later_taken c.args.inst.now c.loop-change.told c.args.ahead.now c.meet-meet.result.0 v.taking.mix.told
    c.requires.ahead
    (omega (arith, l, n)) v.short

pub take_new-requires-clause-elsewhere : goal.take_new-requires-clause-elsewhere
take_new-requires-clause-elsewhere g c = same_but c.args.places c.args.inst.now c.args.told.now c.args.ahead.now
    c.loop-change.told c.loop-change.invariant.taking.mix c.requires.elsewhere c.meet-meet.result.0

pub loop-change-preserved : goal.loop-change-preserved
loop-change-preserved g c =
    let cs = c.args.changes.now in
    let v = c.loop-change.invariant in
    let k = c.meet-meet.result.0 in
    let now = c.loop-change.told in
    let t = c.args.ahead.now in
    let e = c.take_new.ensures in
    let m : Mentions cs k =
    subst (Mentions cs) (sym c.meet-meet.ensures)
    (mention_at cs c.loop-change.change-index none c.loop-change-test.true) in
    let l : k < length now = let a = c.requires.there k m in let n = v.amount in omega (arith, a, n) in
    let later = later_taken c.args.inst.now now t k v.taking.mix.told c.requires.ahead l v.short in
    let took = slice_set now k (slot_at t k) in
    record {
      keeps = e.keeps;
      taking = subst (λ (u : List Slot). IsTaking c.args.inst.now c.args.told.now t u cs g.K.Keeper.serves_kind
          g.W.Waits.hears (g.W.Waits.waits c.args.waits.now) (g.W.Waits.waits c.take_new.new.waits)) (sym e.told)
          (taking_more c.args.inst.now c.args.told.now t now cs g.K.Keeper.serves_kind g.W.Waits.hears
          (g.W.Waits.waits c.args.waits.now) (g.W.Waits.waits c.loop-change.waits)
          (g.W.Waits.waits c.take_new.new.waits) k
          v.taking m l later e.kept
          (subst (λ (u : List Slot). g.W.Waits.hears ≡ true
          → AreUnmoved c.args.inst.now g.K.Keeper.serves_kind (g.W.Waits.waits c.take_new.new.waits) now u) e.told
          e.unmoved)
          e.watchers);
      amount = ap length e.told ∙ length-set now k (slot_at t k) ∙ v.amount;
      short = subst (λ (u : List Slot). (j : ℕ) → length_of (slot_at u j) ≤ length_of (slot_at t j)) (sym e.told)
          (taken_short now t k l v.short);
      done = subst (λ (u : List Slot). (j : ℕ) → Mentions (take (c.loop-change.change-index + 1) cs) j
          → slot_at u j ≡ slot_at t j) (sym e.told)
          (taken_done cs c.loop-change.change-index none now t k c.loop-change-test.true (sym c.meet-meet.ensures) l
          v.done);
      taken = e.taken;
      monitors = e.monitors ∙ v.monitors;
    }
