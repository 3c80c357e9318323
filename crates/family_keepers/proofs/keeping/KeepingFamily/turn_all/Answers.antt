-- The slot of the only change is taken over; or those that get shorter are, and then all others: then the state is
-- the one that was told.
use Rattle.std.proofs.Common.{◌∙◌, List, ap, arith, slice_get, subst, sym}
use Rattle.khe_told.specs.Changes.{after_all}
use Rattle.khe_told.specs.declared.changes.Change.{Change}
use Rattle.khe_told.specs.declared.changes.Change.TheVariants.{Add}
use Rattle.khe_told.specs.Fits.{AreTold}
use Rattle.khe_told.specs.Slots.{slot_at}
use Rattle.khe_told.specs.declared.slots.Slot.{Slot}
use Rattle.khe_told.proofs.SlotLaws.{told_after}
use Rattle.family_keepers.specs.Takes.{Mentions}
use Rattle.family_keepers.proofs.TakeLaws.{all_short, mention_at, mentioned_there, same_but, same_length, taken_over}
use Rattle.family_keepers.proofs.TakeLaws.{watchers_joined, watchers_one}
use Rattle.family_keepers.proofs.WatchLaws.{watchers_of}
use Rattle.family_keepers.proofs.keeping.KeepingFamily.turn_all.Goals as goal

abbrev none : Change
none = Add (record { 0 = 0 }) 0

pub returns-then-changes-eq1-clause-watchers : goal.returns-then-changes-eq1-clause-watchers
returns-then-changes-eq1-clause-watchers g c =
    let p = c.args.inst.now in
    let s = c.args.self.now.told in
    let cs = c.args.changes.now in
    let t = c.note_all.new.told in
    let waits = g.W.Waits.waits in
    let leads = c.note_all.ensures ∙ ap (λ (x : List Slot). after_all x cs) c.requires.of.1 in
    let told = subst (AreTold p) (sym leads) (told_after p s cs c.requires.of.2 c.requires.fit) in
    let one = c.if-changes-eq1.true in
    watchers_of p s t cs (waits c.args.waits.now) (waits c.take.new.waits) c.requires.of.2 c.requires.fit leads
    (λ k m. mentioned_there p s cs k c.requires.fit m) (told.whose ∙ sym c.requires.of.2.whose)
    (watchers_one p s t cs c.meet.result.0 (waits c.args.waits.now) (waits c.take.new.waits)
    (subst (Mentions cs) (sym c.meet.ensures) (mention_at cs 0 none (omega (arith, one)))) c.take.ensures.watchers)

pub take-requires-clause-elsewhere : goal.take-requires-clause-elsewhere
take-requires-clause-elsewhere g c = λ j n.
    (let leads = c.note_all.ensures ∙ ap (λ (x : List Slot). after_all x c.args.changes.now) c.requires.of.1 in
    c.of-places.ensures c.args.self.now.told c.meet.result.0 j n
    ∙ ap (λ (x : List Slot). slice_get (slot_at x c.meet.result.0).given j) (sym leads))

pub take_shorter-requires-clause-ahead : goal.take_shorter-requires-clause-ahead
take_shorter-requires-clause-ahead g c =
    let p = c.args.inst.now in
    let s = c.args.self.now.told in
    let cs = c.args.changes.now in
    subst (AreTold p) (sym (c.note_all.ensures ∙ ap (λ (x : List Slot). after_all x cs) c.requires.of.1))
    (told_after p s cs c.requires.of.2 c.requires.fit)

pub take_shorter-requires-clause-there : goal.take_shorter-requires-clause-there
take_shorter-requires-clause-there g c = λ k m.
    mentioned_there c.args.inst.now c.args.self.now.told c.args.changes.now k c.requires.fit m

pub take_shorter-requires-clause-elsewhere : goal.take_shorter-requires-clause-elsewhere
take_shorter-requires-clause-elsewhere g c = λ k j n.
    (let leads = c.note_all.ensures ∙ ap (λ (x : List Slot). after_all x c.args.changes.now) c.requires.of.1 in
    c.of-places.ensures c.args.self.now.told k j n
    ∙ ap (λ (x : List Slot). slice_get (slot_at x k).given j) (sym leads))

pub take_all-requires-clause-elsewhere : goal.take_all-requires-clause-elsewhere
take_all-requires-clause-elsewhere g c =
    let s = c.args.self.now.told in
    let leads = c.note_all.ensures ∙ ap (λ (x : List Slot). after_all x c.args.changes.now) c.requires.of.1 in
    same_but c.of-places.result c.args.inst.now s c.note_all.new.told c.take_shorter.new.told
    c.take_shorter.ensures.mix
    (λ k j n. c.of-places.ensures s k j n
    ∙ ap (λ (x : List Slot). slice_get (slot_at x k).given j) (sym leads))

pub take_all-requires-clause-ahead : goal.take_all-requires-clause-ahead
take_all-requires-clause-ahead g c =
    let p = c.args.inst.now in
    let s = c.args.self.now.told in
    let cs = c.args.changes.now in
    subst (AreTold p) (sym (c.note_all.ensures ∙ ap (λ (x : List Slot). after_all x cs) c.requires.of.1))
    (told_after p s cs c.requires.of.2 c.requires.fit)

pub take_all-requires-clause-there : goal.take_all-requires-clause-there
take_all-requires-clause-there g c = λ k m.
    let l = mentioned_there c.args.inst.now c.args.self.now.told c.args.changes.now k c.requires.fit m in
    let n = same_length c.take_shorter.new.told c.args.self.now.told
    (c.take_shorter.ensures.mix.told.whose ∙ sym c.requires.of.2.whose) in
    omega (arith, l, n)

pub take_all-requires-clause-shorter : goal.take_all-requires-clause-shorter
take_all-requires-clause-shorter g c =
    let s = c.args.self.now.told in
    let cs = c.args.changes.now in
    all_short c.args.inst.now s c.note_all.new.told c.take_shorter.new.told cs c.requires.fit
    (c.note_all.ensures ∙ ap (λ (x : List Slot). after_all x cs) c.requires.of.1) c.take_shorter.ensures.mix
    c.take_shorter.ensures.shorter

pub returns-clause-of : goal.returns-clause-of
returns-clause-of g c =
    let p = c.args.inst.now in
    let s = c.args.self.now.told in
    let cs = c.args.changes.now in
    let leads = c.note_all.ensures ∙ ap (λ (x : List Slot). after_all x cs) c.requires.of.1 in
    let told = subst (AreTold p) (sym leads) (told_after p s cs c.requires.of.2 c.requires.fit) in (
      c.take_all.ensures.keeps,
      sym (taken_over p s c.note_all.new.told c.take_shorter.new.told c.take_all.new.told cs c.requires.fit leads told
          c.take_shorter.ensures.mix c.take_all.ensures.mix c.take_all.ensures.taken),
      c.take_all.ensures.mix.told,
    )

pub returns-clause-told : goal.returns-clause-told
returns-clause-told g c =
    let p = c.args.inst.now in
    let s = c.args.self.now.told in
    let cs = c.args.changes.now in
    let leads = c.note_all.ensures ∙ ap (λ (x : List Slot). after_all x cs) c.requires.of.1 in
    let told = subst (AreTold p) (sym leads) (told_after p s cs c.requires.of.2 c.requires.fit) in
    taken_over p s c.note_all.new.told c.take_shorter.new.told c.take_all.new.told cs c.requires.fit leads told
    c.take_shorter.ensures.mix c.take_all.ensures.mix c.take_all.ensures.taken ∙ leads

pub returns-clause-watchers : goal.returns-clause-watchers
returns-clause-watchers g c =
    let p = c.args.inst.now in
    let s = c.args.self.now.told in
    let cs = c.args.changes.now in
    let t = c.note_all.new.told in
    let waits = g.W.Waits.waits in
    let leads = c.note_all.ensures ∙ ap (λ (x : List Slot). after_all x cs) c.requires.of.1 in
    let told = subst (AreTold p) (sym leads) (told_after p s cs c.requires.of.2 c.requires.fit) in
    watchers_of p s t cs (waits c.args.waits.now) (waits c.take_all.new.waits) c.requires.of.2 c.requires.fit leads
    (λ k m. mentioned_there p s cs k c.requires.fit m) (told.whose ∙ sym c.requires.of.2.whose)
    (watchers_joined p s t c.take_shorter.new.told cs (waits c.args.waits.now) (waits c.take_shorter.new.waits)
    (waits c.take_all.new.waits) c.take_shorter.ensures.mix c.take_shorter.ensures.watchers c.take_all.ensures.watchers)
