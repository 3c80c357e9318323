-- The turn of the keeper is that of the slot.
use Rattle.std.proofs.Common.{◌<◌, ◌∙◌, ap, length, subst, sym}
use Rattle.std.specs.Prelude.{slice_set}
use Rattle.khe_base.specs.declared.numbers.MeetId.{MeetId}
use Rattle.khe_told.specs.Fits.{AreTold}
use Rattle.khe_told.specs.Slots.{emptied, slot_at}
use Rattle.khe_told.specs.Turns.{AreWatchers, SlotTurn}
use Rattle.family_keepers.proofs.keeping.take.Goals as goal

pub turn-requires-clause-turns : goal.turn-requires-clause-turns
turn-requires-clause-turns g c =
    let e = c.turn_to-turn.ensures.turn in
    let n = ap (λ (m : MeetId). m.0) c.turn_to-turn.ensures.number in
    let before = ap (λ (t : SlotTurn). t.before) e in
    record {
      there = subst (λ k. k < length c.args.told.now) (sym n) c.requires.there;
      slot = ap (slot_at c.args.told.now) n ∙ sym before;
      same = ap (λ (t : SlotTurn). emptied t.after) e ∙ c.requires.same ∙ sym (ap emptied before);
      told = c.requires.told;
      later = subst (AreTold c.args.inst.now)
          (sym (λ i. slice_set c.args.told.now (n i) ((e i).after))) c.requires.later;
    }

pub returns-clause-watchers : goal.returns-clause-watchers
returns-clause-watchers g c =
    subst (λ t. AreWatchers c.args.inst.now t (g.W.Waits.waits c.args.waits.now) (g.W.Waits.waits c.turn.new.waits))
    c.turn_to-turn.ensures.turn c.turn.ensures.watchers
