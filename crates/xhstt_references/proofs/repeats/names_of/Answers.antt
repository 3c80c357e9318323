-- Names one by one.
use Rattle.xhstt_references.proofs.RepeatsLemmas.{names_step, places_step, names_end, places_end}
use Rattle.xhstt_references.proofs.repeats.names_of.Goals as goal

pub loop-item-preserved : goal.loop-item-preserved
loop-item-preserved g c =
    let id = g.T.HasId.id in
    let adds = c.in_ok-note_repeated.ensures.names in
    let notes = c.in_ok-note_repeated.ensures.first in
    record {
      names = names_step id _ _ _ _ _ _ c.loop-item-test.true c.item-item.is c.id.ensures adds
          c.loop-item.invariant.names;
      first = places_step id _ _ _ _ _ _ _ _ c.loop-item-test.true c.item-item.is c.id.ensures adds notes
          c.loop-item.invariant.first;
    }

pub returns-clause-names : goal.returns-clause-names
returns-clause-names g c = names_end g.T.HasId.id _ _ _ c.loop-item-test.false c.loop-item.invariant.names

pub returns-clause-first : goal.returns-clause-first
returns-clause-first g c = places_end g.T.HasId.id _ _ _ _ c.loop-item-test.false c.loop-item.invariant.first
