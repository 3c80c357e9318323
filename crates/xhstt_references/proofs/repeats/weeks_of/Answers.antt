-- Where no Id is repeated, the names are those of the part.
use Rattle.xhstt_references.specs.Ids.{is_week}
use Rattle.xhstt_references.proofs.RepeatsLemmas.{part_end}
use Rattle.xhstt_references.proofs.repeats.weeks_of.Goals as goal

pub returns : goal.returns
returns c = part_end (λ g. g.id) _ _ (λ g. is_week g.sort) _ c.loop-group-test.false c.loop-group.invariant
