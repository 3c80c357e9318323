-- The set is made of the numbers.
use Rattle.xhstt_resolve.proofs.GroupedSetsLemmas.{kept_made}
use Rattle.xhstt_resolve.proofs.grouped_sets.kept_set.Goals as goal

pub returns : goal.returns
returns c = kept_made c.args.size c.args.numbers.now c.in_ok-new_set.field-0 c.in_ok-new_set.ensures
