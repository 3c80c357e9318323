-- The names are given where the judgment found no fault.
use Rattle.xhstt_references.proofs.ToldLemmas.{kept, kept_told}
use Rattle.xhstt_references.proofs.instances.directory.Goals as goal

pub returns-clause-names : goal.returns-clause-names
returns-clause-names c = kept _ _ _ _ c.and.ensures c.judge.ensures.names

pub returns-clause-told : goal.returns-clause-told
returns-clause-told c = kept_told _ _ _ _ c.and.ensures c.judge.ensures.told
