-- By the commands that read nothing.
use Rattle.outcome_laws.proofs.OutcomeLaws.{does_not_hang, nothing_missing}
use Rattle.outcome_laws.proofs.laws.what_is_not_read_does_not_count.Goals as goal

pub returns-clause-shelf : goal.returns-clause-shelf
returns-clause-shelf c = does_not_hang

pub returns-clause-nothing_missing : goal.returns-clause-nothing_missing
returns-clause-nothing_missing c = nothing_missing
