-- Each part of an archive with its places 0 is looked at as without.
use Rattle.same_archives.proofs.FaultLaws.{same_resolve, same_resolved}
use Rattle.same_archives.proofs.laws.same_archives_resolve_alike.Goals as goal

pub returns-clause-alike : goal.returns-clause-alike
returns-clause-alike c = same_resolve

pub returns-clause-instances : goal.returns-clause-instances
returns-clause-instances c = same_resolved
