-- Each part of an archive with its places 0 is looked at as without.
use Rattle.same_archives.proofs.SolutionLaws.{same_completed}
use Rattle.same_archives.proofs.laws.same_archives_complete_alike.Goals as goal

pub returns : goal.returns
returns c = same_completed
