-- Each part of an archive with its places 0 is looked at as without.
use Rattle.same_archives.proofs.SpellingLaws.{same_spelling}
use Rattle.same_archives.proofs.laws.same_archives_are_written_alike.Goals as goal

pub returns : goal.returns
returns c = same_spelling
