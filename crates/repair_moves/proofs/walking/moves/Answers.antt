use Rattle.std.proofs.Common.{refl}
use Rattle.repair_moves.proofs.WalkLaws as walks
use Rattle.repair_moves.proofs.walking.moves.Goals as goal

pub returns-clause-first : goal.returns-clause-first
returns-clause-first c = walks.ahead_start _ _ _ refl c.at_start.ensures
