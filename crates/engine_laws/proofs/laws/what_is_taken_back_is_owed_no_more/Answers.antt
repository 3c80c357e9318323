-- By the watchers of joined lists.
use Rattle.engine_laws.proofs.OwedLaws.{owed_put}
use Rattle.engine_laws.proofs.laws.what_is_taken_back_is_owed_no_more.Goals as goal

pub returns : goal.returns
returns c = owed_put
