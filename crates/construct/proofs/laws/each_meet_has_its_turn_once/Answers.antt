-- By the durations, from the longest on.
use Rattle.construct.proofs.OnceLaws.{each_once}
use Rattle.construct.proofs.laws.each_meet_has_its_turn_once.Goals as goal

pub returns-clause-once : goal.returns-clause-once
returns-clause-once c = each_once

pub returns-clause-begun : goal.returns-clause-begun
returns-clause-begun c = λ p s m is. each_once p s.slots m is.told
