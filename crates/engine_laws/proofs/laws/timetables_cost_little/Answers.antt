-- By the laws on states.
use Rattle.khe_engine.proofs.SmallLaws.{timetables_little}
use Rattle.engine_laws.proofs.laws.timetables_cost_little.Goals as goal

pub returns : goal.returns
returns c = timetables_little
