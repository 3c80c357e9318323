-- By the laws on states.
use Rattle.engine_laws.proofs.laws.states_cost_little.Goals as goal
use Rattle.khe_engine.proofs.SmallLaws.{states_little}

pub returns : goal.returns
returns c = λ p s made stands. states_little p s made stands.slots.told stands.groups
