-- By the laws on states.
use Rattle.engine_laws.proofs.StandingLaws.{edits_stand, marks_stand, opened_stand, undone_stand}
use Rattle.engine_laws.proofs.laws.states_stand.Goals as goal

pub returns-clause-opened : goal.returns-clause-opened
returns-clause-opened c = opened_stand

pub returns-clause-edited : goal.returns-clause-edited
returns-clause-edited c = edits_stand

pub returns-clause-marked : goal.returns-clause-marked
returns-clause-marked c = marks_stand

pub returns-clause-undone : goal.returns-clause-undone
returns-clause-undone c = undone_stand
