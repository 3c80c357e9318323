-- Filling free slots gives the state back.
use Rattle.parallel_repair.proofs.FillLemmas.{state_is}
use Rattle.parallel_repair.proofs.laws.one_state_has_a_timetable.Goals as goal

pub returns : goal.returns
returns c = state_is
