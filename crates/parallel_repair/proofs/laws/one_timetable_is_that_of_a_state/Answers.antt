-- The lists of a timetable are those of its state.
use Rattle.parallel_repair.proofs.ListedLemmas.{listed_is}
use Rattle.parallel_repair.proofs.laws.one_timetable_is_that_of_a_state.Goals as goal

pub returns : goal.returns
returns c = listed_is
