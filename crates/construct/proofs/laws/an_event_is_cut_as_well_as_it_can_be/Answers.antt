-- The laws of cuts.
use Rattle.construct.proofs.SplitLaws.{cut_well, last_durations}
use Rattle.construct.proofs.laws.an_event_is_cut_as_well_as_it_can_be.Goals as goal

pub returns-clause-parts : goal.returns-clause-parts
returns-clause-parts c = last_durations

pub returns-clause-none : goal.returns-clause-none
returns-clause-none c = cut_well
