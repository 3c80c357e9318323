-- By the law on the timetable that is found.
use Rattle.text_laws.proofs.MatchedLaws.{match_no_dearer}
use Rattle.text_laws.proofs.laws.a_matching_is_read_no_dearer.Goals as goal

pub returns : goal.returns
returns c = match_no_dearer
