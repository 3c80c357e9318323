-- Line by line.
use Rattle.match_run.proofs.CommentLaws.{lines_add}
use Rattle.match_run.proofs.laws.lines_are_read_as_nothing.Goals as goal

pub returns : goal.returns
returns c = lines_add
