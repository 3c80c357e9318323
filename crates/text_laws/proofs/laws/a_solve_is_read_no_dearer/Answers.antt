-- By the laws on what is written.
use Rattle.text_laws.proofs.RepairedLaws.{solve_no_dearer}
use Rattle.text_laws.proofs.laws.a_solve_is_read_no_dearer.Goals as goal

pub returns : goal.returns
returns c = solve_no_dearer
