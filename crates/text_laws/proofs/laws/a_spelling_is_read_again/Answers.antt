-- By the laws on what is written.
use Rattle.text_laws.proofs.RepairedLaws.{read_again}
use Rattle.text_laws.proofs.laws.a_spelling_is_read_again.Goals as goal

pub returns : goal.returns
returns c = read_again
