use Rattle.khe_solution.proofs.EditLaws.{edit_works}
use Rattle.khe_solution.proofs.laws.an_edit_keeps_a_state_valid.Goals as goal

pub returns : goal.returns
returns c = λ p s e v o h. (edit_works p s e v o h).goes.valid
