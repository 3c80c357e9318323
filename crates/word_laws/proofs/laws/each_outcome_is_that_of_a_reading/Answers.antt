-- By the reading of the words, or by there being none.
use Rattle.word_laws.proofs.OutcomeLaws.{outcome_by_table, table_outcome}
use Rattle.word_laws.proofs.laws.each_outcome_is_that_of_a_reading.Goals as goal

pub returns : goal.returns
returns c = λ words under status text.
    (outcome_by_table words under status text, table_outcome words under status text)
