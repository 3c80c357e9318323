-- By the names of the table.
use Rattle.edit_script.proofs.KeywordLaws.{others_unknown}
use Rattle.edit_script.proofs.examples.other_words_are_unknown.Goals as goal

pub returns : goal.returns
returns c = others_unknown
