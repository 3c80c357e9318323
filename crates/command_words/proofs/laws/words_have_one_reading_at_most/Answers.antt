-- Both are what the words are read as.
use Rattle.std.proofs.Common.{◌∙◌, sym}
use Rattle.std.proofs.lemmas.Option.{same_Some}
use Rattle.command_words.proofs.TableLaws.{asked_by_table}
use Rattle.command_words.proofs.laws.words_have_one_reading_at_most.Goals as goal

pub returns : goal.returns
returns c = λ words a b x y. same_Some a b (sym (asked_by_table words a x) ∙ asked_by_table words b y)
