-- Each line by computing.
use Rattle.std.proofs.Common.{[], refl}
use Rattle.word_laws.proofs.ReadExamples.{are_not_read, others_are_not}
use Rattle.command_words.proofs.TableLaws.{unread}
use Rattle.word_laws.proofs.examples.other_words_are_not_read.Goals as goal
use Rattle.word_laws.specs.Examples.{missing, others, out_of_form, out_of_range, twice, unknown}

pub returns-clause-none : goal.returns-clause-none
returns-clause-none c = unread [] refl

pub returns-clause-twice : goal.returns-clause-twice
returns-clause-twice c = are_not_read twice others_are_not.twice_are

pub returns-clause-unknown : goal.returns-clause-unknown
returns-clause-unknown c = are_not_read unknown others_are_not.unknown_are

pub returns-clause-missing : goal.returns-clause-missing
returns-clause-missing c = are_not_read missing others_are_not.missing_are

pub returns-clause-out_of_range : goal.returns-clause-out_of_range
returns-clause-out_of_range c = are_not_read out_of_range others_are_not.out_of_range_are

pub returns-clause-out_of_form : goal.returns-clause-out_of_form
returns-clause-out_of_form c = are_not_read out_of_form others_are_not.out_of_form_are

pub returns-clause-others : goal.returns-clause-others
returns-clause-others c = are_not_read others others_are_not.others_are
