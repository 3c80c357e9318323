-- A command at a time, both ways.
use Rattle.command_words.proofs.ReadLaws.{not_read, read_by_table}
use Rattle.command_words.proofs.TableLaws.{asked_by_table, unread}
use Rattle.command_words.proofs.laws.words_are_read_by_the_table.Goals as goal

pub returns-clause-read : goal.returns-clause-read
returns-clause-read c = λ words a. (read_by_table words a, asked_by_table words a)

pub returns-clause-unread : goal.returns-clause-unread
returns-clause-unread c = λ words. (unread words, not_read words)
