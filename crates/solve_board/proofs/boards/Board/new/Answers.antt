-- A new board keeps the rule.
use Rattle.solve_board.proofs.Opening as opening
use Rattle.solve_board.proofs.boards.Board.new.Goals as goal

pub of_words-requires : goal.of_words-requires
of_words-requires c = opening.begins c.args.jobs c.requires
