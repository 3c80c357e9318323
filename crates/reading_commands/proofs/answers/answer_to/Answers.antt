-- What was taken is what stands under the name.
use Rattle.reading_commands.proofs.AnswerLemmas.{stands-answer, stands-only}
use Rattle.reading_commands.proofs.answers.answer_to.Goals as goal

pub returns-in_ok-answer_of-in-Ok-clause-answer : goal.returns-in_ok-answer_of-in-Ok-clause-answer
returns-in_ok-answer_of-in-Ok-clause-answer g c =
    stands-answer (g.S.Shelf.holdings c.args.shelf.now) c.args.name.now c.in-Ok.bytes c.in_ok-answer_of-in-Ok.field-0
    c.in-Ok.ensures.whole
    c.in_ok-answer_of-in-Ok.ensures.answer

pub returns-in_ok-answer_of-in-Ok-clause-only : goal.returns-in_ok-answer_of-in-Ok-clause-only
returns-in_ok-answer_of-in-Ok-clause-only g c =
    stands-only (g.S.Shelf.holdings c.args.shelf.now) c.args.name.now c.in-Ok.bytes c.in_ok-answer_of-in-Ok.field-0
    c.in-Ok.ensures.whole
    c.in_ok-answer_of-in-Ok.ensures.only
