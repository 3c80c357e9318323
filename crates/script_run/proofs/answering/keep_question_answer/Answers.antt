-- Nothing of the answer went on.
use Rattle.script_run.specs.Answers.{question_answer}
use Rattle.script_run.proofs.AddedLaws.{kept_whole}
use Rattle.script_run.proofs.answering.keep_question_answer.Goals as goal

pub returns-in-Ok : goal.returns-in-Ok
returns-in-Ok g c = kept_whole c.args.text.now
    (question_answer c.args.engine.now.parts c.args.engine.now.state c.args.question) c.push_question_answer.new.text
    c.in-Ok.ensures.added
