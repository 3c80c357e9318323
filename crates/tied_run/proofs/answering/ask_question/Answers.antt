-- The answer is that of the state without its ties.
use Rattle.std.proofs.Common.{OnErr, OnOk, subst}
use Rattle.script_run.specs.Added.{IsAdded, IsCutOff}
use Rattle.tied_run.specs.Plays.{tied_play_of}
use Rattle.tied_run.proofs.PlayLaws.{question_asked}
use Rattle.tied_run.proofs.answering.ask_question.Goals as goal

pub returns-clause-added : goal.returns-clause-added
returns-clause-added g c = subst (λ t. OnOk c.push_question_answer.result (IsAdded (g.G.Onward.taken c.args.onward.now)
    (g.G.Onward.taken c.push_question_answer.new.onward) c.args.text.now t c.push_question_answer.new.text))
    (question_asked c.args.tied.now.parts c.engine.result.now.parts c.engine.result.now (tied_play_of c.args.tied.now)
    c.args.question c.engine.ensures.parts c.engine.ensures.state) c.push_question_answer.ensures.added

pub returns-clause-front : goal.returns-clause-front
returns-clause-front g c = subst (λ t. OnErr c.push_question_answer.result (IsCutOff (g.G.Onward.taken c.args.onward.now)
    (g.G.Onward.taken c.push_question_answer.new.onward) c.args.text.now t))
    (question_asked c.args.tied.now.parts c.engine.result.now.parts c.engine.result.now (tied_play_of c.args.tied.now)
    c.args.question c.engine.ensures.parts c.engine.ensures.state) c.push_question_answer.ensures.front
