-- The answer is that of the state without its ties.
use Rattle.script_run.proofs.PlayLaws.{on_text}
use Rattle.tied_run.specs.Plays.{tied_play_of}
use Rattle.tied_run.proofs.PlayLaws.{asked_answer}
use Rattle.tied_run.proofs.answering.ask.Goals as goal

pub returns-clause-text : goal.returns-clause-text
returns-clause-text g c = on_text c.push_answer.result _ _ _ _
    (asked_answer c.args.tied.now.parts c.engine.result.now.parts c.engine.result.now (tied_play_of c.args.tied.now)
    c.args.command c.requires.question c.engine.ensures.parts c.engine.ensures.state) c.push_answer.ensures.text
