use Rattle.talk_run.proofs.ScriptLaw.{as_script}
use Rattle.talk_run.proofs.laws.a_talk_answers_as_a_script.Goals as goal

pub returns-clause-script : goal.returns-clause-script
returns-clause-script c = as_script
