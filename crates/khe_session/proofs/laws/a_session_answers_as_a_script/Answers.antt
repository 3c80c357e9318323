use Rattle.khe_session.proofs.SessionLaws.{as_script_whole, as_talk, spelled_as}
use Rattle.khe_session.proofs.laws.a_session_answers_as_a_script.Goals as goal

pub returns-clause-talk : goal.returns-clause-talk
returns-clause-talk c = as_talk

pub returns-clause-script : goal.returns-clause-script
returns-clause-script c = as_script_whole

pub returns-clause-archive : goal.returns-clause-archive
returns-clause-archive c = spelled_as
