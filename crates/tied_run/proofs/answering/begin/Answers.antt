-- What the timetable answers is the answer to the command.
use Rattle.script_run.proofs.PlayLaws.{on_text}
use Rattle.tied_run.specs.Plays.{tied_play_of}
use Rattle.tied_run.proofs.PlayLaws.{begin_answer, begin_played}
use Rattle.tied_run.proofs.answering.begin.Goals as goal

pub returns-clause-played : goal.returns-clause-played
returns-clause-played g c = let e = c.begin-done.ensures in
    begin_played c.args.tied.now.parts c.args.tied.now c.begin-done.new.self c.begin-done.result e.refused e.only e.now e.ok e.err

pub returns-clause-text : goal.returns-clause-text
returns-clause-text g c = on_text c.push_mark.result _ _ _ _
    (let e = c.begin-done.ensures in begin_answer c.args.tied.now.parts (tied_play_of c.args.tied.now)
    c.begin-done.result e.refused e.only) c.push_mark.ensures
