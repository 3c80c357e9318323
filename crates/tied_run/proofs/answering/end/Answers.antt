-- What the timetable answers is the answer to the command.
use Rattle.script_run.proofs.PlayLaws.{on_text}
use Rattle.tied_run.specs.Plays.{tied_play_of}
use Rattle.tied_run.proofs.PlayLaws.{end_answer, end_played}
use Rattle.tied_run.proofs.answering.end.Goals as goal

pub returns-clause-played : goal.returns-clause-played
returns-clause-played g c = let e = c.end-done.ensures in
    end_played c.args.tied.now.parts c.args.tied.now c.end-done.new.self e.now e.saved

pub returns-clause-text : goal.returns-clause-text
returns-clause-text g c = on_text c.push_mark.result _ _ _ _
    (let e = c.end-done.ensures in end_answer c.args.tied.now.parts (tied_play_of c.args.tied.now)
    c.end-done.result e.refused e.only) c.push_mark.ensures
