-- What the timetable answers is the answer to the command.
use Rattle.script_run.proofs.PlayLaws.{on_text}
use Rattle.tied_run.specs.Plays.{tied_play_of}
use Rattle.tied_run.proofs.PlayLaws.{undo_answer, undo_played}
use Rattle.tied_run.proofs.answering.undo.Goals as goal

pub returns-clause-played : goal.returns-clause-played
returns-clause-played g c = let e = c.undo-done.ensures in
    undo_played c.args.tied.now.parts c.args.tied.now c.undo-done.new.self c.undo-done.result e.refused e.only e.ok e.err

pub returns-clause-text : goal.returns-clause-text
returns-clause-text g c = on_text c.push_mark.result _ _ _ _
    (let e = c.undo-done.ensures in undo_answer c.args.tied.now.parts (tied_play_of c.args.tied.now)
    c.undo-done.result e.refused e.only) c.push_mark.ensures
