-- What the timetable answers is the answer to the command.
use Rattle.script_run.proofs.PlayLaws.{on_text}
use Rattle.tied_run.specs.Plays.{tied_play_of}
use Rattle.tied_run.proofs.PlayLaws.{mark_answer, number_played}
use Rattle.tied_run.proofs.answering.undo_to.Goals as goal

pub returns-clause-played : goal.returns-clause-played
returns-clause-played g c = let e = c.undo_to-done.ensures in
    number_played c.args.tied.now.parts c.args.tied.now c.undo_to-done.new.self c.args.k c.undo_to-done.result e.accepted e.refused e.now e.saved e.err

pub returns-clause-text : goal.returns-clause-text
returns-clause-text g c = on_text c.push_mark.result _ _ _ _
    (let e = c.undo_to-done.ensures in mark_answer c.args.tied.now.parts (tied_play_of c.args.tied.now) c.args.k
    c.undo_to-done.result e.accepted e.refused) c.push_mark.ensures
