-- What a run on the engine that was opened wrote.
use Rattle.std.proofs.Common.{inr, subst}
use Rattle.std.specs.Prelude.{OnErr, OnOk, encode_utf8_all}
use Rattle.edit_script.specs.Lines.{lines}
use Rattle.khe_io.specs.Faults.{Took, TookFront}
use Rattle.script_run.proofs.ScriptLaws.{answers_there}
use Rattle.script_run.specs.Scripts.{either}
use Rattle.khe_app.proofs.ScriptEnds.{run_faultless, run_written}
use Rattle.khe_app.proofs.scripts.play_on.Goals as goal

pub returns-in-Ok-clause-written : goal.returns-in-Ok-clause-written
returns-in-Ok-clause-written g c =
    let before = g.K.Sink.taken c.args.out.now in
    let after = g.K.Sink.taken c.run-ended.new.out in
    let e = c.run-ended.ensures in
    let player = c.new-player.result in
    let same = answers_there (either player.settled player.behind) c.in-Ok.engine 1 (lines c.args.script.now)
    c.new-player.ensures.there in
    inr (run_written c.args.inst.now c.args.plain.now c.in-Ok.engine c.args.script.now c.run-ended.result before after
    (g.K.Sink.faults c.args.out.now) (g.K.Sink.faults c.run-ended.new.out) c.status_after.result.0
    c.in-Ok.ensures.parts c.in-Ok.ensures.state c.in-Ok.ensures.saved e.read
    (subst (λ text. OnOk c.run-ended.result (Took before after (encode_utf8_all text))) same e.whole)
    (subst (λ text. OnErr c.run-ended.result (TookFront before after (encode_utf8_all text))) same e.front) e.fault
    c.status_after.ensures)

pub returns-in-Ok-clause-write_fault_ends : goal.returns-in-Ok-clause-write_fault_ends
returns-in-Ok-clause-write_fault_ends g c =
    run_faultless c.run-ended.result (g.K.Sink.faults c.args.out.now) (g.K.Sink.faults c.run-ended.new.out)
    c.status_after.result.0 c.run-ended.ensures.faultless c.run-ended.ensures.faultless_starved c.status_after.ensures
