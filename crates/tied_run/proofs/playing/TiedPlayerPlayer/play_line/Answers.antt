-- What is cut off is a first part of the answers to all lines.
use Rattle.std.proofs.Common.{◌+◌, ◌∙◌, sym}
use Rattle.khe_io.proofs.AmidLemmas.{always-err}
use Rattle.script_run.specs.Faults.{fault_line}
use Rattle.script_run.specs.Scripts.{answers_by}
use Rattle.script_run.proofs.RunLemmas.{cut_answer}
use Rattle.followers.specs.Lines.{tied_reading}
use Rattle.followers.specs.declared.lines.TiedCommand.{TiedCommand}
use Rattle.tied_run.specs.Answers.{tied_answer}
use Rattle.tied_run.specs.Plays.{tied_play_of, tied_played}
use Rattle.tied_run.proofs.playing.TiedPlayerPlayer.play_line.Goals as goal

pub returns-in_err-carry_out-in-Ok-clause-front : goal.returns-in_err-carry_out-in-Ok-clause-front
returns-in_err-carry_out-in-Ok-clause-front g c = λ more.
    let p = c.args.self.now.tied.parts in
    let w = tied_play_of c.args.self.now.tied in
    always-err c.from_residual.result
    (cut_answer (g.G.Onward.taken c.args.onward.now) (g.G.Onward.taken c.carry_out.new.onward) c.args.text.now
    (tied_answer p w)
    (λ (x : TiedCommand). answers_by tied_reading (tied_answer p) (tied_played p) (tied_played p w x)
    (c.args.number + 1) more) (fault_line c.args.number) (tied_reading c.args.line.now) c.in-Ok.command
    (sym c.read_tied_line.ensures ∙ c.in-Ok.is) c.in_err-carry_out-in-Ok.ensures.front)
