-- The engine is there, and its answer was cut off.
use Rattle.std.proofs.Common.{◌∙◌, ◌+◌, ◌∷◌, subst, sym}
use Rattle.std.specs.Prelude.{OnErr}
use Rattle.script_run.specs.Added.{IsCutOff}
use Rattle.script_run.specs.Answers as said
use Rattle.script_run.specs.Plays.{play_of}
use Rattle.script_run.specs.Scripts.{either}
use Rattle.script_run.specs.Steps.{owed_by}
use Rattle.script_run.proofs.ScriptLaws.{answers_there, line_cut, on_err, one_there}
use Rattle.script_run.proofs.StepLaws.{line_spent, line_steps}
use Rattle.script_run.proofs.putting_off.PutOffPlayer.play_line.Goals as goal

pub returns-in_err-carry_out-in-Ok-clause-front : goal.returns-in_err-carry_out-in-Ok-clause-front
returns-in_err-carry_out-in-Ok-clause-front g c more =
    let n = c.args.number in
    let line = c.args.line.now in
    let command = c.in-Ok.command in
    let there = one_there (either c.args.self.now.settled c.args.self.now.behind) c.args.self.now.there in
    let w = there.0 in
    let before = g.G.Onward.taken c.args.onward.now in
    let now = g.G.Onward.taken c.carry_out.new.onward in
    let cut = subst (λ r. OnErr r (IsCutOff before now c.args.text.now (said.answer w.parts (play_of w) command)))
    c.in_err-carry_out-in-Ok.was (c.carry_out.ensures.front w there.1) in
    on_err c.from_residual.result (subst (IsCutOff before now c.args.text.now)
    (sym (answers_there (either c.args.self.now.settled c.args.self.now.behind) w n (line ∷ more) there.1))
    (line_cut w.parts (play_of w) n line more command before now c.args.text.now
    (sym c.read_line.ensures ∙ c.in-Ok.is) cut))

pub returns-in_err-carry_out-in-Ok-clause-steps : goal.returns-in_err-carry_out-in-Ok-clause-steps
returns-in_err-carry_out-in-Ok-clause-steps g c = λ more counted.
    let old = either c.args.self.now.settled c.args.self.now.behind in
    let there = one_there old c.args.self.now.there in
    line_steps old there.0 c.args.line.now more c.in-Ok.command
    (c.args.steps.now + owed_by c.args.self.now.behind) (c.carry_out.new.steps + owed_by c.carry_out.new.self.behind)
    there.1 (sym c.read_line.ensures ∙ c.in-Ok.is) (c.carry_out.ensures.steps there.0 there.1)

pub returns-in_ok-carry_out-in-Ok-clause-steps : goal.returns-in_ok-carry_out-in-Ok-clause-steps
returns-in_ok-carry_out-in-Ok-clause-steps g c = λ more counted.
    let old = either c.args.self.now.settled c.args.self.now.behind in
    let there = one_there old c.args.self.now.there in
    line_steps old there.0 c.args.line.now more c.in-Ok.command
    (c.args.steps.now + owed_by c.args.self.now.behind) (c.carry_out.new.steps + owed_by c.carry_out.new.self.behind)
    there.1 (sym c.read_line.ensures ∙ c.in-Ok.is) (c.carry_out.ensures.steps there.0 there.1)

pub returns-in_ok-carry_out-in-Ok-clause-spent : goal.returns-in_ok-carry_out-in-Ok-clause-spent
returns-in_ok-carry_out-in-Ok-clause-spent g c = λ more counted read.
    let old = either c.args.self.now.settled c.args.self.now.behind in
    let there = one_there old c.args.self.now.there in
    let next = c.in_ok-carry_out-in-Ok.ensures.traced there.0 there.1 in
    line_spent old (either c.carry_out.new.self.settled c.carry_out.new.self.behind) there.0 next.0 c.args.line.now more
    c.in-Ok.command (c.args.steps.now + owed_by c.args.self.now.behind)
    (c.carry_out.new.steps + owed_by c.carry_out.new.self.behind) there.1 next.1 (sym c.read_line.ensures ∙ c.in-Ok.is)
    next.2 next.3 (c.carry_out.ensures.steps there.0 there.1)
