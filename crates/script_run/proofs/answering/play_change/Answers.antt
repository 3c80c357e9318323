-- A line that says nothing has no answer.
use Rattle.std.proofs.Common.{◌∙◌, ◌++◌, ap, sym}
use Rattle.std.proofs.lemmas.List.{append-nil}
use Rattle.script_run.specs.Answers.{answer}
use Rattle.script_run.specs.Plays.{play_of}
use Rattle.script_run.proofs.PlayLaws.{answer_nothing}
use Rattle.script_run.proofs.answering.play_change.Goals as goal

pub returns-in-Nothing-clause-text : goal.returns-in-Nothing-clause-text
returns-in-Nothing-clause-text g c =
    let w = g.E.Edited.world c.args.engine.now in
    let text = c.args.text.now in
    sym (ap (λ xs. text ++ xs) (ap (answer w.parts (play_of w)) c.in-Nothing.is ∙ answer_nothing w.parts (play_of w))
    ∙ append-nil text)
