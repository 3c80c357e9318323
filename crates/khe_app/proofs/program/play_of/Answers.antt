-- The archive, then its solution, then the script.
use Rattle.std.proofs.Common.{IfSome, subst}
use Rattle.std.proofs.lemmas.Result.{IfOk-weaker}
use Rattle.khe_app.specs.Answers.{IsPlayAnswer, IsReadyPlay, IsScriptOf, IsWith}
use Rattle.reading_commands.specs.Answers.{IsAnswerOf, IsOnlyAnswerOf}
use Rattle.archive_reading.specs.Starting.{IsBarredBy, start_of}
use Rattle.reading_commands.specs.Ends.{Holdings}
use Rattle.reading_commands.specs.declared.answers.Answer.{Answer}
use Rattle.reading_commands.specs.declared.answers.Answer.TheVariants.{Read}
use Rattle.khe_app.proofs.PlayEnds.{barred_as, play_script, with_ready}
use Rattle.khe_app.proofs.program.play_of.Goals as goal

pub returns-in-Ok-clause-play : goal.returns-in-Ok-clause-play
returns-in-Ok-clause-play g c =
    let h = g.S.Shelf.holdings c.args.shelf.now in
    let name = c.args.name.now in
    let script = c.args.script.now in
    let read = c.in-Read.read in
    let begun = c.in-Ok.begun in
    let is : IfSome h (λ under. IsAnswerOf (under name) (Read read)) =
    subst (λ (x : Answer). IfSome h (λ under. IsAnswerOf (under name) x)) c.in-Read.is
    c.in_ok-refusal.ensures.answer in
    let only : IfSome h (λ under. IsOnlyAnswerOf (under name) (Read read)) =
    subst (λ (x : Answer). IfSome h (λ under. IsOnlyAnswerOf (under name) x)) c.in-Read.is
    c.in_ok-refusal.ensures.only in
    IfOk-weaker c.script_under.result (λ a. IfSome (g.S.Shelf.holdings c.answer_to.new.shelf)
    (λ under. IsScriptOf begun (under script) a))
    (λ a. IfSome h (λ under. IsPlayAnswer c.args.tied c.args.number (under name) (under script) a))
    (λ a k. play_script c.args.tied h name c.args.number script read begun a is only c.in-Ok.ensures.begun
    (subst (λ (x : Holdings). IfSome x (λ under. IsScriptOf begun (under script) a)) c.answer_to.ensures.unchanged k))
    c.script_under.ensures.play

pub returns-in-Ok-clause-ready : goal.returns-in-Ok-clause-ready
returns-in-Ok-clause-ready g c =
    let read = c.in-Read.read in
    IfOk-weaker c.script_under.result (IsWith c.in-Ok.begun) IsReadyPlay
    (λ a w. with_ready (start_of read.archive read.resolved c.args.number) c.in-Ok.begun a c.in-Ok.ensures.begun w)
    c.script_under.ensures.held

pub returns-in-Err-Refused-clause-play : goal.returns-in-Err-Refused-clause-play
returns-in-Err-Refused-clause-play g c =
    let h = g.S.Shelf.holdings c.args.shelf.now in
    let name = c.args.name.now in
    let read = c.in-Read.read in
    let is : IfSome h (λ under. IsAnswerOf (under name) (Read read)) =
    subst (λ (x : Answer). IfSome h (λ under. IsAnswerOf (under name) x)) c.in-Read.is
    c.in_ok-refusal.ensures.answer in
    let only : IfSome h (λ under. IsOnlyAnswerOf (under name) (Read read)) =
    subst (λ (x : Answer). IfSome h (λ under. IsOnlyAnswerOf (under name) x)) c.in-Read.is
    c.in_ok-refusal.ensures.only in
    let bar = subst (IsBarredBy (start_of read.archive read.resolved c.args.number)) c.in-Err-Refused.field-0-is
    c.in-Err-Refused.ensures.barred in
    barred_as c.args.tied h name c.args.number c.args.script.now read c.in-Err-Refused.refusal _ is only bar (let e : _ = cc in e)
