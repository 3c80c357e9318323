-- Where a text is not passed on, what was written is a first part.
use Rattle.std.proofs.Common.{◌++◌, ◌+◌, subst, drop}
use Rattle.std.specs.List.{concat}
use Rattle.khe_io.specs.Amid.{IsAmid}
use Rattle.khe_io.proofs.AmidLemmas.{always-err, err-of}
use Rattle.reading_commands.proofs.WindowLemmas.{first_text}
use Rattle.reading_commands.proofs.reports.write_texts.Goals as goal

pub returns-in_err-pass_on-clause-front : goal.returns-in_err-pass_on-clause-front
returns-in_err-pass_on-clause-front g c = λ before whole (rest, h).
    let made = c.args.made.now in
    let i = c.loop-one.one-index in
    always-err c.from_residual.result
    (err-of c.pass_on.result c.in_err-pass_on.field-0.0 c.in_err-pass_on.was
    (c.pass_on.ensures.front before (concat (drop (i + 1) made) ++ rest) whole
    (subst (λ t. IsAmid before (g.K.Sink.taken c.loop-one.out) c.loop-one.text t whole)
    (first_text made i c.one-item.result rest c.loop-one-test.true c.one-item.is)
    (c.loop-one.invariant.amid before rest whole h))))
