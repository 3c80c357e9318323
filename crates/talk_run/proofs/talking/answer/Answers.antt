-- Nothing waits before and after an answer.
use Rattle.std.proofs.Common.{◌+◌, ◌∷◌, sym, subst}
use Rattle.khe_io.proofs.AmidLemmas.{always-err, one-err, one-ok}
use Rattle.khe_io.specs.Faults.{TookFront}
use Rattle.talk_run.specs.Between.{IsBetween}
use Rattle.talk_run.proofs.BetweenLemmas.{between_cut, between_flush}
use Rattle.talk_run.proofs.talking.answer.Goals as goal

pub returns-in_err-answer_line-clause-front : goal.returns-in_err-answer_line-clause-front
returns-in_err-answer_line-clause-front g c = λ before more whole h.
    let now = g.K.Sink.taken c.args.out.now in
    let ahead = g.T.Talker.said c.args.talker.now c.args.number (c.args.line.now ∷ more) in
    always-err c.from_residual.result {P = TookFront before (g.K.Sink.taken c.answer_line.new.out) whole}
    (c.in_err-answer_line.ensures.front before more whole
    (subst (λ t. IsBetween before now t ahead whole) (sym c.new-text.ensures) h))

pub returns-clause-answered : goal.returns-clause-answered
returns-clause-answered g c = λ before more whole h.
    let now = g.K.Sink.taken c.args.out.now in
    let ahead = g.T.Talker.said c.args.talker.now c.args.number (c.args.line.now ∷ more) in
    let mid = c.in_ok-answer_line.ensures.answered before more whole
    (subst (λ t. IsBetween before now t ahead whole) (sym c.new-text.ensures) h) in
    one-ok c.flush.result c.flush.ensures.taken
    (between_flush before (g.K.Sink.taken c.answer_line.new.out) (g.K.Sink.taken c.flush.new.out)
    c.answer_line.new.text (g.T.Talker.said c.answer_line.new.self (c.args.number + 1) more) whole mid)

pub returns-clause-front : goal.returns-clause-front
returns-clause-front g c = λ before more whole h.
    let now = g.K.Sink.taken c.args.out.now in
    let ahead = g.T.Talker.said c.args.talker.now c.args.number (c.args.line.now ∷ more) in
    let mid = c.in_ok-answer_line.ensures.answered before more whole
    (subst (λ t. IsBetween before now t ahead whole) (sym c.new-text.ensures) h) in
    one-err c.flush.result c.flush.ensures.front
    (between_cut before (g.K.Sink.taken c.answer_line.new.out) (g.K.Sink.taken c.flush.new.out)
    c.answer_line.new.text (g.T.Talker.said c.answer_line.new.self (c.args.number + 1) more) whole mid)
