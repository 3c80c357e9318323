-- What waits is taken first, and then the archive.
use Rattle.std.proofs.Common.{[], ◌++◌, subst, sym}
use Rattle.khe_io.specs.Faults.{Took, TookFront}
use Rattle.khe_io.proofs.AmidLemmas.{always-err}
use Rattle.xhstt_shape.specs.declared.records.Archive.{Archive}
use Rattle.xhstt_writer.specs.Archives.{canonical}
use Rattle.talk_run.specs.Answers.{archive_bytes, listed}
use Rattle.talk_run.specs.Between.{IsBetween}
use Rattle.talk_run.specs.Sent.{IsSame}
use Rattle.talk_run.proofs.BetweenLemmas.{between_cut, between_cut_give, between_flush, between_give, between_stop}
use Rattle.talk_run.proofs.SentLaws.{respelled_twice}
use Rattle.talk_run.proofs.answering.put_archive.Goals as goal

pub returns-in_err-flush-clause-front : goal.returns-in_err-flush-clause-front
returns-in_err-flush-clause-front g c = λ before rest whole h.
    let bytes = archive_bytes c.args.archive.now c.args.solution c.args.engine.now.parts c.args.engine.now.state in
    let now = g.K.Sink.taken c.args.out.now in
    let after = g.K.Sink.taken c.flush.new.out in
    always-err c.from_residual.result {P = TookFront before after whole}
    (between_cut before now after c.args.text.now (bytes ++ rest) whole h c.in_err-flush.ensures.front)

pub returns-in_err-respell_as-clause-front : goal.returns-in_err-respell_as-clause-front
returns-in_err-respell_as-clause-front g c = λ before rest whole h.
    let bytes = archive_bytes c.args.archive.now c.args.solution c.args.engine.now.parts c.args.engine.now.state in
    let now = g.K.Sink.taken c.args.out.now in
    let after = g.K.Sink.taken c.flush.new.out in
    always-err c.from_residual-in_err-respell_as.result {P = TookFront before after whole}
    (between_stop before after [] (bytes ++ rest) whole
    (between_flush before now after c.args.text.now (bytes ++ rest) whole h c.in_ok-flush.ensures.taken))

pub returns-in-Ok-clause-archive : goal.returns-in-Ok-clause-archive
returns-in-Ok-clause-archive g c =
    subst (λ (a : Archive). IsSame a c.args.archive.now c.args.solution) (sym c.in_ok-respell_as.ensures)
    (respelled_twice c.args.archive.now c.args.solution c.args.engine.now.parts (listed c.args.engine.now.state))

pub returns-in-Ok-clause-answered : goal.returns-in-Ok-clause-answered
returns-in-Ok-clause-answered g c = λ before rest whole h.
    let bytes = archive_bytes c.args.archive.now c.args.solution c.args.engine.now.parts c.args.engine.now.state in
    let now = g.K.Sink.taken c.args.out.now in
    let mid = g.K.Sink.taken c.flush.new.out in
    let after = g.K.Sink.taken c.send.new.sink in
    let sent = subst (λ (a : Archive). Took mid after (canonical a)) c.in_ok-respell_as.ensures c.in-Ok.ensures.whole in
    subst (λ t. IsBetween before after t rest whole) (sym c.in_ok-flush.ensures.empty)
    (between_give before mid after bytes rest whole
    (between_flush before now mid c.args.text.now (bytes ++ rest) whole h c.in_ok-flush.ensures.taken) sent)

pub returns-in-Err-WriteFault-clause-front : goal.returns-in-Err-WriteFault-clause-front
returns-in-Err-WriteFault-clause-front g c = λ before rest whole h.
    let bytes = archive_bytes c.args.archive.now c.args.solution c.args.engine.now.parts c.args.engine.now.state in
    let now = g.K.Sink.taken c.args.out.now in
    let mid = g.K.Sink.taken c.flush.new.out in
    let after = g.K.Sink.taken c.send.new.sink in
    let sent = subst (λ (a : Archive). TookFront mid after (canonical a)) c.in_ok-respell_as.ensures
    c.in-Err-WriteFault.ensures.front in
    between_cut_give before mid after bytes rest whole
    (between_flush before now mid c.args.text.now (bytes ++ rest) whole h c.in_ok-flush.ensures.taken) sent

pub returns-in-Err-NoMemory-clause-front : goal.returns-in-Err-NoMemory-clause-front
returns-in-Err-NoMemory-clause-front g c = λ before rest whole h.
    let bytes = archive_bytes c.args.archive.now c.args.solution c.args.engine.now.parts c.args.engine.now.state in
    let now = g.K.Sink.taken c.args.out.now in
    let mid = g.K.Sink.taken c.flush.new.out in
    let after = g.K.Sink.taken c.send.new.sink in
    let sent = subst (λ (a : Archive). TookFront mid after (canonical a)) c.in_ok-respell_as.ensures
    c.in-Err-NoMemory.ensures.front in
    between_cut_give before mid after bytes rest whole
    (between_flush before now mid c.args.text.now (bytes ++ rest) whole h c.in_ok-flush.ensures.taken) sent
