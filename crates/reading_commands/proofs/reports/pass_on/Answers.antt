-- The text joins what waits, and some of that is taken; or what waits is taken, and then the text.
use Rattle.std.proofs.Common.{[], ◌++◌, subst, sym}
use Rattle.khe_io.specs.Faults.{Took, TookFront}
use Rattle.khe_io.specs.Amid.{IsAmid}
use Rattle.khe_io.proofs.AmidLemmas.{amid-cut, amid-flush, amid-push, amid-stop, always-err, one-err}
use Rattle.reading_commands.proofs.reports.pass_on.Goals as goal

pub returns-in_err-push_text-clause-front : goal.returns-in_err-push_text-clause-front
returns-in_err-push_text-clause-front g c = λ before rest whole h.
    always-err c.from_residual.result
    (amid-stop before (g.K.Sink.taken c.args.out.now) c.args.pending.now (c.args.text.now ++ rest) whole h)

pub returns-then-bytes-lt-PIECE_BYTES-clause-amid : goal.returns-then-bytes-lt-PIECE_BYTES-clause-amid
returns-then-bytes-lt-PIECE_BYTES-clause-amid g c = λ before rest whole h.
    let taken = g.K.Sink.taken c.args.out.now in
    let pushed = amid-push before taken c.args.pending.now c.args.text.now rest whole h in
    c.flush_long.ensures.amid before rest whole (subst (λ t. IsAmid before taken t rest whole)
    (sym c.in_ok-push_text.ensures.ok) pushed)

pub returns-then-bytes-lt-PIECE_BYTES-clause-front : goal.returns-then-bytes-lt-PIECE_BYTES-clause-front
returns-then-bytes-lt-PIECE_BYTES-clause-front g c = λ before rest whole h.
    let taken = g.K.Sink.taken c.args.out.now in
    let pushed = amid-push before taken c.args.pending.now c.args.text.now rest whole h in
    one-err c.flush_long.result c.flush_long.ensures.front
    (λ cut. amid-cut before taken (g.K.Sink.taken c.flush_long.new.out) c.push_text.new.self rest whole
    (subst (λ t. IsAmid before taken t rest whole) (sym c.in_ok-push_text.ensures.ok) pushed) cut)

pub returns-in_err-flush-clause-front : goal.returns-in_err-flush-clause-front
returns-in_err-flush-clause-front g c = λ before rest whole h.
    always-err c.from_residual-in_err-flush.result
    (amid-cut before (g.K.Sink.taken c.args.out.now) (g.K.Sink.taken c.flush.new.out) c.args.pending.now
    (c.args.text.now ++ rest) whole h c.in_err-flush.ensures.front)

pub returns-in_err-put_all-clause-front : goal.returns-in_err-put_all-clause-front
returns-in_err-put_all-clause-front g c = λ before rest whole h.
    let taken = g.K.Sink.taken c.args.out.now in
    let flushed = g.K.Sink.taken c.flush.new.out in
    let text = c.args.text.now in
    let one = amid-flush before taken flushed c.args.pending.now (text ++ rest) whole h c.in_ok-flush.ensures.taken in
    always-err c.from_residual-in_err-put_all.result
    (amid-cut before flushed (g.K.Sink.taken c.put_all.new.out) text rest whole
    (amid-push before flushed [] text rest whole one)
    (subst (TookFront flushed (g.K.Sink.taken c.put_all.new.out)) c.as_bytes-bytes.ensures c.in_err-put_all.ensures.front))

pub returns-clause-amid : goal.returns-clause-amid
returns-clause-amid g c = λ before rest whole h.
    let taken = g.K.Sink.taken c.args.out.now in
    let flushed = g.K.Sink.taken c.flush.new.out in
    let put = g.K.Sink.taken c.put_all.new.out in
    let text = c.args.text.now in
    let one = amid-flush before taken flushed c.args.pending.now (text ++ rest) whole h c.in_ok-flush.ensures.taken in
    let two = amid-push before flushed [] text rest whole one in
    subst (λ t. IsAmid before put t rest whole) (sym c.in_ok-flush.ensures.empty)
    (amid-flush before flushed put text rest whole two
    (subst (Took flushed put) c.as_bytes-bytes.ensures c.in_ok-put_all.ensures.ok))
