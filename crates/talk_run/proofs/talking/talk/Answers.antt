-- Each line that is read and answered leaves the lines ahead.
use Rattle.std.proofs.Common.{◌+◌, ◌∙◌, sym, subst}
use Rattle.khe_io.proofs.AmidLemmas.{always-err}
use Rattle.talk_run.specs.Between.{IsFound, IsLine}
use Rattle.talk_run.proofs.BetweenLemmas.{cut_line, cut_read, talked_end, talking_line}
use Rattle.talk_run.proofs.talking.talk.Goals as goal

pub returns-in_err-next_line-clause-front : goal.returns-in_err-next_line-clause-front
returns-in_err-next_line-clause-front g c =
    always-err c.from_residual.result
    (cut_read (g.R.Read.remaining c.args.lines.now.reader) (g.R.Read.remaining c.loop-number.lines.reader)
    (g.K.Sink.taken c.args.out.now) (g.K.Sink.taken c.loop-number.out)
    (g.T.Talker.said c.loop-number.talker (c.loop-number.number + 1)) (g.T.Talker.said c.args.talker.now 1)
    c.loop-number.invariant.talking)

pub loop-number-preserved : goal.loop-number-preserved
loop-number-preserved g c =
    let left2 = g.R.Read.remaining c.loop-number.lines.reader in
    let left3 = g.R.Read.remaining c.next_line.new.lines.reader in
    let line = c.as_slice.result.now in
    let n = c.loop-number.number + 1 in
    let found = subst (λ l. IsLine left2 left3 l) (sym c.as_slice.ensures.value)
    (subst (IsFound left2 left3 c.next_line.new.line.items) c.in-Line.is c.in_ok-next_line.ensures.found) in
    record {
      talking = talking_line (g.R.Read.remaining c.args.lines.now.reader) left2 left3 (g.K.Sink.taken c.args.out.now)
          (g.K.Sink.taken c.loop-number.out) (g.K.Sink.taken c.answer.new.out) (g.T.Talker.said c.loop-number.talker n)
          (g.T.Talker.said c.answer.new.talker (n + 1)) (g.T.Talker.said c.args.talker.now 1) line
          c.loop-number.invariant.talking found c.in_ok-answer-in-Line.ensures.answered;
      faultless = c.in_ok-answer-in-Line.ensures.faultless ∙ c.loop-number.invariant.faultless;
      read = c.in_ok-next_line.ensures.read ∙ c.loop-number.invariant.read;
    }

pub returns-in_err-answer-in-Line-clause-front : goal.returns-in_err-answer-in-Line-clause-front
returns-in_err-answer-in-Line-clause-front g c =
    let left2 = g.R.Read.remaining c.loop-number.lines.reader in
    let left3 = g.R.Read.remaining c.next_line.new.lines.reader in
    let line = c.as_slice.result.now in
    let found = subst (λ l. IsLine left2 left3 l) (sym c.as_slice.ensures.value)
    (subst (IsFound left2 left3 c.next_line.new.line.items) c.in-Line.is c.in_ok-next_line.ensures.found) in
    always-err c.from_residual-in_err-answer-in-Line.result
    (cut_line (g.R.Read.remaining c.args.lines.now.reader) left2 left3 (g.K.Sink.taken c.args.out.now)
    (g.K.Sink.taken c.loop-number.out) (g.K.Sink.taken c.answer.new.out)
    (g.T.Talker.said c.loop-number.talker (c.loop-number.number + 1)) (g.T.Talker.said c.args.talker.now 1) line
    c.loop-number.invariant.talking found c.in_err-answer-in-Line.ensures.front)

pub returns-in-End-clause-whole : goal.returns-in-End-clause-whole
returns-in-End-clause-whole g c =
    let left2 = g.R.Read.remaining c.loop-number.lines.reader in
    talked_end (g.R.Read.remaining c.args.lines.now.reader) left2 (g.K.Sink.taken c.args.out.now)
    (g.K.Sink.taken c.loop-number.out) (g.T.Talker.said c.loop-number.talker (c.loop-number.number + 1))
    (g.T.Talker.said c.args.talker.now 1) c.loop-number.invariant.talking
    (subst (IsFound left2 (g.R.Read.remaining c.next_line.new.lines.reader) c.next_line.new.line.items) c.in-End.is
    c.in_ok-next_line.ensures.found) (g.met.T.Talker.ends c.loop-number.talker (c.loop-number.number + 1))

pub returns-clause-front : goal.returns-clause-front
returns-clause-front g c =
    cut_read (g.R.Read.remaining c.args.lines.now.reader) (g.R.Read.remaining c.loop-number.lines.reader)
    (g.K.Sink.taken c.args.out.now) (g.K.Sink.taken c.loop-number.out)
    (g.T.Talker.said c.loop-number.talker (c.loop-number.number + 1)) (g.T.Talker.said c.args.talker.now 1)
    c.loop-number.invariant.talking
