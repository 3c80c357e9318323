-- The line is the whole text.
use Rattle.std.proofs.Common.{None, arith, inl, inr, refl, subst}
use Rattle.khe_io.specs.Faults.{Took, TookFront}
use Rattle.reading_commands.specs.Ends.{Written}
use Rattle.reading_commands.specs.Lines.{not_understood_line}
use Rattle.khe_app.proofs.EndsLemmas.{end_written, unread, unread-there, written_front, written_whole}
use Rattle.khe_app.proofs.program.refuse_words.Goals as goal

pub returns-clause-end : goal.returns-clause-end
returns-clause-end g c = λ h sound faults.
    end_written None h sound faults faults (g.K.Sink.taken c.args.out.now) (g.K.Sink.taken c.put.new.out)
    (g.K.Sink.faults c.args.out.now) (g.K.Sink.faults c.put.new.out) not_understood_line 2 c.put.result.0
    (unread h 2 not_understood_line (λ under. (refl, refl))) (inr (inl refl))
    (subst (λ bytes. Written (g.K.Sink.taken c.args.out.now) (g.K.Sink.taken c.put.new.out)
    (g.K.Sink.faults c.args.out.now) (g.K.Sink.faults c.put.new.out) bytes 2 c.put.result.0)
    c.not_understood.ensures c.put.ensures.written)
    (λ s l. unread-there h l)

pub returns-clause-line : goal.returns-clause-line
returns-clause-line g c two =
    subst (λ bytes. Took (g.K.Sink.taken c.args.out.now) (g.K.Sink.taken c.put.new.out) bytes)
    c.not_understood.ensures
    (written_whole _ _ _ _ _ 2 c.put.result.0 c.put.ensures.written (omega arith) two)

pub returns-clause-line_cut_off : goal.returns-clause-line_cut_off
returns-clause-line_cut_off g c five =
    subst (λ bytes. TookFront (g.K.Sink.taken c.args.out.now) (g.K.Sink.taken c.put.new.out) bytes)
    c.not_understood.ensures
    (written_front _ _ _ _ _ 2 c.put.result.0 c.put.ensures.written (omega arith) five)
