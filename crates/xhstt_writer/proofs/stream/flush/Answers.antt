use Rattle.std.proofs.Common.{subst}
use Rattle.khe_io.specs.Faults.{Took, TookFront}
use Rattle.xhstt_writer.proofs.StreamLemmas.{flushed, cut_off}
use Rattle.xhstt_writer.proofs.stream.flush.Goals as goal

pub returns-in-Ok-clause-streams : goal.returns-in-Ok-clause-streams
returns-in-Ok-clause-streams g c rest aim h =
    flushed (g.K.Sink.taken c.args.sink.now) (g.K.Sink.taken c.put_all.new.out) (g.K.Sink.faults c.args.sink.now)
    (g.K.Sink.faults c.put_all.new.out) c.args.pending.now.items c.clear.new.self.items rest aim
    c.clear.ensures.items (subst (λ x. Took (g.K.Sink.taken c.args.sink.now) (g.K.Sink.taken c.put_all.new.out) x)
    c.as_slice.ensures.value c.in-Ok.ensures.ok) c.in-Ok.ensures.faultless h

pub returns-in-Err-clause-streams : goal.returns-in-Err-clause-streams
returns-in-Err-clause-streams g c rest aim h =
    cut_off (g.K.Sink.taken c.args.sink.now) (g.K.Sink.taken c.put_all.new.out) (g.K.Sink.faults c.args.sink.now)
    (g.K.Sink.faults c.put_all.new.out) c.args.pending.now.items c.args.pending.now.items rest aim
    (subst (λ x. TookFront (g.K.Sink.taken c.args.sink.now) (g.K.Sink.taken c.put_all.new.out) x)
    c.as_slice.ensures.value c.in-Err.ensures.front) c.in-Err.ensures.failed c.put_all.ensures.counted h
