use Rattle.std.proofs.Common.{[], Some, subst}
use Rattle.xhstt_writer.specs.Streams.{IsStreaming}
use Rattle.xhstt_writer.proofs.StreamLemmas.{settled}
use Rattle.xhstt_writer.proofs.stream.finish.Goals as goal

pub returns-in-None : goal.returns-in-None
returns-in-None g c aim h =
    let taken = g.K.Sink.taken c.args.sink.now in
    let faults = g.K.Sink.faults c.args.sink.now in
    let open_still = subst (λ e. IsStreaming taken faults e c.args.pending.now.items [] aim) c.in-None.is h in
    settled (g.K.Sink.taken c.flush.new.sink) (g.K.Sink.faults c.flush.new.sink) c.flush.result
    c.flush.new.pending.items aim c.flush.ensures.emptied (c.flush.ensures.streams [] aim open_still)

pub returns-in-Some : goal.returns-in-Some
returns-in-Some g c aim h =
    let taken = g.K.Sink.taken c.args.sink.now in
    let faults = g.K.Sink.faults c.args.sink.now in
    settled taken faults (Some c.in-Some.fault) c.args.pending.now.items aim (λ e. absurd (cc))
    (subst (λ e. IsStreaming taken faults e c.args.pending.now.items [] aim) c.in-Some.is h)
