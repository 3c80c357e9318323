use Rattle.xhstt_writer.proofs.stream.stream_to.Goals as goal

pub returns : goal.returns
returns g c = c.finish.ensures _ c.begin_stream-ended.ensures
