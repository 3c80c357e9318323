use Rattle.std.proofs.Common.{[], refl}
use Rattle.xhstt_writer.specs.Archives as spec
use Rattle.xhstt_writer.specs.Output.{Aim}
use Rattle.xhstt_writer.proofs.StreamLemmas.{begun, renamed}
use Rattle.xhstt_writer.proofs.stream.pour.Goals as goal

pub returns : goal.returns
returns g c =
    let name = c.args.stream.now.sink.ghost_name in
    let waiting = c.args.stream.now.pending.ghost_name in
    let taken = g.K.Sink.taken c.args.stream.now.sink.now in
    let faults = g.K.Sink.faults c.args.stream.now.sink.now in
    let bytes = spec.canonical c.args.archive.now in
    let aim : Aim = record { reference = name; waiting = waiting; before = taken; faults = faults; bytes = bytes } in
    let said = c.put_archive.ensures aim (
      refl,
      refl,
      begun name waiting taken faults c.args.stream.now.ended
          c.args.stream.now.pending.now.items bytes c.requires.ended c.requires.pending,
    ) in
    record {
      same_reference = said.0;
      same_buffer = said.1;
      streams =
          renamed name waiting 0 0 _ taken _ faults c.put_archive.new.out.ended _ [] bytes said.2;
    }
