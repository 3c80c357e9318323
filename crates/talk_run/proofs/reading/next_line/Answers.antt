-- What the reader lost is what the buffer had before its line feed was taken off.
use Rattle.talk_run.proofs.ReadLemmas.{found_of, known_of, lost_of}
use Rattle.talk_run.proofs.reading.next_line.Goals as goal

pub returns-in-Ok-clause-found : goal.returns-in-Ok-clause-found
returns-in-Ok-clause-found g c =
    let left = g.R.Read.remaining c.args.lines.now.reader in
    let left2 = g.R.Read.remaining c.read_until.new.self in
    let old = c.clear.new.self.items in
    let bytes = c.read_until.new.buf.items in
    found_of left left2 bytes c.cut_end.new.line.items c.cut_end.result c.cut_end.ensures
    (lost_of left left2 old bytes c.clear.ensures.items c.in-Ok.ensures.none_lost)
    (known_of left old bytes c.clear.ensures.items c.in-Ok.ensures.bytes)
