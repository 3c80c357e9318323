-- What was to come first was taken.
use Rattle.std.proofs.Common.{[], ◌++◌, subst}
use Rattle.khe_io.specs.Faults.{Took}
use Rattle.khe_io.proofs.AmidLemmas.{amid-flush, amid-push}
use Rattle.timetable_page.proofs.sending.send.Goals as goal

pub returns-clause-amid : goal.returns-clause-amid
returns-clause-amid g c = λ before rest whole h.
    let now = g.K.Sink.taken c.args.out.now in
    let put = g.K.Sink.taken c.put_all.new.out in
    let text = c.args.text.now in
    amid-flush before now put text rest whole (amid-push before now [] text rest whole h)
    (subst (Took now put) c.as_bytes.ensures c.in_ok-put_all.ensures.ok)
