-- The bytes are those of a text.
use Rattle.std.proofs.Common.{inr, sym, subst}
use Rattle.construct_run.proofs.TextLaws.{mended_text}
use Rattle.repair_run.specs.Repairs.{IsMended}
use Rattle.xhstt_entries.proofs.EntryLaws.{each_entry}
use Rattle.reading_commands.specs.Ends.{Written}
use Rattle.khe_app.proofs.constructing.put_repaired.Goals as goal

pub returns-in-Ok-clause-written : goal.returns-in-Ok-clause-written
returns-in-Ok-clause-written g c =
    let p = c.args.inst.now in
    let b = c.args.built.now in
    let m = c.in-Ok.mended in
    let t = mended_text c.args.archive.now c.requires.formed p c.requires.texts c.requires.id b m
    (each_entry p m.plain c.facts.ensures c.in-Ok.ensures.valid.told) in
    inr (
      t.0,
      record {
        built = b;
        is = c.requires.built;
        mended = m;
        repair = subst (λ x. IsMended p b.plain c.args.depth x m) c.from.ensures c.in-Ok.ensures.mended;
        bytes_are = t.1;
      },
      subst (λ bytes. Written (g.K.Sink.taken c.args.out.now) (g.K.Sink.taken c.put_both-status.new.out)
          (g.K.Sink.faults c.args.out.now) (g.K.Sink.faults c.put_both-status.new.out) bytes 0 c.put_both-status.result.0)
          (sym t.1) c.put_both-status.ensures.written,
    )
