-- The bytes are those of a text.
use Rattle.std.proofs.Common.{inr, sym, subst}
use Rattle.repair_run.specs.Repairs.{IsMended}
use Rattle.reading_commands.specs.Ends.{Written}
use Rattle.khe_app.proofs.repairing.put_repair.Goals as goal
use Rattle.repair_run.proofs.TextLaws.{repair_text}
use Rattle.xhstt_entries.proofs.EntryLaws.{each_entry}

pub returns-in-Ok-clause-written : goal.returns-in-Ok-clause-written
returns-in-Ok-clause-written g c =
    let p = c.args.inst.now in
    let m = c.in-Ok.mended in
    let t = repair_text c.args.archive.now c.requires.formed p c.requires.texts c.args.asked.solution m
    (each_entry p m.plain c.facts.ensures c.in-Ok.ensures.valid.told) in
    inr (
      t.0,
      record {
        mended = m;
        is = subst (λ b. IsMended p c.args.plain.now c.args.asked.depth b m) c.from.ensures c.in-Ok.ensures.mended;
        bytes_are = t.1;
      },
      subst (λ bytes. Written (g.K.Sink.taken c.args.out.now) (g.K.Sink.taken c.put_mended.new.out)
          (g.K.Sink.faults c.args.out.now) (g.K.Sink.faults c.put_mended.new.out) bytes 0 c.put_mended.result.0)
          (sym t.1) c.put_mended.ensures.written,
    )
