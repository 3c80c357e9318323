-- The bytes are those of a text.
use Rattle.std.proofs.Common.{sym, subst}
use Rattle.construct_run.proofs.TextLaws.{built_text}
use Rattle.xhstt_entries.proofs.EntryLaws.{each_entry}
use Rattle.reading_commands.specs.Ends.{Written}
use Rattle.khe_app.proofs.constructing.put_alone.Goals as goal

pub returns-clause-written : goal.returns-clause-written
returns-clause-written g c =
    let p = c.args.inst.now in
    let b = c.args.built.now in
    let t = built_text c.args.archive.now c.requires.formed p c.requires.texts c.requires.id b
    (each_entry p b.plain c.facts.ensures c.requires.valid.told) in (
      t.0,
      record { built = b; is = c.requires.built; bytes_are = t.1 },
      subst (λ bytes. Written (g.K.Sink.taken c.args.out.now) (g.K.Sink.taken c.put_built.new.out)
          (g.K.Sink.faults c.args.out.now) (g.K.Sink.faults c.put_built.new.out) bytes 0 c.put_built.result.0)
          (sym t.1) c.put_built.ensures.written,
    )
