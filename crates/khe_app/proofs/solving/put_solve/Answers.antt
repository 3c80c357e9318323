-- The bytes are those of a text.
use Rattle.std.proofs.Common.{inr, sym, subst}
use Rattle.reading_commands.specs.Ends.{Written}
use Rattle.khe_app.proofs.solving.put_solve.Goals as goal
use Rattle.repair_run.proofs.TextLaws.{solve_text}
use Rattle.xhstt_entries.proofs.EntryLaws.{each_entry}

pub returns-in-Ok-clause-written : goal.returns-in-Ok-clause-written
returns-in-Ok-clause-written g c =
    let p = c.args.inst.now in
    let s = c.in-Ok.solved in
    let t = solve_text c.args.archive.now c.requires.formed p c.requires.texts c.args.asked.solution s
    (each_entry p s.plain c.facts.ensures c.in-Ok.ensures.valid.told) in
    inr (
      t.0,
      record { solved = s; is = c.in-Ok.ensures.solved; bytes_are = t.1 },
      subst (λ bytes. Written (g.K.Sink.taken c.args.out.now) (g.K.Sink.taken c.put_solved-status.new.out)
          (g.K.Sink.faults c.args.out.now) (g.K.Sink.faults c.put_solved-status.new.out) bytes 0 c.put_solved-status.result.0)
          (sym t.1) c.put_solved-status.ensures.written,
    )
