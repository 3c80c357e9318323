-- The choice is certified, and the bytes are those of a text.
use Rattle.std.proofs.Common.{ℕ, inl, inr, refl, sym, subst, encode_utf8_all}
use Rattle.reading_commands.specs.Ends.{Written}
use Rattle.archive_reading.specs.Refusals.{refusal_line}
use Rattle.archive_reading.specs.declared.refusals.Refusal.TheVariants.{TooManyTasks}
use Rattle.match_run.specs.Found.{IsFaultOf}
use Rattle.match_run.proofs.TextLaws.{certified_for, match_text}
use Rattle.xhstt_entries.proofs.EntryLaws.{each_entry}
use Rattle.time_match.specs.declared.outcomes.MatchFault.{MatchFault}
use Rattle.khe_app.proofs.matching.put_choice.Goals as goal

pub put_found-status-requires-clause-certified : goal.put_found-status-requires-clause-certified
put_found-status-requires-clause-certified g c =
    certified_for c.args.inst.now c.args.plain.now c.args.wanted.time c.args.wanted.rtype c.in-Ok.found
    c.in-Ok.ensures.found

pub returns-in-Ok-clause-written : goal.returns-in-Ok-clause-written
returns-in-Ok-clause-written g c =
    let p = c.args.inst.now in
    let f = c.in-Ok.found in
    let t = match_text c.args.archive.now c.requires.formed p c.requires.texts c.args.wanted.solution f
    (each_entry p f.plain c.facts.ensures c.in-Ok.ensures.valid.told) in
    inr (
      0,
      t.0,
      inr (refl, record { found = f; is = c.in-Ok.ensures.found; bytes_are = t.1 }),
      subst (λ bytes. Written (g.K.Sink.taken c.args.out.now) (g.K.Sink.taken c.put_found-status.new.out)
          (g.K.Sink.faults c.args.out.now) (g.K.Sink.faults c.put_found-status.new.out) bytes 0 c.put_found-status.result.0)
          (sym t.1) c.put_found-status.ensures.written,
    )

pub returns-in-Err-TooManyTasks-clause-written : goal.returns-in-Err-TooManyTasks-clause-written
returns-in-Err-TooManyTasks-clause-written g c =
    let n = c.in-Err-TooManyTasks.tasks in
    let many = subst (λ (f : MatchFault). IsFaultOf c.args.inst.now c.args.plain.now c.args.wanted.time c.args.wanted.rtype f)
    c.in-Err-TooManyTasks.field-0-is c.in-Err-TooManyTasks.ensures.fault in
    let written = subst (λ (k : ℕ). Written (g.K.Sink.taken c.args.out.now) (g.K.Sink.taken c.put_refusal.new.out)
    (g.K.Sink.faults c.args.out.now) (g.K.Sink.faults c.put_refusal.new.out)
    (encode_utf8_all (refusal_line (TooManyTasks k))) 3 c.put_refusal.result.0)
    c.in-Err-TooManyTasks.tasks-is c.put_refusal.ensures.written in
    inr (3, refusal_line (TooManyTasks n), inl (n, many, (refl, refl)), written)
