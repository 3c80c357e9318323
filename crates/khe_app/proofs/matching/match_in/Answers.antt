-- The timetable is that of the solution, in its instance.
use Rattle.std.proofs.Common.{inr, refl, subst, sym, encode_utf8_all}
use Rattle.khe_base.proofs.ListLemmas.{all-there}
use Rattle.xhstt_entries.specs.Texts.{HasSpellable}
use Rattle.archive_reading.specs.Starting.{IsBarredBy, Start, start_of}
use Rattle.reading_commands.specs.Ends.{Written}
use Rattle.archive_reading.specs.declared.refusals.Refusal.{Refusal}
use Rattle.khe_app.specs.Outcome.{IsMatchOf}
use Rattle.archive_reading.specs.Refusals.{refusal_line}
use Rattle.khe_app.proofs.MatchEnds.{begun_text}
use Rattle.khe_app.proofs.matching.match_in.Goals as goal

pub put_match-status-requires-clause-texts : goal.put_match-status-requires-clause-texts
put_match-status-requires-clause-texts g c =
    all-there HasSpellable c.args.read.now.resolved.instances c.in-Ok.instance c.instance_numbered-inst.result.now
    c.requires.ready.texts c.instance_numbered-inst.ensures

pub returns-in-Ok-clause-written : goal.returns-in-Ok-clause-written
returns-in-Ok-clause-written g c =
    let b = c.in-Ok.ensures.begun in
    let w = c.args.wanted in
    begun_text c.args.read.now.archive c.args.read.now.resolved w.solution w.time w.rtype c.in-Ok.instance b.0
    c.instance_numbered-inst.result.now c.in-Ok.plain _ _ _ _ c.put_match-status.result.0 b.1 c.instance_numbered-inst.ensures
    b.3 c.put_match-status.ensures.written

pub returns-in-Err-Refused-clause-written : goal.returns-in-Err-Refused-clause-written
returns-in-Err-Refused-clause-written g c =
    let read = c.args.read.now in
    let w = c.args.wanted in
    let s = start_of read.archive read.resolved w.solution in
    let line = refusal_line c.in-Err-Refused.refusal in
    let bar = subst (IsBarredBy s) c.in-Err-Refused.field-0-is c.in-Err-Refused.ensures.barred in
    let written = subst (λ (r : Refusal). Written (g.K.Sink.taken c.args.out.now) (g.K.Sink.taken c.put_refusal.new.out)
    (g.K.Sink.faults c.args.out.now) (g.K.Sink.faults c.put_refusal.new.out) (encode_utf8_all (refusal_line r)) 3
    c.put_refusal.result.0) c.in-Err-Refused.refusal-is c.put_refusal.ensures.written in
    inr (
      3,
      line,
      subst (λ (x : Start). IsMatchOf read.archive w.solution w.time w.rtype x 3 line) (sym bar) (refl, refl),
      written,
    )
