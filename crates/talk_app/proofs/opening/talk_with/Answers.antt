-- The timetable is that of the solution, in its instance.
use Rattle.std.proofs.Common.{encode_utf8_all, refl, slice_get, subst, sym}
use Rattle.archive_reading.specs.Starting.{IsBarredBy, Start, start_of}
use Rattle.archive_reading.specs.Refusals.{refusal_line}
use Rattle.talk_app.specs.Outcome.{IsTalkOf}
use Rattle.talk_app.proofs.EndLaws.{begun_end, line_end}
use Rattle.talk_app.proofs.opening.talk_with.Goals as goal

pub returns-in-Ok-clause-end : goal.returns-in-Ok-clause-end
returns-in-Ok-clause-end g c =
    let read = c.args.read in
    let b = c.in-Ok.ensures.begun in
    begun_end read.archive c.args.solution (start_of read.archive read.resolved c.args.solution)
    (slice_get read.resolved.instances c.in-Ok.instance) b.0 c.instance_numbered-inst.result.now c.in-Ok.plain
    (g.R.Read.remaining c.args.lines.now.reader) (g.K.Sink.taken c.args.out.now) (g.K.Sink.taken c.talk_by-status.new.out)
    (g.K.Sink.faults c.args.out.now) (g.K.Sink.faults c.talk_by-status.new.out) c.talk_by-status.result.0 b.1
    c.instance_numbered-inst.ensures b.3 c.talk_by-status.ensures.end

pub returns-in-Err-Refused-clause-end : goal.returns-in-Err-Refused-clause-end
returns-in-Err-Refused-clause-end g c =
    let read = c.args.read in
    let s = start_of read.archive read.resolved c.args.solution in
    let line = encode_utf8_all (refusal_line c.in-Err-Refused.refusal) in
    let bar = subst (IsBarredBy s) c.in-Err-Refused.field-0-is c.in-Err-Refused.ensures.barred in
    line_end (IsTalkOf read.archive c.args.solution s) (g.R.Read.remaining c.args.lines.now.reader)
    (g.K.Sink.taken c.args.out.now) (g.K.Sink.taken c.put_refusal-status.new.out) (g.K.Sink.faults c.args.out.now)
    (g.K.Sink.faults c.put_refusal-status.new.out) line 3 c.put_refusal-status.result.0
    (λ input. subst (λ (x : Start). IsTalkOf read.archive c.args.solution x input 3 line) (sym bar) (refl, refl))
    c.put_refusal-status.ensures.written
