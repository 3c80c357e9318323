-- What a talk on the engine that was opened wrote.
use Rattle.talk_app.proofs.EndLaws.{talked_faults, talked_on, talked_read, talked_unread}
use Rattle.talk_app.proofs.opening.talk_by.Goals as goal

pub returns-in-Ok-clause-end : goal.returns-in-Ok-clause-end
returns-in-Ok-clause-end g c =
    talked_on c.args.archive c.args.solution c.args.inst.now c.args.plain.now c.in-Ok.engine
    (g.R.Read.remaining c.args.lines.now.reader) (g.K.Sink.taken c.args.out.now) (g.K.Sink.taken c.talk-ended.new.out)
    (g.K.Sink.faults c.args.out.now) (g.K.Sink.faults c.talk-ended.new.out) c.talk-ended.result c.status_after.result.0
    c.in-Ok.ensures.parts c.in-Ok.ensures.state c.in-Ok.ensures.saved c.talk-ended.ensures.whole c.talk-ended.ensures.front
    c.talk-ended.ensures.fault c.status_after.ensures

pub returns-in-Ok-clause-write_fault_ends : goal.returns-in-Ok-clause-write_fault_ends
returns-in-Ok-clause-write_fault_ends g c =
    talked_faults c.talk-ended.result (g.K.Sink.faults c.args.out.now) (g.K.Sink.faults c.talk-ended.new.out)
    c.status_after.result.0 c.talk-ended.ensures.faultless c.talk-ended.ensures.faultless_unread c.talk-ended.ensures.faultless_starved
    c.status_after.ensures

pub returns-in-Ok-clause-read_fault : goal.returns-in-Ok-clause-read_fault
returns-in-Ok-clause-read_fault g c = talked_unread c.talk-ended.result c.args.lines.now.faults c.talk-ended.new.lines.faults
    c.status_after.result.0 c.talk-ended.ensures.unread c.status_after.ensures

pub returns-in-Ok-clause-line_fault_ends : goal.returns-in-Ok-clause-line_fault_ends
returns-in-Ok-clause-line_fault_ends g c = talked_read c.talk-ended.result c.args.lines.now.faults c.talk-ended.new.lines.faults
    c.status_after.result.0 c.talk-ended.ensures.read c.talk-ended.ensures.read_unwritten c.talk-ended.ensures.read_starved
    c.status_after.ensures
