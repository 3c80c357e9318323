-- The archive is what stands under its name.
use Rattle.std.proofs.Common.{rules}
use Rattle.talk_app.proofs.EndLaws.{held_end, stopped_end}
use Rattle.talk_app.proofs.program.talk_of.Goals as goal

pub returns-in-Ok-clause-end : goal.returns-in-Ok-clause-end
returns-in-Ok-clause-end g c =
    held_end (g.S.Shelf.holdings c.args.shelf.now) c.args.name.now c.args.solution c.in-Ok.answer
    (g.R.Read.remaining c.args.lines.now.reader) (g.K.Sink.taken c.args.out.now) (g.K.Sink.taken c.talk_after.new.out)
    (g.K.Sink.faults c.args.out.now) (g.K.Sink.faults c.talk_after.new.out) c.talk_after.result.0
    c.in-Ok.ensures.answer c.talk_after.ensures.end

pub returns-in-Err-ReadFault-clause-end : goal.returns-in-Err-ReadFault-clause-end
returns-in-Err-ReadFault-clause-end g c =
    stopped_end (g.S.Shelf.holdings c.args.shelf.now) c.args.name.now c.args.solution
    (g.R.Read.remaining c.args.lines.now.reader) (g.K.Sink.taken c.args.out.now) (g.K.Sink.faults c.args.out.now) _
    (search rules)

pub returns-in-Err-NoMemory-clause-end : goal.returns-in-Err-NoMemory-clause-end
returns-in-Err-NoMemory-clause-end g c =
    stopped_end (g.S.Shelf.holdings c.args.shelf.now) c.args.name.now c.args.solution
    (g.R.Read.remaining c.args.lines.now.reader) (g.K.Sink.taken c.args.out.now) (g.K.Sink.faults c.args.out.now) _
    (search rules)
