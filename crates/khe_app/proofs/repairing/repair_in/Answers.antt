-- The timetable is that of the solution, in its instance.
use Rattle.khe_base.proofs.ListLemmas.{all-there}
use Rattle.xhstt_entries.specs.Texts.{HasSpellable}
use Rattle.archive_reading.specs.Starting.{start_of}
use Rattle.khe_app.proofs.RepairEnds.{barred_repair, begun_text}
use Rattle.khe_app.proofs.repairing.repair_in.Goals as goal

pub put_repair-status-requires-clause-texts : goal.put_repair-status-requires-clause-texts
put_repair-status-requires-clause-texts g c =
    all-there HasSpellable c.args.read.now.resolved.instances c.in-Ok.instance c.instance_numbered-inst.result.now
    c.requires.ready.texts c.instance_numbered-inst.ensures

pub put_unread-requires : goal.put_unread-requires
put_unread-requires g c =
    (start_of c.args.read.now.archive c.args.read.now.resolved c.args.asked.solution, c.in-Err.ensures.barred)

pub returns-in-Ok-clause-written : goal.returns-in-Ok-clause-written
returns-in-Ok-clause-written g c =
    let b = c.in-Ok.ensures.begun in
    begun_text c.args.read.now.archive c.args.read.now.resolved c.args.asked.solution c.args.asked.depth
    c.args.asked.budget c.in-Ok.instance b.0 c.instance_numbered-inst.result.now c.in-Ok.plain _ _ _ _
    c.put_repair-status.result.0 b.1 c.instance_numbered-inst.ensures b.3 c.put_repair-status.ensures.written

pub returns-in-Err-clause-written : goal.returns-in-Err-clause-written
returns-in-Err-clause-written g c =
    let s = start_of c.args.read.now.archive c.args.read.now.resolved c.args.asked.solution in
    barred_repair c.args.read.now.archive c.args.asked.solution c.args.asked.depth c.args.asked.budget s _ _ _ _
    c.put_unread.result.0 (c.put_unread.ensures.written s c.in-Err.ensures.barred)
