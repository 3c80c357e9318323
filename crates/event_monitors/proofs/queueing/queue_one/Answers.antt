use Rattle.std.proofs.Common.{◌∙◌, sym}
use Rattle.std.proofs.lemmas.Bool.{true≢false}
use Rattle.event_monitors.proofs.TurnLaws.{added_on, added_own}
use Rattle.event_monitors.proofs.queueing.queue_one.Goals as goal

pub returns-clause-unaffected : goal.returns-clause-unaffected
returns-clause-unaffected g c = λ hears not.
    absurd (true≢false (sym (added_own g.W.Waits.hears c.args.post.now.number.0 (g.W.Waits.waits c.args.waits.now)
    (g.W.Waits.waits c.add.new.self) c.add.ensures.waits hears) ∙ not))

pub returns-clause-kept : goal.returns-clause-kept
returns-clause-kept g c = added_on g.W.Waits.hears c.args.post.now.number.0 (g.W.Waits.waits c.args.waits.now)
    (g.W.Waits.waits c.add.new.self) c.add.ensures.waits
