use Rattle.std.proofs.Common.{refl}
use Rattle.ejection_repair.proofs.StuckLaws as stuck
use Rattle.ejection_repair.proofs.sweeping.pass_to.Goals as goal

pub returns-then-round-end-clause-same : goal.returns-then-round-end-clause-same
returns-then-round-end-clause-same c = λ p costs f leaves from.
    stuck.ahead_past p costs f c.args.round.now _ c.args.end c.if-not-round.true refl c.if-round-end.true leaves
    (from c.if-not-round.true)

pub returns-then-round-end-clause-fewer : goal.returns-then-round-end-clause-fewer
returns-then-round-end-clause-fewer c = λ costs. stuck.ahead_fewer costs c.args.round.now _ c.args.end
    c.if-not-round.true refl c.if-round-end.true
