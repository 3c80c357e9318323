-- The solution is there, and these are the totals of what it completes to.
use Rattle.calling_examples.proofs.ReadingLemmas.{totals_are}
use Rattle.calling_examples.proofs.reading.totals_of.Goals as goal

pub returns : goal.returns
returns c =
    let a = c.args.read.now.archive in
    let r = c.args.read.now.resolved in
    totals_are a r c.args.number c.in-Some.inst.now c.in_ok-plain.plain c.in_ok-values.values.totals
    c.requires.resolved c.in-Some.ensures c.in_ok-plain.ensures.exact c.in_ok-values.ensures.totals
