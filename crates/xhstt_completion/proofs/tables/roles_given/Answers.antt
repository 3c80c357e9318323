-- One more role, or none.
use Rattle.std.proofs.Common.{subst, sym, map, take}
use Rattle.xhstt_completion.specs.Entries.{role_of}
use Rattle.xhstt_completion.specs.Tables.{Finds}
use Rattle.xhstt_completion.proofs.TableLemmas.{mapped-next, mapped-long}
use Rattle.xhstt_completion.proofs.tables.roles_given.Goals as goal

pub loop-number-preserved : goal.loop-number-preserved
loop-number-preserved c =
    let given = c.args.given.now in
    let i = c.loop-number.number in
    let one = c.index-given-number.result in
    let before = map role_of (take i given) in
    subst (Finds c.push_given.new.table)
    (sym (mapped-next role_of given i one c.loop-number-test.true c.index-given-number.is))
    (c.in_ok-push_given.ensures before (mapped-long role_of given i c.loop-number-test.true) c.loop-number.invariant)
