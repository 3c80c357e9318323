-- The solution is in the next group, or in those after it.
use Rattle.std.proofs.Common.{◌≡◌, ◌+◌, ◌-◌, ◌<◌, ◌≤◌, Some, refl, slice_get, subst, sym}
use Rattle.std.proofs.lemmas.Option.{slice_get_read}
use Rattle.khe_base.proofs.ListLemmas.{drop-there}
use Rattle.repair_run.proofs.FoundLaws.{IsAhead, ahead_found, ahead_next}
use Rattle.repair_run.proofs.placing.spot_of.Goals as goal

pub returns-then-left-solutions : goal.returns-then-left-solutions
returns-then-left-solutions c =
    let groups = c.args.groups.now in
    let i = c.loop-group.group in
    let g = c.index-groups-group.result in
    let there : slice_get groups i ≡ Some g =
    slice_get_read groups _ i g refl c.loop-group-test.true c.index-groups-group.is in
    ahead_found groups c.args.number i c.loop-group.left g c.loop-group.invariant (drop-there groups i g there) there
    (subst (λ n. c.loop-group.left < n) c.len-solutions.ensures c.if-left-solutions.true)

pub loop-group-preserved : goal.loop-group-preserved
loop-group-preserved c =
    let groups = c.args.groups.now in
    let i = c.loop-group.group in
    let g = c.index-groups-group.result in
    let there : slice_get groups i ≡ Some g =
    slice_get_read groups _ i g refl c.loop-group-test.true c.index-groups-group.is in
    subst (λ n. IsAhead groups c.args.number (i + 1) (c.loop-group.left - n)) (sym c.len-solutions.ensures)
    (ahead_next groups c.args.number i c.loop-group.left g c.loop-group.invariant (drop-there groups i g there)
    (subst (λ n. n ≤ c.loop-group.left) c.len-solutions.ensures c.if-left-solutions.false))
