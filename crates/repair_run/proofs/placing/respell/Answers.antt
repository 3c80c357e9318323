-- The solution's group is one of the archive's.
use Rattle.std.proofs.Common.{◌<◌, List, length, subst}
use Rattle.std.proofs.lemmas.Option.{slice_get_within}
use Rattle.xhstt_shape.specs.declared.records.SolutionGroup.{SolutionGroup}
use Rattle.repair_run.proofs.placing.respell.Goals as goal

pub put-requires-clause-group : goal.put-requires-clause-group
put-requires-clause-group c =
    let s = c.in-Some.ensures in
    subst (λ (gs : List SolutionGroup). c.in-Some.spot.group < length gs) c.as_slice.ensures
    (slice_get_within c.as_slice.result.now c.in-Some.spot.group s.group s.there)
