use Rattle.std.proofs.Common.{length}
use Rattle.std.proofs.lemmas.Result.{IfOk-weaker}
use Rattle.set_monitors.specs.AvoidSplitAssignments.{AreCandidates}
use Rattle.set_monitors.specs.Candidates.{AreTyped}
use Rattle.set_monitors.proofs.CandidateLaws.{are_candidates}
use Rattle.set_monitors.proofs.candidates.candidates.Goals as goal

pub returns : goal.returns
returns c =
    let p = c.args.inst.now in
    let m = c.args.monitor in
    let types = c.in_ok-types.types in
    IfOk-weaker c.resources_with.result (AreTyped p types (length p.resources)) (AreCandidates p m)
    (λ numbers are. are_candidates p m types numbers c.in_ok-types.ensures are) c.resources_with.ensures
