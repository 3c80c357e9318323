use Rattle.std.proofs.Common.{◌∙◌, ap, replicate}
use Rattle.resource_monitors.proofs.LoadFollowLaws.{kept_opened}
use Rattle.resource_monitors.proofs.limit_workload.WorkloadsKeeper.open.Goals as goal

pub returns : goal.returns
returns c = kept_opened c.args.inst.now _ _
    (c.in_ok-loads.ensures ∙ ap (λ n. replicate n 0) c.resources.ensures) c.in_ok-lists.ensures
