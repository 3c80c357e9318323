-- The lists are those of the slots.
use Rattle.std.proofs.Common.{◌≡◌}
use Rattle.khe_base.proofs.ResultLemmas.{if_ok}
use Rattle.khe_told.specs.Lists.{meets_in, tasks_in}
use Rattle.construct.proofs.BeginLaws.{begun_is}
use Rattle.construct.specs.Begun.{begun_slots}
use Rattle.construct.proofs.beginning.begin.Goals as goal

pub returns : goal.returns
returns c =
    let s = begun_slots c.args.inst.now in
    begun_is c.args.inst.now _
    (if_ok _ _ (λ v. v ≡ meets_in s) c.in_ok-meets.ensures.0 c.list_meets-meets.ensures)
    (if_ok _ _ (λ v. v ≡ tasks_in s) c.in_ok-meets.ensures.1 c.list_tasks-tasks.ensures)
    c.new.ensures c.new-2.ensures
