use Rattle.std.proofs.Common.{◌≡◌, ◌++◌, map, take}
use Rattle.event_deviations.proofs.tasks.push_duties.Given as goal

abbrev pub invariant-loop-task : goal.invariant-loop-task
invariant-loop-task l = l.duties ≡ l.fn.duties
    ++ map (λ t. record { meet = l.meet; place = t.task.place; resource = t.resource }) (take l.task-index l.tasks)
