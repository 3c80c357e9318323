use Rattle.std.proofs.Common.{◌++◌, ◌∷◌, [], ◌∙◌, ap, sym}
use Rattle.std.proofs.lemmas.List.{map-append, take_more}
use Rattle.std.proofs.lemmas.List.Elements.{All-push, All-same}
use Rattle.time_match.specs.Costs.{no_task}
use Rattle.time_match.specs.Leaders.{IsReadFrom, tasks_of}
use Rattle.time_match.specs.declared.likenesses.Likeness.{Likeness}
use Rattle.time_match.proofs.likenesses.likenesses_of.Goals as goal

pub loop-task-preserved : goal.loop-task-preserved
loop-task-preserved c =
    let i = c.loop-task.invariant in
    let x = c.likeness_of.result in
    let made = c.in_ok-push.ensures.ok in
    record {
      tasks = ap tasks_of made ∙ map-append (λ (y : Likeness). y.task) c.loop-task.read (x ∷ [])
          ∙ (λ j. i.tasks j ++ c.likeness_of.ensures.task j ∷ [])
          ∙ sym (take_more c.args.tasks.now c.loop-task.task-index no_task c.loop-task-test.true);
      are = All-same (IsReadFrom c.args.inst.now c.args.solution.now.slots) c.push.new.self (c.loop-task.read ++ x ∷ [])
          made (All-push (IsReadFrom c.args.inst.now c.args.solution.now.slots) c.loop-task.read x i.are
          c.likeness_of.ensures.is);
    }
