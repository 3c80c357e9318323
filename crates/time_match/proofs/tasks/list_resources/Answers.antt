use Rattle.std.proofs.Common.{◌∙◌, refl, eq-eqb}
use Rattle.std.proofs.lemmas.Bool.{ne_eqb}
use Rattle.time_match.proofs.TaskLaws.{more_no, more_yes, resources_more}
use Rattle.time_match.proofs.tasks.list_resources.Goals as goal
use Rattle.time_match.proofs.tasks.list_resources.Goals.{then-type_of-rtype+in_ok-push, else-type_of-rtype}

pub loop-number-preserved : goal.loop-number-preserved
loop-number-preserved c =
    let more = resources_more c.args.inst.now c.args.rtype c.loop-number.number c.type_of.result c.type_of.ensures in
    elim c.if-type_of-rtype.branch [
      | then-type_of-rtype+in_ok-push w ↦ w.resources-is
          ∙ more_yes _ _ _ _ c.loop-number.resources _ _ refl (eq-eqb _ _ w.if-type_of-rtype.true)
          c.loop-number.invariant w.in_ok-push.ensures.ok more
      | else-type_of-rtype w ↦ w.resources-is
          ∙ more_no _ _ _ _ c.loop-number.resources _ refl (ne_eqb _ _ w.if-type_of-rtype.false)
          c.loop-number.invariant more
    ]
