use Rattle.std.proofs.Common.{◌≡◌, Some}
use Rattle.std.proofs.lemmas.List.Elements.{All-more}
use Rattle.khe_told.specs.declared.edits.Edit.{Edit}
use Rattle.ejection_repair.specs.Lifts.{lifted_by}
use Rattle.ejection_repair.proofs.lifting.count_lifting.Goals as goal

pub loop-count-preserved : goal.loop-count-preserved
loop-count-preserved c =
    All-more (λ (e : Edit). lifted_by e ≡ Some c.args.moved) c.args.moves.now c.loop-count.count _
    c.loop-count-test.true c.loop-count.invariant (c.lifts.ensures c.if-not-lifts.false)
