use Rattle.std.proofs.Common.{◌≡◌, Some, take}
use Rattle.std.specs.Prelude.{All}
use Rattle.khe_told.specs.declared.edits.Edit.{Edit}
use Rattle.ejection_repair.specs.Lifts.{lifted_by}
use Rattle.ejection_repair.proofs.lifting.count_lifting.Given as goal

abbrev pub invariant-loop-count : goal.invariant-loop-count
invariant-loop-count l = All (λ (e : Edit). lifted_by e ≡ Some l.moved) (take l.count l.moves)
