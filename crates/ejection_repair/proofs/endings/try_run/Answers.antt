use Rattle.std.proofs.Common.{Option, List, sym, subst}
use Rattle.repair_moves.specs.declared.moved.Moved.{Moved}
use Rattle.ejection_repair.specs.Chains.{Chain}
use Rattle.ejection_repair.specs.Lifts.{IsRun}
use Rattle.ejection_repair.specs.Looks.{look, Looks}
use Rattle.ejection_repair.proofs.EndLaws as ends
use Rattle.ejection_repair.proofs.endings.try_run.Goals as goal

pub returns-in-None-clause-looks : goal.returns-in-None-clause-looks
returns-in-None-clause-looks g c =
    let w = c.args.engine.now in
    let P : Option Moved → Type 0 = λ o. IsRun o c.args.moves.now c.args.aim.now.spare_marks in
    let Q : List Chain → Type 0 = λ xs. Looks c.try_one.result (look w.parts c.args.aim.now.lowest c.args.left.now xs) w
    c.try_one.new.engine c.try_one.new.left in
    subst Q (sym (ends.one_alone w.state c.args.moves.now _ (subst P c.in-None.is c.requires.run)))
    c.try_one.ensures.looks
