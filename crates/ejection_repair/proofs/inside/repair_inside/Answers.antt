use Rattle.std.proofs.Common.{refl, arith}
use Rattle.ejection_repair.proofs.RunLaws as runs
use Rattle.ejection_repair.proofs.inside.repair_inside.Goals as goal

pub loop-accepted-init : goal.loop-accepted-init
loop-accepted-init g c = record {
  parts = refl;
  spans = c.new-spans.ensures c.args.engine.now.parts;
  saved = refl;
  count = refl;
  marks = c.marks_beside-spare_marks.ensures.marks;
  fewer = omega arith;
  runs = runs.begun_repaired _ _ _ _ _ c.args.budget refl;
}
