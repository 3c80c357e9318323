use Rattle.std.proofs.Common.{◌∙◌, arith}
use Rattle.ejection_repair.proofs.RunLaws as runs
use Rattle.ejection_repair.proofs.repairing.repair_exactly.Goals as goal

pub loop-accepted-init : goal.loop-accepted-init
loop-accepted-init g c =
    let e = c.in_ok-reserve.ensures in
    record {
      parts = e.parts;
      spans = c.new-spans.ensures c.args.engine.now.parts;
      saved = e.saved ∙ c.requires.marks;
      room = e.ok;
      spare = e.kept;
      fewer = omega arith;
      runs = runs.begun_repaired _ _ _ _ _ c.args.budget e.state;
    }
