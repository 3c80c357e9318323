-- The parts are those of the archive.
use Rattle.std.proofs.Common.{map, Bor, ◌∙◌, ap, sym, subst, arith, length}
use Rattle.std.proofs.lemmas.List.{length-map}
use Rattle.khe_base.specs.declared.texts.Text.{Text}
use Rattle.xhstt_shape.specs.declared.records.RawSolution.{RawSolution}
use Rattle.parallel_solve.specs.Ready.{AreOnes}
use Rattle.reading_commands.proofs.reports.report.Goals as goal

pub write_parts-requires-clause-parts : goal.write_parts-requires-clause-parts
write_parts-requires-clause-parts g c κs within =
    let now = λ (x : Bor RawSolution). x.now in
    let id = λ (x : Bor Text). x.now in
    let are = ap (map now) c.as_slice-2.ensures.value ∙ c.in_ok-raws.ensures in
    record {
      raws = are;
      groups = ap (map id) c.as_slice-3.ensures.value ∙ c.in_ok-groups.ensures;
      ones = subst (AreOnes c.args.resolved.now 0) (sym are) c.requires.ready.ready.ones;
      few = omega (arith, ap length are, length-map c.as_slice-2.result.now now, c.requires.ready.ready.few);
      rooms = c.as_slice.ensures.value ∙ c.in_ok-rooms.ensures;
    }
