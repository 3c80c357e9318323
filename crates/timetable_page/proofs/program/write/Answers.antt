-- The parts are those of the archive.
use Rattle.std.proofs.Common.{Bor, ◌∙◌, ap, arith, length, map, rules, subst, sym}
use Rattle.std.proofs.lemmas.List.{length-map}
use Rattle.parallel_solve.specs.Ready.{AreOnes}
use Rattle.timetable_page.proofs.program.write.Goals as goal
use Rattle.xhstt_shape.specs.declared.records.RawSolution.{RawSolution}

pub write_parts-requires : goal.write_parts-requires
write_parts-requires g c =
    let now = λ (x : Bor RawSolution). x.now in
    let are = ap (map now) c.as_slice-3.ensures.value ∙ c.in_ok-raws.ensures in (
      search rules,
      record {
        raws = are;
        ones = subst (AreOnes c.args.resolved.now 0) (sym are) c.requires.ready.ones;
        few = omega (arith, ap length are, length-map c.as_slice-3.result.now now, c.requires.ready.few);
        rooms = c.as_slice.ensures.value ∙ c.in_ok-rooms.ensures;
        same = c.requires.same;
      },
    )
