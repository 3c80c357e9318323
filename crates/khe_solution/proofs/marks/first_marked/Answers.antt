use Rattle.std.proofs.Common.{◌≡◌, ◌+◌, ◌*◌, arith, subst}
use Rattle.khe_solution.specs.FreeBits.{AreClear}
use Rattle.khe_solution.proofs.MarkLaws.{gap_clear, join_clear}
use Rattle.khe_solution.proofs.marks.first_marked.Goals as goal

pub returns-in-Some-first_in : goal.returns-in-Some-first_in
returns-in-Some-first_in c =
    let w = c.in-Some-first_within.word in
    let f = c.in-Some-first_within.ensures in
    let e = c.in-Some-first_in.ensures in
    let g = gap_clear c.args.words.now c.args.marks.now c.args.from c.loop-next.next w c.requires.marked
    c.loop-next.invariant.clear f.0.2 in (
      (
        omega (arith, e.0.0, f.0.0, c.loop-next.invariant.after),
        e.0.1,
        join_clear c.args.words.now c.args.from (64 * w)
            c.in-Some-first_in.found g e.0.2,
      ),
      omega (arith, e.1, f.1),
    )

pub loop-next-preserved : goal.loop-next-preserved
loop-next-preserved c =
    let w = c.in-Some-first_within.word in
    let f = c.in-Some-first_within.ensures in
    let g = gap_clear c.args.words.now c.args.marks.now c.args.from c.loop-next.next w c.requires.marked
    c.loop-next.invariant.clear f.0.2 in
    let s : 64 * w + 64 ≡ 64 * (w + 1) = omega arith in
    record {
      after = omega (arith, f.0.0, c.loop-next.invariant.after);
      clear = subst (AreClear c.args.words.now c.args.from) s
          (join_clear c.args.words.now c.args.from (64 * w) (64 * w + 64) g c.in_default-first_in.ensures);
    }
