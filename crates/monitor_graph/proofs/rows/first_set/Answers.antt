use Rattle.std.proofs.Common.{◌≡◌, ◌≤◌, ◌+◌, ◌*◌, arith, length, subst}
use Rattle.monitor_graph.specs.Rows.{AreClear}
use Rattle.monitor_graph.proofs.RowLaws.{gap_clear, join_clear, end_clear}
use Rattle.monitor_graph.proofs.rows.first_set.Goals as goal

pub returns-then-word-words : goal.returns-then-word-words
returns-then-word-words c m f =
    let w = c.in-Some-first_word.word in
    let l : length c.args.words.now ≤ w = omega arith in
    end_clear c.args.words.now c.args.from w m (gap_clear c.args.words.now c.args.summary.now c.args.from
    c.loop-next.next w c.requires.summed c.loop-next.invariant.clear c.in-Some-first_word.ensures.2) l f

pub returns-in-Some-first_in : goal.returns-in-Some-first_in
returns-in-Some-first_in c =
    let w = c.in-Some-first_word.word in
    let e = c.in-Some-first_in.ensures in
    let g = gap_clear c.args.words.now c.args.summary.now c.args.from c.loop-next.next w c.requires.summed
    c.loop-next.invariant.clear c.in-Some-first_word.ensures.2 in (
      omega (arith, e.0.0, c.in-Some-first_word.ensures.0, c.loop-next.invariant.after),
      e.0.1,
      join_clear
          c.args.words.now c.args.from (64 * w) c.in-Some-first_in.found g e.0.2,
    )

pub loop-next-preserved : goal.loop-next-preserved
loop-next-preserved c =
    let w = c.in-Some-first_word.word in
    let g = gap_clear c.args.words.now c.args.summary.now c.args.from c.loop-next.next w c.requires.summed
    c.loop-next.invariant.clear c.in-Some-first_word.ensures.2 in
    let s : 64 * w + 64 ≡ 64 * (w + 1) = omega arith in
    record {
      after = omega (arith, c.in-Some-first_word.ensures.0, c.loop-next.invariant.after);
      clear = subst (AreClear c.args.words.now c.args.from) s
          (join_clear c.args.words.now c.args.from (64 * w) (64 * w + 64) g c.in_default-first_in.ensures);
    }

pub returns : goal.returns
returns c m f = let l : length c.args.words.now ≤ c.loop-next.next = omega arith in
    end_clear c.args.words.now c.args.from c.loop-next.next m c.loop-next.invariant.clear l f
