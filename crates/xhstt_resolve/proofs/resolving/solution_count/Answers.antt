-- One more group's solutions are counted.
use Rattle.std.proofs.Common.{◌≡◌, ◌∙◌, ◌+◌, ◌<◌, ap, subst, get_or, arith, drop, length, length-append, ◌++◌}
use Rattle.std.specs.List.{flat_map}
use Rattle.std.proofs.lemmas.List.Concat.{flat_map-cons}
use Rattle.xhstt_resolve.proofs.resolving.solution_count.Goals as goal
use Rattle.khe_base.proofs.ListLemmas.{drop-next}

pub loop-group-preserved : goal.loop-group-preserved
loop-group-preserved c =
    let gs = c.args.archive.now.solution_groups in
    let i = c.loop-group.group-index in
    let x = c.group-item.result in
    let later = flat_map (λ g. g.solutions) (drop (i + 1) gs) in
    let same = c.as_slice-group-items.ensures in
    let left = drop-next gs i x (subst (λ xs. i < length xs) same c.loop-group-test.true)
    (c.group-item.is ∙ ap (λ xs. get_or xs i x) same) in
    let split : flat_map (λ g. g.solutions) (drop i gs) ≡ x.solutions ++ later =
    ap (flat_map (λ g. g.solutions)) left ∙ flat_map-cons (λ g. g.solutions) x (drop (i + 1) gs) in
    record {
      counted = omega (
        arith,
        c.loop-group.invariant.counted,
        ap length split,
        length-append x.solutions later,
        c.len.ensures,
      );
      small = omega (arith, c.loop-group.invariant.small, c.len.ensures);
    }
