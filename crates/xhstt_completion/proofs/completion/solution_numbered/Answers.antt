-- The solution is in the next group, or in those after it.
use Rattle.std.proofs.Common.{◌∙◌, ◌+◌, ◌++◌, sym, ap, drop, slice_get, refl}
use Rattle.std.specs.List.{flat_map}
use Rattle.std.proofs.lemmas.Option.{slice_get_read}
use Rattle.xhstt_shape.specs.declared.records.SolutionGroup.{SolutionGroup}
use Rattle.xhstt_completion.proofs.PartsLemmas.{slice_get-append_left, slice_get-append_right}
use Rattle.xhstt_completion.proofs.completion.solution_numbered.Goals as goal
use Rattle.khe_base.proofs.ListLemmas.{drop-next}

pub returns-then-left-solutions : goal.returns-then-left-solutions
returns-then-left-solutions c =
    let groups = c.as_slice-groups.result.now in
    let i = c.loop-group.group-index in
    let group = c.group-item.result in
    let left = c.loop-group.left in
    let solutions = c.as_slice-solutions.result.now in
    let later = flat_map (λ (g : SolutionGroup). g.solutions) (drop (i + 1) groups) in
    sym (slice_get_read solutions _ left c.index-solutions-left.result refl c.if-left-solutions.true
    c.index-solutions-left.is)
    ∙ sym (slice_get-append_left solutions later left c.if-left-solutions.true)
    ∙ ap (λ xs. slice_get (xs ++ later) left) c.as_slice-solutions.ensures
    ∙ ap (λ gs. slice_get (flat_map (λ (g : SolutionGroup). g.solutions) gs) left)
    (sym (drop-next groups i group c.loop-group-test.true c.group-item.is))
    ∙ c.loop-group.invariant
    ∙ ap (λ gs. slice_get (flat_map (λ (g : SolutionGroup). g.solutions) gs) c.args.number) c.as_slice-groups.ensures

pub loop-group-preserved : goal.loop-group-preserved
loop-group-preserved c =
    let groups = c.as_slice-groups.result.now in
    let i = c.loop-group.group-index in
    let group = c.group-item.result in
    let left = c.loop-group.left in
    let solutions = c.as_slice-solutions.result.now in
    let later = flat_map (λ (g : SolutionGroup). g.solutions) (drop (i + 1) groups) in
    sym (slice_get-append_right solutions later left c.if-left-solutions.false)
    ∙ ap (λ xs. slice_get (xs ++ later) left) c.as_slice-solutions.ensures
    ∙ ap (λ gs. slice_get (flat_map (λ (g : SolutionGroup). g.solutions) gs) left)
    (sym (drop-next groups i group c.loop-group-test.true c.group-item.is))
    ∙ c.loop-group.invariant
