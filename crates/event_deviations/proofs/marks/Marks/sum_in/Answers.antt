use Rattle.std.proofs.Common.{◌≡◌, ◌∙◌, sym, ap, ap₂, ◌≤◌, ◌<◌, ℕ, List, cond, length, get_or, count_by, nat_lt, arith, sum_by}
use Rattle.std.proofs.lemmas.List.Sums.{count_by-le-length}
use Rattle.khe_base.specs.IdSet.{has_member}
use Rattle.event_deviations.specs.Marked.{sum_in}
use Rattle.event_deviations.proofs.MarkLemmas.{sum_in-listed}
use Rattle.event_deviations.proofs.marks.Marks.sum_in.Goals as goal

pub sum_of-requires-clause-few : goal.sum_of-requires-clause-few
sum_of-requires-clause-few c =
    let vs = c.self.inside.values.items in
    omega (
      arith,
      c.self.invariant.0.counted,
      count_by-le-length (nat_lt 0) vs,
      ap length c.self.view_is,
      c.requires,
      ap length c.as_slice-2.ensures.value,
    )

pub returns : goal.returns
returns c =
    let set = c.args.set.now in
    let vs = c.self.inside.values.items in
    c.sum_of.ensures
    ∙ ap₂ (λ (xs ms : List ℕ). sum_by (λ n. cond (has_member set n) (get_or xs n 0) 0) ms) c.as_slice.ensures.value
    c.as_slice-2.ensures.value
    ∙ sum_in-listed set vs c.self.inside.marked.items c.self.invariant.0
    ∙ ap (λ (xs : List ℕ). sum_in xs set) c.self.view_is
