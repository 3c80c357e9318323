use Rattle.std.proofs.Common.{◌∙◌, sym, ap, subst, ◌≤◌, ℕ, length, replicate, arith}
use Rattle.std.proofs.lemmas.List.{length-replicate}
use Rattle.std.specs.Prelude.{vec_capacity}
use Rattle.event_deviations.proofs.MarkLemmas.{AreListed-none}
use Rattle.event_deviations.proofs.marks.Marks.new.Goals as goal

pub invariant_of-result : goal.invariant_of-result
invariant_of-result c =
    let n = c.args.size in
    let zeros = c.in_ok-vec.ensures.items_if_clones_equal (λ y h. h) in (
      rw (zeros, c.in_ok-with_capacity.ensures.items) (AreListed-none n),
      omega (arith, ap length zeros, length-replicate {A = ℕ} n 0, c.in_ok-with_capacity.ensures.capacity),
    )
