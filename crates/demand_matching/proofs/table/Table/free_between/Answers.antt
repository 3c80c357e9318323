use Rattle.std.proofs.Common.{ap, ◌∙◌, arith, inl, inr}
use Rattle.demand_matching.specs.Domains.{is_picked}
use Rattle.demand_matching.proofs.Counting.{cases_last}
use Rattle.demand_matching.proofs.Picks.{picked_hit}
use Rattle.demand_matching.proofs.table.Table.free_between.Goals as goal

pub free_at-requires-clause-picked : goal.free_at-requires-clause-picked
free_at-requires-clause-picked c =
    let t = c.args.self.now in
    ap (is_picked t.resources c.args.domain.resources) c.number-resource.ensures
    ∙ picked_hit t.resources c.args.domain.resources c.loop-i.i (omega arith)

pub loop-i-preserved : goal.loop-i-preserved
loop-i-preserved c =
    let t = c.args.self.now in
    λ j n low l p. elim (cases_last j c.loop-i.i (omega arith)) [
      | inl x ↦ rw x (rw c.number-resource.ensures at (c.in-None.ensures n p))
      | inr less ↦ c.loop-i.invariant j n low less p
    ]
