-- The total is the sum over the times.
use Rattle.std.proofs.Common.{◌≡◌, ◌-◌, ◌∙◌, ℕ, List, length, slice_index, sym, subst, sum_by, ◌<◌, arith}
use Rattle.std.specs.List.{range_with_len}
use Rattle.timetables.specs.Counts.{row_of}
use Rattle.resource_monitors.proofs.ClashLaws.{by_times, read_at}
use Rattle.resource_monitors.proofs.tables.CellTable.clashes.Goals as goal

pub returns : goal.returns
returns c =
    let rows = c.self.inside.table in
    let r = c.args.r.0 in
    let within : r < length c.self.inside.clashes.items = let a = c.self.invariant.amount in let b : r < length rows =
    subst (λ (xs : List (List ℕ)). r < length xs) (sym c.self.view_is) c.requires in omega (arith, a, b) in
    subst (λ (xs : List (List ℕ)). c.index.result.now
    ≡ sum_by (λ t. slice_index (row_of xs r) t - 1) (range_with_len 0 (length (row_of xs r)))) c.self.view_is
    (read_at c.self.inside.clashes.items r c.index.result.now within c.index.ensures ∙ c.self.invariant.each r
    ∙ by_times (row_of rows r))
