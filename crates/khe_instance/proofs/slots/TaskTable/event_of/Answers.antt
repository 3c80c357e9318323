-- The search passes the first event, whose first task is 0.
use Rattle.std.proofs.Common.{◌≡◌, ◌-◌, sym, subst, leb, rules, slice_get, Some, List, ℕ}
use Rattle.std.specs.List.Sorted.{IsNonDecreasing}
use Rattle.std.proofs.lemmas.List.Sorted.{IsPartitionPoint-from_clause, IsPartitionedBy-leb}
use Rattle.khe_instance.specs.SlotTables.{IsLastUpTo}
use Rattle.khe_instance.proofs.TasksLemmas.{past-first, last-up-to}
use Rattle.khe_instance.proofs.slots.TaskTable.event_of.Goals as goal

pub overflow_sub-result : goal.overflow_sub-result
overflow_sub-result c =
    let xs = c.as_slice.result.now in
    let n = c.args.number in
    let back = sym c.as_slice.ensures.value in
    let cut = IsPartitionPoint-from_clause (λ y. leb y n) xs c.partition_point.result
    c.partition_point.ensures.partitioned
    (IsPartitionedBy-leb (λ y. y) xs n (subst IsNonDecreasing back c.requires.ordered)) (λ a r f k. search rules) in
    past-first xs n c.partition_point.result (subst (λ (ys : List ℕ). slice_get ys 0 ≡ Some 0) back c.requires.some) cut

pub returns : goal.returns
returns c =
    let xs = c.as_slice.result.now in
    let n = c.args.number in
    let i = c.partition_point.result in
    let back = sym c.as_slice.ensures.value in
    let cut = IsPartitionPoint-from_clause (λ y. leb y n) xs i c.partition_point.ensures.partitioned
    (IsPartitionedBy-leb (λ y. y) xs n (subst IsNonDecreasing back c.requires.ordered)) (λ a r f k. search rules) in
    let some = past-first xs n i (subst (λ (ys : List ℕ). slice_get ys 0 ≡ Some 0) back c.requires.some) cut in
    subst (λ (ys : List ℕ). IsLastUpTo ys n (i - 1)) c.as_slice.ensures.value
    (last-up-to xs n i c.partition_point.ensures.bound some cut)
