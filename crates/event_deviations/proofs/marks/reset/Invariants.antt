use Rattle.std.proofs.Common.{◌≡◌, ℕ, ◌==◌, length, take, slice_index, if◌then◌else◌}
use Rattle.std.specs.List.{list_any}
use Rattle.event_deviations.proofs.marks.reset.Given as goal

abbrev pub invariant-loop-n : goal.invariant-loop-n
invariant-loop-n l = record {
  long : length l.values.items ≡ length l.fn.values.items;
  reset : (k : ℕ) → slice_index l.values.items k
      ≡ (if list_any (λ m. m == k) (take l.n-index l.numbers) then 0 else slice_index l.fn.values.items k);
}
