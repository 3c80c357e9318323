-- So many slots were added.
use Rattle.std.proofs.Common.{◌≡◌, ◌++◌}
use Rattle.std.specs.Prelude.{replicate}
use Rattle.khe_instance.proofs.slots.push_slots.Given as goal

abbrev pub invariant-loop : goal.invariant-loop
invariant-loop l = l.slots.items ≡ l.fn.slots.items ++ replicate l.counter l.event
