use Rattle.std.proofs.Common.{◌≡◌, ◌≤◌, ◌++◌, drop, map, take, length}
use Rattle.std.specs.Prelude.{vec_capacity}
use Rattle.khe_told.specs.Changes.{inverse}
use Rattle.khe_solution.proofs.notes.invert_each.Given as goal

abbrev pub invariant-loop-k : goal.invariant-loop-k
invariant-loop-k l =
    record {
      turned : take l.k l.list.items ++ map inverse (drop l.k l.list.items) ≡ map inverse l.fn.list.items;
      amount : length l.list.items ≡ length l.fn.list.items;
      room : vec_capacity l.fn.list ≤ vec_capacity l.list;
    }
