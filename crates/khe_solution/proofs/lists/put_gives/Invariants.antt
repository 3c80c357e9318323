use Rattle.std.proofs.Common.{◌≡◌, ◌≤◌, ◌+◌, ◌++◌, drop}
use Rattle.std.specs.Prelude.{vec_len, vec_capacity}
use Rattle.khe_solution.specs.Changing.{gives_from}
use Rattle.khe_solution.proofs.lists.put_gives.Given as goal

abbrev pub invariant-loop-place : goal.invariant-loop-place
invariant-loop-place l = record {
  made : l.list.items ++ gives_from l.meet l.place (drop l.place l.given) ≡ l.fn.list.items
      ++ gives_from l.meet 0 l.given;
  len : vec_len l.list ≤ vec_len l.fn.list + l.place;
  room : vec_capacity l.fn.list ≤ vec_capacity l.list;
}
