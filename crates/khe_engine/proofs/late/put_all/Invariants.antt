use Rattle.std.proofs.Common.{◌≤◌, ◌+◌, List, drop, length}
use Rattle.std.specs.Prelude.{vec_capacity, vec_len}
use Rattle.khe_told.specs.declared.changes.Change.{Change}
use Rattle.khe_engine.specs.Late.{LeadAlike}
use Rattle.khe_engine.proofs.late.put_all.Given as goal

abbrev pub invariant-loop-change : goal.invariant-loop-change
invariant-loop-change l =
    let rest = drop l.change-index l.changes in
    record {
      room : vec_len l.list + length rest ≤ vec_capacity l.list;
      kept : vec_capacity l.fn.list ≤ vec_capacity l.list;
      lead : (es : List Change) → LeadAlike l.list.items rest es → LeadAlike l.fn.list.items l.changes es;
    }
