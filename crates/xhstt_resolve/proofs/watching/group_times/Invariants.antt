-- The sum so far, with that of the groups that are left, is the whole.
use Rattle.std.proofs.Common.{◌≡◌, ◌+◌, ◌*◌, ◌≤◌, drop, length}
use Rattle.std.specs.List.{sum_by}
use Rattle.khe_base.specs.declared.limits.TheConstants.{TIMES}
use Rattle.xhstt_resolve.specs.Members.{times_in}
use Rattle.xhstt_resolve.proofs.watching.group_times.Given as goal

abbrev pub invariant-loop-group : goal.invariant-loop-group
invariant-loop-group l = record {
  counted : l.total + sum_by (λ g. length (times_in l.lookup.instance.now g.id)) (drop l.group-index l.groups)
      ≡ sum_by (λ g. length (times_in l.lookup.instance.now g.id)) l.groups;
  small : l.total ≤ l.group-index * TIMES;
}
