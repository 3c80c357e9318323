use Rattle.std.proofs.Common.{◌≡◌, take, ◌≤◌}
use Rattle.khe_told.specs.Effects.{given_with}
use Rattle.resource_monitors.specs.Cells.{given_to}
use Rattle.resource_monitors.proofs.shifts.count_given.Given as goal

abbrev pub invariant-loop-place : goal.invariant-loop-place
invariant-loop-place l = record {
  value : l.count ≡ given_to l.r.0 (take l.place (given_with l.given l.regiven));
  small : l.count ≤ l.place;
}
