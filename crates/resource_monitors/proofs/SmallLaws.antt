-- No value is above the greatest deviation.
use Rattle.std.proofs.Common.{ℕ, ◌≤◌, List, slice_index, ap, arith}
use Rattle.std.specs.Option.{option_map_or}
use Rattle.khe_base.specs.declared.limits.TheConstants.{GREATEST_DEVIATION, TASKS}
use Rattle.khe_instance.proofs.MadeLemmas.{constraint_made}
use Rattle.khe_instance.proofs.ResourceBounds.{measured-small}
use Rattle.khe_instance.specs.WellMade.{AreWellMade, IsMonitor, IsRule}
use Rattle.khe_instance.specs.declared.parts.Parts.{Parts}
use Rattle.khe_instance.specs.declared.points.Monitor.{Monitor}
use Rattle.khe_instance.specs.declared.points.Point.{Point}
use Rattle.khe_instance.specs.declared.points.Point.TheVariants.{Resource}
use Rattle.khe_instance.specs.declared.rules.Constraint.{Constraint}
use Rattle.khe_instance.specs.declared.rules.Rule.{Rule}
use Rattle.timetables.specs.Counts.{row_of, count_at}
use Rattle.resource_monitors.specs.Cells.{value_at, value_in}

module _ (p : Parts) (made : AreWellMade p) (rows : List (List ℕ)) (few : (r t : ℕ) → count_at rows r t ≤ TASKS) where
  small_at : (rule : Rule) → IsRule p rule → (point : Point) → value_at p rows rule point ≤ GREATEST_DEVIATION
  small_at rule h (Resource r) = measured-small p (slice_index (row_of rows r.0)) 0 made.limits made.unit.positive
      (few r.0) (omega arith) rule h
  small_at rule h _ = omega arith

  pub value_small : (m : Monitor) → IsMonitor p m → value_in p rows m ≤ GREATEST_DEVIATION
  value_small m (c, there, kind, point) =
      let e = ap (λ o. option_map_or (λ (x : Constraint). value_at p rows x.rule m.point) o 0) there in
      let l = small_at c.rule (constraint_made p made m.constraint c there).rule m.point in
      omega (arith, e, l)
