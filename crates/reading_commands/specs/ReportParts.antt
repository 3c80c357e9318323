-- The parts that the windows of a report are made from.
use Rattle.std.specs.Prelude.{◌≡◌, ◌<◌, ◌^◌, length, map}
use Rattle.reading_commands.specs.Report.{group_ids}
use Rattle.reading_commands.specs.declared.report_parts.ReportParts.{ReportParts}
use Rattle.parallel_solve.specs.Ready.{AreOnes}
use Rattle.resource_deviations.specs.Sets.{room_for}
use Rattle.xhstt_references.specs.References.{solutions_of}
use Rattle.xhstt_shape.specs.declared.records.Archive.{Archive}

-- the solutions of an archive with their groups, each with an instance, and the rooms of the instances
pub record AreOf (a : Archive) (p : ReportParts) : Type 0 where
  pub raws : map (λ x. x.now) p.raws.now ≡ solutions_of a
  pub groups : map (λ x. x.now) p.groups.now ≡ group_ids a.solution_groups
  pub ones : AreOnes p.resolved.now 0 (map (λ x. x.now) p.raws.now)
  pub few : length p.raws.now < 2 ^ 32
  pub rooms : p.rooms.now ≡ map room_for p.resolved.now.instances
