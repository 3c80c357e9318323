-- The parts that the sections of a page are made from.
use Rattle.std.specs.Prelude.{◌≡◌, ◌<◌, ◌^◌, length, map}
use Rattle.parallel_solve.specs.Ready.{AreOnes}
use Rattle.resource_deviations.specs.Sets.{room_for}
use Rattle.timetable_page.specs.declared.parts.Parts.{Parts}
use Rattle.xhstt_references.specs.References.{solutions_of}

-- the solutions of the archive, each with an instance, and the rooms of the instances
pub record AreParts (p : Parts) : Type 0 where
  pub raws : map (λ x. x.now) p.raws.now ≡ solutions_of p.archive.now
  pub ones : AreOnes p.resolved.now 0 (map (λ x. x.now) p.raws.now)
  pub few : length p.raws.now < 2 ^ 32
  pub rooms : p.rooms.now ≡ map room_for p.resolved.now.instances
  pub same : length p.archive.now.instances ≡ length p.resolved.now.instances
