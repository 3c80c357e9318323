-- What deviations are computed from: an instance with the meets and the tasks of a timetable.
use Rattle.std.specs.Prelude.{◌≡◌, List}
use Rattle.khe_base.specs.declared.numbers.ResourceId.{ResourceId}
use Rattle.khe_instance.specs.declared.parts.Parts.{Parts}
use Rattle.khe_instance.specs.declared.points.Point.{Point}
use Rattle.khe_instance.specs.declared.points.Point.TheVariants.{Resource}
use Rattle.khe_instance.specs.declared.states.Duty.{Duty}
use Rattle.khe_instance.specs.declared.states.Meet.{Meet}

pub record State : Type 0 where
  pub parts : Parts
  pub meets : List Meet
  pub duties : List Duty

-- the point is an event, a place of one, an event group or a pair of events
abbrev pub IsAtEvents : Point → Type 0
IsAtEvents point = (r : ResourceId) → point ≡ Resource r → ⊥
