-- The working space for deviations at event groups: how many resources and how many times it serves.
use Rattle.std.specs.Prelude.{ℕ, length}
use Rattle.khe_instance.specs.declared.parts.Parts.{Parts}

-- how many resources, and how many times
pub record Room : Type 0 where
  pub resources : ℕ
  pub times : ℕ

-- the room that an instance needs
abbrev pub room_for : Parts → Room
room_for p = record { resources = length p.resources; times = length p.times }
