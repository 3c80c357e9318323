-- Timetables of one resource.
use Rattle.std.specs.Prelude.{ℕ, ◌≡◌, List, length}
use Rattle.timetables.specs.Counts.{row_of}

-- a timetable of one resource and n times
pub record IsOneRow (rows : List (List ℕ)) (times : ℕ) : Type 0 where
  pub alone : length rows ≡ 1
  pub long : length (row_of rows 0) ≡ times
