-- How many tasks less and more a resource has after effects on one slot or two, by their runs of times.
use Rattle.std.specs.Prelude.{ℕ, ◌≡◌, ◌≤◌, ◌<◌, ◌+◌, ◌-◌, ◌^◌, if◌then◌else◌, Option, Some, None, List, []}
use Rattle.std.specs.Prelude.{◌∷◌}
use Rattle.khe_told.specs.Turns.{SlotTurn}
use Rattle.resource_monitors.specs.Cells.{in_run}
use Rattle.resource_monitors.specs.Runs.{cells_of, run_of}
use Rattle.resource_monitors.specs.declared.runs.Run.{Run}
use Rattle.resource_monitors.specs.declared.shifts.Shift.{Shift}
use Rattle.resource_monitors.specs.declared.shifts.Shifts.{Shifts}

-- no times, and those of a meet that may have no start
abbrev pub no_run : Run
no_run = record { start = 0; end = 0 }

abbrev pub times_for : Option Run → Run
times_for None = no_run
times_for (Some run) = run

-- how many tasks are lost and gained at a time
abbrev pub lost_at : Shift → ℕ → ℕ
lost_at x t = if in_run x.emptied.start x.emptied.end t then x.lost else 0

abbrev pub gained_at : Shift → ℕ → ℕ
gained_at x t = if in_run x.filled.start x.filled.end t then x.gained else 0

-- a count at a time after one of them, and after both
abbrev pub after_one : Shift → ℕ → ℕ → ℕ
after_one x n t = n + gained_at x t - lost_at x t

abbrev pub after_both : Shifts → (ℕ → ℕ) → ℕ → ℕ
after_both xs c t = after_one xs.second (after_one xs.first (c t) t) t

-- what a turn of a slot takes from a resource and gives to it
pub record IsShift (t : SlotTurn) (q : ℕ) (x : Shift) : Type 0 where
  pub lost : (u : ℕ) → lost_at x u ≡ cells_of (run_of t.before.span) t.before.given q u
  pub gained : (u : ℕ) → gained_at x u ≡ cells_of (run_of t.after.span) t.after.given q u

-- which is nothing
pub record IsNoShift (x : Shift) : Type 0 where
  pub lost : (u : ℕ) → lost_at x u ≡ 0
  pub gained : (u : ℕ) → gained_at x u ≡ 0

-- and what one turn or two do
abbrev pub AreShifts : List SlotTurn → ℕ → Shifts → Type 0
AreShifts (a ∷ []) q xs = IsShift a q xs.first × IsNoShift xs.second
AreShifts (a ∷ b ∷ []) q xs = IsShift a q xs.first × IsShift b q xs.second
AreShifts _ q xs = ⊥

-- the runs are of the instance's times
pub record IsBelow (x : Shift) (times : ℕ) : Type 0 where
  pub emptied : x.emptied.end ≤ times
  pub filled : x.filled.end ≤ times
  pub emptied_order : x.emptied.start ≤ x.emptied.end
  pub filled_order : x.filled.start ≤ x.filled.end

-- these counts can be shifted: no less is there than is lost, and numbers stay small
pub record CanShift (xs : Shifts) (times : ℕ) (c : ℕ → ℕ) : Type 0 where
  pub first : IsBelow xs.first times
  pub second : IsBelow xs.second times
  pub enough : (t : ℕ) → lost_at xs.first t ≤ c t + gained_at xs.first t
  pub enough_then : (t : ℕ) → lost_at xs.second t ≤ after_one xs.first (c t) t + gained_at xs.second t
  pub small : (t : ℕ) → c t + gained_at xs.first t < 2 ^ 32
  pub small_then : (t : ℕ) → after_one xs.first (c t) t + gained_at xs.second t < 2 ^ 32
