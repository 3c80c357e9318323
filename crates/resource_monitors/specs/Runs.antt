-- The cells that are emptied or filled where a slot becomes another.
use Rattle.std.specs.Prelude.{ℕ, ◌≡◌, ◌<◌, ◌≤◌, ◌+◌, ◌-◌, Bool, true, false, if◌then◌else◌, Option, Some, None, List}
use Rattle.std.specs.Prelude.{[]}
use Rattle.std.specs.Prelude.{◌∷◌, ◌⊎◌, length, slice_get}
use Rattle.std.specs.List.{list_any, range_with_len}
use Rattle.std.specs.Option.{option_and_then, option_map}
use Rattle.khe_base.specs.declared.limits.TheConstants.{GREATEST_COUNT}
use Rattle.khe_base.specs.declared.numbers.ResourceId.{ResourceId}
use Rattle.khe_base.specs.declared.numbers.TimeId.{TimeId}
use Rattle.khe_instance.specs.Watching.{is_at, lists_time}
use Rattle.khe_instance.specs.declared.parts.Parts.{Parts}
use Rattle.khe_instance.specs.declared.points.Monitor.{Monitor}
use Rattle.khe_instance.specs.declared.rules.Constraint.{Constraint}
use Rattle.khe_told.specs.declared.slots.Span.{Span}
use Rattle.resource_monitors.specs.Cells.{given_to, in_run}
use Rattle.resource_monitors.specs.declared.runs.Run.{Run}

-- the times of a meet, where it has a start
abbrev pub run_of : Option Span → Option Run
run_of span = option_and_then (λ (y : Span). option_map
    (λ (t : TimeId). record { start = t.0; end = t.0 + y.duration }) y.start) span

-- a run is of times of the instance
pub record IsWithin (p : Parts) (run : Run) : Type 0 where
  pub order : run.start ≤ run.end
  pub times : run.end ≤ length p.times

-- each is one of n resources
abbrev pub AreOf : List (Option ResourceId) → ℕ → Type 0
AreOf given resources = (j : ℕ) (r : ResourceId) → slice_get given j ≡ Some (Some r) → r.0 < resources

-- how many tasks places with these resources make of a resource at a time, where they run in a run or not at all
abbrev pub cells_of : Option Run → List (Option ResourceId) → ℕ → ℕ → ℕ
cells_of None given q t = 0
cells_of (Some run) given q t = if in_run run.start run.end t then given_to q given else 0

-- there is room for the task of one more place, or there is its task to take away
abbrev pub CanTurn : Bool → Option ResourceId → Option Run → (ℕ → ℕ → ℕ) → Type 0
CanTurn true place run old = (q t : ℕ) → old q t + cells_of run (place ∷ []) q t ≤ GREATEST_COUNT
CanTurn false place run old = (q t : ℕ) → cells_of run (place ∷ []) q t ≤ old q t

-- the counts rise by the task of a place, or fall by it
abbrev pub Turned : Bool → Option ResourceId → Option Run → (ℕ → ℕ → ℕ) → (ℕ → ℕ → ℕ) → Type 0
Turned true place run old new = (q t : ℕ) → new q t ≡ old q t + cells_of run (place ∷ []) q t
Turned false place run old new = (q t : ℕ) → old q t ≡ new q t + cells_of run (place ∷ []) q t

-- these counts can turn from the tasks of some places to those of others
pub record CanExchange (p : Parts) (emptied filled : Option Run) (before later : List (Option ResourceId))
    (old : ℕ → ℕ → ℕ) : Type 0 where
  pub emptied_within : (y : Run) → emptied ≡ Some y → IsWithin p y
  pub filled_within : (y : Run) → filled ≡ Some y → IsWithin p y
  pub before_of : AreOf before (length p.resources)
  pub later_of : AreOf later (length p.resources)
  pub places : length later ≡ length before
  pub some : (q t : ℕ) → cells_of emptied before q t ≤ old q t
  pub few : (q t : ℕ) → old q t ≤ GREATEST_COUNT
  pub room : (y : Run) (q t : ℕ) → filled ≡ Some y
      → old q t + length before ≤ GREATEST_COUNT + cells_of emptied before q t

-- from the tasks of some places to those of others
abbrev pub AreExchanged : Option Run → Option Run → List (Option ResourceId) → List (Option ResourceId)
    → (ℕ → ℕ → ℕ) → (ℕ → ℕ → ℕ) → Type 0
AreExchanged emptied filled before later old new = (q t : ℕ)
    → new q t + cells_of emptied before q t ≡ old q t + cells_of filled later q t

-- the monitor with a number is at the resource of a place and lists one of the times of a run
pub record IsAtRun (p : Parts) (place : Option ResourceId) (run : Option Run) (i : ℕ) : Type 0 where
  pub monitor : Monitor
  pub constraint : Constraint
  pub resource : ResourceId
  pub times : Run
  pub there : slice_get p.monitors i ≡ Some monitor
  pub ruled : slice_get p.constraints monitor.constraint ≡ Some constraint
  pub given : place ≡ Some resource
  pub runs : run ≡ Some times
  pub own : is_at monitor.point resource.0 ≡ true
  pub lists : list_any (lists_time constraint.rule) (range_with_len times.start (times.end - times.start)) ≡ true

-- who waits and did not before is such a monitor
abbrev pub AreAtRun : Parts → Option ResourceId → Option Run → (ℕ → Bool) → (ℕ → Bool) → Type 0
AreAtRun p place run old new = (i : ℕ) → new i ≡ true → (old i ≡ true) ⊎ IsAtRun p place run i

-- or at what one place is given before or after, where that is something else or at other times
abbrev pub AreAtEither : Parts → Option ResourceId → Option ResourceId → Option Run → Option Run → (ℕ → Bool)
    → (ℕ → Bool) → Type 0
AreAtEither p before later emptied filled old new = (i : ℕ) → new i ≡ true
    → (old i ≡ true) ⊎ ((before ≡ later → emptied ≡ filled → ⊥)
    × (IsAtRun p before emptied i ⊎ IsAtRun p later filled i))

-- or at one of several places
abbrev pub IsMoved : Option Run → Option Run → List (Option ResourceId) → List (Option ResourceId) → ℕ → Type 0
IsMoved emptied filled before later j = slice_get before j ≡ slice_get later j → emptied ≡ filled → ⊥

pub record IsAtMoved (p : Parts) (emptied filled : Option Run) (before later : List (Option ResourceId)) (i : ℕ) : Type
    0 where
  pub number : ℕ
  pub old_place : Option ResourceId
  pub new_place : Option ResourceId
  pub old_there : slice_get before number ≡ Some old_place
  pub new_there : slice_get later number ≡ Some new_place
  pub moved : IsMoved emptied filled before later number
  pub own : IsAtRun p old_place emptied i ⊎ IsAtRun p new_place filled i

abbrev pub AreAtMoved : Parts → Option Run → Option Run → List (Option ResourceId) → List (Option ResourceId)
    → (ℕ → Bool) → (ℕ → Bool) → Type 0
AreAtMoved p emptied filled before later old new = (i : ℕ) → new i ≡ true
    → (old i ≡ true) ⊎ IsAtMoved p emptied filled before later i
