-- A graph stands for a board: for each monitor its cost function, weight, hardness, attachment and deviation; the
-- groups; the marked costs; and the room for children at each group number.
use Rattle.std.specs.Prelude.{ℕ, ◌≡◌, Bool, false, Option, List, map, slice_set}
use Rattle.khe_base.specs.declared.numbers.MonitorId.{MonitorId}
use Rattle.monitor_graph.specs.Groups.{Groups}
use Rattle.monitor_graph.specs.declared.lines.Line.{Line}

-- a line for each monitor, the groups, the costs that were marked, and for how many children there is
-- room at each group number
pub record Board : Type 0 where
  pub lines : List Line
  pub groups : Groups
  pub marked : List ℕ
  pub seats : List ℕ

-- which monitors are attached, and the groups: what six of the edits change
pub record Grouping : Type 0 where
  pub attached : List Bool
  pub groups : Groups

abbrev pub grouping_of : Board → Grouping
grouping_of b = record { attached = map (λ (x : Line). x.attached) b.lines; groups = b.groups }

abbrev pub deviations_of : Board → List ℕ
deviations_of b = map (λ (x : Line). x.deviation) b.lines

-- the cost function, the weight and whether it is hard, of each monitor: what never changes
abbrev pub rate_of : Line → Line
rate_of x = record x { attached = false; deviation = 0 }

abbrev pub rates_of : Board → List Line
rates_of b = map rate_of b.lines

-- all but the deviations
abbrev pub fixed_of : Line → Line
fixed_of x = record x { deviation = 0 }

pub record HaveSameRest (a b : Board) : Type 0 where
  pub lines : map fixed_of a.lines ≡ map fixed_of b.lines
  pub groups : a.groups ≡ b.groups
  pub marked : a.marked ≡ b.marked
  pub seats : a.seats ≡ b.seats

-- another group at a number
abbrev pub regrouped : Board → ℕ → Option (List MonitorId) → Grouping
regrouped b g group = record { attached = (grouping_of b).attached; groups = slice_set b.groups g group }

-- an edit of monitors and groups keeps deviations, rates, the marked costs and the seats
pub record KeepsValues (a b : Board) : Type 0 where
  pub deviations : deviations_of b ≡ deviations_of a
  pub rates : rates_of b ≡ rates_of a
  pub marked : b.marked ≡ a.marked
  pub seats : b.seats ≡ a.seats
