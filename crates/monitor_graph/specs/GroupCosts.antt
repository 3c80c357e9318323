-- What each group costs, kept in two rows by group number.
use Rattle.std.specs.Prelude.{ℕ, ◌≡◌, ◌<◌, ◌≤◌, ◌*◌, List, length, slice_get, slice_index_or}
use Rattle.std.specs.List.{sum_by}
use Rattle.std.specs.Option.{option_map_or}
use Rattle.khe_base.specs.declared.limits.TheConstants.{GREATEST_COST, GROUPS, MONITORS}
use Rattle.khe_base.specs.declared.numbers.MonitorId.{MonitorId}
use Rattle.monitor_graph.specs.Groups.{Groups, children_at}
use Rattle.monitor_graph.specs.Lines.{hard_cost, soft_cost}
use Rattle.monitor_graph.specs.declared.lines.Line.{Line}

-- what a child costs of one kind
abbrev pub child_cost : (Line → ℕ) → List Line → MonitorId → ℕ
child_cost f lines c = option_map_or f (slice_get lines c.0) 0

-- the row has for each number what the children of its group cost of that kind
abbrev pub AreCostsBy : (Line → ℕ) → List Line → Groups → List ℕ → Type 0
AreCostsBy f lines groups row = (g : ℕ) → slice_index_or row g 0 ≡ sum_by (child_cost f lines) (children_at groups g)

-- what groups cost, hard and soft
pub record AreGroupCosts (lines : List Line) (groups : Groups) (hards softs : List ℕ) : Type 0 where
  pub hard_long : length hards ≡ GROUPS
  pub soft_long : length softs ≡ GROUPS
  pub hard : AreCostsBy hard_cost lines groups hards
  pub soft : AreCostsBy soft_cost lines groups softs

-- the groups of the numbers below one cost what they do by the new lines, the others what they do by the old
abbrev pub AreChangedBy : (Line → ℕ) → ℕ → List Line → List Line → Groups → List ℕ → Type 0
AreChangedBy f k old new groups row =
    ((g : ℕ) → g < k → slice_index_or row g 0 ≡ sum_by (child_cost f new) (children_at groups g))
    × ((g : ℕ) → k ≤ g → slice_index_or row g 0 ≡ sum_by (child_cost f old) (children_at groups g))

pub record AreChangedTo (k : ℕ) (old new : List Line) (groups : Groups) (hards softs : List ℕ) : Type 0 where
  pub hard_long : length hards ≡ GROUPS
  pub soft_long : length softs ≡ GROUPS
  pub hard : AreChangedBy hard_cost k old new groups hards
  pub soft : AreChangedBy soft_cost k old new groups softs

-- a cost may be taken out of a sum, and another be added
abbrev pub CanExchange : ℕ → ℕ → Type 0
CanExchange cost total = (cost ≤ total) × (total ≤ MONITORS * GREATEST_COST)
