-- How groups are kept: for each group number its children with room for more, and bits that say which monitors are
-- in it.
use Rattle.std.specs.Prelude.{ℕ, ◌≡◌, true, ◌+◌, ◌*◌, ◌<◌, ◌≤◌, if◌then◌else◌, Option, List, [], length, map}
use Rattle.std.specs.Option.{option_map_or}
use Rattle.khe_base.specs.Bits.{is_set}
use Rattle.khe_base.specs.declared.limits.TheConstants.{GROUPS, MONITORS}
use Rattle.khe_base.specs.declared.numbers.MonitorId.{MonitorId}
use Rattle.monitor_graph.specs.Groups.{Groups, children_at, has_child, occurs, seated}

-- what the bench of a group number stands for: the group, if there is one, and for how many children
-- there is room
pub record Sitting : Type 0 where
  pub group : Option (List MonitorId)
  pub seats : ℕ

-- the children of a group, if there is one
abbrev pub sitting : Option (List MonitorId) → List MonitorId
sitting group = option_map_or (λ x. x) group []

-- what a seating stands for: the groups, of how many monitors, and for how many children there is
-- room at each group number
pub record Seating : Type 0 where
  pub groups : Groups
  pub monitors : ℕ
  pub seats : List ℕ

-- the groups and the room of benches
abbrev pub groups_on : List Sitting → Groups
groups_on benches = map (λ (s : Sitting). s.group) benches

abbrev pub seats_on : List Sitting → List ℕ
seats_on benches = map (λ (s : Sitting). s.seats) benches

-- the bit of a monitor and a group number
abbrev pub bit_of : ℕ → ℕ → ℕ
bit_of m g = 256 * m + g

-- the bits tell of each monitor which groups it is in, and that it is in none twice; and how many
-- children all groups together have
pub record AreSeated (groups : Groups) (monitors many : ℕ) (held : List ℕ) : Type 0 where
  pub few : monitors ≤ MONITORS
  pub numbers : length groups ≡ GROUPS
  pub known : (g m : ℕ) → has_child groups g m ≡ true → m < monitors
  pub bits : (g m : ℕ) → g < 256 → occurs m (children_at groups g) ≡ (if is_set held (bit_of m g) then 1 else 0)
  pub room : 4 * monitors ≤ length held
  pub counted : many ≡ seated groups
