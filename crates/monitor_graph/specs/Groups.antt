-- Groups of monitors: for each group number below 200 its children in the order in which they were added, or none
-- where there is no group. A monitor is in a group at most once.
use Rattle.std.specs.Prelude.{ℕ, ◌≡◌, ◌==◌, ◌<◌, ◌≤◌, Bool, true, Option, is_none, is_some, List, [], length, slice_get, slice_index_or}
use Rattle.std.specs.List.{count_by, list_any, position_or_len, remove, sum_by}
use Rattle.std.specs.Option.{option_and_then, option_map_or}
use Rattle.khe_base.specs.declared.limits.TheConstants.{GROUPS}
use Rattle.khe_base.specs.declared.numbers.MonitorId.{MonitorId}

abbrev pub Groups : Type 0
Groups = List (Option (List MonitorId))

-- a group, where there is one of this number
abbrev pub group_at : Groups → ℕ → Option (List MonitorId)
group_at groups g = option_and_then (λ x. x) (slice_get groups g)

abbrev pub has_group : Groups → ℕ → Bool
has_group groups g = is_some (group_at groups g)

abbrev pub children_at : Groups → ℕ → List MonitorId
children_at groups g = option_map_or (λ x. x) (group_at groups g) []

-- the child of a group at a place, if there is one
abbrev pub child_at : Groups → ℕ → ℕ → Option MonitorId
child_at groups g k = slice_get (children_at groups g) k

-- whether a monitor is among children, and how often
abbrev pub is_among : ℕ → List MonitorId → Bool
is_among m children = list_any (λ c. c.0 == m) children

abbrev pub occurs : ℕ → List MonitorId → ℕ
occurs m children = count_by (λ c. c.0 == m) children

abbrev pub has_child : Groups → ℕ → ℕ → Bool
has_child groups g m = is_among m (children_at groups g)

-- the place of a child, and the children without it
abbrev pub place_of : ℕ → List MonitorId → ℕ
place_of m children = position_or_len (λ c. c.0 == m) children

abbrev pub without : ℕ → List MonitorId → List MonitorId
without m children = remove children (place_of m children)

-- the lowest number of no group
abbrev pub free_number : Groups → ℕ
free_number groups = position_or_len is_none groups

-- how many children all groups together have
abbrev pub seated : Groups → ℕ
seated groups = sum_by (λ o. option_map_or length o 0) groups

-- for how many children there is room at a group number, by a list with a number for each; that there
-- is room for one child more, where the number is one of a group; that there is room for the children
-- that there are; and that there is no less room than before at any number
abbrev pub seats_at : List ℕ → ℕ → ℕ
seats_at seats g = slice_index_or seats g 0

abbrev pub HasSeat : Groups → List ℕ → ℕ → Type 0
HasSeat groups seats g = g < GROUPS → length (children_at groups g) < seats_at seats g

abbrev pub HaveRoom : Groups → List ℕ → Type 0
HaveRoom groups seats = (g : ℕ) → length (children_at groups g) ≤ seats_at seats g

abbrev pub HaveAsMany : List ℕ → List ℕ → Type 0
HaveAsMany before after = (g : ℕ) → seats_at before g ≤ seats_at after g

-- groups of these monitors: each child is one of them, and stands in a group at most once
pub record AreGroups (monitors : ℕ) (groups : Groups) : Type 0 where
  pub numbers : length groups ≡ GROUPS
  pub known : (g m : ℕ) → has_child groups g m ≡ true → m < monitors
  pub once : (g m : ℕ) → occurs m (children_at groups g) ≤ 1
