-- A board before any deviation is known.
use Rattle.std.specs.Prelude.{ℕ, ◌≡◌, ◌≢◌, ◌==◌, ◌<◌, ◌≤◌, Bool, true, false, not, List, length, map, slice_get, All}
use Rattle.std.specs.Prelude.{AllPairs}
use Rattle.std.specs.List.{find, range_with_len}
use Rattle.std.specs.Option.{option_map, option_map_or}
use Rattle.khe_base.specs.declared.costs.CostFn.TheVariants.{Linear}
use Rattle.khe_base.specs.declared.limits.TheConstants.{GROUPS, WEIGHT}
use Rattle.khe_instance.specs.Evaluated.{is_detached}
use Rattle.khe_instance.specs.declared.parts.Parts.{Parts}
use Rattle.khe_instance.specs.declared.points.Monitor.{Monitor}
use Rattle.khe_instance.specs.declared.rules.Constraint.{Constraint}
use Rattle.khe_instance.specs.declared.states.Group.{Group}
use Rattle.khe_instance.specs.declared.states.Plain.{Plain}
use Rattle.monitor_graph.specs.Groups.{Groups}
use Rattle.monitor_graph.specs.declared.lines.Line.{Line}

-- the line of a constraint's monitor, attached or not
abbrev pub line_for : Bool → Constraint → Line
line_for attached c = record {
  function = c.cost;
  weight = c.weight;
  required = c.required;
  attached = attached;
  deviation = 0;
}

abbrev pub no_line : Bool → Line
no_line attached = record { function = Linear; weight = 0; required = false; attached = attached; deviation = 0 }

abbrev pub line_of : Parts → Bool → Monitor → Line
line_of p attached m = option_map_or (line_for attached) (slice_get p.constraints m.constraint) (no_line attached)

-- the lines of an instance's monitors, all attached
abbrev pub lines_in : Parts → List Line
lines_in p = map (line_of p true) p.monitors

-- a line of a monitor that costs nothing yet
abbrev pub IsFresh : Line → Type 0
IsFresh x = (x.weight ≤ WEIGHT) × (x.deviation ≡ 0)

-- the rates of an instance's monitors
abbrev pub rates_in : Parts → List Line
rates_in p = map (line_of p false) p.monitors

-- which monitors are attached in a timetable
abbrev pub attached_in : Parts → Plain → List Bool
attached_in p s = map (λ n. not (is_detached s n)) (range_with_len 0 (length p.monitors))

-- its groups, by their numbers below a bound
unfoldable pub numbered_groups : ℕ → List Group → Groups
numbered_groups n groups = map (λ g. option_map (λ (x : Group). x.children) (find (λ x. x.group.0 == g) groups))
    (range_with_len 0 n)

abbrev pub groups_in : List Group → Groups
groups_in groups = numbered_groups GROUPS groups

-- a group of these monitors, each of them once
pub record IsGroupOf (monitors : ℕ) (g : Group) : Type 0 where
  pub number : g.group.0 < GROUPS
  pub children : All (λ m. m.0 < monitors) g.children
  pub once : AllPairs (λ x y. x ≢ y) g.children
