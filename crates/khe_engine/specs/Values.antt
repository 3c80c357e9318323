-- The deviations, costs, totals and group costs of a state, by the definitions that evaluation cites.
use Rattle.std.specs.Prelude.{ℕ, ◌≡◌, Bool, true, not, Option, List, map}
use Rattle.std.specs.Option.{option_map}
use Rattle.khe_base.specs.declared.numbers.MonitorId.{MonitorId}
use Rattle.khe_base.specs.declared.sums.Totals.{Totals}
use Rattle.khe_instance.specs.Costs.{costs_of, totals_among, totals_of}
use Rattle.khe_instance.specs.declared.parts.Parts.{Parts}
use Rattle.khe_instance.specs.declared.rules.Kind.{Kind}
use Rattle.khe_told.specs.Agreement.{deviation_in}
use Rattle.khe_told.specs.declared.slots.Slot.{Slot}
use Rattle.monitor_graph.specs.Boards.{Board, deviations_of}
use Rattle.monitor_graph.specs.Dearer.{dearer, only}
use Rattle.monitor_graph.specs.Edits.{is_attached}
use Rattle.monitor_graph.specs.Groups.{children_at}
use Rattle.monitor_graph.specs.Values.{IsOf}
use Rattle.khe_engine.specs.States.{State}

-- the deviations of all monitors
unfoldable pub deviations_in : Parts → List Slot → List ℕ
deviations_in p s = map (deviation_in p s) p.monitors

-- their costs: a detached monitor costs nothing
abbrev pub costs : Parts → State → List ℕ
costs p s = costs_of p (λ n. not (is_attached s.grouping n)) (deviations_in p s.slots)

-- the hard and soft totals of all, and of a group
abbrev pub totals : Parts → State → Totals
totals p s = totals_of p (costs p s)

abbrev pub group_totals : Parts → State → ℕ → Totals
group_totals p s g = totals_among p (costs p s) (map (λ c. c.0) (children_at s.grouping.groups g))

-- the only monitor that costs more than marked
abbrev pub only_dearer : Parts → State → List ℕ → Option MonitorId
only_dearer p s marked = option_map (λ m. record { 0 = m }) (only (dearer marked (costs p s)))

-- a graph has the values of these slots
pub record HasValues (p : Parts) (s : List Slot) (b : Board) : Type 0 where
  pub deviations : deviations_of b ≡ deviations_in p s
  pub rates : IsOf b p

-- every kind is served: a fact of a type of families
abbrev pub ServesAll : (Kind → Bool) → Type 0
ServesAll served = (k : Kind) → served k ≡ true
