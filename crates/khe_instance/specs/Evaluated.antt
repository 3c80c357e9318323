-- What a timetable costs: the deviations and costs of its monitors in their order, and the totals,
-- added up anew from its meets and tasks.
use Rattle.std.specs.Prelude.{ℕ, ◌==◌, Bool, List, map}
use Rattle.std.specs.List.{list_any}
use Rattle.khe_base.specs.declared.sums.Totals.{Totals}
use Rattle.khe_instance.specs.Costs.{costs_of, monitor_cost, totals_of}
use Rattle.khe_instance.specs.Deviation.{deviation}
use Rattle.khe_instance.specs.Running.{duties}
use Rattle.khe_instance.specs.declared.parts.Parts.{Parts}
use Rattle.khe_instance.specs.declared.points.Monitor.{Monitor}
use Rattle.khe_instance.specs.declared.states.Plain.{Plain}

-- the deviation of a monitor in a timetable
abbrev pub deviation_in : Parts → Plain → Monitor → ℕ
deviation_in p s m = deviation p s.meets (duties s.meets s.tasks) m

-- the deviations of all monitors
abbrev pub deviations : Parts → Plain → List ℕ
deviations p s = map (deviation_in p s) p.monitors

-- whether the monitor with this number is detached
abbrev pub is_detached : Plain → ℕ → Bool
is_detached s m = list_any (λ d. d.0 == m) s.detached

-- the cost of a monitor with its number
abbrev pub cost_in : Parts → Plain → ℕ × Monitor → ℕ
cost_in p s (number, m) = monitor_cost p (is_detached s number) m (deviation_in p s m)

-- the costs of all monitors
abbrev pub costs : Parts → Plain → List ℕ
costs p s = costs_of p (is_detached s) (deviations p s)

-- their totals
abbrev pub totals : Parts → Plain → Totals
totals p s = totals_of p (costs p s)
