-- The cost of one monitor among those of all.
use Rattle.std.proofs.Common.{ℕ, ◌≡◌, ◌<◌, ◌∙◌, Some, length, get_or, ap, slice_get, zero-add}
use Rattle.std.specs.Option.{option_map_or}
use Rattle.std.proofs.lemmas.List.FromFn.{get_or-map-range_with_len}
use Rattle.std.proofs.lemmas.Option.{slice_get_within}
use Rattle.khe_base.proofs.ListLemmas.{mapped-there}
use Rattle.khe_instance.specs.Costs.{cost_at, monitor_cost}
use Rattle.khe_instance.specs.Evaluated.{costs, cost_in, deviations, deviation_in, is_detached}
use Rattle.khe_instance.specs.declared.parts.Parts.{Parts}
use Rattle.khe_instance.specs.declared.points.Monitor.{Monitor}
use Rattle.khe_instance.specs.declared.states.Plain.{Plain}

pub cost-there : (p : Parts) (s : Plain) (i : ℕ) (m : Monitor) → slice_get p.monitors i ≡ Some m
    → get_or (costs p s) i 0 ≡ cost_in p s (i, m)
cost-there p s i m there =
    let ds = deviations p s in
    let within : i < length p.monitors = slice_get_within p.monitors i m there in
    get_or-map-range_with_len (cost_at p (is_detached s) ds) 0 (length p.monitors) i i 0 within (zero-add i)
    ∙ ap (λ o. option_map_or (λ (x : Monitor). monitor_cost p (is_detached s i) x (get_or ds i 0)) o 0) there
    ∙ ap (monitor_cost p (is_detached s i) m) (mapped-there (deviation_in p s) p.monitors i m 0 there)
