-- There is a cost for each monitor, and no other.
use Rattle.std.proofs.Common.{ℕ, ◌≡◌, ◌<◌, ◌≤◌, ◌∙◌, None, Some, length, slice_get, get_or, arith}
use Rattle.std.specs.Prelude.{not}
use Rattle.std.specs.List.{range_with_len}
use Rattle.std.proofs.lemmas.List.{length-map}
use Rattle.std.proofs.lemmas.List.FromFn.{length-range_with_len}
use Rattle.std.proofs.lemmas.Option.{slice_get-get_or, slice_get_past}
use Rattle.khe_instance.specs.Costs.{cost_at}
use Rattle.khe_instance.specs.declared.parts.Parts.{Parts}
use Rattle.khe_engine.specs.States.{State}
use Rattle.khe_engine.specs.Values.{costs, deviations_in}
use Rattle.monitor_graph.specs.Edits.{is_attached}

costs_long : (p : Parts) (s : State) → length (costs p s) ≡ length p.monitors
costs_long p s =
    length-map (range_with_len 0 (length p.monitors))
    (cost_at p (λ n. not (is_attached s.grouping n)) (deviations_in p s.slots))
    ∙ length-range_with_len 0 (length p.monitors)

pub cost_there : (p : Parts) (s : State) (n : ℕ) → n < length p.monitors
    → slice_get (costs p s) n ≡ Some (get_or (costs p s) n 0)
cost_there p s n low = let many = costs_long p s in slice_get-get_or (costs p s) n 0 (omega (arith, low, many))

pub cost_past : (p : Parts) (s : State) (n : ℕ) → length p.monitors ≤ n → slice_get (costs p s) n ≡ None
cost_past p s n past = let many = costs_long p s in slice_get_past (costs p s) n (omega (arith, past, many))
