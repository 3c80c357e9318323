use Rattle.std.proofs.Common.{ℕ, ◌≡◌, Bool, true, false, cond, refl}
use Rattle.monitor_graph.proofs.group_costs.freed.Goals as goal

nothing : (t : Bool) → ◌≡◌ {A = ℕ} (cond t 0 0) 0
nothing true = refl
nothing false = refl

pub returns-clause-hard : goal.returns-clause-hard
returns-clause-hard c = nothing c.args.line.now.required

pub returns-clause-soft : goal.returns-clause-soft
returns-clause-soft c = nothing c.args.line.now.required
