-- What the monitors that prefer some of a task's resources to others cost by the resource that it is given: a number
-- for the resources of each set, and one for all others. And what all other monitors cost.
use Rattle.std.specs.Prelude.{ℕ, ◌≡◌, ◌+◌, ◌≤◌, Bool, false, not, nat_lt, if◌then◌else◌, List, All, map, slice_get}
use Rattle.std.specs.Prelude.{slice_index}
use Rattle.std.specs.List.{filter, sum_by}
use Rattle.std.specs.Option.{option_map_or}
use Rattle.khe_base.specs.IdSet.{has_member}
use Rattle.khe_base.specs.declared.limits.TheConstants.{GREATEST_COST, GREATEST_DEVIATION}
use Rattle.khe_base.specs.declared.numbers.ResourceId.{ResourceId}
use Rattle.khe_base.specs.declared.numbers.TaskId.{TaskId}
use Rattle.khe_base.specs.declared.sums.Totals.{Totals}
use Rattle.khe_engine.specs.States.{State}
use Rattle.khe_engine.specs.Values.{costs}
use Rattle.khe_instance.specs.Costs.{is_hard_at, monitor_cost}
use Rattle.khe_instance.specs.declared.parts.Parts.{Parts}
use Rattle.khe_instance.specs.declared.points.Monitor.{Monitor}
use Rattle.khe_instance.specs.declared.rules.Constraint.{Constraint}
use Rattle.khe_instance.specs.declared.rules.Rule.{Rule}
use Rattle.khe_instance.specs.declared.rules.Rule.TheVariants.{PreferResources}
use Rattle.khe_told.specs.Agreement.{deviation_in}
use Rattle.monitor_graph.specs.Edits.{is_attached}
use Rattle.time_match.specs.Alike.{prefers_at}
use Rattle.time_match.specs.Parted.{rest_with, wishes_with}
use Rattle.time_match.specs.declared.wishes.Wish.{Wish}

-- whether a rule, and the constraint with a number, prefers a resource
abbrev pub is_in : Rule → ResourceId → Bool
is_in (PreferResources resources role) r = has_member resources r.0
is_in _ r = false

abbrev pub is_preferred : Parts → ℕ → ResourceId → Bool
is_preferred p k r = option_map_or (λ (c : Constraint). is_in c.rule r) (slice_get p.constraints k) false

-- what stands for a wish beyond the last
abbrev pub no_wish : Wish
no_wish = record { constraint = 0; required = false; inside = 0; outside = 0 }

-- what a wish costs with a resource, and what several do
abbrev pub wish_cost : Parts → ResourceId → Wish → ℕ
wish_cost p r w = if is_preferred p w.constraint r then w.inside else w.outside

abbrev pub wished : Parts → List Wish → ResourceId → Totals
wished p ws r = record {
  hard = sum_by (λ (w : Wish). if w.required then wish_cost p r w else 0) ws;
  soft = sum_by (λ (w : Wish). if w.required then 0 else wish_cost p r w) ws;
}

-- both numbers are costs of a monitor
pub record IsSmallWish (w : Wish) : Type 0 where
  pub inside : w.inside ≤ GREATEST_COST
  pub outside : w.outside ≤ GREATEST_COST

-- which monitors are detached
abbrev pub off_in : State → ℕ → Bool
off_in b n = not (is_attached b.grouping n)

-- a deviation, or the greatest one
abbrev pub capped : ℕ → ℕ
capped d = if nat_lt GREATEST_DEVIATION d then GREATEST_DEVIATION else d

-- what the monitor with a number would cost if it deviated by so much more
abbrev pub cost_more : Parts → State → ℕ → ℕ → ℕ
cost_more p b more n = option_map_or (λ (m : Monitor). monitor_cost p (off_in b n) m
    (capped (deviation_in p b.slots m + more))) (slice_get p.monitors n) 0

abbrev pub wish_at : Parts → State → ℕ → ℕ → Wish
wish_at p b more n = record {
  constraint = option_map_or (λ (m : Monitor). m.constraint) (slice_get p.monitors n) 0;
  required = is_hard_at p n;
  inside = slice_index (costs p b) n;
  outside = cost_more p b more n;
}

-- whether the monitor with a number prefers some resources at a place of an event
abbrev pub prefers_place : Parts → ℕ → ℕ → ℕ → Bool
prefers_place p e k n = option_map_or (λ (m : Monitor). option_map_or
    (λ (c : Constraint). prefers_at c.rule m.point e k)
    (slice_get p.constraints m.constraint) false) (slice_get p.monitors n) false

-- those of some monitors at a place, whose meet has a duration
abbrev pub wishes_among : Parts → State → ℕ → ℕ → ℕ → List ℕ → List Wish
wishes_among p b e k more ns = map (wish_at p b more) (filter (prefers_place p e k) ns)

-- what the wishes of a task cost in the bare state with a resource, and what all other monitors do
abbrev pub wishes_in : Parts → State → TaskId → ResourceId → Totals
wishes_in p b t r = wishes_with p (off_in b) b.slots t r

abbrev pub rest_in : Parts → State → TaskId → ResourceId → Totals
rest_in p b t r = rest_with p (off_in b) b.slots t r

-- these are the wishes of a task, as far as these resources go
abbrev pub AreWishes : Parts → State → TaskId → List ResourceId → List Wish → Type 0
AreWishes p b t rs ws = All (λ r. wished p ws r ≡ wishes_in p b t r) rs
