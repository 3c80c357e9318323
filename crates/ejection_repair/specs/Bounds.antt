-- The most moves of a list, the most chains up to a length, and the bound on tries that follows.
use Rattle.std.specs.Prelude.{ℕ, zero, suc, ◌+◌, ◌*◌, ◌≤◌, length}
use Rattle.khe_instance.specs.declared.parts.Parts.{Parts}
use Rattle.repair_moves.specs.Items.{meet_slots, task_slots}
use Rattle.ejection_repair.specs.declared.outcome.Outcome.{Outcome}
use Rattle.ejection_repair.specs.declared.outcome.Outcome.TheVariants.{Done, Spent}

-- the greatest number of moves of a list: by the durations of all events, the times, the tasks and the
-- resources
unfoldable pub most_moves : Parts → ℕ
most_moves p = meet_slots p * (length p.times + meet_slots p + 1) + task_slots
    p * (length p.resources + task_slots p + 1)

-- r + r^2 + .. + r^k
abbrev pub powers : ℕ → ℕ → ℕ
powers r zero = 0
powers r (suc k) = r * (1 + powers r k)

-- the greatest number of chains in the sweeps of lengths up to j, of d monitors with r moves each
unfoldable pub most : ℕ → ℕ → ℕ → ℕ
most d r j = j * (d * powers r j)

-- where the budget is spent, as many were tried as the accepted chains and the sweeps after the last of
-- them may take
abbrev pub IsWithin : ℕ → ℕ → ℕ → Outcome → Type 0
IsWithin d r depth (Done a t) = Unit {0}
IsWithin d r depth (Spent a t k) = t ≤ a * most d r depth + most d r (k + 1)
