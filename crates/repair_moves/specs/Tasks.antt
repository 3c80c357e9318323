-- The first task from one on that passes a test, by meet and then by place.
use Rattle.std.specs.Prelude.{ℕ, ◌≡◌, ◌≤◌, ◌<◌, Bool, true, false, Option, MatchOption}
use Rattle.khe_base.specs.declared.numbers.ResourceId.{ResourceId}
use Rattle.khe_base.specs.declared.numbers.TaskId.{TaskId}
use Rattle.khe_instance.specs.declared.parts.Parts.{Parts}
use Rattle.khe_solution.specs.NextTask.{IsBefore, IsFrom}
use Rattle.repair_moves.specs.Items.{task_at, task_slots}
use Rattle.repair_moves.specs.Picked.{NonePass}
use Rattle.repair_moves.specs.declared.items.TaskSlot.{TaskSlot}

-- no task from one on passes; and none of those before another does
abbrev pub NoTask : (TaskId → Bool) → TaskId → Type 0
NoTask test from = (u : TaskId) → IsFrom from u → test u ≡ false

abbrev pub NoTaskBefore : (TaskId → Bool) → TaskId → TaskId → Type 0
NoTaskBefore test from t = (u : TaskId) → IsFrom from u → IsBefore u t → test u ≡ false

abbrev pub IsFirstTask : (TaskId → Bool) → TaskId → Option TaskId → Type 0
IsFirstTask test from result = MatchOption result (NoTask test from)
    (λ t. IsFrom from t × (test t ≡ true) × NoTaskBefore test from t)

-- the first task slot from one on that passes, with its task
abbrev pub IsFirstSlot : Parts → (ℕ → Bool) → ℕ → Option TaskSlot → Type 0
IsFirstSlot p test from result = MatchOption result (NonePass test from (task_slots p))
    (λ x. (from ≤ x.slot) × (x.slot < task_slots p) × (test x.slot ≡ true) × NonePass test from x.slot
    × (x.task ≡ task_at p x.slot))

-- the first place of a meet from one on whose task passes
abbrev pub NoPlace : (TaskId → Bool) → ℕ → ℕ → Type 0
NoPlace test m from = (k : ℕ) → from ≤ k → test (record { meet = record { 0 = m }; place = k }) ≡ false

abbrev pub NoPlaceBefore : (TaskId → Bool) → ℕ → ℕ → ℕ → Type 0
NoPlaceBefore test m from to = (k : ℕ) → from ≤ k → k < to
    → test (record { meet = record { 0 = m }; place = k }) ≡ false

abbrev pub IsFirstPlace : (TaskId → Bool) → ℕ → ℕ → Option ℕ → Type 0
IsFirstPlace test m from result = MatchOption result (NoPlace test m from)
    (λ k. (from ≤ k) × (test (record { meet = record { 0 = m }; place = k }) ≡ true) × NoPlaceBefore test m from k)

-- a test has one answer, whatever is given
abbrev pub IsAlways : (Option ResourceId → Bool) → Bool → Type 0
IsAlways test b = (given : Option ResourceId) → b ≡ test given
