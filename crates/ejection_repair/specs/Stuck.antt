-- What is left out of a walk round the defects: monitors that have no move in any timetable.
use Rattle.std.specs.Prelude.{ℕ, ◌≡◌, ◌<◌, ◌≤◌, All, Option, Some, None, List, [], ◌++◌}
use Rattle.std.specs.List.{flat_map}
use Rattle.khe_base.specs.declared.numbers.MonitorId.{MonitorId}
use Rattle.khe_instance.specs.declared.parts.Parts.{Parts}
use Rattle.repair_moves.specs.Stuck.{IsStuck}
use Rattle.ejection_repair.specs.Chains.{Chain}
use Rattle.ejection_repair.specs.declared.spans.Span.{Span}
use Rattle.ejection_repair.specs.declared.spans.Spans.{Spans}

-- all monitors from a number on are stuck, before another
abbrev pub AreStuckFrom : Parts → ℕ → ℕ → Type 0
AreStuckFrom p start end = (n : ℕ) → start ≤ n → n < end → IsStuck p n

abbrev pub IsStuckSpan : Parts → Span → Type 0
IsStuckSpan p x = AreStuckFrom p x.start x.end

abbrev pub AreStuckSpans : Parts → Spans → Type 0
AreStuckSpans p x = All (IsStuckSpan p) x.spans

-- nothing comes of a stuck monitor
abbrev pub LeavesOutStuck : Parts → (ℕ → List Chain) → Type 0
LeavesOutStuck p f = (n : ℕ) → IsStuck p n → f n ≡ []

-- what comes of the monitors of a list is what comes of this one and then of those after it, or nothing
abbrev pub IsNextFree : (ℕ → List Chain) → Option MonitorId → List ℕ → List ℕ → Type 0
IsNextFree f None before after = flat_map f before ≡ []
IsNextFree f (Some m) before after = flat_map f before ≡ f m.0 ++ flat_map f after
