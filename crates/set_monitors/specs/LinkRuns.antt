-- The counts of one event, raised at each time of a run.
use Rattle.std.specs.Prelude.{ℕ, ◌≡◌, ◌≤◌, ◌+◌, ◌==◌, ◌&&◌, nat_le, nat_lt, Bool, if◌then◌else◌, Option, IfSome}
use Rattle.khe_told.specs.declared.slots.Span.{Span}

-- whether a time is one of a run
abbrev pub in_run : ℕ → ℕ → ℕ → Bool
in_run start end t = nat_le start t && nat_lt t end

-- an event's counts are above others by one at the times that pass a test, and those of all other events are
-- the same
abbrev pub AreRaised : ℕ → (ℕ → Bool) → (ℕ → ℕ → ℕ) → (ℕ → ℕ → ℕ) → Type 0
AreRaised event runs low high = (i t : ℕ) → high i t ≡ low i t + (if (event == i) && runs t then 1 else 0)

-- a meet with a start ends by a time
abbrev pub EndsBy : Option Span → ℕ → Type 0
EndsBy meet end = IfSome meet (λ y. IfSome y.start (λ t. t.0 + y.duration ≤ end))
