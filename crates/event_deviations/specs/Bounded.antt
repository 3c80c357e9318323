-- Bounds on what is at an event: its meets together last no longer than the event, and each lies within the
-- times.
use Rattle.std.specs.Prelude.{ℕ, ◌+◌, ◌≤◌, List, All, IfSome}
use Rattle.std.specs.List.{sum_by}
use Rattle.khe_instance.specs.declared.states.Meet.{Meet}

-- the meets of one event of this duration, where there are `times` times
pub record AreOfOneEvent (times duration : ℕ) (meets : List Meet) : Type 0 where
  pub together : sum_by (λ m. m.duration) meets ≤ duration
  pub each : All (λ m. 1 ≤ m.duration) meets
  pub ends : All (λ m. IfSome m.start (λ s. s.0 + m.duration ≤ times)) meets
