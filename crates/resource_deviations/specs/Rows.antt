-- The table in which only resources with a task have a row of their own; all others share one without counts.
use Rattle.std.specs.Prelude.{ℕ, ◌≡◌, ◌<◌, List, IfSome, slice_index}
use Rattle.khe_instance.specs.declared.states.Duty.{Duty}

-- each resource has one of `count` rows, and each row but the first is that of one resource
pub record AreRows (rows : List ℕ) (count : ℕ) : Type 0 where
  pub below : (r : ℕ) → slice_index rows r < count
  pub own : (r q : ℕ) → 0 < slice_index rows r → slice_index rows q ≡ slice_index rows r → q ≡ r

-- the resource of a task is below this number, and has a row of its own
abbrev pub IsResource : ℕ → Duty → Type 0
IsResource count d = IfSome d.resource (λ r. r.0 < count)

abbrev pub HasRow : List ℕ → Duty → Type 0
HasRow rows d = IfSome d.resource (λ r. 0 < slice_index rows r.0)
