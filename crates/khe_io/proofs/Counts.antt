-- A count of faults that never falls.
use Rattle.std.proofs.Common.{ℕ, ◌≤◌, inl, inr, arith}
use Rattle.khe_io.specs.Faults.{Rose}

-- a fault that was counted in the last of two calls was counted in the two together
pub Rose-after : (a b c : ℕ) → a ≤ b → b ≤ c → Rose b c → Rose a c
Rose-after a b c first second (inl grew) = inl (omega arith)
Rose-after a b c first second (inr full) = grind arith
