-- Numbers that are drawn one after the other, as functions of a state. A step takes a state, and gives
-- what it drew and the state that it left.
use Rattle.std.specs.Prelude.{ℕ, ◌+◌, ◌*◌, ◌/◌, ◌%◌, ◌^◌, ◌==◌, Option, Some, None, if◌then◌else◌}

-- the state after a draw
unfoldable pub next : ℕ → ℕ
next x = (x * 6364136223846793005 + 1442695040888963407) % 2 ^ 64

-- what a draw of a number below n gives
unfoldable pub drawn : ℕ → ℕ → ℕ
drawn n x = (next x / 2 ^ 33) % n

-- nothing in one of eight cases, which is drawn first, else a number below n
unfoldable pub perhaps : ℕ → ℕ → Option ℕ × ℕ
perhaps n x = if drawn 8 x == 0 then (None, next x) else (Some (drawn n (next x)), next (next x))
