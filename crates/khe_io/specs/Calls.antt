-- A device in memory fails at the calls whose numbers are listed; calls are counted from 1. Counts of calls and
-- faults stop at the greatest value.
use Rattle.std.specs.Prelude.{ℕ, ◌+◌, ◌-◌, ◌^◌, ◌==◌, List, Bool, ◌&&◌, if◌then◌else◌, min, nat_le, nat_lt}
use Rattle.std.specs.List.{list_all, list_any}

-- none of these numbers is still to come, after this many calls
abbrev pub none_to_come : List ℕ → ℕ → Bool
none_to_come failing made = list_all (λ number. nat_le number made) failing

-- the next call after this many is listed; past the greatest number no call is
abbrev pub fails_next : List ℕ → ℕ → Bool
fails_next failing made = nat_lt made (2 ^ 64 - 1) && list_any (λ number. number == made + 1) failing

-- a count after one more; it stops at the greatest value
abbrev pub one_more : ℕ → ℕ
one_more count = min (count + 1) (2 ^ 64 - 1)

-- how many faults were counted after a call that failed or not
abbrev pub faults_after : Bool → ℕ → ℕ
faults_after fails faults = if fails then one_more faults else faults
