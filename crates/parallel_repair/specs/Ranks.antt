-- The order of results: by their totals, and by the numbers of their jobs where these are equal.
use Rattle.std.specs.Prelude.{ℕ, ◌≡◌, ◌==◌, Bool, ◌&&◌, ◌||◌, nat_lt, Option, Some, None, if◌then◌else◌}
use Rattle.khe_base.specs.Totals.{is_lower}
use Rattle.khe_base.specs.declared.sums.Totals.{Totals}
use Rattle.parallel_repair.specs.declared.answers.Best.{Best}

-- the totals a of the job i come before the totals b of the job j
abbrev pub is_before : Totals → ℕ → Totals → ℕ → Bool
is_before a i b j = is_lower a b || (((a.hard == b.hard) && (a.soft == b.soft)) && nat_lt i j)

-- no timetable costs less
abbrev pub CostsNothing : Totals → Type 0
CostsNothing t = (t.hard ≡ 0) × (t.soft ≡ 0)

abbrev pub is_free : Totals → Bool
is_free t = (t.hard == 0) && (t.soft == 0)

-- the lesser of two results, if there is one
abbrev pub lesser : Option Best → Option Best → Option Best
lesser None b = b
lesser (Some a) None = Some a
lesser (Some a) (Some b) = if is_before b.totals b.job a.totals a.job then Some b else Some a
