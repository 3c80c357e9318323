-- Totals are lower than others by the hard cost, and by the soft cost where the hard costs are equal.
use Rattle.std.specs.Prelude.{◌==◌, Bool, ◌&&◌, ◌||◌, nat_lt}
use Rattle.khe_base.specs.declared.sums.Totals.{Totals}

-- whether the first totals are lower than the second: by the hard cost, and by the soft cost where
-- the hard costs are equal
abbrev pub is_lower : Totals → Totals → Bool
is_lower a b = nat_lt a.hard b.hard || ((a.hard == b.hard) && nat_lt a.soft b.soft)
