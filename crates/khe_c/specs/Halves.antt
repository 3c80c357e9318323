-- A number of 128 bits as two words of 64.
use Rattle.std.specs.Prelude.{◌+◌, ◌*◌, ◌^◌, ℕ}
use Rattle.khe_base.specs.declared.sums.Totals.{Totals}
use Rattle.khe_c.specs.declared.costs.Costs.{Costs}

abbrev pub number_of : ℕ → ℕ → ℕ
number_of high low = high * 2 ^ 64 + low

abbrev pub totals_of : Costs → Totals
totals_of c = record { hard = number_of c.hard_high c.hard_low; soft = number_of c.soft_high c.soft_low }
