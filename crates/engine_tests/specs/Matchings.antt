-- What the tests keep of a matching, as plain lists.
use Rattle.std.specs.Prelude.{ℕ, ◌≡◌, length}
use Rattle.demand_matching.specs.Domains.{Domains}

-- as many demands, times and resources
pub record SameSizes (old new : Domains) : Type 0 where
  pub demands : length new.demands ≡ length old.demands
  pub last : new.last ≡ old.last
  pub width : new.width ≡ old.width

-- the numbers of demands, times and resources
pub record IsSized (w : Domains) (demands last width : ℕ) : Type 0 where
  pub demands_are : length w.demands ≡ demands
  pub last_is : w.last ≡ last
  pub width_is : w.width ≡ width
