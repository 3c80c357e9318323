-- The monitors whose costs may differ from the marked ones, as a row of bits.
use Rattle.std.specs.Prelude.{ℕ, ◌≡◌, ◌*◌, ◌^◌, ◌<◌, ◌≤◌, true, false, List, length, slice_index_or}
use Rattle.khe_base.specs.Bits.{is_set}
use Rattle.monitor_graph.specs.Rows.{AreSummed}

-- the row, which has a summary, has the bit of each monitor whose cost is not the marked one
pub record AreLeft (costs marked words summary : List ℕ) : Type 0 where
  pub summed : AreSummed words summary
  pub still : (m : ℕ) → is_set words m ≡ false → slice_index_or marked m 0 ≡ slice_index_or costs m 0
  pub known : (m : ℕ) → is_set words m ≡ true → m < length costs
  pub room : length costs ≤ 64 * length words
  pub summary_room : length words ≤ 64 * length summary
  pub few : length words < 2 ^ 32
  pub summary_few : length summary < 2 ^ 32
