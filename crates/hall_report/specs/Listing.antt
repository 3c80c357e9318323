-- The demands whose numbers are marked, as they are listed.
use Rattle.std.specs.Prelude.{ℕ, ◌+◌, ◌^◌, ◌<◌, ◌≡◌, Bool, List, length}
use Rattle.demand_matching.specs.Domains.{Domains}
use Rattle.khe_base.specs.IdSet.{has_member}
use Rattle.khe_told.specs.Slots.{slot_at, length_of}
use Rattle.khe_told.specs.declared.slots.Slot.{Slot}
use Rattle.hall_report.specs.Kept.{number_of}
use Rattle.hall_report.specs.Units.{unit_at}
use Rattle.hall_report.specs.declared.demand.Demand.{Demand}
use Rattle.hall_report.specs.declared.demand.Demand.TheVariants.{Task, Unavailable}
use Rattle.hall_report.specs.declared.units.Units.{Units}

-- the number of a demand of a task
abbrev pub number_at : Units → Demand → ℕ
number_at u (Task m k o) = number_of u m.0 k o
number_at u (Unavailable r t) = 0

-- whether it is marked
abbrev pub is_marked : Units → List Bool → Demand → Bool
is_marked u marks d = has_member marks (number_at u d)

-- the units of a meet are there, and its demands have numbers of 32 bits
pub record IsReadable (u : Units) (meet places duration : ℕ) : Type 0 where
  pub few : places < 2 ^ 32
  pub first : meet < length u.held.items
  pub unit : (o : ℕ) → o < duration → unit_at u.next.items u.held.items meet o < length u.next.items
  pub task : (o : ℕ) → o < duration → unit_at u.next.items u.held.items meet o < length u.tasks.items
  pub number : (k o : ℕ) → k < places → o < duration → number_of u meet k o < 2 ^ 32

-- those of each slot, whose number is that of its meet
abbrev pub AreReadable : Units → List Slot → Type 0
AreReadable u s = (m : ℕ) → m < length s → IsReadable u m (length (slot_at s m).given) (length_of (slot_at s m))
    × ((slot_at s m).meet.0 ≡ m)

-- what a listing of the whole asks for
pub record IsSafe (s : List Slot) (u : Units) (w : Domains) (cells : List ℕ) (tasks times : ℕ) : Type 0 where
  pub total : tasks + length cells < 2 ^ 32
  pub size : length w.demands ≡ tasks + length cells
  pub timed : 0 < length cells → 0 < times
  pub few : length s < 2 ^ 32
  pub readable : AreReadable u s
