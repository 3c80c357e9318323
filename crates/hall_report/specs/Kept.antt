-- How demands are kept beside the told state: the domain of each under its number.
use Rattle.std.specs.Prelude.{ℕ, ◌+◌, ◌/◌, ◌%◌, ◌≡◌, ◌<◌, ◌≤◌, true, Some, List, map, length, slice_index_or}
use Rattle.khe_base.specs.declared.limits.TheConstants.{CELLS}
use Rattle.khe_instance.specs.WellMade.{AreWellMade}
use Rattle.khe_instance.specs.declared.parts.Parts.{Parts}
use Rattle.khe_told.specs.Fits.{AreTold}
use Rattle.khe_told.specs.Slots.{slot_at}
use Rattle.khe_told.specs.declared.slots.Slot.{Slot}
use Rattle.demand_matching.specs.Domains.{Domains, domain_of, is_present}
use Rattle.hall_report.specs.Demands.{unavailable_demands}
use Rattle.hall_report.specs.Picks.{AreStartSets, AreResourceSets, domain_in, cell_domain}
use Rattle.hall_report.specs.Units.{AreUnits, AreFirsts, IsOffset, unit_at, tasks_of}
use Rattle.hall_report.specs.declared.demand.Demand.{Demand}
use Rattle.hall_report.specs.declared.demand.Demand.TheVariants.{Unavailable}
use Rattle.hall_report.specs.declared.renewing.Picks.{Picks}
use Rattle.hall_report.specs.declared.units.Units.{Units}

-- the number of a demand
abbrev pub number_of : Units → ℕ → ℕ → ℕ → ℕ
number_of u m k o = slice_index_or u.tasks.items (unit_at u.next.items u.held.items m o) 0 + k

-- a meet's slot has a demand at this place and offset
abbrev pub IsTask : List Slot → ℕ → ℕ → ℕ → Type 0
IsTask s m k o = (k < length (slot_at s m).given) × IsOffset s m o

-- a number is that of a task's demand
pub record IsNumbered (s : List Slot) (u : Units) (j : ℕ) : Type 0 where
  pub meet : ℕ
  pub place : ℕ
  pub offset : ℕ
  pub task : IsTask s meet place offset
  pub number : number_of u meet place offset ≡ j

-- the demand for a cell
abbrev pub cell_demand : ℕ → ℕ → Demand
cell_demand last cell = Unavailable (record { 0 = cell / last }) (record { 0 = cell % last })

-- the instance's numbers and sets, which no change touches
pub record AreOpen (p : Parts) (u : Units) (picks : Picks) (w : Domains) (cells : List ℕ) : Type 0 where
  pub made : AreWellMade p
  pub firsts : AreFirsts p.events u.tasks.items
  pub starts : AreStartSets p w.times picks.starts.items
  pub resources : AreResourceSets p w.resources picks.resources.items
  pub last : w.last ≡ length p.times
  pub width : w.width ≡ length p.resources
  pub amount : length w.demands ≡ tasks_of p.events + length cells
  pub few : length cells ≤ CELLS
  pub timed : 0 < length cells → 0 < length p.times
  pub listed : map (cell_demand (length p.times)) cells ≡ unavailable_demands p
  pub cell_domains : (i : ℕ) → i < length cells
      → domain_of w (tasks_of p.events + i) ≡ Some (cell_domain (length p.times) (slice_index_or cells i 0))

-- the demands of tasks have their domains, and no other number of a task slot has one
pub record AreTasks (p : Parts) (s : List Slot) (u : Units) (picks : Picks) (w : Domains) : Type 0 where
  pub domains : (m k o : ℕ) → IsTask s m k o → domain_of w (number_of u m k o)
      ≡ domain_in p.events picks.starts.items picks.resources.items (slot_at s m) k o
  pub present : (j : ℕ) → j < tasks_of p.events → is_present w j ≡ true → IsNumbered s u j

-- the same of the told state, and how many task slots and times there are
pub record AreOf (p : Parts) (s : List Slot) (u : Units) (picks : Picks) (w : Domains) (cells : List ℕ)
    (tasks times : ℕ) : Type 0 where
  pub told : AreTold p s
  pub units : AreUnits p.events s u.next.items u.held.items u.free.items
  pub opened : AreOpen p u picks w cells
  pub numbered : AreTasks p s u picks w
  pub task_count : tasks ≡ tasks_of p.events
  pub time_count : times ≡ length p.times

-- of some instance
abbrev pub AreOfSome : List Slot → Units → Picks → Domains → List ℕ → ℕ → ℕ → Type 0
AreOfSome s u picks w cells tasks times = ∥ ((p : Parts) × AreOf p s u picks w cells tasks times) ∥₁
