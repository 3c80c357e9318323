-- Laws on the definitions of this crate. Each is the contract of a function that does nothing.
use Rattle.std.specs.Prelude.{ℕ, ◌≡◌, ◌*◌, ◌<◌, ◌≤◌, List, map, All}
use Prim.Native.Nat.{◌∣◌}
use Rattle.khe_base.specs.declared.limits.TheConstants.{GREATEST_DEVIATION}
use Rattle.khe_instance.specs.Deviation.{deviation}
use Rattle.khe_instance.specs.ResourceDeviation.{limit_workload, workload_in}
use Rattle.khe_instance.specs.States.{AreOfState}
use Rattle.khe_instance.specs.WatchedSizes.{size_watched}
use Rattle.khe_instance.specs.Watching.{watches}
use Rattle.khe_instance.specs.WellMade.{AreWellMade, IsMonitor}
use Rattle.khe_instance.specs.declared.parts.EventInfo.{EventInfo}
use Rattle.khe_instance.specs.declared.parts.Parts.{Parts}
use Rattle.khe_instance.specs.declared.points.Monitor.{Monitor}
use Rattle.khe_instance.specs.declared.states.Duty.{Duty}
use Rattle.khe_instance.specs.declared.states.Meet.{Meet}

-- whatever the state, no monitor's deviation is above the greatest one that the limits allow
abbrev pub DeviationsAreSmall : Type 0
DeviationsAreSmall =
    (p : Parts) (meets : List Meet) (ds : List Duty) (m : Monitor) → AreWellMade p → AreOfState p meets ds
    → IsMonitor p m
    → deviation p meets ds m ≤ GREATEST_DEVIATION

-- the duration of each event divides the number, which is above 0
pub record IsCommonMultiple (events : List EventInfo) (n : ℕ) : Type 0 where
  pub positive : 0 < n
  pub divided : All (λ d. d ∣ n) (map (λ e. e.duration) events)

-- Limit Workload is of the fractions themselves, whatever they are counted in: a number of parts of
-- one in which each is whole gives the same deviation as any multiple of that number
abbrev pub FinerPartsGiveTheSame : Type 0
FinerPartsGiveTheSame =
    (events : List EventInfo) (k unit : ℕ) (ds : List Duty) (r least greatest : ℕ) → 0 < k
    → IsCommonMultiple events unit
    → limit_workload (k * unit) (workload_in events (k * unit) ds r) least greatest
    ≡ limit_workload unit (workload_in events unit ds r) least greatest

-- and so do any two such numbers
abbrev pub AllUnitsGiveTheSame : Type 0
AllUnitsGiveTheSame =
    (events : List EventInfo) (one other : ℕ) (ds : List Duty) (r least greatest : ℕ) → IsCommonMultiple events one
    → IsCommonMultiple events other
    → limit_workload one (workload_in events one ds r) least greatest
    ≡ limit_workload other (workload_in events other ds r) least greatest

-- a monitor watches what the sizes of its rule's and its point's sets say
abbrev pub WatchesAreSizes : Type 0
WatchesAreSizes = (p : Parts) (m : Monitor) → AreWellMade p → IsMonitor p m → watches p m ≡ size_watched p m
