-- What is left of the row of limits once some were found to be kept.
use Rattle.std.specs.Prelude.{◌*◌, Option, [], ◌∷◌, length}
use Rattle.xhstt_resolve.specs.Limits.{above, earliest, first_above, listings, task_count, total_duration, units}
use Rattle.xhstt_resolve.specs.Limits.{watch_count}
use Rattle.xhstt_resolve.specs.Points.{monitors_of}
use Rattle.xhstt_resolve.specs.declared.faults.ResolveFault.{ResolveFault}
use Rattle.fault_tables.specs.declared.limits.TheConstants.{TOO_LONG_DURATION, TOO_MANY_TASKS, TOO_MANY_CELLS}
use Rattle.fault_tables.specs.declared.limits.TheConstants.{TOO_MANY_LISTED, TOO_MANY_MONITORS, TOO_MANY_WATCHES}
use Rattle.fault_tables.specs.declared.limits.TheConstants.{TOO_GREAT_UNIT}
use Rattle.xhstt_shape.specs.declared.records.RawInstance.{RawInstance}

-- the first limit that an instance is above whose parts are few enough
abbrev pub later_fault : RawInstance → Option ResolveFault
later_fault i = earliest
    (above TOO_LONG_DURATION (total_duration i)
    ∷ above TOO_MANY_TASKS (task_count i)
    ∷ above TOO_MANY_CELLS (length i.resources * length i.times)
    ∷ first_above TOO_MANY_LISTED (listings i)
    ∷ above TOO_MANY_MONITORS (length (monitors_of i))
    ∷ above TOO_MANY_WATCHES (watch_count i)
    ∷ first_above TOO_GREAT_UNIT (units i)
    ∷ [])

-- and whose durations, tasks, cells and listings are within their limits too
abbrev pub last_fault : RawInstance → Option ResolveFault
last_fault i = earliest
    (above TOO_MANY_MONITORS (length (monitors_of i))
    ∷ above TOO_MANY_WATCHES (watch_count i)
    ∷ first_above TOO_GREAT_UNIT (units i)
    ∷ [])
