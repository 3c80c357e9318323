-- The limits on the sizes of an archive, each with its number, its name, and the greatest value that keeps it.
use Rattle.std.specs.Prelude.{ℕ, Option, List, [], ◌∷◌, codes}
use Rattle.std.specs.Option.{option_map}
use Rattle.khe_base.specs.declared.limits.TheConstants.{TIMES, TIME_GROUPS, RESOURCE_TYPES, RESOURCES, RESOURCE_GROUPS}
use Rattle.khe_base.specs.declared.limits.TheConstants.{EVENTS, EVENT_GROUPS, CONSTRAINTS, DURATION, TASKS, CELLS}
use Rattle.khe_base.specs.declared.limits.TheConstants.{LISTED, MONITORS, WATCHES, UNIT, SOLUTIONS}
use Rattle.fault_tables.specs.Tables.{said_of}
use Rattle.fault_tables.specs.declared.limits.TheConstants.{TOO_MANY_TIMES, TOO_MANY_TIME_GROUPS}
use Rattle.fault_tables.specs.declared.limits.TheConstants.{TOO_MANY_RESOURCE_TYPES, TOO_MANY_RESOURCES}
use Rattle.fault_tables.specs.declared.limits.TheConstants.{TOO_MANY_RESOURCE_GROUPS, TOO_MANY_EVENTS}
use Rattle.fault_tables.specs.declared.limits.TheConstants.{TOO_MANY_EVENT_GROUPS, TOO_MANY_CONSTRAINTS}
use Rattle.fault_tables.specs.declared.limits.TheConstants.{TOO_LONG_DURATION, TOO_MANY_TASKS, TOO_MANY_CELLS}
use Rattle.fault_tables.specs.declared.limits.TheConstants.{TOO_MANY_LISTED, TOO_MANY_MONITORS, TOO_MANY_WATCHES}
use Rattle.fault_tables.specs.declared.limits.TheConstants.{TOO_GREAT_UNIT, TOO_MANY_SOLUTIONS}

-- the limits: each with its name, and the greatest value that keeps it
abbrev pub limits : List (ℕ × (List ℕ × ℕ))
limits =
    (TOO_MANY_TIMES, (codes "times", TIMES))
    ∷ (TOO_MANY_TIME_GROUPS, (codes "time_groups", TIME_GROUPS))
    ∷ (TOO_MANY_RESOURCE_TYPES, (codes "resource_types", RESOURCE_TYPES))
    ∷ (TOO_MANY_RESOURCES, (codes "resources", RESOURCES))
    ∷ (TOO_MANY_RESOURCE_GROUPS, (codes "resource_groups", RESOURCE_GROUPS))
    ∷ (TOO_MANY_EVENTS, (codes "events", EVENTS))
    ∷ (TOO_MANY_EVENT_GROUPS, (codes "event_groups", EVENT_GROUPS))
    ∷ (TOO_MANY_CONSTRAINTS, (codes "constraints", CONSTRAINTS))
    ∷ (TOO_LONG_DURATION, (codes "duration", DURATION))
    ∷ (TOO_MANY_TASKS, (codes "tasks", TASKS))
    ∷ (TOO_MANY_CELLS, (codes "cells", CELLS))
    ∷ (TOO_MANY_LISTED, (codes "listed", LISTED))
    ∷ (TOO_MANY_MONITORS, (codes "monitors", MONITORS))
    ∷ (TOO_MANY_WATCHES, (codes "watches", WATCHES))
    ∷ (TOO_GREAT_UNIT, (codes "unit", UNIT))
    ∷ (TOO_MANY_SOLUTIONS, (codes "solutions", SOLUTIONS))
    ∷ []

-- the name of a limit
abbrev pub limit_name : ℕ → Option (List ℕ)
limit_name which = option_map (λ l. l.0) (said_of limits which)

-- the greatest value that keeps a limit
abbrev pub greatest_of : ℕ → Option ℕ
greatest_of which = option_map (λ l. l.1) (said_of limits which)
