-- Effects on slots of events that a monitor does not name.
use Rattle.std.proofs.Common.{List, [], ◌∷◌, inr}
use Rattle.khe_instance.specs.declared.parts.Parts.{Parts}
use Rattle.khe_instance.specs.declared.points.Monitor.{Monitor}
use Rattle.khe_told.specs.Turns.{SlotTurn}
use Rattle.event_monitors.specs.Effects.{NameNone}
use Rattle.set_monitors.specs.Foreseeing.{AllKeep, AreCutOrKeep, KeepsOrElsewhere}

-- each of them is of such an event
all_elsewhere : (p : Parts) (m : Monitor) (ts : List SlotTurn) → NameNone p m ts → AllKeep (KeepsOrElsewhere p m) ts
all_elsewhere p m [] h = tt
all_elsewhere p m (t ∷ ts) h = (inr h.0, all_elsewhere p m ts h.1)

pub foreseen_elsewhere : (p : Parts) (m : Monitor) (ts : List SlotTurn) → NameNone p m ts
    → AreCutOrKeep (KeepsOrElsewhere p m) ts
foreseen_elsewhere p m ts h = inr (all_elsewhere p m ts h)
