-- The deviations of all monitors, in their order, by meets and tasks.
use Rattle.std.specs.Prelude.{ℕ, List, map}
use Rattle.khe_instance.specs.Deviation.{deviation}
use Rattle.khe_instance.specs.declared.parts.Parts.{Parts}
use Rattle.khe_instance.specs.declared.states.Duty.{Duty}
use Rattle.khe_instance.specs.declared.states.Meet.{Meet}

abbrev pub deviations_by : Parts → List Meet → List Duty → List ℕ
deviations_by p meets ds = map (deviation p meets ds) p.monitors
