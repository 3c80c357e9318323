use Rattle.std.proofs.Common.{◌≡◌, take}
use Rattle.khe_told.specs.Effects.{given_with}
use Rattle.resource_monitors.specs.Loads.{worths_of}
use Rattle.resource_monitors.proofs.load_effects.worths.Given as goal

abbrev pub invariant-loop-place : goal.invariant-loop-place
invariant-loop-place l = l.total ≡ worths_of l.inst l.event l.duration 0 (take l.place (given_with l.given l.regiven)) l.r.0
