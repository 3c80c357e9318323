-- The slots so far and those of the events that are left are those of all.
use Rattle.std.proofs.Common.{◌≡◌, ◌++◌, drop}
use Rattle.khe_instance.specs.Slots.{slots_from}
use Rattle.khe_instance.proofs.slots.slots_of.Given as goal

abbrev pub invariant-loop-number : goal.invariant-loop-number
invariant-loop-number l = l.slots.items ++ slots_from l.number (drop l.number l.events) ≡ slots_from 0 l.events
