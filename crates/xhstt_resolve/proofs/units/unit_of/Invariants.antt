-- The unit so far goes on to the whole over what is left, and so do the running multiples.
use Rattle.std.proofs.Common.{◌≡◌, ◌<◌, drop, map}
use Rattle.std.specs.Prelude.{find, nat_lt}
use Rattle.std.specs.List.{fold}
use Rattle.khe_base.specs.declared.limits.TheConstants.{UNIT}
use Rattle.xhstt_resolve.specs.Units.{least_multiple, running_units, unit_of}
use Rattle.xhstt_resolve.proofs.units.unit_of.Given as goal

abbrev pub invariant-loop-event : goal.invariant-loop-event
invariant-loop-event l = record {
  whole : fold least_multiple l.unit (map (λ e. e.duration) (drop l.event-index l.instance.events))
      ≡ unit_of (map (λ e. e.duration) l.instance.events);
  above : find (nat_lt UNIT) (running_units l.unit (map (λ e. e.duration) (drop l.event-index l.instance.events)))
      ≡ find (nat_lt UNIT) (running_units 1 (map (λ e. e.duration) l.instance.events));
  positive : 0 < l.unit;
}
