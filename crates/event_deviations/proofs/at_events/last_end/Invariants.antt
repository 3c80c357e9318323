use Rattle.std.proofs.Common.{◌≡◌, ◌≤◌, ◌+◌, IfSome, filter_map, option_map, take}
use Rattle.khe_base.specs.declared.limits.TheConstants.{TIMES}
use Rattle.event_deviations.specs.Ends.{greatest_of}
use Rattle.event_deviations.proofs.at_events.last_end.Given as goal

abbrev pub invariant-loop-meet : goal.invariant-loop-meet
invariant-loop-meet l = record {
  exact : l.last ≡ greatest_of (filter_map (λ m. option_map (λ s. s.0 + m.duration) m.start)
      (take l.meet-index l.meets));
  bound : IfSome l.last (λ end. end ≤ TIMES);
}
