use Rattle.std.proofs.Common.{◌≡◌, ◌∙◌, ap, subst, ◌+◌, ◌≤◌, Some, None, IfSome, option_map, get_or}
use Rattle.khe_base.specs.declared.limits.TheConstants.{TIMES}
use Rattle.khe_base.specs.declared.numbers.TimeId.{TimeId}
use Rattle.khe_instance.specs.declared.states.Meet.{Meet}
use Rattle.event_deviations.proofs.EventLemmas.{greatest-more, greatest-same, IfSome-greater}
use Rattle.event_deviations.proofs.at_events.last_end.Goals.{in-Some, in_default}
use Rattle.event_deviations.proofs.at_events.last_end.Goals as goal

pub loop-meet-preserved : goal.loop-meet-preserved
loop-meet-preserved c =
    let ms = c.args.meets.now in
    let i = c.loop-meet.meet-index in
    let none : Meet = record { meet = record { 0 = 0 }; event = record { 0 = 0 }; duration = 0; start = None } in
    let m = get_or ms i none in
    let here = c.loop-meet-test.true in
    let f = λ (x : Meet). option_map (λ s. s.0 + x.duration) x.start in
    let old = c.loop-meet.invariant in
    elim c.match-meet.branch [
      | in-Some w ↦
          let given : f m ≡ Some (w.in-Some.start.0 + m.duration) =
          ap (option_map (λ (s : TimeId). s.0 + m.duration)) w.in-Some.is in
          let new = w.last-is ∙ w.greater-last.ensures in
          let in_time : w.in-Some.start.0 + m.duration ≤ TIMES =
          subst (λ o. IfSome o (λ s. s.0 + m.duration ≤ TIMES)) w.in-Some.is (c.requires i none here) in
          record {
            exact = greatest-more f ms i none here (w.in-Some.start.0 + m.duration) c.loop-meet.last c.match-meet.last
                given old.exact new;
            bound = rw new (IfSome-greater c.loop-meet.last (w.in-Some.start.0 + m.duration) TIMES old.bound (in_time));
          }
      | in_default w ↦
          let given : f m ≡ None = ap (option_map (λ (s : TimeId). s.0 + m.duration)) w.in_default.is in
          record {
            exact = w.last-is ∙ greatest-same f ms i none here c.loop-meet.last given old.exact;
            bound = rw w.last-is old.bound;
          }
    ]
