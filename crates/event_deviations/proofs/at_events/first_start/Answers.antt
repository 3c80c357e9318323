use Rattle.std.proofs.Common.{◌≡◌, ◌∙◌, ap, subst, ◌+◌, ◌≤◌, Some, None, IfSome, option_map, get_or, arith}
use Rattle.khe_base.specs.declared.limits.TheConstants.{TIMES}
use Rattle.khe_base.specs.declared.numbers.TimeId.{TimeId}
use Rattle.khe_instance.specs.declared.states.Meet.{Meet}
use Rattle.event_deviations.proofs.EventLemmas.{least-more, least-same, IfSome-less}
use Rattle.event_deviations.proofs.at_events.first_start.Goals.{in-Some, in_default}
use Rattle.event_deviations.proofs.at_events.first_start.Goals as goal

pub loop-meet-preserved : goal.loop-meet-preserved
loop-meet-preserved c =
    let ms = c.args.meets.now in
    let i = c.loop-meet.meet-index in
    let none : Meet = record { meet = record { 0 = 0 }; event = record { 0 = 0 }; duration = 0; start = None } in
    let m = get_or ms i none in
    let here = c.loop-meet-test.true in
    let f = λ (x : Meet). option_map (λ s. s.0) x.start in
    let old = c.loop-meet.invariant in
    elim c.match-meet.branch [
      | in-Some w ↦
          let given : f m ≡ Some (w.in-Some.start.0) = ap (option_map (λ (s : TimeId). s.0)) w.in-Some.is in
          let new = w.first-is ∙ w.less-first.ensures in
          let in_time : w.in-Some.start.0 + m.duration ≤ TIMES =
          subst (λ o. IfSome o (λ s. s.0 + m.duration ≤ TIMES)) w.in-Some.is (c.requires i none here) in
          record {
            exact = least-more f ms i none here (w.in-Some.start.0) c.loop-meet.first c.match-meet.first given old.exact
                new;
            bound = rw new (IfSome-less c.loop-meet.first (w.in-Some.start.0) TIMES old.bound (omega arith));
          }
      | in_default w ↦
          let given : f m ≡ None = ap (option_map (λ (s : TimeId). s.0)) w.in_default.is in
          record {
            exact = w.first-is ∙ least-same f ms i none here c.loop-meet.first given old.exact;
            bound = rw w.first-is old.bound;
          }
    ]
