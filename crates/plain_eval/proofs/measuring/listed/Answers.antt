-- At each turn one monitor leaves what is left, and its deviation joins the others.
use Rattle.std.proofs.Common.{◌≡◌, ◌≤◌, ◌+◌, ◌++◌, ◌∷◌, [], ◌∙◌, sym, ap, map, drop, append_assoc}
use Rattle.std.proofs.lemmas.List.Elements.{All-push, All-same}
use Rattle.khe_base.proofs.ListLemmas.{all-there, drop-there}
use Rattle.khe_base.specs.declared.limits.TheConstants.{GREATEST_DEVIATION}
use Rattle.khe_instance.specs.Deviation.{deviation}
use Rattle.khe_instance.specs.WellMade.{IsMonitor}
use Rattle.plain_eval.proofs.measuring.listed.Goals as goal

pub deviation_of-requires-clause-monitor : goal.deviation_of-requires-clause-monitor
deviation_of-requires-clause-monitor c =
    all-there (IsMonitor c.args.inst.now) c.args.inst.now.monitors c.loop-number.number c.monitor-monitor.result
    c.facts.ensures.monitors.each c.monitor-monitor.ensures

pub loop-number-preserved : goal.loop-number-preserved
loop-number-preserved c =
    let ms = c.args.inst.now.monitors in
    let i = c.loop-number.number in
    let m = c.monitor-monitor.result in
    let d = c.deviation_of.result in
    let f = deviation c.args.inst.now c.args.events.now.meets c.args.events.now.duties in
    let rest = map f (drop (i + 1) ms) in
    let pushed = c.in_ok-push.ensures.ok in
    record {
      deviations = ap (λ xs. xs ++ rest) pushed
          ∙ append_assoc c.loop-number.deviations (d ∷ []) rest
          ∙ ap (λ x. c.loop-number.deviations ++ (x ∷ rest)) c.deviation_of.ensures.exact
          ∙ ap (λ xs. c.loop-number.deviations ++ map f xs) (sym (drop-there ms i m c.monitor-monitor.ensures))
          ∙ c.loop-number.invariant.deviations;
      small = All-same (λ x. x ≤ GREATEST_DEVIATION) c.push.new.self (c.loop-number.deviations ++ d ∷ []) pushed
          (All-push (λ x. x ≤ GREATEST_DEVIATION) c.loop-number.deviations d c.loop-number.invariant.small
          c.deviation_of.ensures.bound);
      room = c.deviation_of.ensures.event_room ∙ c.loop-number.invariant.room;
    }
