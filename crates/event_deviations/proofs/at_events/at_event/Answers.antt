use Rattle.std.proofs.Common.{◌∙◌, sym, ap, ap₂, ℕ, ◌+◌, List, count_by, sum_by}
use Rattle.khe_base.specs.Bounds.{count_outside}
use Rattle.khe_instance.specs.Deviation.{event_deviation}
use Rattle.khe_instance.specs.EventDeviation.{is_unfit}
use Rattle.khe_instance.specs.declared.rules.Rule.{Rule}
use Rattle.khe_instance.specs.declared.states.Meet.{Meet}
use Rattle.event_deviations.proofs.at_events.at_event.Goals as goal

pub returns-in-SplitEvents-clause-exact : goal.returns-in-SplitEvents-clause-exact
returns-in-SplitEvents-clause-exact c =
    let r = c.in-SplitEvents in
    ap₂ (λ (a b : ℕ). a + b)
    (c.count_unfit.ensures.exact ∙ ap (count_by (λ m. is_unfit r.min_duration r.max_duration m.duration))
    c.meets-meets.ensures.are)
    (c.count_out.ensures.exact
    ∙ ap (λ n. count_outside n r.min_amount r.max_amount)
    (c.amount.ensures.exact ∙ ap (λ (ms : List Meet). sum_by (λ m. 1) ms) c.meets-meets.ensures.are))
    ∙ ap (λ (rule : Rule). event_deviation c.args.index.now.meets rule c.args.event.0) (sym r.is)
