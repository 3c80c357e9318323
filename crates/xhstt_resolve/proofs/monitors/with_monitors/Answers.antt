-- The points become monitors of the constraint's kind.
use Rattle.std.proofs.Common.{◌∙◌, ◌++◌, ap, map}
use Rattle.xhstt_resolve.specs.Points.{monitor_of, points_of}
use Rattle.xhstt_resolve.specs.declared.monitors.Monitors.{Monitors}
use Rattle.xhstt_resolve.proofs.CountsLemmas.{monitored}
use Rattle.xhstt_resolve.proofs.monitors.with_monitors.Goals as goal

pub returns : goal.returns
returns c =
    let i = c.args.lookup.now.instance.now in
    let x = c.args.constraint.now in
    let start : Monitors = record { kind = c.kind_of.result; constraint = c.args.number; made = c.args.made } in
    ap (λ m. m.made) c.in_ok-follow_out.ensures.met
    ∙ monitored i x (points_of i x) start
    ∙ ap (λ kind. c.args.made ++ map (monitor_of kind c.args.number) (points_of i x)) (c.kind_of.ensures i x.applies)
