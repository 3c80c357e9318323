-- The events that are listed are met.
use Rattle.std.proofs.Common.{◌∙◌, ap, map}
use Rattle.std.specs.List.{fold}
use Rattle.std.proofs.lemmas.Result.{on_ok_weaker}
use Rattle.xhstt_resolve.specs.Followed.{event_visit}
use Rattle.xhstt_resolve.proofs.points.follow_listed.Goals as goal

pub returns : goal.returns
returns g c =
    on_ok_weaker c.follow_singly.result
    (λ e. e ∙ ap (λ ns. fold g.F.Follow.met c.args.into.now (map event_visit ns))
    (c.as_slice.ensures ∙ c.in_ok-events.ensures)) c.follow_singly.ensures
