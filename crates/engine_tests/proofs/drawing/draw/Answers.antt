-- One more job is claimed.
use Rattle.std.proofs.Common.{◌∙◌}
use Rattle.engine_tests.proofs.Claimed.{still_drawing, claimed_budget}
use Rattle.engine_tests.proofs.drawing.draw.Goals as goal

pub claims-preserved : goal.claims-preserved
claims-preserved c =
    let claim = c.claim-number in
    let old = c.claims.seat.me.0 in
    let new = claim.new.seat.me.0 in
    record {
      seat = claim.ensures.seat;
      drawing = still_drawing c.args.count claim.result old new c.claims.invariant.drawing claim.ensures.view
          c.if-number-count.false;
      budget = claimed_budget claim.result old new claim.ensures.view ∙ c.claims.invariant.budget;
    }
