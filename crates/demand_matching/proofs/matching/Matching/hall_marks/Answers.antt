use Rattle.std.proofs.Common.{List, Bool, length, ap, ◌∙◌, subst}
use Rattle.khe_base.specs.IdSet.{has_member}
use Rattle.demand_matching.specs.Domains.{Domains}
use Rattle.demand_matching.specs.Excess.{IsHallSet}
use Rattle.demand_matching.specs.Reach.{IsReached}
use Rattle.demand_matching.proofs.Hall.{hall_marked, if_ok_map}
use Rattle.demand_matching.proofs.matching.Matching.hall_marks.Goals as goal

pub returns-clause-size : goal.returns-clause-size
returns-clause-size c =
    if_ok_map c.reached_from.result _ _ (λ (marks : List Bool) (is : IsReached c.self.inside.table marks). is.size
    ∙ ap (λ (w : Domains). length w.demands) c.self.view_is) c.reached_from.ensures

pub returns-clause-least : goal.returns-clause-least
returns-clause-least c =
    if_ok_map c.reached_from.result _ _ (λ (marks : List Bool) (is : IsReached c.self.inside.table marks).
    subst (λ (w : Domains). IsHallSet w (has_member marks)) c.self.view_is
    (hall_marked c.self.inside.table c.self.inside.order c.self.inside.left c.self.inside.met marks
    c.self.invariant.maximum is)) c.reached_from.ensures
