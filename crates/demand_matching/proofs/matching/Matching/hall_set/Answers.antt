use Rattle.std.proofs.Common.{ℕ, ◌≡◌, List, sym, subst, eqb}
use Rattle.std.specs.List.{list_any}
use Rattle.std.specs.List.Sorted.{IsStrictlyIncreasing}
use Rattle.khe_base.specs.IdSet.{members_of}
use Rattle.demand_matching.specs.Domains.{Domains}
use Rattle.demand_matching.specs.Excess.{IsHallSet}
use Rattle.demand_matching.specs.Matched.{IsMaximum}
use Rattle.demand_matching.proofs.Hall.{hall_is, hall_empty, members_ascend, if_ok_map}
use Rattle.demand_matching.proofs.matching.Matching.hall_set.Goals as goal

pub returns-then-self-eq0-clause-least : goal.returns-then-self-eq0-clause-least
returns-then-self-eq0-clause-least c =
    let P : ℕ → Type 0 = λ k. IsMaximum c.self.inside.table c.self.inside.order k c.self.inside.met in
    rw (c.new.ensures, ← c.self.view_is) (hall_empty c.self.inside.table c.self.inside.order c.self.inside.met
    (subst P c.if-self-eq0.true c.self.invariant.maximum))

pub returns-clause-ascending : goal.returns-clause-ascending
returns-clause-ascending c =
    if_ok_map c.members.result _ _ (λ (hall : List ℕ) (e : hall ≡ members_of c.in_ok-marks.marks). subst
    IsStrictlyIncreasing (sym e) (members_ascend c.in_ok-marks.marks)) c.members.ensures

pub returns-clause-least : goal.returns-clause-least
returns-clause-least c =
    let P : List ℕ → Type 0 = λ hall. IsHallSet c.args.self.now (λ d. list_any (λ m. eqb m d) hall) in
    let Q : Domains → Type 0 = λ w. IsHallSet w (λ d. list_any (λ m. eqb m d) (members_of c.in_ok-marks.marks)) in
    let it = hall_is c.self.inside.table c.self.inside.order c.self.inside.left c.self.inside.met c.in_ok-marks.marks
    c.self.invariant.maximum c.in_ok-marks.ensures in
    if_ok_map c.members.result _ _ (λ (hall : List ℕ) (e : hall ≡ members_of c.in_ok-marks.marks). subst P (sym e)
    (subst Q c.self.view_is it)) c.members.ensures
