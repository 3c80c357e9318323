use Rattle.std.proofs.Common.{◌≡◌, length, ap, sym, subst, ◌∙◌}
use Rattle.khe_engine.specs.States.{State}
use Rattle.ejection_repair.specs.Bounds.{most_moves, IsWithin}
use Rattle.ejection_repair.specs.Repaired.{repaired}
use Rattle.ejection_repair.specs.Settled.{HasTried, IsNoWorse, IsReached, IsSettled, StopsBelow, accepted_of}
use Rattle.ejection_repair.specs.Settled.{settled_to}
use Rattle.ejection_repair.proofs.CountLaws as counts
use Rattle.ejection_repair.proofs.KeptLaws as kept
use Rattle.ejection_repair.proofs.SettledLaws as settled
use Rattle.ejection_repair.proofs.repairing.repair.Goals as goal

pub returns-clause-no_worse : goal.returns-clause-no_worse
returns-clause-no_worse g c =
    let w = c.args.engine.now in let u = c.repair_exactly.new.engine.state in
    let r = repaired w.parts w.state c.args.depth c.args.budget c.args.diversifier in
    settled.both_ok (λ o. o ≡ r.outcome) (λ o. u ≡ r.state) (λ o. IsNoWorse w.parts w.state u (accepted_of o))
    c.repair_exactly.result c.repair_exactly.ensures.outcome c.repair_exactly.ensures.state
    (λ o e f. settled.no_worse_by w.parts w.state u c.args.depth c.args.budget c.args.diversifier o e f)

pub returns-clause-settled : goal.returns-clause-settled
returns-clause-settled g c =
    let w = c.args.engine.now in let u = c.repair_exactly.new.engine.state in
    let r = repaired w.parts w.state c.args.depth c.args.budget c.args.diversifier in
    settled.both_ok (λ o. o ≡ r.outcome) (λ o. u ≡ r.state) (λ o. IsSettled w.parts u (settled_to c.args.depth o))
    c.repair_exactly.result c.repair_exactly.ensures.outcome c.repair_exactly.ensures.state
    (λ o e f. (settled.true_by w.parts w.state u c.args.depth c.args.budget c.args.diversifier o e f).0)

pub returns-clause-tried : goal.returns-clause-tried
returns-clause-tried g c =
    let w = c.args.engine.now in let u = c.repair_exactly.new.engine.state in
    let r = repaired w.parts w.state c.args.depth c.args.budget c.args.diversifier in
    settled.both_ok (λ o. o ≡ r.outcome) (λ o. u ≡ r.state) (HasTried c.args.budget) c.repair_exactly.result
    c.repair_exactly.ensures.outcome c.repair_exactly.ensures.state
    (λ o e f. (settled.true_by w.parts w.state u c.args.depth c.args.budget c.args.diversifier o e f).1)

pub returns-clause-complete : goal.returns-clause-complete
returns-clause-complete g c =
    let w = c.args.engine.now in let u = c.repair_exactly.new.engine.state in
    let r = repaired w.parts w.state c.args.depth c.args.budget c.args.diversifier in
    settled.both_ok (λ o. o ≡ r.outcome) (λ o. u ≡ r.state) (StopsBelow c.args.depth) c.repair_exactly.result
    c.repair_exactly.ensures.outcome c.repair_exactly.ensures.state
    (λ o e f. (settled.true_by w.parts w.state u c.args.depth c.args.budget c.args.diversifier o e f).2)

pub returns-clause-reached : goal.returns-clause-reached
returns-clause-reached g c =
    let w = c.args.engine.now in let u = c.repair_exactly.new.engine.state in
    let r = repaired w.parts w.state c.args.depth c.args.budget c.args.diversifier in
    settled.both_ok (λ o. o ≡ r.outcome) (λ o. u ≡ r.state) (λ o. IsReached w.parts w.state u) c.repair_exactly.result
    c.repair_exactly.ensures.outcome c.repair_exactly.ensures.state
    (λ o e f. subst (IsReached w.parts w.state) (sym f)
    (kept.reached w.parts w.state c.args.depth c.args.budget c.args.diversifier))

pub returns-clause-grouping : goal.returns-clause-grouping
returns-clause-grouping g c =
    let w = c.args.engine.now in let u = c.repair_exactly.new.engine.state in
    let r = repaired w.parts w.state c.args.depth c.args.budget c.args.diversifier in
    settled.by_result (u.grouping ≡ w.state.grouping) (u ≡ r.state)
    ((u ≡ w.state) × (c.repair_exactly.new.engine.marked ≡ w.marked)) c.repair_exactly.result
    c.repair_exactly.ensures.state c.repair_exactly.ensures.refused
    (λ f. ap (λ (x : State). x.grouping) f ∙ kept.same_grouping w.parts w.state c.args.depth c.args.budget
    c.args.diversifier)
    (λ f. ap (λ (x : State). x.grouping) f.0)

pub returns-clause-bound : goal.returns-clause-bound
returns-clause-bound g c =
    let w = c.args.engine.now in let u = c.repair_exactly.new.engine.state in
    let r = repaired w.parts w.state c.args.depth c.args.budget c.args.diversifier in
    let valid = counts.valid_at w.parts _ w.state.slots _ c.solution.ensures.parts c.solution.ensures.slots
    c.facts-2.ensures in
    settled.both_ok (λ o. o ≡ r.outcome) (λ o. u ≡ r.state)
    (λ o. IsWithin (length w.parts.monitors) (most_moves w.parts) c.args.depth o) c.repair_exactly.result
    c.repair_exactly.ensures.outcome c.repair_exactly.ensures.state
    (λ o e f. subst (IsWithin (length w.parts.monitors) (most_moves w.parts) c.args.depth) (sym e)
    (counts.repaired_bounded w.parts _ w.state c.args.depth c.args.budget c.args.diversifier c.instance.ensures
    c.facts.ensures valid))
