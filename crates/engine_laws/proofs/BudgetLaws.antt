-- A repair with a large budget lowers the totals, or leaves a state that is settled to one move.
use Rattle.std.proofs.Common.{ℕ, zero, suc, ◌≡◌, ◌≤◌, ◌<◌, ◌+◌, ◌*◌, inl, inr, refl, arith, length}
use Rattle.ejection_repair.proofs.CountLaws.{repaired_bounded}
use Rattle.ejection_repair.proofs.SettledLaws.{no_worse_by, true_by}
use Rattle.ejection_repair.specs.Bounds.{IsWithin, most, most_moves}
use Rattle.ejection_repair.specs.Repaired.{repaired}
use Rattle.ejection_repair.specs.Settled.{HasTried, IsNoWorse, IsSettled, accepted_of, settled_to}
use Rattle.ejection_repair.specs.declared.outcome.Outcome.{Outcome}
use Rattle.ejection_repair.specs.declared.outcome.Outcome.TheVariants.{Done, Spent}
use Rattle.engine_laws.specs.Budgets.{IsLowerOrSettled}
use Rattle.khe_engine.specs.States.{State}
use Rattle.khe_instance.specs.WellMade.{AreWellMade}
use Rattle.khe_instance.specs.declared.parts.Parts.{Parts}
use Rattle.khe_told.specs.Valid.{AreValid}

-- what is settled to a length is settled to each shorter one
settled_less : (p : Parts) (s : State) (j k : ℕ) → j ≤ k → IsSettled p s k → IsSettled p s j
settled_less p s j k le h e es d l chain = h e es d (omega (arith, le, l)) chain

-- the chains of one move are no more than the monitors have moves
one_sweep : (d r : ℕ) → most d r 1 ≡ d * r
unfolding most
one_sweep d r = omega arith

-- nothing was accepted and not even one length was gone through: then the budget was small
small_budget : (d r depth budget t : ℕ) → t ≡ budget → t ≤ 0 * most d r depth + most d r (0 + 1) → d * r < budget → ⊥
small_budget d r depth budget t spent within large =
    let one = one_sweep d r in omega (arith, spent, within, large, one)

tells : (p : Parts) (s u : State) (d r depth budget : ℕ) (o : Outcome) → 1 ≤ depth → d * r < budget
    → IsWithin d r depth o → HasTried budget o → IsNoWorse p s u (accepted_of o) → IsSettled p u (settled_to depth o)
    → IsLowerOrSettled p u s
tells p s u d r depth budget (Done a t) deep large within tried worse settled =
    inr (settled_less p u 1 depth deep settled)
tells p s u d r depth budget (Spent a t (suc k)) deep large within tried worse settled =
    inr (settled_less p u 1 (suc k) (omega arith) settled)
tells p s u d r depth budget (Spent (suc a) t zero) deep large within tried (inl h) settled =
    absurd (let z = h.0 in omega (arith, z))
tells p s u d r depth budget (Spent (suc a) t zero) deep large within tried (inr h) settled = inl h.1
tells p s u d r depth budget (Spent zero t zero) deep large within tried worse settled =
    absurd (small_budget d r depth budget t tried within large)

pub budget_tells : (p : Parts) (s : State) (depth budget v : ℕ) → AreWellMade p → AreValid p s.slots → 1 ≤ depth
    → length p.monitors * most_moves p < budget
    → IsLowerOrSettled p (repaired p s depth budget v).state s
budget_tells p s depth budget v made valid deep large =
    let r = repaired p s depth budget v in
    let is = true_by p s r.state depth budget v r.outcome refl refl in
    tells p s r.state (length p.monitors) (most_moves p) depth budget r.outcome deep large
    (repaired_bounded p p s depth budget v refl made valid) is.1
    (no_worse_by p s r.state depth budget v r.outcome refl refl) is.0
