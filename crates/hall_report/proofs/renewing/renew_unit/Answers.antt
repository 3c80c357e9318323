use Rattle.std.proofs.Common.{◌≡◌, ◌+◌, ℕ, sym, subst, arith}
use Rattle.khe_told.specs.Slots.{slot_at}
use Rattle.hall_report.specs.Picks.{domain_in}
use Rattle.hall_report.specs.Renewing.{IsRenewed}
use Rattle.std.specs.Option.{ForSome}
use Rattle.demand_matching.specs.Domains.{IsInRange, with_domain}
use Rattle.hall_report.proofs.Renewals.{none_places, place_renewed, still_ranged}
use Rattle.hall_report.proofs.renewing.renew_unit.Goals as goal

pub loop-place-init : goal.loop-place-init
loop-place-init c = (
  omega arith,
  none_places c.args.matching.now (λ (k : ℕ) (o : ℕ). c.args.first + k)
      (λ (k : ℕ) (o : ℕ). (λ (k : ℕ). domain_in c.args.choices.now.inst.now.events
      c.args.choices.now.picks.now.starts.items
      c.args.choices.now.picks.now.resources.items (slot_at c.args.choices.now.told.now c.args.meet.0) k c.args.offset)
      k) c.args.from 1,
)

pub set_domain-requires-clause-demand : goal.set_domain-requires-clause-demand
set_domain-requires-clause-demand c =
    let a = c.requires.writable.below c.loop-place.place 0 c.loop-place.invariant.0 c.loop-place-test.true
    (omega arith) in
    let b = c.loop-place.invariant.1.same.amount in
    omega (arith, a, b)

pub set_domain-requires-clause-domain : goal.set_domain-requires-clause-domain
set_domain-requires-clause-domain c =
    let a = c.requires.writable.ranged c.loop-place.place 0 c.loop-place.invariant.0 c.loop-place-test.true
    (omega arith) in
    subst (λ o. ForSome o (IsInRange c.loop-place.matching)) (sym c.domain-domain.ensures)
    (still_ranged c.args.matching.now c.loop-place.matching _ c.loop-place.invariant.1.same a)

pub loop-place-preserved : goal.loop-place-preserved
loop-place-preserved c =
    let a = c.requires.writable.below c.loop-place.place 0 c.loop-place.invariant.0 c.loop-place-test.true
    (omega arith) in
    let b = c.loop-place.invariant.1.same.amount in
    let low = c.loop-place.invariant.0 in (
      omega (arith, low),
      place_renewed c.args.matching.now c.loop-place.matching c.set_domain.new.self c.args.first
          (λ (k : ℕ). domain_in c.args.choices.now.inst.now.events c.args.choices.now.picks.now.starts.items
          c.args.choices.now.picks.now.resources.items
          (slot_at c.args.choices.now.told.now c.args.meet.0) k c.args.offset) c.args.from c.loop-place.place
          c.loop-place.invariant.1 c.loop-place.invariant.0 (omega (arith, a, b))
          (subst (λ o. c.set_domain.new.self ≡ with_domain c.loop-place.matching (c.args.first + c.loop-place.place) o)
          c.domain-domain.ensures c.set_domain.ensures),
    )

pub returns : goal.returns
returns c =
    let a = c.loop-place-test.false in
    let b = c.loop-place.auto.place-end c.requires.places in
    let e : c.loop-place.place ≡ c.args.end = omega (arith, a, b) in
    subst (λ n. IsRenewed c.args.matching.now c.loop-place.matching (λ (k : ℕ) (o : ℕ). c.args.first + k)
    (λ (k : ℕ) (o : ℕ). domain_in c.args.choices.now.inst.now.events c.args.choices.now.picks.now.starts.items
    c.args.choices.now.picks.now.resources.items (slot_at c.args.choices.now.told.now c.args.meet.0) k c.args.offset)
    c.args.from n 1) e
    c.loop-place.invariant.1
