-- A task is worth no more than its place.
use Rattle.std.proofs.Common.{◌≡◌, ◌≤◌, ◌*◌, ◌/◌, ap, subst, sym, ◌∙◌, ℕ}
use Rattle.khe_base.specs.declared.limits.TheConstants.{NUMBER}
use Rattle.khe_instance.proofs.MadeLemmas.{worth_small}
use Rattle.resource_deviations.proofs.filling.worth_of.Goals as goal

pub returns-in-Some-clause-small : goal.returns-in-Some-clause-small
returns-in-Some-clause-small c =
    let p = c.args.inst.now in
    let d = c.args.duty.now in
    let event = c.event-event.result.now in
    let place = c.in-Some.place.now in
    let worth : place.workload * d.meet.duration * (p.unit / event.duration) ≤ NUMBER * p.unit =
    worth_small p c.facts.ensures d c.requires event c.event-event.ensures c.as_slice.result.now c.as_slice.ensures
    d.place place c.in-Some.ensures.lookup.3.0 c.in-Some.ensures.lookup.1
    in
    let rate : c.rate_of-rate.result ≡ p.unit / event.duration =
    c.rate_of-rate.ensures ∙ ap (λ u. u / event.duration) c.unit.ensures in
    let same : c.product.result ≡ place.workload * d.meet.duration * (p.unit / event.duration) =
    c.product.ensures ∙ ap (λ n. place.workload * d.meet.duration * n) rate in
    let Small : ℕ → Type 0 = λ n. n ≤ NUMBER * p.unit in
    subst Small (sym same) worth
