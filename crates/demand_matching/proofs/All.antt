-- As many that are reached as the set has that is kept are all of it.
use Rattle.std.proofs.Common.{ℕ, ◌<◌, ◌≤◌, ◌≡◌, true, get_or, refl, sym, ap, ◌∙◌, arith}
use Rattle.khe_base.specs.IdSet.{has_member}
use Rattle.demand_matching.specs.declared.table.Table.{Table}
use Rattle.demand_matching.specs.declared.order.Order.{Order}
use Rattle.demand_matching.specs.Counts.{count_below}
use Rattle.demand_matching.specs.Matched.{IsMaximum}
use Rattle.demand_matching.specs.Reach.{AreAll}
use Rattle.demand_matching.specs.Table.{owner_of, demands_in, supplies_in}
use Rattle.demand_matching.proofs.Counting.{count_partners, count_full, count_all}
use Rattle.demand_matching.proofs.Duality.{same_some}
use Rattle.demand_matching.proofs.Fences.{owner_below}
use Rattle.demand_matching.proofs.Reaching.{reach_count}
use Rattle.demand_matching.proofs.Shut.{firsts, firsts_in, firsts_out, kept_of}
use Rattle.khe_base.proofs.IdSetLemmas.{member_below}

-- the set that is kept has no more demands than there are places before its end
firsts_count : (t : Table) (o : Order) (left met : ℕ) → IsMaximum t o left met
    → count_below (demands_in t) (firsts t o.spots.items met) ≤ met
firsts_count t o left met max =
    let spots = o.spots.items in
    let low : count_below (demands_in t) (firsts t spots met) ≤ count_below met (λ _. true) =
    count_partners (demands_in t) met (firsts t spots met) (λ _. true)
    (λ d p. (d < demands_in t) × (get_or spots d 0 ≡ p))
    (λ d l h. (get_or spots d 0, (firsts_out t spots met d h).1, refl, (l, refl)))
    (λ j k p x y. sym (max.listing.order.order_spot j x.0)
    ∙ ap (λ v. get_or o.demands.items v 0) (x.1 ∙ sym y.1) ∙ max.listing.order.order_spot k y.0) in
    omega (arith, count_all met)

pub all_reached : (t : Table) (o : Order) (left met : ℕ) → IsMaximum t o left met → AreAll t met
all_reached t o left met max r is many d s by mark may owner =
    let spots = o.spots.items in
    let d_in : d < demands_in t = omega (arith, member_below r.marks d mark, is.size) in
    let s_in : s < supplies_in t = max.table.matching.supply by s (max.table.matching.holds s by owner) in
    let inside = kept_of t o left met d max (is.all d mark) in
    let it = max.shut.saturated d s d_in (firsts_out t spots met d inside).1 s_in may in
    let same : it.by ≡ by = same_some it.by by (owner_of t s) it.owner owner in
    let by_in : by < demands_in t = owner_below t s by max.table owner in
    let low : get_or spots by 0 < met = omega (arith, ap (λ v. get_or spots v 0) same, it.within) in
    count_full (demands_in t) (has_member r.marks) (firsts t spots met)
    (λ k l h. kept_of t o left met k max (is.all k h))
    (omega (arith, firsts_count t o left met max, reach_count t r.demands r.marks is, many)) by by_in
    (firsts_in t spots met by by_in low)
