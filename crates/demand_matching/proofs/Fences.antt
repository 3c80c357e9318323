-- The demands at the first places of an order, as demands change places and as a search meets them.
use Rattle.std.proofs.Common.{ℕ, ◌<◌, ◌≤◌, ◌≡◌, ◌+◌, true, Some, List, get_or, sym, ap, ◌∙◌, arith, inl, inr}
use Rattle.demand_matching.specs.declared.table.Table.{Table}
use Rattle.demand_matching.specs.declared.order.Order.{Order}
use Rattle.demand_matching.specs.Order.{IsOrder, ChangesPlaces, HasSameFirst}
use Rattle.demand_matching.specs.Search.{KeepsFirst, IsFenced, IsWithin}
use Rattle.demand_matching.specs.Table.{domains_of, may_take, owner_of, demands_in, IsTable}
use Rattle.demand_matching.proofs.Counting.{cases_eqb}

-- the demand that has a supply is one of the table
pub owner_below : (t : Table) (supply d : ℕ) → IsTable t → owner_of t supply ≡ Some d → d < demands_in t
owner_below t supply d is it = is.matching.demand d supply (is.matching.holds supply d it)

-- two demands change places that both stand among the first, or both behind them
pub same_first : (n : ℕ) (order spots order' spots' : List ℕ) (d place count : ℕ) → IsOrder n order spots
    → ChangesPlaces order spots order' spots' d place → d < n → place < n
    → (get_or spots d 0 < count → place < count) → (place < count → get_or spots d 0 < count)
    → HasSameFirst n spots spots' count
same_first n order spots order' spots' d place count is moves l m down up =
    let other : ℕ = get_or order place 0 in
    let spot_other : get_or spots other 0 ≡ place = is.spot_order place m in
    record {
      into = λ e k h. elim (cases_eqb e d) [
        | inl x ↦ let low : place < count = down (omega (arith, ap (λ v. get_or spots v 0) x)) in
            omega (arith, ap (λ v. get_or spots' v 0) x, moves.moved)
        | inr x ↦ elim (cases_eqb e other) [
          | inl y ↦
              let swapped : get_or spots' other 0 ≡ get_or spots d 0 = moves.swapped (λ z. x (y ∙ z)) in
              let low : get_or spots d 0 < count = up (omega (arith, ap (λ v. get_or spots v 0) y)) in
              omega (arith, ap (λ v. get_or spots' v 0) y)
          | inr y ↦ omega (arith, moves.other_spots e x y)
        ]
      ];
      back = λ e k h. elim (cases_eqb e d) [
        | inl x ↦ let low : get_or spots d 0 < count = up (omega (arith, ap (λ v. get_or spots' v 0) x, moves.moved)) in
            omega (arith, ap (λ v. get_or spots v 0) x)
        | inr x ↦ elim (cases_eqb e other) [
          | inl y ↦
              let swapped : get_or spots' other 0 ≡ get_or spots d 0 = moves.swapped (λ z. x (y ∙ z)) in
              let low : place < count = down (omega (arith, ap (λ v. get_or spots' v 0) y)) in
              omega (arith, ap (λ v. get_or spots v 0) y)
          | inr y ↦ omega (arith, moves.other_spots e x y)
        ]
      ];
    }

pub first_trans : (n : ℕ) (a b c : List ℕ) (count : ℕ) → HasSameFirst n a b count → HasSameFirst n b c count
    → HasSameFirst n a c count
first_trans n a b c count p q = record {
  into = λ d l h. q.into d l (p.into d l h);
  back = λ d l h. p.back d l (q.back d l h);
}

-- where the first places stay, the same demands stand there
pub first_kept : (n : ℕ) (order spots order' spots' : List ℕ) (len count : ℕ) → IsOrder n order spots
    → IsOrder n order' spots' → count ≤ len → KeepsFirst order spots order' spots' len
    → HasSameFirst n spots spots' count
first_kept n order spots order' spots' len count is is' low keeps = record {
  into = λ d l h. omega (arith, keeps.spot d (omega arith));
  back = λ d l h.
      let here : get_or spots' d 0 < len = omega arith in
      let at : get_or order (get_or spots' d 0) 0 ≡ d =
      sym (keeps.demand (get_or spots' d 0) here) ∙ is'.order_spot d l in
      omega (arith, sym (is.spot_order (get_or spots' d 0) (is'.spot_below d l)) ∙ ap (λ v. get_or spots v 0) at);
}

pub fenced_along : (t : Table) (spots spots' : List ℕ) (count : ℕ) → IsTable t
    → HasSameFirst (demands_in t) spots spots' count → IsFenced t spots count → IsFenced t spots' count
fenced_along t spots spots' count is same fence d s by l h may owner =
    same.into by (owner_below t s by is owner) (fence d s by l (same.back d l h) may owner)

pub within_refl : (t : Table) (o : Order) (len : ℕ) → IsWithin t o o len len
within_refl t o len count low fence = (low, record { into = λ d l h. h; back = λ d l h. h })

pub within_trans : (t : Table) (o o' o'' : Order) (len met more : ℕ) → IsTable t → IsWithin t o o' len met
    → IsWithin t o' o'' met more → IsWithin t o o'' len more
within_trans t o o' o'' len met more is p q count low fence =
    let a = p count low fence in
    let b = q count a.0 (fenced_along t o.spots.items o'.spots.items count is a.1 fence) in
    (b.0, first_trans (demands_in t) o.spots.items o'.spots.items o''.spots.items count a.1 b.1)

-- what was met does not count where a free supply is found
pub within_less : (t : Table) (o o' : Order) (len more : ℕ) → IsWithin t o o' len more → IsWithin t o o' len len
within_less t o o' len more p count low fence = (low, (p count low fence).1)

-- a demand is met that has a supply which an earlier one may have
pub within_met : (t : Table) (o o' : Order) (d place len supply : ℕ) → IsTable t
    → IsOrder (demands_in t) o.demands.items o.spots.items
    → ChangesPlaces o.demands.items o.spots.items o'.demands.items o'.spots.items d len → d < demands_in t
    → len < demands_in t
    → place < len → len ≤ get_or o.spots.items d 0 → owner_of t supply ≡ Some d
    → may_take (domains_of t) (get_or o.demands.items place 0) supply ≡ true → IsWithin t o o' len (len + 1)
within_met t o o' d place len supply is order moves l m near far owner may count low fence =
    let spot : get_or o.spots.items (get_or o.demands.items place 0) 0 ≡ place = order.spot_order place (omega arith) in
    let inside : get_or o.spots.items d 0 < count =
    fence (get_or o.demands.items place 0) supply d (order.order_below place (omega arith)) (omega arith) may
    owner in (
      omega arith,
      same_first (demands_in t) o.demands.items o.spots.items o'.demands.items o'.spots.items d len count
          order moves l m (λ h. omega arith) (λ h. inside),
    )
