-- The demands that are left out, as one is placed, dropped or added.
use Rattle.std.proofs.Common.{ℕ, ◌+◌, ◌-◌, ◌<◌, ◌≤◌, ◌≡◌, ◌≢◌, true, None, length, get_or, sym, ap, ◌∙◌, arith, inl}
use Rattle.std.proofs.Common.{inr}
use Rattle.std.specs.Prelude.{is_none}
use Rattle.demand_matching.specs.declared.table.Table.{Table}
use Rattle.demand_matching.specs.declared.order.Order.{Order}
use Rattle.demand_matching.specs.Domains.{is_present}
use Rattle.demand_matching.specs.Order.{IsOrder, ChangesPlaces, HasSameFirst}
use Rattle.demand_matching.specs.Table.{domains_of, supply_of, demands_in}
use Rattle.demand_matching.specs.Search.{IsSearch, KeepsFirst}
use Rattle.demand_matching.specs.Listing.{IsListing}
use Rattle.demand_matching.proofs.Counting.{cases_eqb}
use Rattle.demand_matching.proofs.Fences.{first_kept}
use Rattle.demand_matching.proofs.Duality.{none_is, none_from}

-- as many are left out where the same demands stand first
pub listing_along : (t : Table) (o o' : Order) (left : ℕ) → IsListing t o left
    → IsOrder (demands_in t) o'.demands.items o'.spots.items → length o'.met_from.items ≡ demands_in t
    → HasSameFirst (demands_in t) o.spots.items o'.spots.items left → IsListing t o' left
listing_along t o o' left is order_is met same = record {
  order = order_is;
  met_length = met;
  fits = is.fits;
  present = λ d l h. is.present d l (same.back d l h);
  left_out = λ d l h. is.left_out d l (same.back d l h);
  listed = λ d l p n. same.into d l (is.listed d l p n);
}

-- a search leaves the first demands of the order
pub listing_kept : (t : Table) (head : ℕ) (o o' : Order) (left count len : ℕ) → IsListing t o left → left ≤ count
    → IsSearch t head o'.demands.items o'.spots.items o'.met_from.items len
    → KeepsFirst o.demands.items o.spots.items o'.demands.items o'.spots.items count → IsListing t o' left
listing_kept t head o o' left count len is low search keeps =
    listing_along t o o' left is search.order search.met_length
    (first_kept (demands_in t) o.demands.items o.spots.items o'.demands.items o'.spots.items count left is.order
    search.order low keeps)

-- what is left out of one table is left out of another, but for one demand
pub record SameBut (t t' : Table) (demand : ℕ) : Type 0 where
  pub demands : demands_in t' ≡ demands_in t
  pub present : (other : ℕ) → other ≢ demand → is_present (domains_of t') other ≡ is_present (domains_of t) other
  pub none : (other : ℕ) → other ≢ demand → is_none (supply_of t' other) ≡ is_none (supply_of t other)

none_back : (t t' : Table) (d e : ℕ) → SameBut t t' d → e ≢ d → supply_of t' e ≡ None → supply_of t e ≡ None
none_back t t' d e same ne h = none_is (supply_of t e) (sym (same.none e ne) ∙ none_from (supply_of t' e) h)

none_on : (t t' : Table) (d e : ℕ) → SameBut t t' d → e ≢ d → supply_of t e ≡ None → supply_of t' e ≡ None
none_on t t' d e same ne h = none_is (supply_of t' e) (same.none e ne ∙ none_from (supply_of t e) h)

-- one that was left out is left out no more, and goes behind the others
pub listing_less : (t t' : Table) (o o' : Order) (d left : ℕ) → IsListing t o left → SameBut t t' d → d < demands_in t
    → get_or o.spots.items d 0 < left → (is_present (domains_of t') d ≡ true → supply_of t' d ≡ None → ⊥)
    → IsOrder (demands_in t) o'.demands.items o'.spots.items → length o'.met_from.items ≡ demands_in t
    → ChangesPlaces o.demands.items o.spots.items o'.demands.items o'.spots.items d (left - 1)
    → IsListing t' o' (left - 1)
listing_less t t' o o' d left is same l low gone order_is met moves =
    let top : ℕ = left - 1 in
    let top_in : top < demands_in t = omega (arith, is.fits) in
    let last : ℕ = get_or o.demands.items top 0 in
    let spot_last : get_or o.spots.items last 0 ≡ top = is.order.spot_order top top_in in
    let unmoved : (e : ℕ) → e < demands_in t → get_or o.spots.items e 0 ≡ top
    → e ≡ last = λ e m h. sym (is.order.order_spot e m) ∙ ap (λ v. get_or o.demands.items v 0) h in
    let not_d : (e : ℕ) → get_or o'.spots.items e 0 < top
    → e ≢ d = λ e h z. absurd (omega (arith, ap (λ v. get_or o'.spots.items v 0) z, moves.moved)) in
    let before : (e : ℕ) → get_or o'.spots.items e 0 < top → get_or o.spots.items e 0 < left = λ e h.
    elim (cases_eqb e last) [
      | inl x ↦ omega (arith, ap (λ v. get_or o.spots.items v 0) x)
      | inr x ↦ omega (arith, moves.other_spots e (not_d e h) x)
    ] in
    record {
      order = rw same.demands order_is;
      met_length = met ∙ sym same.demands;
      fits = omega (arith, same.demands);
      present = λ e m h. same.present e (not_d e h) ∙ is.present e (omega (arith, same.demands)) (before e h);
      left_out = λ e m h. none_on t t' d e same (not_d e h) (is.left_out e (omega (arith, same.demands)) (before e h));
      listed = λ e m p n.
          let in_t : e < demands_in t = omega (arith, same.demands) in
          let ne : e ≢ d = λ z. gone (ap (λ v. is_present (domains_of t') v) (sym z) ∙ p)
          (ap (λ v. supply_of t' v) (sym z) ∙ n) in
          let was : get_or o.spots.items e 0 < left = is.listed e in_t (sym (same.present e ne) ∙ p)
          (none_back t t' d e same ne n) in
          elim (cases_eqb e last) [
            | inl x ↦
                let swapped : get_or o'.spots.items last 0 ≡ get_or o.spots.items d 0 =
                moves.swapped (λ z. ne (x ∙ z)) in
                let apart : get_or o.spots.items d 0 ≡ top → ⊥ = λ z. ne (x ∙ sym (unmoved d l z)) in
                omega (arith, ap (λ v. get_or o'.spots.items v 0) x)
            | inr x ↦
                let apart : get_or o.spots.items e 0 ≡ top → ⊥ = λ z. x (unmoved e in_t z) in
                omega (arith, moves.other_spots e ne x)
          ];
    }

-- one that was not left out is not left out
pub listing_same : (t t' : Table) (o : Order) (d left : ℕ) → IsListing t o left → SameBut t t' d
    → (get_or o.spots.items d 0 < left → ⊥) → (is_present (domains_of t') d ≡ true → supply_of t' d ≡ None → ⊥)
    → IsListing t' o left
listing_same t t' o d left is same high gone =
    let not_d : (e : ℕ) → get_or o.spots.items e 0 < left
    → e ≢ d = λ e h z. high (omega (arith, ap (λ v. get_or o.spots.items v 0) z)) in
    record {
      order = rw same.demands is.order;
      met_length = is.met_length ∙ sym same.demands;
      fits = omega (arith, is.fits, same.demands);
      present = λ e m h. same.present e (not_d e h) ∙ is.present e (omega (arith, same.demands)) h;
      left_out = λ e m h. none_on t t' d e same (not_d e h) (is.left_out e (omega (arith, same.demands)) h);
      listed = λ e m p n.
          let ne : e ≢ d = λ z. gone (ap (λ v. is_present (domains_of t') v) (sym z) ∙ p)
          (ap (λ v. supply_of t' v) (sym z) ∙ n) in
          is.listed e (omega (arith, same.demands)) (sym (same.present e ne) ∙ p) (none_back t t' d e same ne n);
    }

-- one that was not left out is left out now, and goes last among the others
pub listing_more : (t t' : Table) (o o' : Order) (d left : ℕ) → IsListing t o left → SameBut t t' d → d < demands_in t
    → (get_or o.spots.items d 0 < left → ⊥) → is_present (domains_of t') d ≡ true → supply_of t' d ≡ None
    → IsOrder (demands_in t) o'.demands.items o'.spots.items → length o'.met_from.items ≡ demands_in t
    → ChangesPlaces o.demands.items o.spots.items o'.demands.items o'.spots.items d left
    → IsListing t' o' (left + 1)
listing_more t t' o o' d left is same l high here none order_is met moves =
    let room : left < demands_in t = omega (arith, is.order.spot_below d l) in
    let other : ℕ = get_or o.demands.items left 0 in
    let spot_other : get_or o.spots.items other 0 ≡ left = is.order.spot_order left room in
    let at_d : get_or o'.spots.items d 0 ≡ left = moves.moved in
    let before : (e : ℕ) → e ≢ d → get_or o'.spots.items e 0 < left + 1 → e < demands_in t
    → get_or o.spots.items e 0 < left = λ e ne h m.
    let not_at : get_or o'.spots.items e 0 ≡ left
    → ⊥ = λ z. ne (sym (order_is.order_spot e m) ∙ ap (λ v. get_or o'.demands.items v 0) (z ∙ sym at_d)
    ∙ order_is.order_spot d l) in
    elim (cases_eqb e other) [
      | inl x ↦
          let swapped : get_or o'.spots.items other 0 ≡ get_or o.spots.items d 0 = moves.swapped (λ z. ne (x ∙ z)) in
          absurd (high (omega (arith, ap (λ v. get_or o'.spots.items v 0) x)))
      | inr x ↦ omega (arith, moves.other_spots e ne x)
    ] in
    record {
      order = rw same.demands order_is;
      met_length = met ∙ sym same.demands;
      fits = omega (arith, same.demands);
      present = λ e m h. elim (cases_eqb e d) [
        | inl x ↦ ap (λ v. is_present (domains_of t') v) x ∙ here
        | inr x ↦ same.present e x ∙ is.present e (omega (arith, same.demands))
            (before e x h (omega (arith, same.demands)))
      ];
      left_out = λ e m h. elim (cases_eqb e d) [
        | inl x ↦ ap (λ v. supply_of t' v) x ∙ none
        | inr x ↦ none_on t t' d e same x (is.left_out e (omega (arith, same.demands))
            (before e x h (omega (arith, same.demands))))
      ];
      listed = λ e m p n. elim (cases_eqb e d) [
        | inl x ↦ omega (arith, ap (λ v. get_or o'.spots.items v 0) x)
        | inr x ↦
            let was : get_or o.spots.items e 0 < left = is.listed e (omega (arith, same.demands))
            (sym (same.present e x) ∙ p) (none_back t t' d e same x n) in
            let ne : e ≢ other = λ z. absurd (omega (arith, ap (λ v. get_or o.spots.items v 0) z)) in
            omega (arith, moves.other_spots e x ne)
      ];
    }
