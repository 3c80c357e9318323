-- The matching stays a maximum as a demand comes.
use Rattle.std.proofs.Common.{ℕ, ◌+◌, ◌*◌, ◌<◌, ◌≤◌, ◌≡◌, ◌≢◌, true, not, eqb, Some, None, List, length, get_or, sym}
use Rattle.std.proofs.Common.{ap, ◌∙◌, arith, inl, inr, get_or-set_same}
use Rattle.std.specs.Prelude.{is_none, is_some}
use Rattle.std.proofs.lemmas.Bool.{and_parts, and_from, ne_eqb, not_from_false, false≢true, true≢false, cases_lt}
use Rattle.demand_matching.specs.declared.domains.Domain.{Domain}
use Rattle.demand_matching.specs.declared.table.Table.{Table}
use Rattle.demand_matching.specs.declared.order.Order.{Order}
use Rattle.demand_matching.specs.Domains.{is_present, domain_of, with_domain}
use Rattle.demand_matching.specs.Listing.{IsListing, ServesOne}
use Rattle.demand_matching.specs.Matched.{IsMaximum}
use Rattle.demand_matching.specs.Order.{IsOrder, HasSameFirst}
use Rattle.demand_matching.specs.Search.{IsOpen, IsClosed, IsSearch}
use Rattle.demand_matching.specs.Table.{domains_of, may_take, supply_of, demands_in, IsTable}
use Rattle.demand_matching.proofs.Changes.{absent_none}
use Rattle.demand_matching.proofs.Counting.{cases_eqb, cases_last}
use Rattle.demand_matching.proofs.Duality.{none_from, without}
use Rattle.demand_matching.proofs.Fences.{owner_below, same_first, first_trans, first_kept}
use Rattle.demand_matching.proofs.Listings.{SameBut, listing_along, listing_more, listing_same}
use Rattle.demand_matching.proofs.Maxima.{exceeds_same, exceeds_along}
use Rattle.demand_matching.proofs.Removals.{Moves, moved_listing}
use Rattle.demand_matching.proofs.Shifts.{served_present}
use Rattle.demand_matching.proofs.Shut.{firsts, firsts_in, firsts_out, shut_exceeds, exceeding_shut, same_count}
use Rattle.demand_matching.proofs.Shut.{same_may, same_present, shut_without}

-- a demand that has a supply, or had no domain, was given one
pub record Gains (t t' : Table) (d : ℕ) (domain : Domain) : Type 0 where
  pub below : d < demands_in t
  pub table : IsTable t'
  pub domains : domains_of t' ≡ with_domain (domains_of t) d (Some domain)
  pub supplies : t'.supplies ≡ t.supplies
  pub owners : t'.owners ≡ t.owners

gains_same : (t t' : Table) (d : ℕ) (domain : Domain) → Gains t t' d domain → SameBut t t' d
gains_same t t' d domain gains = record {
  demands = same_count t t' d (Some domain) gains.domains;
  present = λ e ne. same_present t t' d e (Some domain) gains.domains ne;
  none = λ e ne. ap (λ v. is_none (get_or v.items e None)) gains.supplies;
}

-- one outside of the set may have others beside its supply
pub write_outside : (t t' : Table) (o : Order) (d left met s : ℕ) (domain : Domain) → IsMaximum t o left met
    → Gains t t' d domain → supply_of t d ≡ Some s → (get_or o.spots.items d 0 < met → ⊥) → IsMaximum t' o left met
write_outside t t' o d left met s domain max gains owns far = record {
  table = gains.table;
  listing = listing_same t t' o d left max.listing (gains_same t t' d domain gains)
      (λ h. far (omega (arith, max.longer)))
      (λ p x. (let e : supply_of t' d ≡ supply_of t d = ap (λ v. get_or v.items d None) gains.supplies in cc));
  longer = max.longer;
  shut = shut_without t t' o.spots.items o.spots.items d met met (Some domain) max.table gains.table max.shut
      gains.domains (λ e ne. ap (λ v. get_or v.items e None) gains.supplies) max.shut.fits
      (λ e l ne h. h)
      (λ e l h. ((λ z. far (omega (arith, ap (λ v. get_or o.spots.items v 0) z))), h))
      (λ s owner h. far h);
}

-- one that had no domain stands behind the set now
pub record Joins (t t' : Table) (o o' : Order) (d left met : ℕ) (domain : Domain) : Type 0 where
  pub maximum : IsMaximum t o left met
  pub gains : Gains t t' d domain
  pub absent : domain_of (domains_of t) d ≡ None
  pub moves : Moves o o' d met

pub absent_outside : (t : Table) (o : Order) (d left met : ℕ) → IsMaximum t o left met → d < demands_in t
    → domain_of (domains_of t) d ≡ None → met ≤ get_or o.spots.items d 0
absent_outside t o d left met max l gone =
    elim (cases_lt (get_or o.spots.items d 0) met) [
      | inl h ↦ absurd (false≢true (sym (ap is_some gone) ∙ max.shut.present d l h))
      | inr h ↦ omega arith
    ]

pub joins_far : (t t' : Table) (o o' : Order) (d left met : ℕ) (domain : Domain) → Joins t t' o o' d left met domain
    → met ≤ get_or o.spots.items d 0
joins_far t t' o o' d left met domain it = absent_outside t o d left met it.maximum it.gains.below it.absent

pub joins_room : (t t' : Table) (o o' : Order) (d left met : ℕ) (domain : Domain) → Joins t t' o o' d left met domain
    → met < demands_in t
joins_room t t' o o' d left met domain it = omega
    (arith, joins_far t t' o o' d left met domain it, it.maximum.listing.order.spot_below d it.gains.below)

pub joins_order : (t t' : Table) (o o' : Order) (d left met : ℕ) (domain : Domain) → Joins t t' o o' d left met domain
    → IsOrder (demands_in t) o'.demands.items o'.spots.items
joins_order t t' o o' d left met domain it = rw it.maximum.listing.order.order_length at it.moves.order

-- the same demands stand before it
pub joins_first : (t t' : Table) (o o' : Order) (d left met : ℕ) (domain : Domain) (count : ℕ) → count ≤ met
    → Joins t t' o o' d left met domain → HasSameFirst (demands_in t) o.spots.items o'.spots.items count
joins_first t t' o o' d left met domain count low it =
    let far = joins_far t t' o o' d left met domain it in
    same_first (demands_in t) o.demands.items o.spots.items o'.demands.items o'.spots.items d met count
    it.maximum.listing.order it.moves.change it.gains.below (joins_room t t' o o' d left met domain it)
    (λ h. absurd (omega arith)) (λ h. absurd (omega arith))

joins_not : (t t' : Table) (o o' : Order) (d left met e : ℕ) (domain : Domain) → Joins t t' o o' d left met domain
    → get_or o.spots.items e 0 < met → e ≢ d
joins_not t t' o o' d left met e domain it h z =
    absurd (omega (arith, joins_far t t' o o' d left met domain it, ap (λ v. get_or o.spots.items v 0) z))

pub joins_none : (t t' : Table) (o o' : Order) (d left met : ℕ) (domain : Domain) → Joins t t' o o' d left met domain
    → supply_of t' d ≡ None
joins_none t t' o o' d left met domain it = ap (λ v. get_or v.items d None) it.gains.supplies
    ∙ absent_none t d it.maximum.table it.absent

joins_present : (t t' : Table) (o o' : Order) (d left met : ℕ) (domain : Domain) → Joins t t' o o' d left met domain
    → is_present (domains_of t') d ≡ true
joins_present t t' o o' d left met domain it =
    ap (λ w. is_present w d) it.gains.domains ∙ ap is_some
    (get_or-set_same t.demands.items d (Some domain) None it.gains.below)

-- a search from the demand alone, behind the set
pub joins_search : (t t' : Table) (o o' : Order) (d left met : ℕ) (domain : Domain) → Joins t t' o o' d left met domain
    → IsSearch t' met o'.demands.items o'.spots.items o'.met_from.items (met + 1)
joins_search t t' o o' d left met domain it =
    let n : demands_in t' ≡ demands_in t = same_count t t' d (Some domain) it.gains.domains in
    let order' = joins_order t t' o o' d left met domain it in
    let room = joins_room t t' o o' d left met domain it in
    let at : get_or o'.demands.items met 0 ≡ d = sym (ap (λ v. get_or o'.demands.items v 0) it.moves.change.moved)
    ∙ order'.order_spot d it.gains.below in
    let same = joins_first t t' o o' d left met domain met (omega arith) it in
    record {
      order = rw n order';
      met_length = ap (λ v. length v.items) it.moves.met_from ∙ it.maximum.listing.met_length ∙ sym n;
      len_fits = omega (arith, n, room);
      there = λ k h. elim (cases_last k met (omega arith)) [
        | inl x ↦ ap (λ v. is_present (domains_of t') (get_or o'.demands.items v 0)) x
            ∙ ap (λ v. is_present (domains_of t') v) at ∙ joins_present t t' o o' d left met domain it
        | inr less ↦
            let e : ℕ = get_or o'.demands.items k 0 in
            let below : e < demands_in t = order'.order_below k (omega (arith, room)) in
            let spot : get_or o.spots.items e 0 < met = same.back e below
            (omega (arith, order'.spot_order k (omega (arith, room)))) in
            same_present t t' d e (Some domain) it.gains.domains (joins_not t t' o o' d left met e domain it spot)
            ∙ it.maximum.shut.present e below spot
      ];
      met = λ k s low h e.
          let x : k ≡ met = omega arith in
          let is : supply_of t' (get_or o'.demands.items k 0) ≡ supply_of t' d =
          ap (λ v. supply_of t' (get_or o'.demands.items v 0)) x ∙ ap (λ v. supply_of t' v) at in
          let none = joins_none t t' o o' d left met domain it in
          absurd cc;
    }

joins_listing : (t t' : Table) (o o' : Order) (d left met : ℕ) (domain : Domain) → Joins t t' o o' d left met domain
    → IsListing t o' left
joins_listing t t' o o' d left met domain it =
    moved_listing t o o' d met left it.maximum.listing it.gains.below (joins_room t t' o o' d left met domain it)
    (λ h. absurd (omega (arith, joins_far t t' o o' d left met domain it, it.maximum.longer))) it.maximum.longer
    it.moves

-- where it has a supply then, the set stays
pub joins_open : (t t' t'' : Table) (o o' o'' : Order) (bits : List ℕ) (d left met place supply served : ℕ)
    (domain : Domain) → Joins t t' o o' d left met domain → IsOpen t' o' o'' bits met (met + 1) place supply
    → IsTable t'' → domains_of t'' ≡ domains_of t' → ServesOne t' t'' served → met ≤ get_or o''.spots.items served 0
    → IsMaximum t'' o'' left met
joins_open t t' t'' o o' o'' bits d left met place supply served domain it ends is'' same'' one after =
    let max = it.maximum in
    let n : demands_in t' ≡ demands_in t = same_count t t' d (Some domain) it.gains.domains in
    let m : demands_in t'' ≡ demands_in t' = ap (λ w. length w.demands) same'' in
    let order' = joins_order t t' o o' d left met domain it in
    let order'' : IsOrder (demands_in t) o''.demands.items o''.spots.items = rw n at ends.search.order in
    let first : (count : ℕ) → count ≤ met → HasSameFirst (demands_in t) o.spots.items o''.spots.items count =
    λ count low.
    first_trans (demands_in t) o.spots.items o'.spots.items o''.spots.items count
    (joins_first t t' o o' d left met domain count low it)
    (first_kept (demands_in t) o'.demands.items o'.spots.items o''.demands.items o''.spots.items (met + 1) count order'
    order'' (omega arith) ends.keeps) in
    let kept : IsListing t o'' left =
    listing_along t o o'' left max.listing order'' (ends.search.met_length ∙ n) (first left max.longer) in
    let is : served ≡ d = elim (cases_eqb served d) [
      | inl x ↦ x
      | inr x ↦
          let had : supply_of t served ≡ None = ap (λ v. get_or v.items served None) (sym it.gains.supplies)
          ∙ one.had_none in
          let here : is_present (domains_of t) served ≡ true =
          sym (ap (λ w. is_present w served) same'' ∙ same_present t t' d served (Some domain) it.gains.domains x)
          ∙ served_present t'' served is'' one.has_one in
          absurd (omega (arith, kept.listed served (omega (arith, n, one.below)) here had, max.longer))
    ] in
    let domains : domains_of t'' ≡ with_domain (domains_of t) d (Some domain) = same'' ∙ it.gains.domains in
    let same : SameBut t t'' d = record {
      demands = m ∙ n;
      present = λ e ne. same_present t t'' d e (Some domain) domains ne;
      none = λ e ne. one.others e (λ z. ne (z ∙ is)) ∙ ap (λ v. is_none (get_or v.items e None)) it.gains.supplies;
    } in
    let listing : IsListing t'' o'' left =
    listing_same t t'' o'' d left kept same (λ h. absurd
    (omega (arith, ap (λ v. get_or o''.spots.items v 0) is, max.longer)))
    (λ p x. absurd (true≢false (sym (none_from (supply_of t'' d) x) ∙ ap (λ v. is_none (supply_of t'' v)) (sym is)
    ∙ one.has_one))) in
    let set = firsts t o.spots.items met in
    record {
      table = is'';
      listing = listing;
      longer = max.longer;
      shut = exceeding_shut t'' o'' left met (without set d) is'' listing
          (exceeds_along (with_domain (domains_of t) d (Some domain)) (domains_of t'') (without set d) left domains
          (exceeds_same (domains_of t) d left (Some domain) set (ap is_some it.absent)
          (shut_exceeds t o left met max)))
          (λ e l h. let low : get_or o.spots.items e 0 < met =
          (first met (omega arith)).back e (omega (arith, n, m)) h in
          and_from (set e) (not (eqb e d)) (firsts_in t o.spots.items met e (omega (arith, n, m)) low)
          (not_from_false (eqb e d) (ne_eqb e d (joins_not t t' o o' d left met e domain it low))))
          (λ e l h. let b = firsts_out t o.spots.items met e (and_parts (set e) (not (eqb e d)) h).0 in
          (first met (omega arith)).into e b.0 b.1)
          (omega (arith, n, m, max.shut.fits))
          (λ e l h. let low : get_or o.spots.items e 0 < met =
          (first met (omega arith)).back e (omega (arith, n, m)) h in
          same_present t t'' d e (Some domain) domains (joins_not t t' o o' d left met e domain it low)
          ∙ max.shut.present e (omega (arith, n, m)) low);
    }

-- it goes among those left out, and whom it met stays
pub joins_last : (t t' : Table) (o o' o'' o₃ : Order) (bits : List ℕ) (d left met more : ℕ) (domain : Domain)
    → Joins t t' o o' d left met domain → IsClosed t' o' o'' bits met (met + 1) more → Moves o'' o₃ d left
    → HasSameFirst (demands_in t') o''.spots.items o₃.spots.items more
joins_last t t' o o' o'' o₃ bits d left met more domain it ends moves =
    let n : demands_in t' ≡ demands_in t = same_count t t' d (Some domain) it.gains.domains in
    let spot : get_or o''.spots.items d 0 ≡ met =
    ends.keeps.spot d (omega (arith, it.moves.change.moved)) ∙ it.moves.change.moved in
    same_first (demands_in t') o''.demands.items o''.spots.items o₃.demands.items o₃.spots.items d left more
    ends.search.order moves.change (omega (arith, n, it.gains.below))
    (omega (arith, n, it.maximum.longer, joins_room t t' o o' d left met domain it))
    (λ h. omega (arith, it.maximum.longer, ends.longer)) (λ h. omega (arith, ends.longer))

-- where it has none, it is left out, and whom it met joins the set
pub joins_closed : (t t' : Table) (o o' o'' o₃ : Order) (bits : List ℕ) (d left met more : ℕ) (domain : Domain)
    → Joins t t' o o' d left met domain → IsClosed t' o' o'' bits met (met + 1) more → Moves o'' o₃ d left
    → IsMaximum t' o₃ (left + 1) more
joins_closed t t' o o' o'' o₃ bits d left met more domain it ends moves =
    let max = it.maximum in
    let n : demands_in t' ≡ demands_in t = same_count t t' d (Some domain) it.gains.domains in
    let order' = joins_order t t' o o' d left met domain it in
    let order'' : IsOrder (demands_in t) o''.demands.items o''.spots.items = rw n at ends.search.order in
    let kept : IsListing t o'' left =
    listing_along t o o'' left max.listing order'' (ends.search.met_length ∙ n)
    (first_trans (demands_in t) o.spots.items o'.spots.items o''.spots.items left
    (joins_first t t' o o' d left met domain left max.longer it)
    (first_kept (demands_in t) o'.demands.items o'.spots.items o''.demands.items o''.spots.items (met + 1) left order'
    order'' (omega (arith, max.longer)) ends.keeps)) in
    let set : HasSameFirst (demands_in t) o.spots.items o''.spots.items met =
    first_trans (demands_in t) o.spots.items o'.spots.items o''.spots.items met
    (joins_first t t' o o' d left met domain met (omega arith) it)
    (first_kept (demands_in t) o'.demands.items o'.spots.items o''.demands.items o''.spots.items (met + 1) met order'
    order'' (omega arith) ends.keeps) in
    let spot : get_or o''.spots.items d 0 ≡ met =
    ends.keeps.spot d (omega (arith, it.moves.change.moved)) ∙ it.moves.change.moved in
    let order₃ : IsOrder (demands_in t) o₃.demands.items o₃.spots.items = rw order''.order_length at moves.order in
    let last : HasSameFirst (demands_in t) o''.spots.items o₃.spots.items more =
    rw n at (joins_last t t' o o' o'' o₃ bits d left met more domain it ends moves) in
    record {
      table = it.gains.table;
      listing = listing_more t t' o'' o₃ d left kept (gains_same t t' d domain it.gains) it.gains.below
          (λ h. absurd (omega (arith, max.longer))) (joins_present t t' o o' d left met domain it)
          (joins_none t t' o o' d left met domain it) order₃
          (ap (λ v. length v.items) moves.met_from ∙ kept.met_length) moves.change;
      longer = omega (arith, ends.longer, max.longer);
      shut = record {
        fits = ends.search.len_fits;
        present = λ e l h. ap (λ v. is_present (domains_of t') v) (sym (ends.search.order.order_spot e l))
            ∙ ends.search.there (get_or o''.spots.items e 0) (last.back e (omega (arith, n)) h);
        saturated = λ e s l h below may.
            let low : get_or o''.spots.items e 0 < more = last.back e (omega (arith, n)) h in
            elim (cases_lt (get_or o''.spots.items e 0) met) [
              | inl in_set ↦
                  let was : get_or o.spots.items e 0 < met = set.back e (omega (arith, n)) in_set in
                  let r = max.shut.saturated e s (omega (arith, n)) was
                  (omega (arith, ap (λ w. w.width * w.last) it.gains.domains))
                  (sym (same_may t t' d e s (Some domain) it.gains.domains
                  (joins_not t t' o o' d left met e domain it was)) ∙ may) in
                  let by_below : r.by < demands_in t = owner_below t s r.by max.table r.owner in
                  record {
                    by = r.by;
                    owner = ap (λ v. get_or v.items s None) it.gains.owners ∙ r.owner;
                    within = last.into r.by by_below (omega (arith, set.into r.by by_below r.within, ends.longer));
                  }
              | inr high ↦
                  let r = ends.closed (get_or o''.spots.items e 0) s (omega arith) low
                  (ap (λ v. may_take (domains_of t') v s) (ends.search.order.order_spot e l) ∙ may) in
                  record {
                    by = r.by;
                    owner = r.owner;
                    within =
                        last.into r.by (omega (arith, n, owner_below t' s r.by it.gains.table r.owner)) r.within;
                  }
            ];
      };
    }
