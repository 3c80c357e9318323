-- One demand more is met.
use Rattle.std.proofs.Common.{ℕ, ◌+◌, ◌<◌, ◌≤◌, ◌≡◌, true, List, Option, Some, None, length, get_or, set, refl, sym, ap}
use Rattle.std.proofs.Common.{◌∙◌, arith, inl, inr, get_or-set_same, get_or-set_other, length-set}
use Rattle.std.proofs.lemmas.List.{get_or_read}
use Rattle.demand_matching.specs.declared.table.Table.{Table}
use Rattle.demand_matching.specs.declared.order.Order.{Order}
use Rattle.demand_matching.specs.declared.domains.Domain.{Domain}
use Rattle.demand_matching.specs.Domains.{domain_of, is_present}
use Rattle.demand_matching.specs.Order.{IsOrder, ChangesPlaces}
use Rattle.demand_matching.specs.Table.{domains_of, may_take, supply_of, owner_of, demands_in, supplies_in, IsTable}
use Rattle.demand_matching.specs.Search.{IsSearch, KeepsFirst, IsReached, IsMarked, IsTaken, GoesOn}
use Rattle.demand_matching.proofs.Supplies.{may_present}
use Rattle.demand_matching.proofs.Counting.{cases_last}
use Rattle.demand_matching.proofs.Fences.{within_refl, within_trans}
use Rattle.demand_matching.proofs.Duality.{same_some}

-- who has a supply, as the table's list has it
pub owner_read : (t : Table) (supply d : ℕ) (x : Option ℕ) → IsTable t → supply < supplies_in t
    → x ≡ get_or t.owners.items supply x → x ≡ Some d → owner_of t supply ≡ Some d
owner_read t supply d x is below read it = sym
    (get_or_read t.owners.items supply x (omega (arith, is.owners_length)) read None) ∙ it

pub keeps_first : (n : ℕ) (order spots order' spots' : List ℕ) (d len : ℕ) → IsOrder n order spots
    → ChangesPlaces order spots order' spots' d len → d < n → len < n → len ≤ get_or spots d 0
    → KeepsFirst order spots order' spots' len
keeps_first n order spots order' spots' d len is moves l m far = record {
  demand = λ k h. moves.other_places k (λ x. absurd (omega arith)) (λ x. absurd (omega arith));
  spot = λ e h. moves.other_spots e (λ x. absurd (omega (arith, ap (λ v. get_or spots v 0) x)))
      (λ x. absurd (omega (arith, ap (λ v. get_or spots v 0) x, is.spot_order len m)));
}

pub meets_more : (t : Table) (head : ℕ) (order spots met_from order' spots' : List ℕ) (d place len supply : ℕ)
    → IsTable t → IsSearch t head order spots met_from len → IsOrder (demands_in t) order' spots'
    → ChangesPlaces order spots order' spots' d len → owner_of t supply ≡ Some d → head ≤ place → place < len
    → len ≤ get_or spots d 0 → may_take (domains_of t) (get_or order place 0) supply ≡ true
    → IsSearch t head order' spots' (set met_from d place) (len + 1)
meets_more t head order spots met_from order' spots' d place len supply is_table is order_is moves owner high near far
    may =
    let n : ℕ = demands_in t in
    let placed : supply_of t d ≡ Some supply = is_table.matching.holds supply d owner in
    let d_below : d < n = is_table.matching.demand d supply placed in
    let room : len < n = omega (arith, is.order.spot_below d d_below) in
    let keeps : KeepsFirst order spots order' spots' len =
    keeps_first n order spots order' spots' d len is.order moves d_below room far in
    let at_len : get_or order' len 0 ≡ d = sym (ap (λ v. get_or order' v 0) moves.moved)
    ∙ order_is.order_spot d d_below in
    let d_met : d < length met_from = omega (arith, is.met_length) in
    let new_met : get_or (set met_from d place) d 0 ≡ place = get_or-set_same met_from d place 0 d_met in
    record {
      order = order_is;
      met_length = length-set met_from d place ∙ is.met_length;
      len_fits = omega arith;
      there = λ k h. elim (cases_last k len (omega arith)) [
        | inl x ↦ ap (λ v. is_present (domains_of t) v) (ap (λ v. get_or order' v 0) x ∙ at_len)
            ∙ may_present (domains_of t) d supply (is_table.matching.allowed d supply placed)
        | inr less ↦ ap (λ v. is_present (domains_of t) v) (keeps.demand k less) ∙ is.there k less
      ];
      met = λ k s low h e. elim (cases_last k len (omega arith)) [
        | inl x ↦
            let here : get_or order' k 0 ≡ d = ap (λ v. get_or order' v 0) x ∙ at_len in
            let from_is : get_or (set met_from d place) (get_or order' k 0) 0 ≡ place =
            ap (λ v. get_or (set met_from d place) v 0) here ∙ new_met in
            let s_is : supply ≡ s = same_some supply s (supply_of t d) placed
            (sym (ap (λ v. supply_of t v) here) ∙ e) in
            record {
              after = omega (arith, from_is);
              before = omega (arith, from_is);
              allowed =
                  ap (λ v. may_take (domains_of t) (get_or order' v 0) s) from_is
                  ∙ ap (λ v. may_take (domains_of t) v s) (keeps.demand place near)
                  ∙ ap (λ v. may_take (domains_of t) (get_or order place 0) v) (sym s_is) ∙ may;
            }
        | inr less ↦
            let here : get_or order' k 0 ≡ get_or order k 0 = keeps.demand k less in
            let old = is.met k s low less (sym (ap (λ v. supply_of t v) here) ∙ e) in
            let other : get_or order k 0 ≡ d → ⊥ = λ z. absurd
            (omega (arith, sym (is.order.spot_order k (omega arith)) ∙ ap (λ v. get_or spots v 0) z)) in
            let from_is : get_or (set met_from d place) (get_or order' k 0) 0 ≡ get_or met_from (get_or order k 0) 0 =
            ap (λ v. get_or (set met_from d place) v 0) here
            ∙ get_or-set_other met_from d (get_or order k 0) place 0 other in
            record {
              after = omega (arith, from_is, old.after);
              before = omega (arith, from_is, old.before);
              allowed =
                  ap (λ v. may_take (domains_of t) (get_or order' v 0) s) from_is
                  ∙ ap (λ v. may_take (domains_of t) v s) (keeps.demand (get_or met_from (get_or order k 0) 0)
                  (omega (arith, old.before)))
                  ∙ old.allowed;
            }
      ];
    }

pub keeps_trans : (a b a' b' a'' b'' : List ℕ) (len more : ℕ) → len ≤ more → KeepsFirst a b a' b' len
    → KeepsFirst a' b' a'' b'' more → KeepsFirst a b a'' b'' len
keeps_trans a b a' b' a'' b'' len more l p q = record {
  demand = λ k h. q.demand k (omega arith) ∙ p.demand k h;
  spot = λ e h. let one : get_or b' e 0 ≡ get_or b e 0 = p.spot e h in q.spot e (omega (arith, one)) ∙ one;
}

pub keeps_refl : (a b : List ℕ) (len : ℕ) → KeepsFirst a b a b len
keeps_refl a b len = record { demand = λ k h. refl; spot = λ e h. refl }

pub reached_still : (t : Table) (a b a' b' : List ℕ) (len more s : ℕ) → len ≤ more → KeepsFirst a b a' b' len
    → IsReached t b len s → IsReached t b' more s
reached_still t a b a' b' len more s l keeps r = record {
  by = r.by;
  owner = r.owner;
  within = omega (arith, keeps.spot r.by r.within, r.within);
}

pub search_shorter : (t : Table) (head : ℕ) (a b c : List ℕ) (len less : ℕ) → less ≤ len → IsSearch t head a b c len
    → IsSearch t head a b c less
search_shorter t head a b c len less l is = record {
  order = is.order;
  met_length = is.met_length;
  len_fits = omega (arith, is.len_fits);
  there = λ k h. is.there k (omega arith);
  met = λ k s low h e. is.met k s low (omega arith) e;
}

pub spot_read : (xs : List ℕ) (i x : ℕ) → i < length xs → x ≡ get_or xs i x → x ≡ get_or xs i 0
spot_read xs i x l e = get_or_read xs i x l e 0

-- one look after another
pub goes_on_trans : (t : Table) (head : ℕ) (o o' o'' : Order) (bits' bits'' : List ℕ) (len met more : ℕ) → IsTable t
    → GoesOn t head o o' bits' len met → GoesOn t head o' o'' bits'' met more → GoesOn t head o o'' bits'' len more
goes_on_trans t head o o' o'' bits' bits'' len met more is g h = record {
  longer = omega (arith, g.longer, h.longer);
  search = h.search;
  keeps = keeps_trans o.demands.items o.spots.items o'.demands.items o'.spots.items o''.demands.items o''.spots.items
      len met g.longer g.keeps h.keeps;
  within = within_trans t o o' o'' len met more is g.within h.within;
  marked = h.marked;
}

pub goes_on_none : (t : Table) (head : ℕ) (o : Order) (bits : List ℕ) (len : ℕ)
    → IsSearch t head o.demands.items o.spots.items o.met_from.items len → IsMarked t o.spots.items bits len
    → GoesOn t head o o bits len len
goes_on_none t head o bits len search marked = record {
  longer = omega arith;
  search = search;
  keeps = keeps_refl o.demands.items o.spots.items len;
  within = within_refl t o len;
  marked = marked;
}

-- a fact of the demand at a place that stays
pub may_kept : (t : Table) (o o' : Order) (place len s : ℕ)
    → KeepsFirst o.demands.items o.spots.items o'.demands.items o'.spots.items len → place < len
    → may_take (domains_of t) (get_or o'.demands.items place 0) s
    ≡ may_take (domains_of t) (get_or o.demands.items place 0) s
may_kept t o o' place len s keeps near = ap (λ v. may_take (domains_of t) v s) (keeps.demand place near)

pub domain_kept : (t : Table) (o o' : Order) (place len : ℕ) (d : Domain)
    → KeepsFirst o.demands.items o.spots.items o'.demands.items o'.spots.items len → place < len
    → domain_of (domains_of t) (get_or o.demands.items place 0) ≡ Some d
    → domain_of (domains_of t) (get_or o'.demands.items place 0) ≡ Some d
domain_kept t o o' place len d keeps near its = ap (λ v. domain_of (domains_of t) v) (keeps.demand place near) ∙ its

pub taken_kept : (t : Table) (o o' : Order) (place len : ℕ)
    → KeepsFirst o.demands.items o.spots.items o'.demands.items o'.spots.items len → place < len
    → IsTaken t (get_or o.demands.items place 0) → IsTaken t (get_or o'.demands.items place 0)
taken_kept t o o' place len keeps near taken s may = taken s (sym (may_kept t o o' place len s keeps near) ∙ may)

-- the domain of the demand at a place, as the lists have it
pub domain_read : (t : Table) (order : List ℕ) (place demand : ℕ) (x : Option Domain) → place < length order
    → get_or order place 0 < demands_in t → demand ≡ get_or order place demand → x ≡ get_or t.demands.items demand x
    → x ≡ domain_of (domains_of t) (get_or order place 0)
domain_read t order place demand x l m read look =
    let at : demand ≡ get_or order place 0 = get_or_read order place demand l read 0 in
    let near : demand < length t.demands.items = omega arith in
    get_or_read t.demands.items demand x near look None ∙ ap (λ v. get_or t.demands.items v None) at

-- the supply of the demand at a place, as the lists have it
pub supply_read : (t : Table) (order : List ℕ) (place demand : ℕ) (x : Option ℕ) → IsTable t → place < length order
    → get_or order place 0 < demands_in t → demand ≡ get_or order place demand → x ≡ get_or t.supplies.items demand x
    → x ≡ supply_of t (get_or order place 0)
supply_read t order place demand x is l m read look =
    let at : demand ≡ get_or order place 0 = get_or_read order place demand l read 0 in
    let near : demand < length t.supplies.items = omega (arith, is.supplies_length) in
    get_or_read t.supplies.items demand x near look None ∙ ap (λ v. get_or t.supplies.items v None) at

-- one place more of the order is looked at
pub search_more : (t : Table) (o' o'' : Order) (bits'' : List ℕ) (head place met more : ℕ) → place < met
    → GoesOn t head o' o'' bits'' met more
    → ((k s : ℕ) → head ≤ k → k < place → may_take (domains_of t) (get_or o'.demands.items k 0) s ≡ true
    → IsReached t o'.spots.items met s)
    → ((s : ℕ) → may_take (domains_of t) (get_or o'.demands.items place 0) s ≡ true
    → IsReached t o''.spots.items more s)
    → (k s : ℕ) → head ≤ k → k < place + 1 → may_take (domains_of t) (get_or o''.demands.items k 0) s ≡ true
    → IsReached t o''.spots.items more s
search_more t o' o'' bits'' head place met more l g before here k s low high may =
    let keeps : KeepsFirst o'.demands.items o'.spots.items o''.demands.items o''.spots.items met = g.keeps in
    elim (cases_last k place (omega arith)) [
      | inl x ↦ here s (ap (λ v. may_take (domains_of t) (get_or o'.demands.items v 0) s) (sym x)
          ∙ ap (λ v. may_take (domains_of t) v s) (sym (keeps.demand k (omega arith))) ∙ may)
      | inr less ↦ reached_still t o'.demands.items o'.spots.items o''.demands.items o''.spots.items met more s g.longer
          keeps (before k s low less (ap (λ v. may_take (domains_of t) v s) (sym (keeps.demand k (omega arith))) ∙ may))
    ]
