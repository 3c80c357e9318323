-- The matching stays a maximum as a demand goes.
use Rattle.std.proofs.Common.{ℕ, ◌+◌, ◌-◌, ◌<◌, ◌≤◌, ◌≡◌, ◌≢◌, true, not, eqb, Some, None, List, length, get_or, sym}
use Rattle.std.proofs.Common.{ap, ◌∙◌, arith}
use Rattle.std.specs.Prelude.{is_none, is_some}
use Rattle.std.proofs.Common.{get_or-set_same}
use Rattle.std.proofs.lemmas.Bool.{and_parts, and_from, eqb-false, ne_eqb, not-true, not_from_false, false≢true}
use Rattle.std.proofs.lemmas.Bool.{true≢false}
use Rattle.demand_matching.specs.declared.table.Table.{Table}
use Rattle.demand_matching.specs.declared.order.Order.{Order}
use Rattle.demand_matching.specs.Domains.{is_present, with_domain}
use Rattle.demand_matching.specs.Listing.{IsListing, ServesOne}
use Rattle.demand_matching.specs.Matched.{IsMaximum}
use Rattle.demand_matching.specs.Order.{IsOrder, ChangesPlaces, HasSameFirst}
use Rattle.demand_matching.specs.Search.{IsOpen, IsClosed, IsFenced, IsWithin, IsSearch}
use Rattle.demand_matching.specs.Table.{domains_of, may_take, supply_of, owner_of, demands_in, IsTable}
use Rattle.demand_matching.proofs.Duality.{none_from, without}
use Rattle.demand_matching.proofs.Fences.{same_first, first_trans}
use Rattle.demand_matching.proofs.Listings.{SameBut, listing_along, listing_kept, listing_less, listing_same}
use Rattle.demand_matching.proofs.Maxima.{exceeds_less, exceeds_along}
use Rattle.demand_matching.proofs.Searches.{spot_read}
use Rattle.demand_matching.proofs.Shifts.{same_but, served_left}
use Rattle.demand_matching.proofs.Shut.{firsts, firsts_in, firsts_out, shut_exceeds, exceeding_shut, same_count}
use Rattle.demand_matching.proofs.Shut.{same_may, same_present, shut_without, last_into, last_back}

-- a demand lost its domain, and its supply if it had one
pub record Drops (t t' : Table) (d : ℕ) : Type 0 where
  pub below : d < demands_in t
  pub table : IsTable t'
  pub domains : domains_of t' ≡ with_domain (domains_of t) d None
  pub none : supply_of t' d ≡ None
  pub others : (e : ℕ) → e ≢ d → supply_of t' e ≡ supply_of t e

-- a demand changed places with the one at this place
pub record Moves (o o' : Order) (d place : ℕ) : Type 0 where
  pub order : IsOrder (length o.demands.items) o'.demands.items o'.spots.items
  pub met_from : o'.met_from ≡ o.met_from
  pub change : ChangesPlaces o.demands.items o.spots.items o'.demands.items o'.spots.items d place

pub drops_gone : (t t' : Table) (d : ℕ) → Drops t t' d → is_present (domains_of t') d ≡ true → ⊥
drops_gone t t' d drops h = false≢true (sym (ap (λ w. is_present w d) drops.domains
    ∙ ap is_some (get_or-set_same t.demands.items d None None drops.below)) ∙ h)

drops_same : (t t' : Table) (d : ℕ) → Drops t t' d → SameBut t t' d
drops_same t t' d drops = record {
  demands = same_count t t' d None drops.domains;
  present = λ e ne. same_present t t' d e None drops.domains ne;
  none = λ e ne. ap is_none (drops.others e ne);
}

moves_length : (t : Table) (o o' : Order) (d place left : ℕ) → IsListing t o left → Moves o o' d place
    → length o'.met_from.items ≡ demands_in t
moves_length t o o' d place left listing moves = ap (λ v. length v.items) moves.met_from ∙ listing.met_length

moves_order : (t : Table) (o o' : Order) (d place left : ℕ) → IsListing t o left → Moves o o' d place
    → IsOrder (demands_in t) o'.demands.items o'.spots.items
moves_order t o o' d place left listing moves = rw listing.order.order_length at moves.order

-- a listing stays one where a demand moves that is behind those left out
pub moved_listing : (t : Table) (o o' : Order) (d place left : ℕ) → IsListing t o left → d < demands_in t
    → place < demands_in t → (get_or o.spots.items d 0 < left → ⊥) → left ≤ place → Moves o o' d place
    → IsListing t o' left
moved_listing t o o' d place left listing l m high far moves =
    listing_along t o o' left listing (moves_order t o o' d place left listing moves)
    (moves_length t o o' d place left listing moves)
    (same_first (demands_in t) o.demands.items o.spots.items o'.demands.items o'.spots.items d place left listing.order
    moves.change l m (λ h. absurd (high h)) (λ h. absurd (omega arith)))

-- one that is left out goes: it is behind the others that are, and then behind the set
pub record Withdraws (t t' : Table) (o o' o'' : Order) (d left met : ℕ) : Type 0 where
  pub maximum : IsMaximum t o left met
  pub drops : Drops t t' d
  pub here : is_present (domains_of t) d ≡ true
  pub none : supply_of t d ≡ None
  pub first : Moves o o' d (left - 1)
  pub second : Moves o' o'' d (met - 1)

withdraws_low : (t t' : Table) (o o' o'' : Order) (d left met : ℕ) → Withdraws t t' o o' o'' d left met
    → get_or o.spots.items d 0 < left
withdraws_low t t' o o' o'' d left met it = it.maximum.listing.listed d it.drops.below it.here it.none

withdraws_order : (t t' : Table) (o o' o'' : Order) (d left met : ℕ) → Withdraws t t' o o' o'' d left met
    → IsOrder (demands_in t) o''.demands.items o''.spots.items
withdraws_order t t' o o' o'' d left met it =
    let order' : IsOrder (demands_in t) o'.demands.items o'.spots.items =
    moves_order t o o' d (left - 1) left it.maximum.listing it.first in
    rw order'.order_length at it.second.order

withdraws_same : (t t' : Table) (o o' o'' : Order) (d left met : ℕ) → Withdraws t t' o o' o'' d left met
    → HasSameFirst (demands_in t) o.spots.items o''.spots.items met
withdraws_same t t' o o' o'' d left met it =
    let max = it.maximum in
    let low = withdraws_low t t' o o' o'' d left met it in
    let order' : IsOrder (demands_in t) o'.demands.items o'.spots.items =
    moves_order t o o' d (left - 1) left max.listing it.first in
    first_trans (demands_in t) o.spots.items o'.spots.items o''.spots.items met
    (same_first (demands_in t) o.demands.items o.spots.items o'.demands.items o'.spots.items d (left - 1) met
    max.listing.order it.first.change it.drops.below (omega (arith, max.listing.fits))
    (λ h. omega (arith, max.longer)) (λ h. omega (arith, max.longer)))
    (same_first (demands_in t) o'.demands.items o'.spots.items o''.demands.items o''.spots.items d (met - 1) met order'
    it.second.change it.drops.below (omega (arith, max.shut.fits, max.longer)) (λ h. omega (arith, max.longer))
    (λ h. omega (arith, max.longer, it.first.change.moved)))

pub withdraws_into : (t t' : Table) (o o' o'' : Order) (d left met e : ℕ) → Withdraws t t' o o' o'' d left met
    → e < demands_in t → e ≢ d → get_or o.spots.items e 0 < met → get_or o''.spots.items e 0 < met - 1
withdraws_into t t' o o' o'' d left met e it l ne h =
    last_into (demands_in t) o''.demands.items o.spots.items o''.spots.items d met e
    (withdraws_order t t' o o' o'' d left met it) (withdraws_same t t' o o' o'' d left met it)
    it.second.change.moved it.drops.below l ne h

pub remove_left : (t t' : Table) (o o' o'' : Order) (d left met : ℕ) → Withdraws t t' o o' o'' d left met
    → IsMaximum t' o'' (left - 1) (met - 1)
remove_left t t' o o' o'' d left met it =
    let max = it.maximum in
    let drops = it.drops in
    let n : demands_in t' ≡ demands_in t = same_count t t' d None drops.domains in
    let low = withdraws_low t t' o o' o'' d left met it in
    let order' = moves_order t o o' d (left - 1) left max.listing it.first in
    let listing' : IsListing t' o' (left - 1) = listing_less t t' o o' d left max.listing (drops_same t t' d drops)
    drops.below low (λ p x. drops_gone t t' d drops p) order'
    (moves_length t o o' d (left - 1) left max.listing it.first) it.first.change in
    record {
      table = drops.table;
      listing = moved_listing t' o' o'' d (met - 1) (left - 1) listing' (omega (arith, n, drops.below))
          (omega (arith, n, max.shut.fits, max.longer)) (λ h. absurd (omega (arith, it.first.change.moved)))
          (omega (arith, max.longer)) it.second;
      longer = omega (arith, max.longer);
      shut = shut_without t t' o.spots.items o''.spots.items d met (met - 1) None max.table drops.table max.shut
          drops.domains drops.others (omega (arith, max.shut.fits))
          (λ e l ne h. withdraws_into t t' o o' o'' d left met e it l ne h)
          (λ e l h. last_back (demands_in t) o.spots.items o''.spots.items d met e
          (withdraws_same t t' o o' o'' d left met it) it.second.change.moved l h)
          (λ s owner h. (let owns : supply_of t d ≡ Some s = max.table.matching.holds s d owner in
          let none : supply_of t d ≡ None = it.none in cc));
    }

-- one goes whose supply none of the set may have
pub remove_outside : (t t' : Table) (o : Order) (d left met s : ℕ) → IsMaximum t o left met → Drops t t' d
    → supply_of t d ≡ Some s → (get_or o.spots.items d 0 < met → ⊥) → IsMaximum t' o left met
remove_outside t t' o d left met s max drops owns far = record {
  table = drops.table;
  listing = listing_same t t' o d left max.listing (drops_same t t' d drops) (λ h. far (omega (arith, max.longer)))
      (λ p x. drops_gone t t' d drops p);
  longer = max.longer;
  shut = shut_without t t' o.spots.items o.spots.items d met met None max.table drops.table max.shut drops.domains
      drops.others max.shut.fits
      (λ e l ne h. h)
      (λ e l h. ((λ z. far (omega (arith, ap (λ v. get_or o.spots.items v 0) z))), h))
      (λ s owner h. far h);
}

-- one of the set goes that has a supply, and is at the last place of the set before
pub record Leaves (t t' : Table) (o o' : Order) (d left met s : ℕ) : Type 0 where
  pub maximum : IsMaximum t o left met
  pub drops : Drops t t' d
  pub owns : supply_of t d ≡ Some s
  pub inside : get_or o.spots.items d 0 < met
  pub moves : Moves o o' d (met - 1)

-- as the lists have it
pub leaves_from : (t t' : Table) (o o' : Order) (d left met s x : ℕ) → IsMaximum t o left met → Drops t t' d
    → supply_of t d ≡ Some s → x ≡ get_or o.spots.items d x → x < met → Moves o o' d (met - 1)
    → Leaves t t' o o' d left met s
leaves_from t t' o o' d left met s x max drops owns read inside moves = record {
  maximum = max;
  drops = drops;
  owns = owns;
  inside = omega (arith, spot_read o.spots.items d x (omega (arith, max.listing.order.spots_length, drops.below)) read);
  moves = moves;
}

pub far_from : (t : Table) (o : Order) (d left met x : ℕ) → IsMaximum t o left met → d < demands_in t
    → x ≡ get_or o.spots.items d x → met ≤ x → get_or o.spots.items d 0 < met → ⊥
far_from t o d left met x max l read far h = absurd
    (omega (arith, spot_read o.spots.items d x (omega (arith, max.listing.order.spots_length)) read))

leaves_high : (t t' : Table) (o o' : Order) (d left met s : ℕ) → Leaves t t' o o' d left met s
    → get_or o.spots.items d 0 < left → ⊥
leaves_high t t' o o' d left met s it z = (let e = it.maximum.listing.left_out d it.drops.below z in
    let owns : supply_of t d ≡ Some s = it.owns in cc)

pub leaves_listing : (t t' : Table) (o o' : Order) (d left met s : ℕ) → Leaves t t' o o' d left met s
    → IsListing t' o' left
leaves_listing t t' o o' d left met s it =
    let high = leaves_high t t' o o' d left met s it in
    let far : left ≤ get_or o.spots.items d 0 = omega (arith, high) in
    let last_in : met - 1 < demands_in t = omega (arith, it.maximum.shut.fits, it.inside) in
    let moved : IsListing t o' left = moved_listing t o o' d (met - 1) left it.maximum.listing it.drops.below last_in
    high (omega (arith, it.inside)) it.moves in
    listing_same t t' o' d left moved (drops_same t t' d it.drops)
    (λ h. absurd (omega (arith, it.moves.change.moved, it.inside))) (λ p x. drops_gone t t' d it.drops p)

-- a search from those that are left out
pub leaves_search : (t t' : Table) (o o' : Order) (d left met s : ℕ) → Leaves t t' o o' d left met s
    → IsSearch t' 0 o'.demands.items o'.spots.items o'.met_from.items left
leaves_search t t' o o' d left met s it =
    let listing = leaves_listing t t' o o' d left met s it in
    record {
      order = listing.order;
      met_length = listing.met_length;
      len_fits = listing.fits;
      there = λ k h.
          let near : k < demands_in t' = omega (arith, listing.fits) in
          listing.present (get_or o'.demands.items k 0) (listing.order.order_below k near)
          (omega (arith, listing.order.spot_order k near));
      met = λ k u low h e.
          let near : k < demands_in t' = omega (arith, listing.fits) in
          let none = listing.left_out (get_or o'.demands.items k 0) (listing.order.order_below k near)
          (omega (arith, listing.order.spot_order k near)) in
          absurd cc;
    }

leaves_same : (t t' : Table) (o o' : Order) (d left met s : ℕ) → Leaves t t' o o' d left met s
    → HasSameFirst (demands_in t) o.spots.items o'.spots.items met
leaves_same t t' o o' d left met s it =
    same_first (demands_in t) o.demands.items o.spots.items o'.demands.items o'.spots.items d (met - 1) met
    it.maximum.listing.order it.moves.change it.drops.below (omega (arith, it.maximum.shut.fits, it.inside))
    (λ h. omega arith) (λ h. it.inside)

pub leaves_into : (t t' : Table) (o o' : Order) (d left met s e : ℕ) → Leaves t t' o o' d left met s → e < demands_in t
    → e ≢ d → get_or o.spots.items e 0 < met → get_or o'.spots.items e 0 < met - 1
leaves_into t t' o o' d left met s e it l ne h =
    last_into (demands_in t) o'.demands.items o.spots.items o'.spots.items d met e
    (moves_order t o o' d (met - 1) left it.maximum.listing it.moves) (leaves_same t t' o o' d left met s it)
    it.moves.change.moved it.drops.below l ne h

leaves_back : (t t' : Table) (o o' : Order) (d left met s e : ℕ) → Leaves t t' o o' d left met s → e < demands_in t
    → get_or o'.spots.items e 0 < met - 1 → (e ≢ d) × (get_or o.spots.items e 0 < met)
leaves_back t t' o o' d left met s e it l h =
    last_back (demands_in t) o.spots.items o'.spots.items d met e (leaves_same t t' o o' d left met s it)
    it.moves.change.moved l h

-- the others of the set may have no supply of a demand outside
pub leaves_fenced : (t t' : Table) (o o' : Order) (d left met s : ℕ) → Leaves t t' o o' d left met s
    → IsFenced t' o'.spots.items (met - 1)
leaves_fenced t t' o o' d left met s it e u by l h may owner =
    let max = it.maximum in
    let n : demands_in t' ≡ demands_in t = same_count t t' d None it.drops.domains in
    let a = leaves_back t t' o o' d left met s e it (omega (arith, n)) h in
    let has : supply_of t' by ≡ Some u = it.drops.table.matching.holds u by owner in
    let ne : by ≢ d = λ z. (let none : supply_of t' d ≡ None = it.drops.none in
    let same : supply_of t' by ≡ supply_of t' d = ap (λ v. supply_of t' v) z in cc) in
    let had : supply_of t by ≡ Some u = sym (it.drops.others by ne) ∙ has in
    let r = max.shut.saturated e u (omega (arith, n)) a.1 (max.table.matching.supply by u had)
    (sym (same_may t t' d e u None it.drops.domains a.0) ∙ may) in
    let is : by ≡ r.by = (let one : owner_of t u ≡ Some by = max.table.matching.owned by u had in
    let two : owner_of t u ≡ Some r.by = r.owner in cc) in
    leaves_into t t' o o' d left met s by it (max.table.matching.demand by u had) ne
    (omega (arith, ap (λ v. get_or o.spots.items v 0) is, r.within))

-- where no other can take its supply, those that were met are the set
pub leaves_closed : (t t' : Table) (o o' o'' : Order) (bits : List ℕ) (d left met s less : ℕ)
    → Leaves t t' o o' d left met s → IsClosed t' o' o'' bits 0 left less → IsMaximum t' o'' left less
leaves_closed t t' o o' o'' bits d left met s less it ends = record {
  table = it.drops.table;
  listing = listing_kept t' 0 o' o'' left left less (leaves_listing t t' o o' d left met s it) (omega arith) ends.search
      ends.keeps;
  longer = ends.longer;
  shut = record {
    fits = ends.search.len_fits;
    present = λ e l h. ap (λ v. is_present (domains_of t') v) (sym (ends.search.order.order_spot e l))
        ∙ ends.search.there (get_or o''.spots.items e 0) h;
    saturated = λ e u l h below may. ends.closed (get_or o''.spots.items e 0) u (omega arith) h
        (ap (λ v. may_take (domains_of t') v u) (ends.search.order.order_spot e l) ∙ may);
  };
}

pub leaves_kept : (t t' : Table) (o o' o'' : Order) (bits : List ℕ) (d left met s place supply : ℕ)
    → Leaves t t' o o' d left met s → IsOpen t' o' o'' bits 0 left place supply → IsListing t' o'' left
leaves_kept t t' o o' o'' bits d left met s place supply it ends =
    listing_kept t' 0 o' o'' left left (place + 1) (leaves_listing t t' o o' d left met s it) (omega arith) ends.search
    ends.keeps

-- some were left out where another takes it
pub leaves_some : (t t' t'' : Table) (o o' o'' : Order) (bits : List ℕ) (d left met s place supply served : ℕ)
    → Leaves t t' o o' d left met s → IsOpen t' o' o'' bits 0 left place supply
    → IsTable t'' → domains_of t'' ≡ domains_of t' → ServesOne t' t'' served → 1 ≤ left
leaves_some t t' t'' o o' o'' bits d left met s place supply served it ends is'' same'' one =
    let kept = leaves_kept t t' o o' o'' bits d left met s place supply it ends in
    omega (arith, served_left t' t'' o'' left served is'' kept same'' one)

leaves_room : (t t' : Table) (o o' : Order) (d left met s : ℕ) → Leaves t t' o o' d left met s → left ≤ met - 1
leaves_room t t' o o' d left met s it =
    let far : left ≤ get_or o.spots.items d 0 = omega (arith, leaves_high t t' o o' d left met s it) in
    omega (arith, it.inside)

-- a search meets only others of the set
pub leaves_within : (t t' : Table) (o o' o'' : Order) (d left met s more : ℕ) → Leaves t t' o o' d left met s
    → IsWithin t' o' o'' left more → HasSameFirst (demands_in t') o'.spots.items o''.spots.items (met - 1)
leaves_within t t' o o' o'' d left met s more it within =
    (within (met - 1) (leaves_room t t' o o' d left met s it) (leaves_fenced t t' o o' d left met s it)).1

-- the set stays without the demand
pub leaves_first : (t t' t'' : Table) (o o' o'' o₃ : Order) (bits : List ℕ) (d left met s place supply served : ℕ)
    → Leaves t t' o o' d left met s → IsOpen t' o' o'' bits 0 left place supply
    → IsTable t'' → domains_of t'' ≡ domains_of t' → ServesOne t' t'' served → Moves o'' o₃ served (left - 1)
    → HasSameFirst (demands_in t') o'.spots.items o₃.spots.items (met - 1)
leaves_first t t' t'' o o' o'' o₃ bits d left met s place supply served it ends is'' same'' one moves =
    let kept = leaves_kept t t' o o' o'' bits d left met s place supply it ends in
    let low : get_or o''.spots.items served 0 < left = served_left t' t'' o'' left served is'' kept same'' one in
    let room = leaves_room t t' o o' d left met s it in
    first_trans (demands_in t') o'.spots.items o''.spots.items o₃.spots.items (met - 1)
    (leaves_within t t' o o' o'' d left met s left it ends.within)
    (same_first (demands_in t') o''.demands.items o''.spots.items o₃.demands.items o₃.spots.items served (left - 1)
    (met - 1) ends.search.order moves.change one.below (omega (arith, kept.fits)) (λ h. omega arith)
    (λ h. omega arith))

-- where another takes it, the set is the same without the demand
pub leaves_open : (t t' t'' : Table) (o o' o'' o₃ : Order) (bits : List ℕ) (d left met s place supply served : ℕ)
    → Leaves t t' o o' d left met s → IsOpen t' o' o'' bits 0 left place supply
    → IsTable t'' → domains_of t'' ≡ domains_of t' → ServesOne t' t'' served → Moves o'' o₃ served (left - 1)
    → IsMaximum t'' o₃ (left - 1) (met - 1)
leaves_open t t' t'' o o' o'' o₃ bits d left met s place supply served it ends is'' same'' one moves =
    let n : demands_in t' ≡ demands_in t = same_count t t' d None it.drops.domains in
    let m : demands_in t'' ≡ demands_in t' = ap (λ w. length w.demands) same'' in
    let max = it.maximum in
    let kept = leaves_kept t t' o o' o'' bits d left met s place supply it ends in
    let low : get_or o''.spots.items served 0 < left = served_left t' t'' o'' left served is'' kept same'' one in
    let listing : IsListing t'' o₃ (left - 1) =
    listing_less t' t'' o'' o₃ served left kept (same_but t' t'' served same'' one) one.below low
    (λ p x. absurd (true≢false (sym (none_from (supply_of t'' served) x) ∙ one.has_one)))
    (moves_order t' o'' o₃ served (left - 1) left kept moves) (moves_length t' o'' o₃ served (left - 1) left kept moves)
    moves.change in
    let room = leaves_room t t' o o' d left met s it in
    let all = leaves_first t t' t'' o o' o'' o₃ bits d left met s place supply served it ends is'' same'' one moves in
    let set = firsts t o.spots.items met in
    let domains : domains_of t'' ≡ with_domain (domains_of t) d None = same'' ∙ it.drops.domains in
    record {
      table = is'';
      listing = listing;
      longer = omega arith;
      shut = exceeding_shut t'' o₃ (left - 1) (met - 1) (without set d) is'' listing
          (exceeds_along (with_domain (domains_of t) d None) (domains_of t'') (without set d) (left - 1) domains
          (exceeds_less (domains_of t) d left (left - 1) None set (omega arith) (shut_exceeds t o left met max)))
          (λ e l h. let a = leaves_back t t' o o' d left met s e it (omega (arith, n, m))
          (all.back e (omega (arith, m)) h) in
          and_from (set e) (not (eqb e d)) (firsts_in t o.spots.items met e (omega (arith, n, m)) a.1)
          (not_from_false (eqb e d) (ne_eqb e d a.0)))
          (λ e l h. let a = and_parts (set e) (not (eqb e d)) h in
          let b = firsts_out t o.spots.items met e a.0 in
          all.into e (omega (arith, n)) (leaves_into t t' o o' d left met s e it b.0
          (eqb-false e d (not-true (eqb e d) a.1)) b.1))
          (omega (arith, n, m, max.shut.fits))
          (λ e l h. let a = leaves_back t t' o o' d left met s e it (omega (arith, n, m))
          (all.back e (omega (arith, m)) h) in
          ap (λ w. is_present w e) same'' ∙ same_present t t' d e None it.drops.domains a.0
          ∙ max.shut.present e (omega (arith, n, m)) a.1);
    }
