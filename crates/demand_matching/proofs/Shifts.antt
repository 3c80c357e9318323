-- A step of a shift, and which demand it serves.
use Rattle.std.proofs.Common.{ℕ, ◌+◌, ◌<◌, ◌≤◌, ◌≡◌, ◌≢◌, true, false, List, Option, Some, None, length, get_or, sym}
use Rattle.std.proofs.Common.{ap, ◌∙◌, arith}
use Rattle.std.specs.Prelude.{is_none}
use Rattle.std.proofs.lemmas.List.{get_or_read}
use Rattle.demand_matching.specs.declared.table.Table.{Table}
use Rattle.demand_matching.specs.declared.order.Order.{Order}
use Rattle.demand_matching.specs.Domains.{is_present}
use Rattle.demand_matching.specs.Order.{IsOrder}
use Rattle.demand_matching.specs.Table.{domains_of, supply_of, owner_of, demands_in, IsTable}
use Rattle.demand_matching.specs.Search.{IsMet, IsSearch}
use Rattle.demand_matching.specs.Listing.{IsListing, ServesOne}
use Rattle.demand_matching.proofs.Duality.{some_is}
use Rattle.demand_matching.proofs.Supplies.{may_present}
use Rattle.demand_matching.proofs.Listings.{SameBut}

pub supply_known : (t : Table) (d s : ℕ) (x : Option ℕ) → IsTable t → d < demands_in t → x ≡ get_or t.supplies.items d x
    → x ≡ Some s → supply_of t d ≡ Some s
supply_known t d s x is below read it = sym (get_or_read t.supplies.items d x (omega (arith, is.supplies_length)) read
    None) ∙ it

pub served_present : (t : Table) (d : ℕ) → IsTable t → is_none (supply_of t d) ≡ false
    → is_present (domains_of t) d ≡ true
served_present t d is h = let at = some_is (supply_of t d) h in
    may_present (domains_of t) d at.0 (is.matching.allowed d at.0 at.1)

-- the demand that is freed of its supply was met from an earlier one
pub shift_met : (t₀ t : Table) (head : ℕ) (order spots met_from : List ℕ) (d place top freed : ℕ)
    → IsSearch t₀ head order spots met_from (top + 1) → head ≤ place → place ≤ top
    → supply_of t (get_or order place 0) ≡ supply_of t₀ (get_or order place 0) → d ≡ get_or order place 0
    → supply_of t d ≡ Some freed → IsMet t₀ head order met_from place freed
shift_met t₀ t head order spots met_from d place top freed search high near same it owns =
    search.met place freed high (omega arith) (sym same ∙ ap (λ v. supply_of t v) (sym it) ∙ owns)

pub not_supply : (t : Table) (d freed supply : ℕ) → IsTable t → supply_of t d ≡ Some freed → owner_of t supply ≡ None
    → freed ≢ supply
not_supply t d freed supply is owns free z = (let w : owner_of t supply ≡ Some d =
    ap (λ v. owner_of t v) (sym z) ∙ is.matching.owned d freed owns in cc)

pub apart : (n : ℕ) (order spots : List ℕ) (j k d : ℕ) → IsOrder n order spots → j < k → k < n → d ≡ get_or order k 0
    → get_or order j 0 ≢ d
apart n order spots j k d is l m it z = absurd
    (omega (arith, sym (is.spot_order j (omega arith)) ∙ ap (λ v. get_or spots v 0) (z ∙ it) ∙ is.spot_order k m))

-- who is placed differs only for one demand
pub same_but : (t t' : Table) (d : ℕ) → domains_of t' ≡ domains_of t → ServesOne t t' d → SameBut t t' d
same_but t t' d same one = record {
  demands = ap (λ w. length w.demands) same;
  present = λ e ne. ap (λ w. is_present w e) same;
  none = one.others;
}

-- the demand that was placed was left out
pub served_left : (t t' : Table) (o : Order) (left d : ℕ) → IsTable t' → IsListing t o left
    → domains_of t' ≡ domains_of t → ServesOne t t' d → get_or o.spots.items d 0 < left
served_left t t' o left d is listing same one =
    listing.listed d one.below (ap (λ w. is_present w d) (sym same) ∙ served_present t' d is one.has_one) one.had_none
