-- What a look at the supplies of a domain finds.
use Rattle.std.proofs.Common.{ℕ, ◌+◌, ◌-◌, ◌*◌, ◌^◌, ◌<◌, ◌≤◌, ◌≡◌, Bool, true, false, ◌&&◌, Option, Some, None, List}
use Rattle.std.proofs.Common.{length, get_or, set, sym, ap, ap₂, ◌∙◌, arith, inl, inr, bit_and, nat_eq, if◌then◌else◌}
use Rattle.std.proofs.Common.{MatchOption}
use Rattle.std.specs.Int.{w64, trailing_zeros}
use Rattle.std.proofs.lemmas.Bool.{and_parts, and_from, cases_lt, cases_Bool, true≢false}
use Rattle.std.proofs.lemmas.Nat.Bits.{bit_at-trailing_zeros}
use Rattle.khe_base.specs.Bits.{has_bit, is_set}
use Rattle.khe_base.proofs.BitsLemmas.{has_bit-and, has_bit-zero}
use Rattle.demand_matching.specs.declared.domains.Domain.{Domain}
use Rattle.demand_matching.specs.declared.domains.Pick.{Pick}
use Rattle.demand_matching.specs.declared.table.Table.{Table}
use Rattle.demand_matching.specs.declared.order.Order.{Order}
use Rattle.demand_matching.specs.Domains.{is_picked, domain_of, IsInRange}
use Rattle.demand_matching.specs.Members.{picked}
use Rattle.demand_matching.specs.Order.{IsOrder, ChangesPlaces}
use Rattle.demand_matching.specs.Search.{IsSearch, IsReached, IsMarked, IsFreeFor, KeepsFirst, GoesOn}
use Rattle.demand_matching.specs.Table.{domains_of, may_take, admits_supply, owner_of, demands_in, supplies_in, IsTable}
use Rattle.demand_matching.proofs.Duality.{none_is, none_from}
use Rattle.demand_matching.proofs.Fences.{owner_below, within_refl, within_met}
use Rattle.demand_matching.proofs.Marks.{marked_more}
use Rattle.demand_matching.proofs.Picks.{picked_found}
use Rattle.demand_matching.proofs.Searches.{meets_more, keeps_first, keeps_refl, reached_still}
use Rattle.demand_matching.proofs.Supplies.{supply_at, picked_below, picked_supply, supply_found, may_is}
use Rattle.demand_matching.proofs.Supplies.{admitted_below}

-- the demand of the supply was met before
pub met_before : (t : Table) (head : ℕ) (o : Order) (bits bits' : List ℕ) (supply d len : ℕ)
    → IsSearch t head o.demands.items o.spots.items o.met_from.items len → IsMarked t o.spots.items bits len
    → length bits' ≡ length bits → ((k : ℕ) → is_set bits' k ≡ (if nat_eq k supply then false else is_set bits k))
    → owner_of t supply ≡ Some d → get_or o.spots.items d 0 < len → GoesOn t head o o bits' len len
met_before t head o bits bits' supply d len search marked same all owner near = record {
  longer = omega arith;
  search = search;
  keeps = keeps_refl o.demands.items o.spots.items len;
  within = within_refl t o len;
  marked = marked_more t o o bits bits' supply d len len (omega arith) (keeps_refl o.demands.items o.spots.items len)
      marked same all owner near;
}

-- or is met now
pub met_now : (t : Table) (head : ℕ) (o o' : Order) (bits bits' : List ℕ) (d place len supply : ℕ) → IsTable t
    → IsSearch t head o.demands.items o.spots.items o.met_from.items len → IsMarked t o.spots.items bits len
    → IsOrder (length o.demands.items) o'.demands.items o'.spots.items
    → ChangesPlaces o.demands.items o.spots.items o'.demands.items o'.spots.items d len
    → o'.met_from.items ≡ set o.met_from.items d place
    → owner_of t supply ≡ Some d → head ≤ place → place < len → len ≤ get_or o.spots.items d 0
    → may_take (domains_of t) (get_or o.demands.items place 0) supply ≡ true
    → length bits' ≡ length bits → ((k : ℕ) → is_set bits' k ≡ (if nat_eq k supply then false else is_set bits k))
    → GoesOn t head o o' bits' len (len + 1)
met_now t head o o' bits bits' d place len supply is search marked order' moves met_is owner high near far may same
    all =
    let below : d < demands_in t = owner_below t supply d is owner in
    let room : len < demands_in t = omega (arith, search.order.spot_below d below) in
    let order : IsOrder (demands_in t) o'.demands.items o'.spots.items = rw search.order.order_length at order' in
    let keeps : KeepsFirst o.demands.items o.spots.items o'.demands.items o'.spots.items len =
    keeps_first (demands_in t) o.demands.items o.spots.items o'.demands.items o'.spots.items d len search.order
    moves below room far in
    record {
      longer = omega arith;
      search = rw met_is (meets_more t head o.demands.items o.spots.items o.met_from.items o'.demands.items
          o'.spots.items d place len supply is search order moves owner high near far may);
      keeps = keeps;
      within = within_met t o o' d place len supply is search.order moves below room near far owner may;
      marked = marked_more t o o' bits bits' supply d len (len + 1) (omega arith) keeps marked same all owner
          (omega (arith, moves.moved));
    }

-- a bit of a window and of a word of a pick
pub common_bit : (bits : List ℕ) (sets : List (List Bool)) (pick : Pick) (window word from k i : ℕ)
    → ((j : ℕ) → j < 64 → has_bit window j ≡ is_set bits (from + 64 * k + j))
    → ((j : ℕ) → j < 64 → has_bit word j ≡ is_picked sets pick (64 * k + j))
    → i < 64 → has_bit (bit_and window word) i ≡ (is_set bits (from + 64 * k + i) && is_picked sets pick (64 * k + i))
common_bit bits sets pick window word from k i w p h = has_bit-and window word i ∙ ap₂ (λ a b. a && b) (w i h) (p i h)

not_both : (a b : Bool) → b ≡ true → (a && b) ≡ false → a ≡ false
not_both a b e h = elim (cases_Bool a) [ inl t ↦ absurd (true≢false (sym (and_from a b t e) ∙ h)) | inr f ↦ f ]

-- a bit that is not common is not set where the number is in the pick
pub not_common : (bits : List ℕ) (sets : List (List Bool)) (pick : Pick) (window word from k i : ℕ)
    → ((j : ℕ) → j < 64 → has_bit window j ≡ is_set bits (from + 64 * k + j))
    → ((j : ℕ) → j < 64 → has_bit word j ≡ is_picked sets pick (64 * k + j))
    → i < 64 → is_picked sets pick (64 * k + i) ≡ true → has_bit (bit_and window word) i ≡ false
    → is_set bits (from + 64 * k + i) ≡ false
not_common bits sets pick window word from k i w p h e f =
    not_both (is_set bits (from + 64 * k + i)) (is_picked sets pick (64 * k + i)) e
    (sym (common_bit bits sets pick window word from k i w p h) ∙ f)

pub none_more : (bits : List ℕ) (sets : List (List Bool)) (pick : Pick) (window word from k : ℕ)
    → ((j : ℕ) → j < 64 → has_bit window j ≡ is_set bits (from + 64 * k + j))
    → ((j : ℕ) → j < 64 → has_bit word j ≡ is_picked sets pick (64 * k + j))
    → bit_and window word ≡ 0 → ((n : ℕ) → n < 64 * k → is_picked sets pick n ≡ true → is_set bits (from + n) ≡ false)
    → (n : ℕ) → n < 64 * (k + 1) → is_picked sets pick n ≡ true → is_set bits (from + n) ≡ false
none_more bits sets pick window word from k w p zero_is before n h e =
    elim (cases_lt n (64 * k)) [
      | inl l ↦ before n l e
      | inr g ↦
          let i : ℕ = n - 64 * k in
          let small : i < 64 = omega arith in
          let same : n ≡ 64 * k + i = omega arith in
          let all : from + n ≡ from + 64 * k + i = omega arith in
          ap (is_set bits) all ∙ not_common bits sets pick window word from k i w p small
          (ap (is_picked sets pick) (sym same) ∙ e) (ap (λ v. has_bit v i) zero_is ∙ has_bit-zero i)
    ]

-- the lowest common bit is that of a free supply
pub free_found : (t : Table) (d : Domain) (resource row window word k : ℕ) → IsTable t → IsInRange (domains_of t) d
    → is_picked t.resources d.resources resource ≡ true → row ≡ resource * t.last + d.shift
    → ((j : ℕ) → j < 64 → has_bit window j ≡ is_set t.free.items (row + 64 * k + j))
    → ((j : ℕ) → j < 64 → has_bit word j ≡ is_picked t.times d.times (64 * k + j))
    → 0 < bit_and window word → bit_and window word < 2 ^ 64
    → IsFreeFor t d (row + 64 * k + trailing_zeros w64 (bit_and window word))
free_found t d resource row window word k is range in_pick row_is w p some small =
    let i : ℕ = trailing_zeros w64 (bit_and window word) in
    let z = bit_at-trailing_zeros w64 (bit_and window word) some small in
    let near : i < 64 = z.0 in
    let a = and_parts (is_set t.free.items (row + 64 * k + i)) (is_picked t.times d.times (64 * k + i))
    (sym (common_bit t.free.items t.times d.times window word row k i w p near) ∙ ap (λ v. nat_eq v 1) z.1) in
    let same : supply_at (domains_of t) d resource (64 * k + i) ≡ row + 64 * k + i = omega arith in
    let below : row + 64 * k + i < supplies_in t =
    omega (arith, picked_below (domains_of t) d resource (64 * k + i) range in_pick a.1) in
    record {
      below = below;
      free = none_is (owner_of t (row + 64 * k + i)) (sym (is.free (row + 64 * k + i) below) ∙ a.0);
      admitted = ap (admits_supply (domains_of t) d) (sym same)
          ∙ picked_supply (domains_of t) d resource (64 * k + i) range in_pick a.1;
    }

-- where no look found one, none is free
pub none_free : (t : Table) (d : Domain) (count s : ℕ) → IsTable t → IsInRange (domains_of t) d
    → length (picked t.resources d.resources) ≤ count
    → ((j time : ℕ) → j < count → is_picked t.times d.times time ≡ true
    → is_set t.free.items (get_or (picked t.resources d.resources) j 0 * t.last + d.shift + time) ≡ false)
    → admits_supply (domains_of t) d s ≡ true → owner_of t s ≡ None → ⊥
none_free t d count s is range l none may free =
    let it = supply_found (domains_of t) d s may in
    let at = picked_found t.resources d.resources it.0 it.2 in
    let same : get_or (picked t.resources d.resources) at.0 0 * t.last + d.shift + it.1 ≡ s =
    ap (λ v. v * t.last + d.shift + it.1) at.2 ∙ it.4 in
    let below : s < supplies_in t = admitted_below t d s range may in
    true≢false (sym (is.free s below ∙ none_from (owner_of t s) free) ∙ ap (is_set t.free.items) (sym same)
    ∙ none at.0 it.1 (omega (arith, at.1)) it.3)

-- the supply at a common bit may be had by a demand with that domain
pub common_below : (t : Table) (d : Domain) (bits : List ℕ) (resource row window word k i : ℕ)
    → IsInRange (domains_of t) d → is_picked t.resources d.resources resource ≡ true → row ≡ resource * t.last + d.shift
    → ((j : ℕ) → j < 64 → has_bit window j ≡ is_set bits (row + 64 * k + j))
    → ((j : ℕ) → j < 64 → has_bit word j ≡ is_picked t.times d.times (64 * k + j))
    → i < 64 → has_bit (bit_and window word) i ≡ true → row + 64 * k + i < supplies_in t
common_below t d bits resource row window word k i range in_pick row_is w p h e =
    let a = and_parts (is_set bits (row + 64 * k + i)) (is_picked t.times d.times (64 * k + i))
    (sym (common_bit bits t.times d.times window word row k i w p h) ∙ e) in
    omega (arith, picked_below (domains_of t) d resource (64 * k + i) range in_pick a.1)

pub common_allowed : (t : Table) (d : Domain) (bits : List ℕ) (demand resource row window word k i : ℕ)
    → IsInRange (domains_of t) d → domain_of (domains_of t) demand ≡ Some d
    → is_picked t.resources d.resources resource ≡ true → row ≡ resource * t.last + d.shift
    → ((j : ℕ) → j < 64 → has_bit window j ≡ is_set bits (row + 64 * k + j))
    → ((j : ℕ) → j < 64 → has_bit word j ≡ is_picked t.times d.times (64 * k + j))
    → i < 64 → has_bit (bit_and window word) i ≡ true → may_take (domains_of t) demand (row + 64 * k + i) ≡ true
common_allowed t d bits demand resource row window word k i range its in_pick row_is w p h e =
    let a = and_parts (is_set bits (row + 64 * k + i)) (is_picked t.times d.times (64 * k + i))
    (sym (common_bit bits t.times d.times window word row k i w p h) ∙ e) in
    let same : supply_at (domains_of t) d resource (64 * k + i) ≡ row + 64 * k + i = omega arith in
    may_is (domains_of t) d demand (row + 64 * k + i) its ∙ ap (admits_supply (domains_of t) d) (sym same)
    ∙ picked_supply (domains_of t) d resource (64 * k + i) range in_pick a.1

-- 64 numbers more of the times
pub times_more : (t : Table) (head : ℕ) (d : Domain) (o o' : Order) (bits bits' : List ℕ)
    (resource row window word k met more : ℕ) → IsInRange (domains_of t) d
    → is_picked t.resources d.resources resource ≡ true → row ≡ resource * t.last + d.shift
    → ((j : ℕ) → j < 64 → has_bit window j ≡ is_set bits (row + 64 * k + j))
    → ((j : ℕ) → j < 64 → has_bit word j ≡ is_picked t.times d.times (64 * k + j))
    → IsMarked t o.spots.items bits met → GoesOn t head o o' bits' met more
    → ((n : ℕ) → n < 64 * k → is_picked t.times d.times n ≡ true → IsReached t o.spots.items met (row + n))
    → ((i : ℕ) → i < 64 → has_bit (bit_and window word) i ≡ true → IsReached t o'.spots.items more (row + 64 * k + i))
    → (n : ℕ) → n < 64 * (k + 1) → is_picked t.times d.times n ≡ true → IsReached t o'.spots.items more (row + n)
times_more t head d o o' bits bits' resource row window word k met more range in_pick row_is w p marked g before here n
    h e =
    elim (cases_lt n (64 * k)) [
      | inl l ↦ reached_still t o.demands.items o.spots.items o'.demands.items o'.spots.items met more (row + n)
          g.longer g.keeps (before n l e)
      | inr far ↦
          let i : ℕ = n - 64 * k in
          let small : i < 64 = omega arith in
          let same : 64 * k + i ≡ n = omega arith in
          let all : row + 64 * k + i ≡ row + n = omega arith in
          let its : is_picked t.times d.times (64 * k + i) ≡ true = ap (is_picked t.times d.times) same ∙ e in
          elim (cases_Bool (has_bit (bit_and window word) i)) [
            | inl y ↦ let r = here i small y in record {
              by = r.by;
              owner = ap (owner_of t) (sym all) ∙ r.owner;
              within = r.within;
            }
            | inr z ↦
                let cleared : is_set bits (row + n) ≡ false =
                ap (is_set bits) (sym all) ∙ not_common bits t.times d.times window word row k i w p small its z in
                let below : row + n < supplies_in t = omega (
                  arith,
                  picked_below (domains_of t) d resource n range
                      in_pick e,
                ) in
                reached_still t o.demands.items o.spots.items o'.demands.items o'.spots.items met more (row + n)
                g.longer g.keeps (marked.reached (row + n) below cleared)
          ]
    ]

-- each supply that the demand may have is one of those looked at
pub all_reached : (t : Table) (spots : List ℕ) (d : Domain) (demand met count s : ℕ)
    → domain_of (domains_of t) demand ≡ Some d → length (picked t.resources d.resources) ≤ count
    → ((j time : ℕ) → j < count → is_picked t.times d.times time ≡ true
    → IsReached t spots met (get_or (picked t.resources d.resources) j 0 * t.last + d.shift + time))
    → may_take (domains_of t) demand s ≡ true → IsReached t spots met s
all_reached t spots d demand met count s its l reached may =
    let it = supply_found (domains_of t) d s (sym (may_is (domains_of t) d demand s its) ∙ may) in
    let at = picked_found t.resources d.resources it.0 it.2 in
    let same : get_or (picked t.resources d.resources) at.0 0 * t.last + d.shift + it.1 ≡ s =
    ap (λ v. v * t.last + d.shift + it.1) at.2 ∙ it.4 in
    let r = reached at.0 it.1 (omega (arith, at.1)) it.3 in
    record { by = r.by; owner = ap (owner_of t) (sym same) ∙ r.owner; within = r.within }

pub where_none : {T : Type 0} (o : Option T) (P P' : Type 0) (Q : T → Type 0) → MatchOption o P Q → (P → P')
    → MatchOption o P' Q
where_none None P P' Q h f = f h
where_none (Some x) P P' Q h f = h
