-- The bits of the supplies of the demands that were met.
use Rattle.std.proofs.Common.{ℕ, ◌*◌, ◌<◌, ◌≤◌, ◌≡◌, ◌≢◌, Bool, false, Some, None, List, length, get_or, refl, sym, ap}
use Rattle.std.proofs.Common.{◌∙◌, arith, inl, inr, if◌then◌else◌, nat_eq}
use Rattle.std.proofs.lemmas.Bool.{cases_lt, ne_eqb, eq-eqb}
use Rattle.khe_base.specs.Bits.{is_set}
use Rattle.demand_matching.specs.declared.table.Table.{Table}
use Rattle.demand_matching.specs.declared.order.Order.{Order}
use Rattle.demand_matching.specs.Order.{IsOrder, HasSameFirst}
use Rattle.demand_matching.specs.Search.{KeepsFirst, IsReached, IsMarked}
use Rattle.demand_matching.specs.Table.{domains_of, may_take, supply_of, owner_of, demands_in, supplies_in, IsTable}
use Rattle.demand_matching.specs.Matched.{IsShut}
use Rattle.demand_matching.proofs.Counting.{cases_eqb}
use Rattle.demand_matching.proofs.Fences.{owner_below}
use Rattle.demand_matching.proofs.Searches.{reached_still}

-- one bit is written
pub written_same : (bits bits' : List ℕ) (n m : ℕ) (b : Bool)
    → ((k : ℕ) → is_set bits' k ≡ (if nat_eq k n then b else is_set bits k)) → m ≡ n → is_set bits' m ≡ b
written_same bits bits' n m b all e = all m ∙ ap (λ x. if x then b else is_set bits m) (eq-eqb m n e)

pub written_other : (bits bits' : List ℕ) (n m : ℕ) (b : Bool)
    → ((k : ℕ) → is_set bits' k ≡ (if nat_eq k n then b else is_set bits k)) → m ≢ n → is_set bits' m ≡ is_set bits m
written_other bits bits' n m b all ne = all m ∙ ap (λ x. if x then b else is_set bits m) (ne_eqb m n ne)

-- one supply more is that of a demand met
pub marked_more : (t : Table) (o o' : Order) (bits bits' : List ℕ) (supply d len more : ℕ) → len ≤ more
    → KeepsFirst o.demands.items o.spots.items o'.demands.items o'.spots.items len → IsMarked t o.spots.items bits len
    → length bits' ≡ length bits → ((k : ℕ) → is_set bits' k ≡ (if nat_eq k supply then false else is_set bits k))
    → owner_of t supply ≡ Some d → get_or o'.spots.items d 0 < more → IsMarked t o'.spots.items bits' more
marked_more t o o' bits bits' supply d len more l keeps marked len_is all owner near = record {
  room = omega (arith, marked.room);
  reached = λ s m h. elim (cases_eqb s supply) [
    | inl x ↦ record { by = d; owner = ap (λ v. owner_of t v) x ∙ owner; within = near }
    | inr x ↦ reached_still t o.demands.items o.spots.items o'.demands.items o'.spots.items len more s l keeps
        (marked.reached s m (sym (written_other bits bits' supply s false all x) ∙ h))
  ];
}

-- the same bits for a table with as many supplies, where whoever has one of those still has it
pub marked_along : (t t' : Table) (spots spots' bits : List ℕ) (len len' : ℕ) → supplies_in t' ≡ supplies_in t
    → ((s by : ℕ) → is_set bits s ≡ false → owner_of t s ≡ Some by → get_or spots by 0 < len
    → IsReached t' spots' len' s) → IsMarked t spots bits len → IsMarked t' spots' bits len'
marked_along t t' spots spots' bits len len' m still marked = record {
  room = omega (arith, marked.room);
  reached = λ s l h. let r = marked.reached s (omega arith) h in still s r.by h r.owner r.within;
}

-- where none is met, all bits are set
pub marked_none : (t t' : Table) (spots spots' bits : List ℕ) (len : ℕ) → supplies_in t' ≡ supplies_in t
    → IsMarked t spots bits 0 → IsMarked t' spots' bits len
marked_none t t' spots spots' bits len m marked =
    marked_along t t' spots spots' bits 0 len m (λ s by h owner near. absurd (omega arith)) marked

pub marked_first : (t : Table) (spots spots' bits : List ℕ) (len : ℕ) → IsTable t
    → HasSameFirst (demands_in t) spots spots' len → IsMarked t spots bits len → IsMarked t spots' bits len
marked_first t spots spots' bits len is same marked = marked_along t t spots spots' bits len len refl still marked
  where
    still : (s by : ℕ) → is_set bits s ≡ false → owner_of t s ≡ Some by → get_or spots by 0 < len
        → IsReached t spots' len s
    still s by h owner near = record {
      by = by;
      owner = owner;
      within =
          same.into by (owner_below t s by is owner) near;
    }

-- demands without a supply do not count
pub marked_less : (t : Table) (spots bits : List ℕ) (len less : ℕ) → IsTable t
    → ((d : ℕ) → d < demands_in t → less ≤ get_or spots d 0 → get_or spots d 0 < len → supply_of t d ≡ None)
    → IsMarked t spots bits len → IsMarked t spots bits less
marked_less t spots bits len less is none marked = record {
  room = marked.room;
  reached = λ s l h.
      let r = marked.reached s l h in
      elim (cases_lt (get_or spots r.by 0) less) [
        | inl x ↦ record { by = r.by; owner = r.owner; within = x }
        | inr x ↦
            let owns : supply_of t r.by ≡ Some s = is.matching.holds s r.by r.owner in
            let free : supply_of t r.by ≡ None = none r.by (owner_below t s r.by is r.owner) (omega arith) r.within in
            absurd cc
      ];
}

-- a set that is shut still has the supplies that its demands had
pub marked_shut : (t t' : Table) (spots spots' bits : List ℕ) (met : ℕ) → IsTable t → IsShut t' spots' met
    → domains_of t' ≡ domains_of t → HasSameFirst (demands_in t) spots spots' met → IsMarked t spots bits met
    → IsMarked t' spots' bits met
marked_shut t t' spots spots' bits met is shut same first marked =
    let n : demands_in t' ≡ demands_in t = ap (λ w. length w.demands) same in
    let m : supplies_in t' ≡ supplies_in t = ap (λ w. w.width * w.last) same in
    marked_along t t' spots spots' bits met met m
    (λ s by h owner near.
    let owns : supply_of t by ≡ Some s = is.matching.holds s by owner in
    let below : by < demands_in t = owner_below t s by is owner in
    shut.saturated by s (omega (arith, n)) (first.into by below near) (omega (arith, m, is.matching.supply by s owns))
    (ap (λ w. may_take w by s) same ∙ is.matching.allowed by s owns))
    marked

-- the bits of the supplies from a place of the order on are set again
pub unmarked : (t : Table) (o : Order) (bits bits' : List ℕ) (from to : ℕ) → IsTable t
    → IsOrder (demands_in t) o.demands.items o.spots.items → IsMarked t o.spots.items bits to
    → length bits' ≡ length bits
    → ((s : ℕ) → is_set bits' s ≡ false → is_set bits s ≡ false)
    → ((k s : ℕ) → from ≤ k → k < to → supply_of t (get_or o.demands.items k 0) ≡ Some s → is_set bits' s ≡ false → ⊥)
    → IsMarked t o.spots.items bits' from
unmarked t o bits bits' from to is order marked len still none = record {
  room = omega (arith, marked.room);
  reached = λ s l h.
      let r = marked.reached s l (still s h) in
      let at : get_or o.demands.items (get_or o.spots.items r.by 0) 0 ≡ r.by =
      order.order_spot r.by (owner_below t s r.by is r.owner) in
      elim (cases_lt (get_or o.spots.items r.by 0) from) [
        | inl x ↦ record { by = r.by; owner = r.owner; within = x }
        | inr x ↦ absurd (none (get_or o.spots.items r.by 0) s (omega arith) r.within
            (ap (λ v. supply_of t v) at ∙ is.matching.holds s r.by r.owner) h)
      ];
}
