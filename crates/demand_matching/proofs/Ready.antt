-- The bits of the supplies of the set that is kept, as a demand goes or comes.
use Rattle.std.proofs.Common.{ℕ, ◌+◌, ◌-◌, ◌*◌, ◌<◌, ◌≤◌, ◌≡◌, ◌≢◌, true, Some, None, List, length, get_or, sym, ap}
use Rattle.std.proofs.Common.{◌∙◌, arith, if◌then◌else◌, nat_eq}
use Rattle.std.proofs.lemmas.Bool.{true≢false}
use Rattle.khe_base.specs.Bits.{is_set}
use Rattle.demand_matching.specs.declared.domains.Domain.{Domain}
use Rattle.demand_matching.specs.declared.table.Table.{Table}
use Rattle.demand_matching.specs.declared.order.Order.{Order}
use Rattle.demand_matching.specs.Listing.{ServesOne}
use Rattle.demand_matching.specs.Matched.{IsReady}
use Rattle.demand_matching.specs.Search.{IsOpen, IsClosed, IsMarked}
use Rattle.demand_matching.specs.Table.{domains_of, supply_of, owner_of, demands_in, supplies_in, IsTable}
use Rattle.demand_matching.proofs.Additions.{Gains, Joins, write_outside, joins_first, joins_none, joins_open}
use Rattle.demand_matching.proofs.Additions.{joins_closed, joins_last}
use Rattle.demand_matching.proofs.Duality.{same_some}
use Rattle.demand_matching.proofs.Fences.{owner_below}
use Rattle.demand_matching.proofs.Marks.{written_same, written_other, marked_along, marked_none, marked_first}
use Rattle.demand_matching.proofs.Marks.{marked_less, marked_shut}
use Rattle.demand_matching.proofs.Removals.{Drops, Withdraws, Leaves, Moves, withdraws_into, remove_left}
use Rattle.demand_matching.proofs.Removals.{remove_outside, leaves_into, leaves_closed, leaves_open, leaves_first}
use Rattle.demand_matching.proofs.Removals.{leaves_within, leaves_kept}
use Rattle.demand_matching.proofs.Shut.{same_count}

same_supplies : (t t' : Table) (d : ℕ) → Drops t t' d → supplies_in t' ≡ supplies_in t
same_supplies t t' d drops = ap (λ w. w.width * w.last) drops.domains

-- another demand keeps its supply
drops_owner : (t t' : Table) (d e s : ℕ) → IsTable t → Drops t t' d → e ≢ d → owner_of t s ≡ Some e
    → owner_of t' s ≡ Some e
drops_owner t t' d e s is drops ne owner = drops.table.matching.owned e s
    (drops.others e ne ∙ is.matching.holds s e owner)

pub ready_left : (t t' : Table) (o o' o'' : Order) (outside unseen : List ℕ) (d left met : ℕ)
    → IsReady t o left met outside unseen → Withdraws t t' o o' o'' d left met
    → IsReady t' o'' (left - 1) (met - 1) outside unseen
ready_left t t' o o' o'' outside unseen d left met ready it = record {
  maximum = remove_left t t' o o' o'' d left met it;
  marked = marked_along t t' o.spots.items o''.spots.items outside met (met - 1) (same_supplies t t' d it.drops)
      (λ s by h owner near.
      let owns : supply_of t by ≡ Some s = it.maximum.table.matching.holds s by owner in
      let ne : by ≢ d = λ z. (let none : supply_of t by ≡ None = ap (λ v. supply_of t v) z ∙ it.none in cc) in
      record {
        by = by;
        owner = drops_owner t t' d by s it.maximum.table it.drops ne owner;
        within =
            withdraws_into t t' o o' o'' d left met by it (owner_below t s by it.maximum.table owner) ne near;
      })
      ready.marked;
  all_set = marked_none t t' o.spots.items o''.spots.items unseen 0 (same_supplies t t' d it.drops) ready.all_set;
}

pub ready_outside : (t t' : Table) (o : Order) (outside unseen : List ℕ) (d left met s : ℕ)
    → IsReady t o left met outside unseen → Drops t t' d → supply_of t d ≡ Some s → (get_or o.spots.items d 0 < met → ⊥)
    → IsReady t' o left met outside unseen
ready_outside t t' o outside unseen d left met s ready drops owns far = record {
  maximum = remove_outside t t' o d left met s ready.maximum drops owns far;
  marked = marked_along t t' o.spots.items o.spots.items outside met met (same_supplies t t' d drops)
      (λ u by h owner near.
      let ne : by ≢ d = λ z. far (omega (arith, ap (λ v. get_or o.spots.items v 0) z)) in
      record { by = by; owner = drops_owner t t' d by u ready.maximum.table drops ne owner; within = near })
      ready.marked;
  all_set = marked_none t t' o.spots.items o.spots.items unseen 0 (same_supplies t t' d drops) ready.all_set;
}

-- the supply that is given back is no more one of the set
pub leaves_marked : (t t' : Table) (o o' : Order) (bits bits' : List ℕ) (d left met s : ℕ)
    → Leaves t t' o o' d left met s → IsMarked t o.spots.items bits met → length bits' ≡ length bits
    → ((k : ℕ) → is_set bits' k ≡ (if nat_eq k s then true else is_set bits k))
    → IsMarked t' o'.spots.items bits' (met - 1)
leaves_marked t t' o o' bits bits' d left met s it marked len all =
    let is = it.maximum.table in
    record {
      room = omega (arith, marked.room, same_supplies t t' d it.drops);
      reached = λ u l h.
          let other : u ≢ s = λ z. true≢false (sym (written_same bits bits' s u true all z) ∙ h) in
          let r = marked.reached u (omega (arith, same_supplies t t' d it.drops))
          (sym (written_other bits bits' s u true all other) ∙ h) in
          let ne : r.by ≢ d = λ z. other (same_some u s (supply_of t d) (is.matching.holds u d (r.owner ∙ ap Some z))
          it.owns) in
          record {
            by = r.by;
            owner = drops_owner t t' d r.by u is it.drops ne r.owner;
            within =
                leaves_into t t' o o' d left met s r.by it (owner_below t u r.by is r.owner) ne r.within;
          };
    }

pub leaves_unseen : (t t' : Table) (o o' : Order) (unseen : List ℕ) (d left met s : ℕ) → Leaves t t' o o' d left met s
    → IsMarked t o.spots.items unseen 0 → IsMarked t' o'.spots.items unseen left
leaves_unseen t t' o o' unseen d left met s it marked =
    marked_none t t' o.spots.items o'.spots.items unseen left (same_supplies t t' d it.drops) marked

pub leaves_unmark : (t t' : Table) (o o' o'' : Order) (bits unseen' : List ℕ) (d left met s less : ℕ)
    → Leaves t t' o o' d left met s → IsClosed t' o' o'' unseen' 0 left less → IsMarked t' o'.spots.items bits (met - 1)
    → IsMarked t' o''.spots.items bits (met - 1)
leaves_unmark t t' o o' o'' bits unseen' d left met s less it ends marked =
    marked_first t' o'.spots.items o''.spots.items bits (met - 1) it.drops.table
    (leaves_within t t' o o' o'' d left met s less it ends.within) marked

pub ready_closed : (t t' : Table) (o o' o'' : Order) (outside' unseen' : List ℕ) (d left met s less : ℕ)
    → Leaves t t' o o' d left met s → IsClosed t' o' o'' unseen' 0 left less → IsMarked t' o''.spots.items outside' 0
    → IsReady t' o'' left less unseen' outside'
ready_closed t t' o o' o'' outside' unseen' d left met s less it ends marked = record {
  maximum = leaves_closed t t' o o' o'' unseen' d left met s less it ends;
  marked = ends.marked;
  all_set = marked;
}

pub ready_open : (t t' t'' : Table) (o o' o'' o₃ : Order) (bits unseen' : List ℕ) (d left met s place supply served : ℕ)
    → Leaves t t' o o' d left met s → IsOpen t' o' o'' unseen' 0 left place supply
    → IsTable t'' → domains_of t'' ≡ domains_of t' → ServesOne t' t'' served → Moves o'' o₃ served (left - 1)
    → IsMarked t' o'.spots.items bits (met - 1) → IsReady t'' o₃ (left - 1) (met - 1) bits unseen'
ready_open t t' t'' o o' o'' o₃ bits unseen' d left met s place supply served it ends is'' same'' one moves marked =
    let max = leaves_open t t' t'' o o' o'' o₃ unseen' d left met s place supply served it ends is'' same'' one moves in
    let kept = leaves_kept t t' o o' o'' unseen' d left met s place supply it ends in
    let all : IsMarked t' o''.spots.items unseen' 0 =
    marked_less t' o''.spots.items unseen' left 0 it.drops.table (λ e l low h. kept.left_out e l h) ends.marked in
    record {
      maximum = max;
      marked = marked_shut t' t'' o'.spots.items o₃.spots.items bits (met - 1) it.drops.table max.shut same''
          (leaves_first t t' t'' o o' o'' o₃ unseen' d left met s place supply served it ends is'' same'' one moves)
          marked;
      all_set = marked_none t' t'' o''.spots.items o₃.spots.items unseen' 0 (ap (λ w. w.width * w.last) same'') all;
    }

gains_supplies : (t t' : Table) (d : ℕ) (domain : Domain) → Gains t t' d domain → supplies_in t' ≡ supplies_in t
gains_supplies t t' d domain gains = ap (λ w. w.width * w.last) gains.domains

pub ready_write : (t t' : Table) (o : Order) (outside unseen : List ℕ) (d left met s : ℕ) (domain : Domain)
    → IsReady t o left met outside unseen → Gains t t' d domain → supply_of t d ≡ Some s
    → (get_or o.spots.items d 0 < met → ⊥) → IsReady t' o left met outside unseen
ready_write t t' o outside unseen d left met s domain ready gains owns far = record {
  maximum = write_outside t t' o d left met s domain ready.maximum gains owns far;
  marked = marked_along t t' o.spots.items o.spots.items outside met met (gains_supplies t t' d domain gains)
      (λ u by h owner near. record {
        by = by;
        owner = ap (λ v. get_or v.items u None) gains.owners ∙ owner;
        within =
            near;
      })
      ready.marked;
  all_set = marked_none t t' o.spots.items o.spots.items unseen 0 (gains_supplies t t' d domain gains) ready.all_set;
}

pub joins_marked : (t t' : Table) (o o' : Order) (bits : List ℕ) (d left met : ℕ) (domain : Domain)
    → Joins t t' o o' d left met domain → IsMarked t o.spots.items bits met → IsMarked t' o'.spots.items bits (met + 1)
joins_marked t t' o o' bits d left met domain it marked =
    marked_along t t' o.spots.items o'.spots.items bits met (met + 1) (gains_supplies t t' d domain it.gains)
    (λ u by h owner near.
    let low : get_or o'.spots.items by 0 < met = (joins_first t t' o o' d left met domain met (omega arith) it).into by
    (owner_below t u by it.maximum.table owner) near in
    record { by = by; owner = ap (λ v. get_or v.items u None) it.gains.owners ∙ owner; within = omega arith })
    marked

pub ready_joined : (t t' t'' : Table) (o o' o'' : Order) (bits unseen : List ℕ) (d left met place supply served : ℕ)
    (domain : Domain) → Joins t t' o o' d left met domain → IsOpen t' o' o'' bits met (met + 1) place supply
    → IsTable t'' → domains_of t'' ≡ domains_of t' → ServesOne t' t'' served → met ≤ get_or o''.spots.items served 0
    → IsMarked t o.spots.items unseen 0 → IsReady t'' o'' left met bits unseen
ready_joined t t' t'' o o' o'' bits unseen d left met place supply served domain it ends is'' same'' one after seen =
    let max = joins_open t t' t'' o o' o'' bits d left met place supply served domain it ends is'' same'' one after in
    let spot : get_or o''.spots.items d 0 ≡ met =
    ends.keeps.spot d (omega (arith, it.moves.change.moved)) ∙ it.moves.change.moved in
    let alone : (e : ℕ) → e < demands_in t' → met ≤ get_or o''.spots.items e 0 → get_or o''.spots.items e 0 < met + 1
    → supply_of t' e ≡ None = λ e l low h.
    let at : get_or o''.spots.items e 0 ≡ met = omega arith in
    let is : e ≡ d = sym (ends.search.order.order_spot e l) ∙ ap (λ v. get_or o''.demands.items v 0) (at ∙ sym spot)
    ∙ ends.search.order.order_spot d (omega (
      arith,
      it.gains.below,
      same_count t t' d (Some domain)
          it.gains.domains,
    )) in
    ap (λ v. supply_of t' v) is ∙ joins_none t t' o o' d left met domain it in
    let less : IsMarked t' o''.spots.items bits met =
    marked_less t' o''.spots.items bits (met + 1) met it.gains.table alone ends.marked in
    record {
      maximum = max;
      marked = marked_shut t' t'' o''.spots.items o''.spots.items bits met it.gains.table max.shut same''
          (record { into = λ e l h. h; back = λ e l h. h }) less;
      all_set = marked_none t t'' o.spots.items o''.spots.items unseen 0
          (ap (λ w. w.width * w.last) same'' ∙ gains_supplies t t' d domain it.gains) seen;
    }

pub ready_left_out : (t t' : Table) (o o' o'' o₃ : Order) (bits unseen : List ℕ) (d left met more : ℕ) (domain : Domain)
    → Joins t t' o o' d left met domain → IsClosed t' o' o'' bits met (met + 1) more → Moves o'' o₃ d left
    → IsMarked t o.spots.items unseen 0 → IsReady t' o₃ (left + 1) more bits unseen
ready_left_out t t' o o' o'' o₃ bits unseen d left met more domain it ends moves seen = record {
  maximum = joins_closed t t' o o' o'' o₃ bits d left met more domain it ends moves;
  marked = marked_first t' o''.spots.items o₃.spots.items bits more it.gains.table
      (joins_last t t' o o' o'' o₃ bits d left met more domain it ends moves) ends.marked;
  all_set = marked_none t t' o.spots.items o₃.spots.items unseen 0 (gains_supplies t t' d domain it.gains) seen;
}
