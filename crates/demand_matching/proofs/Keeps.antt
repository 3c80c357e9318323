-- What the calls of a matching leave is a maximum again, and what it says of the deficit.
use Rattle.std.proofs.Common.{ℕ, ◌+◌, ◌-◌, ◌*◌, ◌/◌, ◌%◌, ◌^◌, ◌<◌, ◌≤◌, ◌≡◌, Bool, true, ◌&&◌, Option, Some, None}
use Rattle.std.proofs.Common.{List, length, nat_eq, get_or, refl, sym, ap, ◌∙◌, arith, inl, inr, replicate}
use Rattle.std.specs.Prelude.{is_none, is_some}
use Rattle.std.proofs.lemmas.Bool.{false≢true, true≢false, cases_lt}
use Rattle.std.proofs.lemmas.List.{get_or_past, get_or_read, set-set, length-replicate, get_or-replicate}
use Rattle.std.proofs.lemmas.Nat.{div-add-mod'}
use Rattle.std.proofs.lemmas.Nat.Bits.{bit_at_ones}
use Rattle.khe_base.specs.Bits.{has_bit, is_set}
use Rattle.demand_matching.specs.declared.domains.Domain.{Domain}
use Rattle.demand_matching.specs.declared.table.Table.{Table}
use Rattle.demand_matching.specs.declared.order.Order.{Order}
use Rattle.demand_matching.specs.Domains.{Domains, is_present, domain_of, may_have, with_domain}
use Rattle.demand_matching.specs.Excess.{IsDeficit, IsAssignment}
use Rattle.demand_matching.specs.Listing.{IsListing}
use Rattle.demand_matching.specs.Matched.{IsMaximum, IsReady}
use Rattle.demand_matching.specs.Order.{IsOrder}
use Rattle.demand_matching.specs.Search.{IsMarked}
use Rattle.demand_matching.specs.Table.{domains_of, supply_of, owner_of, demands_in, supplies_in, IsTable}
use Rattle.demand_matching.proofs.Counting.{count_same}
use Rattle.demand_matching.proofs.Maxima.{bounded, listing_count}
use Rattle.demand_matching.proofs.Shut.{firsts, shut_exceeds}

none_in : {X : Type 0} (n d : ℕ) → get_or (replicate {A = Option X} n None) d None ≡ None
none_in {X} n d = elim (cases_lt d n) [
  | inl l ↦ get_or-replicate n d None None l
  | inr g ↦ get_or_past (replicate {A = Option X} n None) d None (omega (arith, length-replicate {A = Option X} n None))
]

pub new_maximum : (t : Table) (o : Order) (n : ℕ) → t.demands.items ≡ replicate n None
    → t.supplies.items ≡ replicate n None → t.owners.items ≡ replicate (t.width * t.last) None → n < 2 ^ 32
    → t.width < 2 ^ 32 → t.width * t.last < 2 ^ 32 → t.width * t.last ≤ 64 * length t.free.items
    → ((u : ℕ) → u < t.width * t.last → is_set t.free.items u ≡ true) → IsOrder n o.demands.items o.spots.items
    → length o.met_from.items ≡ n → IsMaximum t o 0 0
new_maximum t o n ds ps os small narrow few room free order met =
    let count : demands_in t ≡ n = ap length ds ∙ length-replicate n None in
    let no_domain : (d : ℕ) → domain_of (domains_of t) d ≡ None = λ d. ap (λ xs. get_or xs d None) ds ∙ none_in n d in
    let unserved : (d : ℕ) → supply_of t d ≡ None = λ d. ap (λ xs. get_or xs d None) ps ∙ none_in n d in
    let no_owner : (s : ℕ) → owner_of t s ≡ None = λ s. ap (λ xs. get_or xs s None) os ∙ none_in (t.width * t.last) s in
    let absent : (d : ℕ) → is_present (domains_of t) d ≡ true
    → ⊥ = λ d h. false≢true (sym (ap is_some (no_domain d)) ∙ h) in
    let no_supply : (d s : ℕ) → supply_of t d ≡ Some s → ⊥ = λ d s h. (let e = unserved d in cc) in
    let no_demand : (s d : ℕ) → owner_of t s ≡ Some d → ⊥ = λ s d h. (let e = no_owner s in cc) in
    let table : IsTable t = record {
      small = omega (arith, count);
      narrow = narrow;
      few = few;
      room = room;
      free = λ u l. free u l ∙ sym (ap is_none (no_owner u));
      supplies_length = ap length ps ∙ length-replicate n None ∙ sym count;
      owners_length = ap length os ∙ length-replicate (t.width * t.last) None;
      in_range = λ d x h. (let e = no_domain d in absurd cc);
      matching = record {
        demand = λ d s h. absurd (no_supply d s h);
        supply = λ d s h. absurd (no_supply d s h);
        allowed = λ d s h. absurd (no_supply d s h);
        owned = λ d s h. absurd (no_supply d s h);
        holds = λ s d h. absurd (no_demand s d h);
      };
    } in
    let listing : IsListing t o 0 = record {
      order = rw count order;
      met_length = met ∙ sym count;
      fits = omega arith;
      present = λ d l h. absurd (omega arith);
      left_out = λ d l h. absurd (omega arith);
      listed = λ d l p h. absurd (absent d p);
    } in
    record {
      table = table;
      listing = listing;
      longer = omega arith;
      shut = record {
        fits = omega arith;
        present = λ d l h. absurd (omega arith);
        saturated = λ d s l h. absurd (omega arith);
      };
    }

-- all bits of a row are set
pub ones_set : (words u : ℕ) → u < 64 * words → is_set (replicate words (2 ^ 64 - 1)) u ≡ true
ones_set words u h =
    let near : u / 64 < words = omega arith in
    let low : u % 64 < 64 = omega arith in
    ap (λ w. has_bit w (u % 64)) (get_or-replicate words (u / 64) (2 ^ 64 - 1) 0 near)
    ∙ ap (λ v. nat_eq v 1) (bit_at_ones 64 (u % 64) low)

ones_marked : (t : Table) (spots bits : List ℕ) (words : ℕ) → bits ≡ replicate words (2 ^ 64 - 1)
    → supplies_in t ≤ 64 * words → IsMarked t spots bits 0
ones_marked t spots bits words ones room = record {
  room = omega (arith, ap length ones, length-replicate {A = ℕ} words (2 ^ 64 - 1));
  reached = λ u l h. absurd (true≢false (sym (ap (λ v. is_set v u) ones ∙ ones_set words u (omega arith)) ∙ h));
}

pub new_ready : (t : Table) (o : Order) (outside unseen : List ℕ) (n words : ℕ) → t.demands.items ≡ replicate n None
    → t.supplies.items ≡ replicate n None → t.owners.items ≡ replicate (t.width * t.last) None → n < 2 ^ 32
    → t.width < 2 ^ 32 → t.width * t.last < 2 ^ 32
    → t.width * t.last ≤ 64 * words → t.free.items ≡ replicate words (2 ^ 64 - 1)
    → outside ≡ replicate words (2 ^ 64 - 1) → unseen ≡ replicate words (2 ^ 64 - 1)
    → IsOrder n o.demands.items o.spots.items → length o.met_from.items ≡ n → IsReady t o 0 0 outside unseen
new_ready t o outside unseen n words ds ps os small narrow few room free out seen order met = record {
  maximum = new_maximum t o n ds ps os small narrow few
      (omega (arith, ap length free, length-replicate {A = ℕ} words (2 ^ 64 - 1)))
      (λ u l. ap (λ v. is_set v u) free ∙ ones_set words u (omega arith)) order met;
  marked = ones_marked t o.spots.items outside words out room;
  all_set = ones_marked t o.spots.items unseen words seen room;
}

pub present_read : (t : Table) (d : ℕ) (x : Option Domain) → d < demands_in t → x ≡ get_or t.demands.items d x
    → is_some x ≡ true → is_present (domains_of t) d ≡ true
present_read t d x l read some = ap is_some (sym (get_or_read t.demands.items d x l read None)) ∙ some

-- a copy of nothing is nothing
pub none_clone : {X : Type 0} (P : Option X → Type 0) → ((x : X) → P (Some x) → ⊥) → (y : Option X) → P y → y ≡ None
none_clone P never None h = refl
none_clone P never (Some x) h = absurd (never x h)

pub domain_twice : (w w' w'' : Domains) (d : ℕ) (x : Domain) (o : Option Domain) → w' ≡ with_domain w d None
    → w'' ≡ with_domain w' d (Some x) → o ≡ Some x → w'' ≡ with_domain w d o
domain_twice w w' w'' d x o first second it =
    second ∙ ap (λ v. with_domain v d (Some x)) first
    ∙ ap (λ xs. record w { demands = xs }) (set-set w.demands d None (Some x))
    ∙ ap (λ v. with_domain w d v) (sym it)

pub deficit_is : (t : Table) (o : Order) (left met : ℕ) → IsMaximum t o left met → IsDeficit (domains_of t) left
deficit_is t o left met max = record {
  bound = bounded t o left max.table max.listing;
  attained =
      let set : ℕ → Bool = firsts t o.spots.items met in
      let most = bounded t o left max.table max.listing set in
      let least = shut_exceeds t o left met max in
      ∣ (set, omega arith) ∣₁;
}

-- a supply's resource and time
abbrev pub supply_parts : ℕ → Option ℕ → Option (ℕ × ℕ)
supply_parts last None = None
supply_parts last (Some s) = Some (s / last, s % last)

part_of : (last : ℕ) (o : Option ℕ) (r u : ℕ) → supply_parts last o ≡ Some (r, u)
    → (s : ℕ) × (o ≡ Some s) × (s / last ≡ r) × (s % last ≡ u)
part_of last None r u h = absurd cc
part_of last (Some s) r u h = let e : ◌≡◌ {A = ℕ × ℕ} (s / last, s % last) (r, u) = cc in
    (s, refl, ap (λ p. p.0) e, ap (λ p. p.1) e)

none_part : (last : ℕ) (o : Option ℕ) → is_none (supply_parts last o) ≡ is_none o
none_part last None = refl
none_part last (Some s) = refl

pub assigned : (t : Table) (o : Order) (left met : ℕ) → IsMaximum t o left met
    → IsAssignment (domains_of t) (λ d. supply_parts t.last (supply_of t d)) left
assigned t o left met max = record {
  admissible = λ d r u h. let at = part_of t.last (supply_of t d) r u h in
      ap (λ x. may_have (domains_of t) d x u) (sym at.2)
      ∙ ap (λ x. may_have (domains_of t) d (at.0 / t.last) x) (sym at.3) ∙ max.table.matching.allowed d at.0 at.1;
  distinct = λ d e r u h k.
      let a = part_of t.last (supply_of t d) r u h in
      let b = part_of t.last (supply_of t e) r u k in
      let same : a.0 ≡ b.0 = sym (div-add-mod' a.0 t.last) ∙ ap (λ x. x * t.last + a.0 % t.last) (a.2 ∙ sym b.2)
      ∙ ap (λ x. b.0 / t.last * t.last + x) (a.3 ∙ sym b.3) ∙ div-add-mod' b.0 t.last in
      let one : owner_of t b.0 ≡ Some d = ap (λ x. owner_of t x) (sym same) ∙ max.table.matching.owned d a.0 a.1 in
      let two : owner_of t b.0 ≡ Some e = max.table.matching.owned e b.0 b.1 in
      cc;
  left =
      count_same (demands_in t) (λ d. is_present (domains_of t) d && is_none (supply_parts t.last (supply_of t d)))
      (λ d. is_present (domains_of t) d && is_none (supply_of t d))
      (λ d l. ap (λ b. is_present (domains_of t) d && b) (none_part t.last (supply_of t d)))
      ∙ listing_count t o left max.listing;
}
