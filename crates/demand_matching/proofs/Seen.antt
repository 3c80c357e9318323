-- Supplies that were looked at: whoever has one is reached.
use Rattle.std.proofs.Common.{ℕ, ◌+◌, ◌-◌, ◌*◌, ◌^◌, ◌<◌, ◌≤◌, ◌≡◌, Bool, true, false, List, Some, length, replicate}
use Rattle.std.proofs.Common.{sym, ap, ◌∙◌, arith, inl, inr, bit_and, nat_eq, if◌then◌else◌}
use Rattle.std.proofs.lemmas.Bool.{cases_lt, cases_Bool, true≢false}
use Rattle.std.proofs.lemmas.List.{length-replicate}
use Rattle.khe_base.specs.Bits.{has_bit, is_set}
use Rattle.khe_base.specs.IdSet.{has_member}
use Rattle.demand_matching.specs.declared.domains.Domain.{Domain}
use Rattle.demand_matching.specs.declared.table.Table.{Table}
use Rattle.demand_matching.specs.Domains.{IsInRange, is_picked}
use Rattle.demand_matching.specs.Reach.{AreSeen}
use Rattle.demand_matching.specs.Table.{domains_of, owner_of, supplies_in}
use Rattle.demand_matching.proofs.Counting.{cases_eqb}
use Rattle.demand_matching.proofs.Keeps.{ones_set}
use Rattle.demand_matching.proofs.Looks.{not_common}
use Rattle.demand_matching.proofs.Marks.{written_other}
use Rattle.demand_matching.proofs.Supplies.{picked_below}

-- no supply was looked at yet
pub seen_none : (t : Table) (marks : List Bool) (bits : List ℕ) (words : ℕ) → bits ≡ replicate words (2 ^ 64 - 1)
    → supplies_in t ≤ 64 * words → AreSeen t marks bits
seen_none t marks bits words ones room = record {
  room = omega (arith, room, ap length ones, length-replicate {A = ℕ} words (2 ^ 64 - 1));
  seen = λ s by l h owner. absurd (true≢false (sym (ap (λ xs. is_set xs s) ones
      ∙ ones_set words s (omega (arith, l, room))) ∙ h));
}

-- a supply more was looked at
pub seen_more : (t : Table) (marks marks' : List Bool) (bits bits' : List ℕ) (supply : ℕ) → AreSeen t marks bits
    → ((d : ℕ) → has_member marks d ≡ true → has_member marks' d ≡ true)
    → length bits' ≡ length bits → ((k : ℕ) → is_set bits' k ≡ (if nat_eq k supply then false else is_set bits k))
    → ((by : ℕ) → owner_of t supply ≡ Some by → has_member marks' by ≡ true) → AreSeen t marks' bits'
seen_more t marks marks' bits bits' supply seen more same all own = record {
  room = omega (arith, seen.room, same);
  seen = λ s by l h owner. elim (cases_eqb s supply) [
    | inl x ↦ own by (ap (owner_of t) (sym x) ∙ owner)
    | inr x ↦ more by (seen.seen s by l (sym (written_other bits bits' supply s false all x) ∙ h) owner)
  ];
}

-- 64 numbers more of the times of one resource
pub seen_on : (t : Table) (d : Domain) (marks marks' : List Bool) (bits : List ℕ) (resource row window word k : ℕ)
    → IsInRange (domains_of t) d → is_picked t.resources d.resources resource ≡ true → row ≡ resource * t.last + d.shift
    → ((j : ℕ) → j < 64 → has_bit window j ≡ is_set bits (row + 64 * k + j))
    → ((j : ℕ) → j < 64 → has_bit word j ≡ is_picked t.times d.times (64 * k + j))
    → AreSeen t marks bits → ((e : ℕ) → has_member marks e ≡ true → has_member marks' e ≡ true)
    → ((n by : ℕ) → n < 64 * k → is_picked t.times d.times n ≡ true → owner_of t (row + n) ≡ Some by
    → has_member marks by ≡ true)
    → ((i by : ℕ) → i < 64 → has_bit (bit_and window word) i ≡ true → owner_of t (row + 64 * k + i) ≡ Some by
    → has_member marks' by ≡ true)
    → (n by : ℕ) → n < 64 * (k + 1) → is_picked t.times d.times n ≡ true → owner_of t (row + n) ≡ Some by
    → has_member marks' by ≡ true
seen_on t d marks marks' bits resource row window word k range in_pick row_is w p seen more before here n by h e owner =
    elim (cases_lt n (64 * k)) [
      | inl l ↦ more by (before n by l e owner)
      | inr far ↦
          let i : ℕ = n - 64 * k in
          let small : i < 64 = omega arith in
          let same : 64 * k + i ≡ n = omega arith in
          let all : row + 64 * k + i ≡ row + n = omega arith in
          let its : is_picked t.times d.times (64 * k + i) ≡ true = ap (is_picked t.times d.times) same ∙ e in
          elim (cases_Bool (has_bit (bit_and window word) i)) [
            | inl y ↦ here i by small y (ap (owner_of t) all ∙ owner)
            | inr z ↦
                let cleared : is_set bits (row + n) ≡ false =
                ap (is_set bits) (sym all) ∙ not_common bits t.times d.times window word row k i w p small its z in
                let below : row + n < supplies_in t = omega (
                  arith,
                  picked_below (domains_of t) d resource n range
                      in_pick e,
                ) in
                more by (seen.seen (row + n) by below cleared owner)
          ]
    ]
