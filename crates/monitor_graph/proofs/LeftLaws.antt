-- Costs that are no longer the marked ones, and those that are marked again.
use Rattle.std.proofs.Common.{ℕ, ◌≡◌, ◌+◌, ◌/◌, ◌<◌, ◌≤◌, nat_eq, Bool, true, false, cond, List, length}
use Rattle.std.proofs.Common.{get_or, set, replicate, refl, sym, ap, ◌∙◌, arith}
use Rattle.std.proofs.lemmas.Bool.{both_ways, eqb-true, eqb-false}
use Rattle.std.proofs.lemmas.Grind.{same_number_lists}
use Rattle.std.proofs.lemmas.List.{length-replicate, length-set, get_or-set_same, get_or-set_other}
use Rattle.khe_base.proofs.BitsLemmas.{is_set-zeros}
use Rattle.khe_base.specs.Bits.{is_set}
use Rattle.khe_base.specs.declared.limits.TheConstants.{MONITORS}
use Rattle.monitor_graph.specs.Left.{AreLeft}
use Rattle.monitor_graph.specs.Rows.{AreSummed}

-- one cost may be another
pub left_turned : (costs marked words summary words2 summary2 : List ℕ) (k c : ℕ) → AreLeft costs marked words summary
    → k < length costs → length words2 ≡ length words → length summary2 ≡ length summary
    → ((m : ℕ) → is_set words2 m ≡ cond (nat_eq m k) true (is_set words m)) → AreSummed words2 summary2
    → AreLeft (set costs k c) marked words2 summary2
left_turned costs marked words summary words2 summary2 k c left l a b new summed = record {
  summed = summed;
  still = λ m h. still_at m (nat_eq m k) refl h;
  known = λ m h. known_at m (nat_eq m k) refl h;
  room = let e = length-set costs k c in let r = left.room in omega (arith, e, r, a);
  summary_room = let r = left.summary_room in omega (arith, r, a, b);
  few = let r = left.few in omega (arith, r, a);
  summary_few = let r = left.summary_few in omega (arith, r, b);
}
  where
    bit : (m : ℕ) (t : Bool) → nat_eq m k ≡ t → is_set words2 m ≡ cond t true (is_set words m)
    bit m t e = new m ∙ ap (λ b. cond b true (is_set words m)) e

    still_at : (m : ℕ) (t : Bool) → nat_eq m k ≡ t → is_set words2 m ≡ false
        → get_or marked m 0 ≡ get_or (set costs k c) m 0
    still_at m true e h = absurd (both_ways (is_set words2 m) h (bit m true e))
    still_at m false e h = left.still m (sym (bit m false e) ∙ h)
        ∙ sym (get_or-set_other costs k m c 0 (eqb-false m k e))

    known_at : (m : ℕ) (t : Bool) → nat_eq m k ≡ t → is_set words2 m ≡ true → m < length (set costs k c)
    known_at m true e h = let q = eqb-true m k e in let n = length-set costs k c in omega (arith, q, n, l)
    known_at m false e h = let q = left.known m (sym (bit m false e) ∙ h) in let n = length-set costs k c in
        omega (arith, q, n)

-- one cost is marked
pub left_marked : (costs marked words summary words2 summary2 : List ℕ) (k c : ℕ) → AreLeft costs marked words summary
    → k < length costs → length marked ≡ length costs → c ≡ get_or costs k 0 → length words2 ≡ length words
    → length summary2 ≡ length summary
    → ((m : ℕ) → is_set words2 m ≡ cond (nat_eq m k) false (is_set words m)) → AreSummed words2 summary2
    → AreLeft costs (set marked k c) words2 summary2
left_marked costs marked words summary words2 summary2 k c left l long same a b new summed = record {
  summed = summed;
  still = λ m h. still_at m (nat_eq m k) refl h;
  known = λ m h. known_at m (nat_eq m k) refl h;
  room = let r = left.room in omega (arith, r, a);
  summary_room = let r = left.summary_room in omega (arith, r, a, b);
  few = let r = left.few in omega (arith, r, a);
  summary_few = let r = left.summary_few in omega (arith, r, b);
}
  where
    bit : (m : ℕ) (t : Bool) → nat_eq m k ≡ t → is_set words2 m ≡ cond t false (is_set words m)
    bit m t e = new m ∙ ap (λ b. cond b false (is_set words m)) e

    still_at : (m : ℕ) (t : Bool) → nat_eq m k ≡ t → is_set words2 m ≡ false
        → get_or (set marked k c) m 0 ≡ get_or costs m 0
    still_at m true e h =
        let q = eqb-true m k e in
        ap (λ n. get_or (set marked k c) n 0) q ∙ get_or-set_same marked k c 0 (omega (arith, l, long)) ∙ same
        ∙ ap (λ n. get_or costs n 0) (sym q)
    still_at m false e h = get_or-set_other marked k m c 0 (eqb-false m k e) ∙ left.still m (sym (bit m false e) ∙ h)

    known_at : (m : ℕ) (t : Bool) → nat_eq m k ≡ t → is_set words2 m ≡ true → m < length costs
    known_at m true e h = absurd (both_ways (is_set words2 m) (bit m true e) h)
    known_at m false e h = left.known m (sym (bit m false e) ∙ h)

-- where none is left, all are marked
pub none_left : (costs marked words summary : List ℕ) → AreLeft costs marked words summary
    → length marked ≡ length costs → ((m : ℕ) → is_set words m ≡ false) → marked ≡ costs
none_left costs marked words summary left long clear =
    same_number_lists marked costs long (λ k l. left.still k (clear k))

-- none is left where the costs were marked just now
pub left_none : (costs marked words summary : List ℕ) (n : ℕ) → length costs ≡ n → n ≤ MONITORS → marked ≡ costs
    → words ≡ replicate (n / 64 + 1) 0 → summary ≡ replicate ((n / 64 + 1) / 64 + 1) 0
    → AreLeft costs marked words summary
left_none costs marked words summary n many few e w s =
    let clear = λ (m : ℕ). ap (λ xs. is_set xs m) w ∙ is_set-zeros (n / 64 + 1) m in
    let long = ap length w ∙ length-replicate (n / 64 + 1) 0 in
    let short = ap length s ∙ length-replicate ((n / 64 + 1) / 64 + 1) 0 in
    record {
      summed = λ m t. absurd (both_ways (is_set words m) (clear m) t);
      still = λ m h. ap (λ xs. get_or xs m 0) e;
      known = λ m t. absurd (both_ways (is_set words m) (clear m) t);
      room = omega (arith, long, many);
      summary_room = omega (arith, long, short);
      few = omega (arith, long, few);
      summary_few = omega (arith, short, few);
    }
