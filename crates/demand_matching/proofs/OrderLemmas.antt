-- A demand that changes places with another.
use Rattle.std.proofs.Common.{ℕ, ◌<◌, ◌≡◌, List, length, get_or, set, sym, ap, ◌∙◌, arith, inl, inr, get_or-set_same}
use Rattle.std.proofs.Common.{get_or-set_other, length-set}
use Rattle.demand_matching.specs.Order.{IsOrder, ChangesPlaces}
use Rattle.demand_matching.proofs.Counting.{cases_eqb}

-- the value after two writes
two_writes : (xs : List ℕ) (i a j b k : ℕ) → i < length xs → j < length xs
    → ((k ≡ j → ⊥) → (k ≡ i → ⊥) → get_or (set (set xs i a) j b) k 0 ≡ get_or xs k 0)
    × (get_or (set (set xs i a) j b) j 0 ≡ b) × ((i ≡ j → ⊥) → get_or (set (set xs i a) j b) i 0 ≡ a)
two_writes xs i a j b k l m =
    let n : j < length (set xs i a) = omega (arith, length-set xs i a) in (
      (λ p q. get_or-set_other (set xs i a) j k b 0 p ∙ get_or-set_other xs i k a 0 q),
      get_or-set_same (set xs i a) j b
          0 n,
      (λ p. get_or-set_other (set xs i a) j i b 0 p ∙ get_or-set_same xs i a 0 l),
    )

pub changed_places : (n : ℕ) (order spots : List ℕ) (d place : ℕ) → IsOrder n order spots → d < n → place < n
    → ChangesPlaces order spots (set (set order place d) (get_or spots d 0) (get_or order place 0))
    (set (set spots (get_or order place 0) (get_or spots d 0)) d place) d place
changed_places n order spots d place is l m =
    let e : ℕ = get_or order place 0 in
    let i : ℕ = get_or spots d 0 in
    let e_in : e < length spots = omega (arith, is.spots_length, is.order_below place m) in
    let d_in : d < length spots = omega (arith, is.spots_length) in
    let i_in : i < length order = omega (arith, is.order_length, is.spot_below d l) in
    let p_in : place < length order = omega (arith, is.order_length) in
    record {
      moved = (two_writes spots e i d place 0 e_in d_in).1;
      swapped = λ ne. (two_writes spots e i d place 0 e_in d_in).2 ne;
      other_spots = λ k p q. (two_writes spots e i d place k e_in d_in).0 p q;
      other_places = λ k p q. (two_writes order place d i e k p_in i_in).0 q p;
    }

pub changed_order : (n : ℕ) (order spots : List ℕ) (d place : ℕ) → IsOrder n order spots → d < n → place < n
    → IsOrder n (set (set order place d) (get_or spots d 0) (get_or order place 0))
    (set (set spots (get_or order place 0) (get_or spots d 0)) d place)
changed_order n order spots d place is l m =
    let e : ℕ = get_or order place 0 in
    let i : ℕ = get_or spots d 0 in
    let order' : List ℕ = set (set order place d) i e in
    let spots' : List ℕ = set (set spots e i) d place in
    let e_in : e < length spots = omega (arith, is.spots_length, is.order_below place m) in
    let d_in : d < length spots = omega (arith, is.spots_length) in
    let i_in : i < length order = omega (arith, is.order_length, is.spot_below d l) in
    let p_in : place < length order = omega (arith, is.order_length) in
    let e_below : e < n = is.order_below place m in
    let i_below : i < n = is.spot_below d l in
    let spot_e : get_or spots e 0 ≡ place = is.spot_order place m in
    let order_i : get_or order i 0 ≡ d = is.order_spot d l in
    let at_i : get_or order' i 0 ≡ e = (two_writes order place d i e 0 p_in i_in).1 in
    let at_d : get_or spots' d 0 ≡ place = (two_writes spots e i d place 0 e_in d_in).1 in
    let at_place : get_or order' place 0 ≡ d =
    elim (cases_eqb place i) [
      | inl x ↦ let y : e ≡ d = ap (λ v. get_or order v 0) x ∙ order_i in
          ap (λ v. get_or order' v 0) x ∙ at_i ∙ y
      | inr x ↦ (two_writes order place d i e 0 p_in i_in).2 x
    ] in
    let at_e : get_or spots' e 0 ≡ i =
    elim (cases_eqb e d) [
      | inl x ↦ let y : place ≡ i = sym spot_e ∙ ap (λ v. get_or spots v 0) x in
          ap (λ v. get_or spots' v 0) x ∙ at_d ∙ y
      | inr x ↦ (two_writes spots e i d place 0 e_in d_in).2 x
    ] in
    record {
      order_length = length-set (set order place d) i e ∙ length-set order place d ∙ is.order_length;
      spots_length = length-set (set spots e i) d place ∙ length-set spots e i ∙ is.spots_length;
      order_below = λ k h. elim (cases_eqb k place) [
        | inl x ↦ omega (arith, ap (λ v. get_or order' v 0) x, at_place)
        | inr x ↦ elim (cases_eqb k i) [
          | inl y ↦ omega (arith, ap (λ v. get_or order' v 0) y, at_i, e_below)
          | inr y ↦ omega (arith, (two_writes order place d i e k p_in i_in).0 y x, is.order_below k h)
        ]
      ];
      spot_below = λ k h. elim (cases_eqb k d) [
        | inl x ↦ omega (arith, ap (λ v. get_or spots' v 0) x, at_d)
        | inr x ↦ elim (cases_eqb k e) [
          | inl y ↦ omega (arith, ap (λ v. get_or spots' v 0) y, at_e, i_below)
          | inr y ↦ omega (arith, (two_writes spots e i d place k e_in d_in).0 x y, is.spot_below k h)
        ]
      ];
      order_spot = λ k h. elim (cases_eqb k d) [
        | inl x ↦ ap (λ v. get_or order' (get_or spots' v 0) 0) x ∙ ap (λ v. get_or order' v 0) at_d ∙ at_place ∙ sym x
        | inr x ↦ elim (cases_eqb k e) [
          | inl y ↦ ap (λ v. get_or order' (get_or spots' v 0) 0) y ∙ ap (λ v. get_or order' v 0) at_e ∙ at_i ∙ sym y
          | inr y ↦
              let same : get_or spots' k 0 ≡ get_or spots k 0 = (two_writes spots e i d place k e_in d_in).0 x y in
              let not_i : get_or spots k 0 ≡ i → ⊥ = λ z. x
              (sym (is.order_spot k h) ∙ ap (λ v. get_or order v 0) z ∙ order_i) in
              let not_place : get_or spots k 0 ≡ place → ⊥ =
              λ z. y (sym (is.order_spot k h) ∙ ap (λ v. get_or order v 0) z) in
              ap (λ v. get_or order' v 0) same ∙ (two_writes order place d i e (get_or spots k 0) p_in i_in).0 not_i
              not_place ∙ is.order_spot k h
        ]
      ];
      spot_order = λ k h. elim (cases_eqb k place) [
        | inl x ↦ ap (λ v. get_or spots' (get_or order' v 0) 0) x ∙ ap (λ v. get_or spots' v 0) at_place ∙ at_d ∙ sym x
        | inr x ↦ elim (cases_eqb k i) [
          | inl y ↦ ap (λ v. get_or spots' (get_or order' v 0) 0) y ∙ ap (λ v. get_or spots' v 0) at_i ∙ at_e ∙ sym y
          | inr y ↦
              let same : get_or order' k 0 ≡ get_or order k 0 = (two_writes order place d i e k p_in i_in).0 y x in
              let not_d : get_or order k 0 ≡ d → ⊥ = λ z. y (sym (is.spot_order k h) ∙ ap (λ v. get_or spots v 0) z) in
              let not_e : get_or order k 0 ≡ e → ⊥ = λ z. x
              (sym (is.spot_order k h) ∙ ap (λ v. get_or spots v 0) z ∙ spot_e) in
              ap (λ v. get_or spots' v 0) same ∙ (two_writes spots e i d place (get_or order k 0) e_in d_in).0 not_d
              not_e ∙ is.spot_order k h
        ]
      ];
    }
