-- The numbers of a pick are those that are in it.
use Rattle.std.proofs.Common.{ℕ, zero, suc, ◌*◌, ◌<◌, ◌≤◌, ◌≡◌, Bool, true, false, cond, List, [], ◌∷◌, length, get_or}
use Rattle.std.proofs.Common.{refl, ap, ◌∙◌, arith, filter, zero-add}
use Rattle.std.specs.List.{range_with_len}
use Rattle.std.proofs.lemmas.Bool.{false≢true, eqb-true, eq-eqb}
use Rattle.std.proofs.lemmas.List.Elements.{All-get_or, filter_passes}
use Rattle.std.proofs.lemmas.List.FromFn.{length-range_with_len, get_or-range_with_len}
use Rattle.khe_base.specs.IdSet.{has_member, members_of}
use Rattle.demand_matching.specs.declared.domains.Pick.{Pick}
use Rattle.demand_matching.specs.declared.domains.Pick.TheVariants.{One, «Set»}
use Rattle.demand_matching.specs.Domains.{is_picked}
use Rattle.demand_matching.specs.Members.{picked, first_word, end_word}
use Rattle.khe_base.proofs.IdSetLemmas.{member_below}

-- what passes a test is among what is kept
kept_found : (p : ℕ → Bool) (xs : List ℕ) (j : ℕ) → j < length xs → p (get_or xs j 0) ≡ true
    → (i : ℕ) × (i < length (filter p xs)) × (get_or (filter p xs) i 0 ≡ get_or xs j 0)
kept_found p [] j l h = absurd (omega arith)
kept_found p (x ∷ xs) zero l h = at_front (p x) h
  where
    at_front : (b : Bool) → b ≡ true → (i : ℕ) × (i < length (cond b (x ∷ filter p xs) (filter p xs)))
        × (get_or (cond b (x ∷ filter p xs) (filter p xs)) i 0 ≡ x)
    at_front true h = (0, omega arith, refl)
    at_front false h = absurd (false≢true h)
kept_found p (x ∷ xs) (suc j) l h = behind (p x) (kept_found p xs j (omega arith) h)
  where
    behind : (b : Bool) → (i : ℕ) × (i < length (filter p xs)) × (get_or (filter p xs) i 0 ≡ get_or xs j 0)
        → (i : ℕ) × (i < length (cond b (x ∷ filter p xs) (filter p xs)))
        × (get_or (cond b (x ∷ filter p xs) (filter p xs)) i 0 ≡ get_or xs j 0)
    behind true it = (suc it.0, omega (arith, it.1), it.2)
    behind false it = it

-- each listed number is a member
pub members_hit : (set : List Bool) (i : ℕ) → i < length (members_of set)
    → has_member set (get_or (members_of set) i 0) ≡ true
members_hit set i l = All-get_or (λ n. has_member set n ≡ true) (members_of set) i 0 l
    (filter_passes (has_member set) (range_with_len 0 (length set)))

-- each member is listed
pub members_found : (set : List Bool) (y : ℕ) → has_member set y ≡ true
    → (i : ℕ) × (i < length (members_of set)) × (get_or (members_of set) i 0 ≡ y)
members_found set y h =
    let below : y < length set = member_below set y h in
    let at : get_or (range_with_len 0 (length set)) y 0 ≡ y =
    get_or-range_with_len 0 (length set) y 0 below ∙ zero-add y in
    let it = kept_found (has_member set) (range_with_len 0 (length set)) y
    (omega (arith, below, length-range_with_len 0 (length set))) (ap (has_member set) at ∙ h) in
    (it.0, it.1, it.2 ∙ at)

pub picked_hit : (sets : List (List Bool)) (pick : Pick) (i : ℕ) → i < length (picked sets pick)
    → is_picked sets pick (get_or (picked sets pick) i 0) ≡ true
picked_hit sets (One n) zero l = eq-eqb n n refl
picked_hit sets (One n) (suc i) l = absurd (omega arith)
picked_hit sets («Set» k) i l = members_hit (get_or sets k []) i l

pub picked_found : (sets : List (List Bool)) (pick : Pick) (y : ℕ) → is_picked sets pick y ≡ true
    → (i : ℕ) × (i < length (picked sets pick)) × (get_or (picked sets pick) i 0 ≡ y)
picked_found sets (One n) y h = (0, omega arith, eqb-true n y h)
picked_found sets («Set» k) y h = members_found (get_or sets k []) y h

-- which words have the numbers of a pick
pub picked_first : (sets : List (List Bool)) (pick : Pick) (n : ℕ) → is_picked sets pick n ≡ true
    → 64 * first_word pick ≤ n
picked_first sets (One m) n h = omega (arith, eqb-true m n h)
picked_first sets («Set» k) n h = omega arith

pub picked_end : (sets : List (List Bool)) (pick : Pick) (n : ℕ) → is_picked sets pick n ≡ true
    → n < 64 * end_word sets pick
picked_end sets (One m) n h = omega (arith, eqb-true m n h)
picked_end sets («Set» k) n h = omega (arith, member_below (get_or sets k []) n h)
