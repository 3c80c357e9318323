-- The demands that compete in a told state outnumber their supplies by the deficit.
use Rattle.std.proofs.Common.{ℕ, zero, suc, ◌+◌, ◌-◌, ◌<◌, ◌≡◌, Bool, true, false, ◌&&◌, List, [], ◌∷◌, Some, None}
use Rattle.std.proofs.Common.{cond, map, length, get_or, slice_get, leb, refl, sym, ap, ◌∙◌, arith}
use Rattle.std.specs.Prelude.{is_some, ◌||◌}
use Rattle.std.specs.List.{list_any}
use Rattle.std.proofs.lemmas.Bool.{le-leb}
use Rattle.std.proofs.lemmas.List.FromFn.{get_or-map-range_with_len, length-map-range_with_len}
use Rattle.std.proofs.lemmas.Option.{slice_get_within}
use Rattle.khe_base.proofs.ListLemmas.{mapped-there}
use Rattle.khe_instance.specs.declared.parts.Parts.{Parts}
use Rattle.khe_told.specs.declared.slots.Slot.{Slot}
use Rattle.demand_matching.specs.Counts.{any_below, count_below, sum_below}
use Rattle.demand_matching.specs.Domains.{admits_where_present, domain_of, is_present, may_have}
use Rattle.demand_matching.specs.Excess.{size_of, neighbours_of, is_neighbour}
use Rattle.demand_matching.proofs.Counting.{count_same}
use Rattle.hall_report.specs.Demands.{chosen, demands, domains, own_domain, runs_at, set_where, takes}
use Rattle.hall_report.specs.declared.demand.Demand.{Demand}
use Rattle.hall_report.specs.Shortages.{competes, deficit_of, hall_of, supplies_of}
use Rattle.hall_report.proofs.ExcessLaws.{competing_exceed}

-- the first number apart
abbrev one_if : Bool → ℕ
one_if b = cond b 1 0

count_first : (n : ℕ) (p : ℕ → Bool)
    → count_below (suc n) p ≡ one_if (p 0) + count_below n (λ k. p (suc k))
unfolding count_below
count_first zero p = refl
count_first (suc n) p = let rest = count_first n p in omega (arith, rest)

any_first : (n : ℕ) (p : ℕ → Bool) → any_below (suc n) p ≡ (p 0 || any_below n (λ k. p (suc k)))
unfolding any_below
any_first zero p = refl
any_first (suc n) p = ap (λ b. p (suc n) || b) (any_first n p)
    ∙ turned (p (suc n)) (p 0) (any_below n (λ k. p (suc k)))
  where
    turned : (a b c : Bool) → (a || (b || c)) ≡ (b || (a || c))
    turned true true c = refl
    turned true false c = refl
    turned false b c = refl

any_alike : (n : ℕ) (a b : ℕ → Bool) → ((k : ℕ) → a k ≡ b k) → any_below n a ≡ any_below n b
unfolding any_below
any_alike zero a b h = refl
any_alike (suc n) a b h = ap (λ x. x || any_below n a) (h n) ∙ ap (λ x. b n || x) (any_alike n a b h)

sum_alike : (n : ℕ) (a b : ℕ → ℕ) → ((k : ℕ) → k < n → a k ≡ b k) → sum_below n a ≡ sum_below n b
unfolding sum_below
sum_alike zero a b h = refl
sum_alike (suc n) a b h = let x = h n (omega arith) in
    let y = sum_alike n a b (λ k l. h k (omega (arith, l))) in omega (arith, x, y)

-- how many are chosen
chosen_count : (test : ℕ → Bool) (m : ℕ) (ds : List Demand)
    → length (chosen test m ds) ≡ count_below (length ds) (λ k. test (m + k))
unfolding count_below
chosen_count test m [] = refl
chosen_count test m (d ∷ ds) =
    let rest = chosen_count test (m + 1) ds in
    let moved : count_below (length ds) (λ k. test (m + 1 + k)) ≡ count_below (length ds) (λ k. test (m + suc k)) =
    count_same (length ds) (λ k. test (m + 1 + k)) (λ k. test (m + suc k))
    (λ k l. let e : m + 1 + k ≡ m + suc k = omega arith in ap test e) in
    let z : m + 0 ≡ m = omega arith in
    let first = count_first (length ds) (λ k. test (m + k)) in
    let head : one_if (test (m + 0)) ≡ one_if (test m) = ap (λ j. one_if (test j)) z in
    let own = one_more (test m) (chosen test (m + 1) ds) in
    omega (arith, rest, moved, first, head, own)
  where
    one_more : (b : Bool) (xs : List Demand) → length (cond b (d ∷ xs) xs) ≡ one_if b + length xs
    one_more true xs = omega arith
    one_more false xs = omega arith

-- whether one of the chosen passes
chosen_any : (q : Demand → Bool) (test may : ℕ → Bool) (m : ℕ) (ds : List Demand)
    → ((i : ℕ) (d : Demand) → slice_get ds i ≡ Some d → may (m + i) ≡ q d)
    → list_any q (chosen test m ds) ≡ any_below (length ds) (λ k. test (m + k) && may (m + k))
unfolding any_below
chosen_any q test may m [] h = refl
chosen_any q test may m (d ∷ ds) h =
    let z : m + 0 ≡ m = omega arith in
    let rest = chosen_any q test may (m + 1) ds
    (λ i x e. let s : m + 1 + i ≡ m + suc i = omega arith in ap may s ∙ h (suc i) x e) in
    let moved : any_below (length ds) (λ k. test (m + 1 + k) && may (m + 1 + k))
    ≡ any_below (length ds) (λ k. test (m + suc k) && may (m + suc k)) =
    any_alike (length ds) (λ k. test (m + 1 + k) && may (m + 1 + k)) (λ k. test (m + suc k) && may (m + suc k))
    (λ k. let s : m + 1 + k ≡ m + suc k = omega arith in ap (λ j. test j && may j) s) in
    let head : may m ≡ q d = ap may (sym z) ∙ h 0 d refl in
    one_more (test m) (chosen test (m + 1) ds) ∙ ap (λ b. (test m && b) || list_any q (chosen test (m + 1) ds))
    (sym head)
    ∙ ap (λ b. (test m && may m) || b) (rest ∙ moved)
    ∙ ap (λ j. (test j && may j) || any_below (length ds) (λ k. test (m + suc k) && may (m + suc k))) (sym z)
    ∙ sym (any_first (length ds) (λ k. test (m + k) && may (m + k)))
  where
    one_more : (b : Bool) (xs : List Demand) → list_any q (cond b (d ∷ xs) xs) ≡ ((b && q d) || list_any q xs)
    one_more true xs = refl
    one_more false xs = refl

module _ (p : Parts) (s : List Slot) where
  as_many : length (domains p s).demands ≡ length (demands p s)
  as_many = length-map-range_with_len own_domain 0 (length (demands p s))

  own_present : (k : ℕ) → k < length (demands p s) → domain_of (domains p s) k ≡ own_domain k
  own_present k l = let e : 0 + k ≡ k = omega arith in
      get_or-map-range_with_len own_domain 0 (length (demands p s)) k k None l e

  -- what a demand of the list may have
  own_may : (k r t : ℕ) (d : Demand) → slice_get (demands p s) k ≡ Some d → r < length p.resources
      → t < length p.times → may_have (domains p s) k r t ≡ takes p s d r && runs_at p s d t
  own_may k r t d h x y =
      let l = slice_get_within (demands p s) k d h in
      let rs : List (List Bool) = map (λ e. set_where (length p.resources) (takes p s e)) (demands p s) in
      let ts : List (List Bool) = map (λ e. set_where (length p.times) (runs_at p s e)) (demands p s) in
      let a : get_or rs k [] ≡ set_where (length p.resources) (takes p s d) =
      mapped-there (λ e. set_where (length p.resources) (takes p s e)) (demands p s) k d [] h in
      let b : get_or ts k [] ≡ set_where (length p.times) (runs_at p s d) =
      mapped-there (λ e. set_where (length p.times) (runs_at p s e)) (demands p s) k d [] h in
      let zr : 0 + r ≡ r = omega arith in
      let zt : 0 + t ≡ t = omega arith in
      let back : t - 0 ≡ t = omega arith in
      let one : get_or (get_or rs k []) r false ≡ takes p s d r =
      ap (λ z. get_or z r false) a ∙ get_or-map-range_with_len (takes p s d) 0 (length p.resources) r r false x
      zr in
      let two : get_or (get_or ts k []) (t - 0) false ≡ runs_at p s d t =
      ap (λ n. get_or (get_or ts k []) n false) back ∙ ap (λ z. get_or z t false) b
      ∙ get_or-map-range_with_len (runs_at p s d) 0 (length p.times) t t false y zt in
      let three : leb 0 t ≡ true = le-leb 0 t (omega arith) in
      ap (λ o. admits_where_present ts rs o r t) (own_present k l)
      ∙ ap (λ z. z && (leb 0 t && get_or (get_or ts k []) (t - 0) false)) one
      ∙ ap (λ z. takes p s d r && (z && get_or (get_or ts k []) (t - 0) false)) three
      ∙ ap (λ z. takes p s d r && z) two

  size_listed : (test : ℕ → Bool) → size_of (domains p s) test ≡ length (chosen test 0 (demands p s))
  size_listed test =
      let n = as_many in
      let each : (k : ℕ) → k < length (domains p s).demands → (is_present (domains p s) k && test k) ≡ test (0 + k) =
      λ k l. let z : k ≡ 0 + k = omega arith in
      ap (λ o. is_some o && test k) (own_present k (omega (arith, l, n))) ∙ ap test z in
      count_same (length (domains p s).demands) (λ k. is_present (domains p s) k && test k) (λ k. test (0 + k)) each
      ∙ ap (λ m. count_below m (λ k. test (0 + k))) n ∙ sym (chosen_count test 0 (demands p s))

  near_listed : (test : ℕ → Bool)
      → neighbours_of (domains p s) test ≡ supplies_of p s (chosen test 0 (demands p s))
  near_listed test =
      sum_alike (length p.resources) (λ r. count_below (length p.times) (λ t. is_neighbour (domains p s) test r t))
      (λ r. count_below (length p.times)
      (λ t. list_any (λ d. takes p s d r && runs_at p s d t) (chosen test 0 (demands p s))))
      (λ r x. count_same (length p.times) (λ t. is_neighbour (domains p s) test r t)
      (λ t. list_any (λ d. takes p s d r && runs_at p s d t) (chosen test 0 (demands p s)))
      (λ t y. ap (λ m. any_below m (λ k. test k && may_have (domains p s) k r t)) as_many
      ∙ any_alike (length (demands p s)) (λ k. test k && may_have (domains p s) k r t)
      (λ k. test (0 + k) && may_have (domains p s) (0 + k) r t)
      (λ k. let z : k ≡ 0 + k = omega arith in ap (λ j. test j && may_have (domains p s) j r t) z)
      ∙ sym (chosen_any (λ d. takes p s d r && runs_at p s d t) test (λ k. may_have (domains p s) k r t) 0 (demands p s)
      (λ i d e. let z : 0 + i ≡ i = omega arith in
      ap (λ j. may_have (domains p s) j r t) z ∙ own_may i r t d e x y))))

  pub outnumber : length (hall_of p s) ≡ supplies_of p s (hall_of p s) + deficit_of p s
  unfolding hall_of deficit_of
  outnumber =
      let size = size_listed (competes (domains p s)) in
      let near = near_listed (competes (domains p s)) in
      let all = competing_exceed (domains p s) in
      omega (arith, size, near, all)
