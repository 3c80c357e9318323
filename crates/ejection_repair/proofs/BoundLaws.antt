-- How many chains are looked at, at most.
use Rattle.std.proofs.Common.{ℕ, zero, suc, ◌≡◌, ◌+◌, ◌-◌, ◌*◌, ◌%◌, ◌≤◌, inl, inr, Bool, true, false, cond, Option}
use Rattle.std.proofs.Common.{Some, None, List, [], ◌∷◌, ◌++◌, map, length, take, drop, refl, ap, ◌∙◌, sym, subst}
use Rattle.std.proofs.Common.{arith, append_assoc, length-append}
use Rattle.std.specs.List.{filter, flat_map, range_with_len}
use Rattle.std.specs.Option.{option_map_or}
use Rattle.std.proofs.Math.Nat.{mul-le-mul_left, mul-le-mul_right}
use Rattle.std.proofs.lemmas.List.{length-map, take-append-drop}
use Rattle.std.proofs.lemmas.List.FromFn.{length-range_with_len}
use Rattle.std.proofs.lemmas.List.Sums.{count_by-le-length, length-filter}
use Rattle.khe_instance.specs.Costs.{is_defect}
use Rattle.khe_instance.specs.declared.parts.Parts.{Parts}
use Rattle.khe_told.specs.declared.edits.Edit.{Edit}
use Rattle.khe_engine.specs.States.{State}
use Rattle.monitor_graph.specs.Dearer.{dearer, only}
use Rattle.repair_moves.specs.Moves.{moves}
use Rattle.repair_moves.specs.Picked.{picked}
use Rattle.ejection_repair.specs.Bounds.{powers, most, IsWithin}
use Rattle.ejection_repair.specs.Chains.{Chain, chains, longer, unmoved, rotated, extensions, tried}
use Rattle.ejection_repair.specs.Repaired.{Try, try_at, tries_from, run, repaired}
use Rattle.ejection_repair.specs.Settled.{Among}
use Rattle.ejection_repair.specs.Trails.{is_fresh}
use Rattle.ejection_repair.specs.Values.{costs_at, totals_at, are_lower, defects_from}
use Rattle.ejection_repair.proofs.AmongLaws.{among_map, filter_among, place_of, rotated_among, before, behind}
use Rattle.ejection_repair.proofs.AskLaws.{costs_long}
use Rattle.ejection_repair.proofs.KeptLaws.{Leads, tries_good}

-- states that moves lead to such states from, with a bound on the moves of a list and one on the monitors
pub record AreBounded (p : Parts) (Good : State → Type 0) (d r : ℕ) : Type 0 where
  pub monitors : length p.monitors ≤ d
  pub lists : (s : State) (m : ℕ) → Good s → length (moves p s.slots m) ≤ r
  pub onward : Leads p Good

pub flat_count : {A B : Type 0} (f : A → List B) (b : ℕ) (xs : List A) → ((x : A) → Among x xs → length (f x) ≤ b)
    → length (flat_map f xs) ≤ length xs * b
flat_count f b [] h = omega arith
flat_count f b (x ∷ xs) h =
    let first = h x (inl refl) in let rest = flat_count f b xs (λ y m. h y (inr m)) in
    omega (arith, length-append (f x) (flat_map f xs))

pub filter_count : {A : Type 0} (p : A → Bool) (xs : List A) → length (filter p xs) ≤ length xs
filter_count p xs = let a = length-filter p xs in let b = count_by-le-length p xs in omega (arith, a, b)

rotated_count : {A : Type 0} (v : ℕ) (xs : List A) → length (rotated v xs) ≤ length xs
unfolding rotated
rotated_count v xs =
    let n = v % length xs in
    omega (
      arith,
      length-append (drop n xs) (take n xs),
      length-append (take n xs) (drop n xs),
      ap length
          (take-append-drop n xs),
    )

defects_count : (costs : List ℕ) → length (defects_from costs 0) ≤ length costs
unfolding defects_from picked
defects_count costs = let h = filter_count (is_defect costs) (range_with_len 0 (length costs - 0)) in let k =
    length-range_with_len 0 (length costs - 0) in omega (arith, h, k)

powers_more : (r j : ℕ) → powers r j ≤ powers r (j + 1)
powers_more r zero = omega arith
powers_more r (suc j) =
    let h = powers_more r j in
    let e : powers r (suc j + 1) ≡ r * (1 + powers r (j + 1)) =
    ap (powers r) (let q : suc j + 1 ≡ suc (j + 1) = omega arith in q) in
    let m = mul-le-mul_left r (let q : 1 + powers r j ≤ 1 + powers r (j + 1) = omega arith in q) in
    omega arith

powers_mono : (r j n : ℕ) → powers r j ≤ powers r (j + n)
powers_mono r j zero = let e : j ≡ j + 0 = omega arith in let h = ap (powers r) e in omega arith
powers_mono r j (suc n) =
    let h = powers_mono r j n in let k = powers_more r (j + n) in
    let e = ap (powers r) (let q : j + n + 1 ≡ j + suc n = omega arith in q) in omega arith

-- the extensions of a chain
ext_count : (p : Parts) (Good : State → Type 0) (d r : ℕ) → AreBounded p Good d r
    → (marked : List ℕ) (v k : ℕ) (c : Chain) (m : ℕ) → Good c.state
    → length (extensions p marked v k c m) ≤ powers r k
unfolding extensions tried longer
ext_count p Good d r b marked v zero c m good = omega arith
ext_count p Good d r b marked v (suc k) c m good =
    let es = filter (is_fresh c.state.slots c.moved) (rotated v (moves p c.state.slots m)) in
    let on = λ (e : Edit). longer c e ∷ option_map_or (extensions p marked v k (longer c e))
    (only (dearer marked (costs_at p (longer c e).state))) [] in
    let each : (e : Edit) → Among e es → length (on e) ≤ 1 + powers r k =
    λ e h. by e (only (dearer marked (costs_at p (longer c e).state)))
    (λ n. ext_count p Good d r b marked v k (longer c e) n
    (b.onward c.state m e good (rotated_among e v (moves p c.state.slots m)
    (filter_among (is_fresh c.state.slots c.moved) e (rotated v (moves p c.state.slots m)) h)))) in
    let few = flat_count on (1 + powers r k) es each in
    let less = filter_count (is_fresh c.state.slots c.moved) (rotated v (moves p c.state.slots m)) in
    let all = rotated_count v (moves p c.state.slots m) in
    let short = b.lists c.state m good in
    let prod = mul-le-mul_right (1 + powers r k) (let q : length es ≤ r = omega arith in q) in
    omega arith
  where
    by : (e : Edit) (o : Option ℕ) → ((n : ℕ) → length (extensions p marked v k (longer c e) n) ≤ powers r k)
        → length (longer c e ∷ option_map_or (extensions p marked v k (longer c e)) o []) ≤ 1 + powers r k
    by e None h = omega arith
    by e (Some n) h = let q = h n in omega arith

chains_count : (p : Parts) (Good : State → Type 0) (d r : ℕ) → AreBounded p Good d r → (s : State) (v k : ℕ) → Good s
    → length (chains p s v k) ≤ d * powers r k
unfolding chains
chains_count p Good d r b s v k good =
    let ds = rotated v (defects_from (costs_at p s) 0) in
    let few = flat_count (extensions p (costs_at p s) v k (unmoved s)) (powers r k) ds
    (λ m h. ext_count p Good d r b (costs_at p s) v k (unmoved s) m good) in
    let short = rotated_count v (defects_from (costs_at p s) 0) in
    let less = defects_count (costs_at p s) in
    let all = costs_long p s in
    let few_monitors = b.monitors in
    let prod = mul-le-mul_right (powers r k) (let q : length ds ≤ d = omega arith in q) in
    omega arith

tries_count : (p : Parts) (Good : State → Type 0) (d r : ℕ) → AreBounded p Good d r → (s : State) (v gone n : ℕ)
    → Good s → length (tries_from p s v gone n) ≤ n * (d * powers r (gone + n))
unfolding tries_from
tries_count p Good d r b s v gone zero good = omega arith
tries_count p Good d r b s v gone (suc n) good =
    let cs = chains p s v (gone + 1) in
    let one = chains_count p Good d r b s v (gone + 1) good in
    let rest = tries_count p Good d r b s v (gone + 1) n good in
    let top : powers r (gone + 1) ≤ powers r (gone + suc n) = let h = powers_mono r (gone + 1) n in let e =
    ap (powers r) (let q : gone + 1 + n ≡ gone + suc n = omega arith in q) in omega arith in
    let e = ap (λ k. n * (d * powers r k)) (let q : gone + 1 + n ≡ gone + suc n = omega arith in q) in
    let more = mul-le-mul_left d top in
    omega (arith, length-append (map (try_at gone) cs) (tries_from p s v (gone + 1) n), length-map cs (try_at gone))

-- how many tries stand before one
record Stands (d r gone : ℕ) (pre : List Try) (x : Try) : Type 0 where
  from : gone ≤ x.gone
  count : length pre ≤ (x.gone + 1 - gone) * (d * powers r (x.gone + 1))

tries_place : (p : Parts) (Good : State → Type 0) (d r : ℕ) → AreBounded p Good d r → (s : State) (v gone n : ℕ)
    → Good s → (pre : List Try) (x : Try) (post : List Try)
    → tries_from p s v gone n ≡ pre ++ (x ∷ post) → Stands d r gone pre x
unfolding tries_from
tries_place p Good d r b s v gone zero good [] x post e = absurd (let q : ⊥ = cc in q)
tries_place p Good d r b s v gone zero good (y ∷ pre) x post e = absurd (let q : ⊥ = cc in q)
tries_place p Good d r b s v gone (suc n) good pre x post e =
    let cs = chains p s v (gone + 1) in
    let one = chains_count p Good d r b s v (gone + 1) good in
    elim (place_of (map (try_at gone) cs) (tries_from p s v (gone + 1) n) pre x post e) [
      | before a l ↦
          let q = among_map gone x cs a in
          let same : x.gone ≡ gone = ap (λ y. y.gone) q.2 in
          record {
            from = omega arith;
            count = let w = ap (λ k. (k + 1 - gone) * (d * powers r (k + 1))) same in
                let u = ap (λ k. k * (d * powers r (gone + 1))) (let z : gone + 1 - gone ≡ 1 = omega arith in z) in
                omega (arith, length-map cs (try_at gone));
          }
      | behind more f g ↦
          let rest = tries_place p Good d r b s v (gone + 1) n good more x post g in
          let up = rest.from in
          let low : powers r (gone + 1) ≤ powers r (x.gone + 1) =
          let h = powers_mono r (gone + 1) (x.gone - gone) in let z =
          ap (powers r) (let q : gone + 1 + (x.gone - gone) ≡ x.gone + 1 = omega arith in q) in omega arith in
          let grown = mul-le-mul_left d low in
          let k = ap length f in
          let step = ap (λ k. k * (d * powers r (x.gone + 1)))
          (let q : x.gone + 1 - gone ≡ x.gone + 1 - (gone + 1) + 1 = omega arith in q) in
          let few = rest.count in
          record {
            from = omega arith;
            count = omega (
              arith,
              length-append (map (try_at gone) cs) more,
              length-map cs
                  (try_at gone),
            );
          }
    ]

run_within : (p : Parts) (Good : State → Type 0) (d r : ℕ) → AreBounded p Good d r
    → (depth v n a t : ℕ) (s : State) (pre xs : List Try) → Good s
    → tries_from p s v 0 depth ≡ pre ++ xs → t ≤ a * most d r depth + length pre
    → IsWithin d r depth (run p depth v n a t s xs).outcome
unfolding run most
run_within p Good d r b depth v zero a t s pre [] good e l = tt
run_within p Good d r b depth v zero a t s pre (x ∷ xs) good e l =
    at (tries_place p Good d r b s v 0 depth good pre x xs e)
  where
    at : Stands d r 0 pre x → t ≤ a * most d r depth + most d r (x.gone + 1)
    at h = let q = h.count in let z = ap (λ k. k * (d * powers r (x.gone + 1)))
        (let w : x.gone + 1 - 0 ≡ x.gone + 1 = omega arith in w) in omega arith
run_within p Good d r b depth v (suc n) a t s pre [] good e l = tt
run_within p Good d r b depth v (suc n) a t s pre (x ∷ xs) good e l =
    by (are_lower (totals_at p x.state) (totals_at p s))
    (run_within p Good d r b depth v n (a + 1) (t + 1) x.state [] (tries_from p x.state v 0 depth) next refl
    (taken (tries_count p Good d r b s v 0 depth good)))
    (run_within p Good d r b depth v n a (t + 1) s (pre ++ (x ∷ [])) xs good (e ∙ sym (append_assoc pre (x ∷ []) xs))
    (omega (arith, length-append pre (x ∷ []))))
  where
    next : Good x.state
    next = tries_good p Good b.onward s v 0 depth good x
        (let P : List Try → Type 0 = λ ys. Among x ys in subst P (sym e) (there pre))
      where
        there : (ys : List Try) → Among x (ys ++ (x ∷ xs))
        there [] = inl refl
        there (y ∷ ys) = inr (there ys)

    taken : length (tries_from p s v 0 depth) ≤ depth * (d * powers r (0 + depth))
        → t + 1 ≤ (a + 1) * most d r depth + length {A = Try} []
    taken h =
        let q = ap length e in let z = ap (λ k. depth * (d * powers r k))
        (let w : 0 + depth ≡ depth = omega arith in w) in
        let g : t + 1 ≤ a * (depth * (d * powers r depth)) + length (tries_from p s v 0 depth) =
        omega (arith, length-append pre (x ∷ xs)) in
        omega arith

    by : (c : Bool) → IsWithin d r depth (run p depth v n (a + 1) (t + 1) x.state
        (tries_from p x.state v 0 depth)).outcome → IsWithin d r depth (run p depth v n a (t + 1) s xs).outcome
        → IsWithin d r depth (cond c (run p depth v n (a + 1) (t + 1) x.state (tries_from p x.state v 0 depth))
        (run p depth v n a (t + 1) s xs)).outcome
    by true f g = f
    by false f g = g

pub repaired_within : (p : Parts) (Good : State → Type 0) (d r : ℕ) → AreBounded p Good d r
    → (s : State) (depth b v : ℕ) → Good s → IsWithin d r depth (repaired p s depth b v).outcome
unfolding repaired
repaired_within p Good d r bound s depth b v good =
    run_within p Good d r bound depth v b 0 0 s [] (tries_from p s v 0 depth) good refl (omega arith)
