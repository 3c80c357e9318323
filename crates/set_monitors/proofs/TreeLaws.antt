-- The first node is the least of the last half.
use Rattle.std.proofs.Common.{ℕ, ◌≡◌, ◌≤◌, ◌<◌, ◌+◌, ◌-◌, ◌*◌, ◌/◌, ◌∙◌, zero, suc, min, List, [], ◌∷◌, Some, length}
use Rattle.std.proofs.Common.{set, get_or, slice_index, slice_get, drop, get_or-drop, length-drop, refl, sym, ap, subst}
use Rattle.std.proofs.Common.{arith, ◌⊎◌, inl, inr, fold}
use Rattle.std.proofs.lemmas.Bool.{cases_eq, cases_lt}
use Rattle.std.proofs.lemmas.List.{get_or-set_same, get_or-set_other}
use Rattle.std.proofs.lemmas.Option.{slice_get-get_or, none-some, same_Some}
use Rattle.set_monitors.specs.LeastTrees.{IsNode, IsMended, IsTree}

module _ (size : ℕ) (nodes : List ℕ) (tree : (j : ℕ) → 1 ≤ j → j < size → IsNode nodes j) where
  first_below : (n j : ℕ) → j ≤ n → 1 ≤ j → j < 2 * size → slice_index nodes 1 ≤ slice_index nodes j
  first_below zero j a b c = absurd (omega arith)
  first_below (suc n) j a b c = by (cases_lt 1 j)
      (λ l. first_below n (j / 2) (omega (arith, l, a)) (omega (arith, l)) (omega (arith, c)))
    where
      by : (1 < j) ⊎ (j ≤ 1) → (1 < j → slice_index nodes 1 ≤ slice_index nodes (j / 2))
          → slice_index nodes 1 ≤ slice_index nodes j
      by (inr l) r = let e : j ≡ 1 = omega (arith, l, b) in
          subst (λ k. slice_index nodes 1 ≤ slice_index nodes k) (sym e) (omega arith)
      by (inl l) r =
          let h = tree (j / 2) (omega (arith, l)) (omega (arith, c)) in
          let q = r l in
          half (cases_eq j (2 * (j / 2))) h q
        where
          half : (j ≡ 2 * (j / 2)) ⊎ (j ≡ 2 * (j / 2) → ⊥) → IsNode nodes (j / 2)
              → slice_index nodes 1 ≤ slice_index nodes (j / 2) → slice_index nodes 1 ≤ slice_index nodes j
          half (inl e) h q = let s = ap (slice_index nodes) e in omega (arith, s, h, q)
          half (inr n) h q = let e : j ≡ 2 * (j / 2) + 1 = omega (arith, n) in let s = ap (slice_index nodes) e in
              omega (arith, s, h, q)

  abbrev Found : ℕ → Type 0
  Found j = (k : ℕ) × (size ≤ k) × (k < 2 * size) × (slice_index nodes k ≡ slice_index nodes j)

  attained : (n i : ℕ) → 2 * size ≤ i + n → 1 ≤ i → i < 2 * size
      → (k : ℕ) × (size ≤ k) × (k < 2 * size) × (slice_index nodes k ≡ slice_index nodes i)
  attained zero i a b c = absurd (omega arith)
  attained (suc n) i a b c = by (cases_lt i size)
      (λ l. attained n (2 * i) (omega (arith, a, b)) (omega (arith, b)) (omega (arith, l)))
      (λ l. attained n (2 * i + 1) (omega (arith, a, b)) (omega arith) (omega (arith, l)))
    where
      pick : Found (2 * i) → Found (2 * i + 1) → IsNode nodes i
          → (slice_index nodes (2 * i) < slice_index nodes (2 * i + 1))
          ⊎ (slice_index nodes (2 * i + 1) ≤ slice_index nodes (2 * i)) → Found i
      pick x y h (inl l) = (
        x.0,
        x.1,
        x.2,
        x.3 ∙ (let z : slice_index nodes (2 * i) ≡ slice_index nodes i =
            omega (arith, h, l) in z),
      )
      pick x y h (inr l) = (
        y.0,
        y.1,
        y.2,
        y.3 ∙ (let z : slice_index nodes (2 * i + 1) ≡ slice_index nodes i =
            omega (arith, h, l) in z),
      )

      by : (i < size) ⊎ (size ≤ i) → (i < size → Found (2 * i)) → (i < size → Found (2 * i + 1)) → Found i
      by (inr l) f g = (i, l, c, refl)
      by (inl l) f g = pick (f l) (g l) (tree i b l)
          (cases_lt (slice_index nodes (2 * i)) (slice_index nodes (2 * i + 1)))

  pub least_below : (k : ℕ) → size ≤ k → k < 2 * size → slice_index nodes 1 ≤ slice_index nodes k
  least_below k a b = first_below k k (omega arith) (omega (arith, a, b)) b

  pub least_there : 1 ≤ size → (k : ℕ) × (size ≤ k) × (k < 2 * size) × (slice_index nodes k ≡ slice_index nodes 1)
  least_there l = attained (2 * size) 1 (omega arith) (omega arith) (omega (arith, l))

-- one node mended
pub mended_one : (size : ℕ) (nodes : List ℕ) (i v : ℕ) → length nodes ≡ 2 * size → 1 < i → i < 2 * size
    → IsMended size nodes i
    → v ≡ min (slice_index nodes (2 * (i / 2))) (slice_index nodes (2 * (i / 2) + 1))
    → IsMended size (set nodes (i / 2) v) (i / 2)
mended_one size nodes i v room low high m is j a b n = by (cases_eq (i / 2) j)
  where
    p : ℕ
    p = i / 2

    other : (k : ℕ) → (k ≡ i / 2 → ⊥) → slice_index (set nodes (i / 2) v) k ≡ slice_index nodes k
    other k o = get_or-set_other nodes (i / 2) k v 0 o

    by : (i / 2 ≡ j) ⊎ (i / 2 ≡ j → ⊥) → IsNode (set nodes (i / 2) v) j
    by (inl e) =
        let x = other (2 * j) (λ o. omega (arith, o, e, a)) in
        let y = other (2 * j + 1) (λ o. omega (arith, o, e, a)) in
        let z : slice_index (set nodes (i / 2) v) j ≡ v =
        ap (slice_index (set nodes (i / 2) v)) (sym e)
        ∙ get_or-set_same nodes (i / 2) v 0 (omega (arith, room, high, low)) in
        let w : v ≡ min (slice_index nodes (2 * j)) (slice_index nodes (2 * j + 1)) =
        is ∙ ap (λ k. min (slice_index nodes (2 * k)) (slice_index nodes (2 * k + 1))) e in
        omega (arith, x, y, z, w)
    by (inr e) =
        let x = other (2 * j) (λ o. n (omega (arith, o))) in
        let y = other (2 * j + 1) (λ o. n (omega (arith, o))) in
        let z = other j (λ o. e (sym o)) in
        let w = m j a b (λ o. e (sym o)) in
        omega (arith, x, y, z, w)

get_or_any : (xs : List ℕ) (i a b : ℕ) → i < length xs → get_or xs i a ≡ get_or xs i b
get_or_any [] i a b l = absurd (omega arith)
get_or_any (x ∷ xs) zero a b l = refl
get_or_any (x ∷ xs) (suc i) a b l = get_or_any xs i a b (omega arith)

-- of the list of leaves
pub list_below : (size : ℕ) (nodes xs : List ℕ) (v : ℕ) → IsTree size nodes → drop size nodes ≡ xs
    → v ≡ get_or nodes 1 v → (k : ℕ) → k < length xs → v ≤ slice_index xs k
list_below size nodes xs v tree is at k l =
    let long : length xs ≡ size = ap length (sym is) ∙ length-drop size nodes
    ∙ (let r = tree.room in omega (arith, r)) in
    let here : slice_index xs k ≡ slice_index nodes (size + k) =
    ap (λ ys. get_or ys k 0) (sym is) ∙ get_or-drop size nodes k 0 in
    let b = least_below size nodes tree.nodes_are (size + k) (omega arith) (omega (arith, long, l)) in
    let first : v ≡ slice_index nodes 1 = at ∙ get_or_any nodes 1 v 0
    (let r = tree.room in omega (arith, r, long, l)) in
    omega (arith, first, here, b)

pub list_there : (size : ℕ) (nodes xs : List ℕ) (v : ℕ) → IsTree size nodes → drop size nodes ≡ xs
    → v ≡ get_or nodes 1 v → 0 < length xs → (k : ℕ) × (slice_get xs k ≡ Some v)
list_there size nodes xs v tree is at l =
    let long : length xs ≡ size = ap length (sym is) ∙ length-drop size nodes
    ∙ (let r = tree.room in omega (arith, r)) in
    let found = least_there size nodes tree.nodes_are (omega (arith, long, l)) in
    let k = found.0 in
    let low = found.1 in
    let high = found.2 in
    let first : v ≡ slice_index nodes 1 = at ∙ get_or_any nodes 1 v 0
    (let r = tree.room in omega (arith, r, long, l)) in
    let place : size + (k - size) ≡ k = omega (arith, low) in
    let here : slice_index xs (k - size) ≡ v = ap (λ ys. get_or ys (k - size) 0) (sym is)
    ∙ get_or-drop size nodes (k - size) 0 ∙ ap (slice_index nodes) place ∙ found.3 ∙ sym first in
    (k - size, slice_get-get_or xs (k - size) 0 (omega (arith, long, low, high)) ∙ ap Some here)

fold_least : (n v : ℕ) (xs : List ℕ) → v ≤ n → ((k : ℕ) → k < length xs → v ≤ slice_index xs k)
    → ((k : ℕ) × (slice_get xs k ≡ Some v)) ⊎ (n ≡ v) → fold min n xs ≡ v
fold_least n v [] low all (inl h) = absurd (none-some v h.1)
fold_least n v [] low all (inr e) = e
fold_least n v (x ∷ xs) low all o =
    let a = all zero (omega arith) in
    fold_least (min n x) v xs (omega (arith, low, a)) (λ k l. all (suc k) (omega (arith, l))) (by o a)
  where
    by : ((k : ℕ) × (slice_get (x ∷ xs) k ≡ Some v)) ⊎ (n ≡ v) → v ≤ x
        → ((k : ℕ) × (slice_get xs k ≡ Some v)) ⊎ (min n x ≡ v)
    by (inr e) a = inr (let z : min n x ≡ v = omega (arith, e, a) in z)
    by (inl h) a = at h.0 h.1
      where
        at : (k : ℕ) → slice_get (x ∷ xs) k ≡ Some v → ((k : ℕ) × (slice_get xs k ≡ Some v)) ⊎ (min n x ≡ v)
        at zero g = let e = same_Some x v g in inr (let z : min n x ≡ v = omega (arith, e, low) in z)
        at (suc k) g = inl (k, g)

-- node 1 is the least of the leaves
pub least_of_leaves : (size : ℕ) (nodes xs : List ℕ) (n v : ℕ) → IsTree size nodes → drop size nodes ≡ xs
    → v ≡ get_or nodes 1 v → v ≤ n → (size ≡ 0 → ⊥) → v ≡ fold min n xs
least_of_leaves size nodes xs n v tree is at low some =
    let long : length xs ≡ size = ap length (sym is) ∙ length-drop size nodes
    ∙ (let r = tree.room in omega (arith, r)) in
    sym (fold_least n v xs low (list_below size nodes xs v tree is at)
    (inl (list_there size nodes xs v tree is at (omega (arith, long, some)))))

-- where there is none
pub least_of_none : (size : ℕ) (nodes xs : List ℕ) (n : ℕ) → IsTree size nodes → drop size nodes ≡ xs → size ≡ 0
    → n ≡ fold min n xs
least_of_none size nodes xs n tree is e =
    let long : length xs ≡ 0 = ap length (sym is) ∙ length-drop size nodes
    ∙ (let r = tree.room in omega (arith, r, e)) in
    by xs long
  where
    by : (xs : List ℕ) → length xs ≡ 0 → n ≡ fold min n xs
    by [] l = refl
    by (x ∷ xs) l = absurd (omega (arith, l))
