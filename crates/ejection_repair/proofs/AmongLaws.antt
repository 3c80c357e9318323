-- What stands among the elements of a list.
use Rattle.std.proofs.Common.{ℕ, zero, suc, ◌≡◌, ◌≤◌, ◌%◌, ◌⊎◌, inl, inr, Bool, true, false, cond, List, [], ◌∷◌, ◌++◌}
use Rattle.std.proofs.Common.{map, length, take, drop, refl, ap, ◌∙◌, sym, subst, arith}
use Rattle.std.specs.List.{filter, flat_map}
use Rattle.std.proofs.lemmas.List.{take-append-drop}
use Rattle.ejection_repair.specs.Chains.{Chain, rotated}
use Rattle.ejection_repair.specs.Repaired.{Try, try_at}
use Rattle.ejection_repair.specs.Settled.{Among}

pub among_left : {A : Type 0} (x : A) (xs ys : List A) → Among x xs → Among x (xs ++ ys)
among_left x [] ys h = absurd h
among_left x (y ∷ xs) ys (inl e) = inl e
among_left x (y ∷ xs) ys (inr h) = inr (among_left x xs ys h)

pub among_right : {A : Type 0} (x : A) (xs ys : List A) → Among x ys → Among x (xs ++ ys)
among_right x [] ys h = h
among_right x (y ∷ xs) ys h = inr (among_right x xs ys h)

pub among_flat : {A B : Type 0} (f : A → List B) (x : A) (y : B) (xs : List A) → Among x xs → Among y (f x)
    → Among y (flat_map f xs)
among_flat f x y [] h k = absurd h
among_flat {A = A} f x y (z ∷ xs) (inl e) k = let P : A
    → Type 0 = λ w. Among y (f w) in among_left y (f z) (flat_map f xs) (subst P e k)
among_flat f x y (z ∷ xs) (inr h) k = among_right y (f z) (flat_map f xs) (among_flat f x y xs h k)

pub among_filter : {A : Type 0} (p : A → Bool) (x : A) (xs : List A) → Among x xs → p x ≡ true → Among x (filter p xs)
among_filter p x [] h k = absurd h
among_filter p x (z ∷ xs) (inl e) k =
    let t : p z ≡ true = ap p (sym e) ∙ k in
    let P : Bool → Type 0 = λ b. Among x (cond b (z ∷ filter p xs) (filter p xs)) in subst P (sym t) (inl e)
among_filter p x (z ∷ xs) (inr h) k = by (p z) (among_filter p x xs h k)
  where
    by : (b : Bool) → Among x (filter p xs) → Among x (cond b (z ∷ filter p xs) (filter p xs))
    by true g = inr g
    by false g = g

pub among_parts : {A : Type 0} (x : A) (n : ℕ) (xs : List A) → Among x xs → Among x (drop n xs ++ take n xs)
among_parts x zero xs h = among_left x xs [] h
among_parts x (suc n) [] h = absurd h
among_parts x (suc n) (y ∷ xs) (inl e) = among_right x (drop n xs) (y ∷ take n xs) (inl e)
among_parts {A = A} x (suc n) (y ∷ xs) (inr h) = within (drop n xs) (take n xs) (among_parts x n xs h)
  where
    within : (ws bs : List A) → Among x (ws ++ bs) → Among x (ws ++ (y ∷ bs))
    within [] bs g = inr g
    within (w ∷ ws) bs (inl e) = inl e
    within (w ∷ ws) bs (inr g) = inr (within ws bs g)

pub among_rotated : {A : Type 0} (x : A) (v : ℕ) (xs : List A) → Among x xs → Among x (rotated v xs)
unfolding rotated
among_rotated x v xs h = among_parts x (v % length xs) xs h

-- an element of joined lists comes from one of them
pub record Source {A B : Type 0} (f : A → List B) (y : B) (xs : List A) : Type 0 where
  pub at : A
  pub there : Among at xs
  pub gives : Among y (f at)

pub among_split : {A : Type 0} (x : A) (xs ys : List A) → Among x (xs ++ ys) → Among x xs ⊎ Among x ys
among_split x [] ys h = inr h
among_split x (y ∷ xs) ys (inl e) = inl (inl e)
among_split x (y ∷ xs) ys (inr h) = elim (among_split x xs ys h) [ inl g ↦ inl (inr g) | inr g ↦ inr g ]

pub source : {A B : Type 0} (f : A → List B) (y : B) (xs : List A) → Among y (flat_map f xs) → Source f y xs
source f y [] h = absurd h
source f y (x ∷ xs) h = elim (among_split y (f x) (flat_map f xs) h) [
  | inl g ↦ record { at = x; there = inl refl; gives = g }
  | inr g ↦ let r = source f y xs g in record { at = r.at; there = inr r.there; gives = r.gives }
]

pub filter_among : {A : Type 0} (p : A → Bool) (x : A) (xs : List A) → Among x (filter p xs) → Among x xs
filter_among p x [] h = h
filter_among p x (y ∷ xs) h = by (p y) (filter_among p x xs) h
  where
    by : (b : Bool) → (Among x (filter p xs) → Among x xs) → Among x (cond b (y ∷ filter p xs) (filter p xs))
        → Among x (y ∷ xs)
    by true r (inl e) = inl e
    by true r (inr g) = inr (r g)
    by false r g = inr (r g)

pub rotated_among : {A : Type 0} (x : A) (v : ℕ) (xs : List A) → Among x (rotated v xs) → Among x xs
unfolding rotated
rotated_among {A = A} x v xs h =
    let n = v % length xs in
    let P : List A → Type 0 = λ ys. Among x ys in
    subst P (take-append-drop n xs) (swap (drop n xs) (take n xs) (among_split x (drop n xs) (take n xs) h))
  where
    left : (ys zs : List A) → Among x ys → Among x (ys ++ zs)
    left [] zs g = absurd g
    left (y ∷ ys) zs (inl e) = inl e
    left (y ∷ ys) zs (inr g) = inr (left ys zs g)

    right : (ys zs : List A) → Among x zs → Among x (ys ++ zs)
    right [] zs g = g
    right (y ∷ ys) zs g = inr (right ys zs g)

    swap : (ys zs : List A) → Among x ys ⊎ Among x zs → Among x (zs ++ ys)
    swap ys zs (inl g) = right zs ys g
    swap ys zs (inr g) = left zs ys g

-- where an element stands in two lists that are joined
pub data Place {A : Type 0} (xs ys pre : List A) (x : A) (post : List A) : Type 0 where
  before : Among x xs → length pre ≤ length xs → Place xs ys pre x post
  behind : (more : List A) → pre ≡ xs ++ more → ys ≡ more ++ (x ∷ post) → Place xs ys pre x post

pub place_of : {A : Type 0} (xs ys pre : List A) (x : A) (post : List A) → xs ++ ys ≡ pre ++ (x ∷ post)
    → Place xs ys pre x post
place_of [] ys pre x post e = behind pre refl e
place_of (z ∷ xs) ys [] x post e = before (inl (let q : x ≡ z = cc in q)) (omega arith)
place_of (z ∷ xs) ys (w ∷ pre) x post e =
    elim (place_of xs ys pre x post (let q : xs ++ ys ≡ pre ++ (x ∷ post) = cc in q)) [
      | before a l ↦ before (inr a) (omega arith)
      | behind more f g ↦ behind more (let q : w ≡ z = cc in ap (λ y. y ∷ pre) q ∙ ap (λ l. z ∷ l) f) g
    ]

pub among_map : (gone : ℕ) (x : Try) (cs : List Chain) → Among x (map (try_at gone) cs)
    → (c : Chain) × Among c cs × (x ≡ try_at gone c)
among_map gone x [] h = absurd h
among_map gone x (c ∷ cs) (inl e) = (c, inl refl, e)
among_map gone x (c ∷ cs) (inr h) = let r = among_map gone x cs h in (r.0, inr r.1, r.2)
