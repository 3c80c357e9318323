-- Numbers in a row, one of which is put before the first or taken out.
use Rattle.std.proofs.Common.{ℕ, [], ◌∷◌, ◌≡◌, ◌≢◌, ◌+◌, ◌<◌, ◌≤◌, ◌⊎◌, inl, inr, true, false, Bool, cond, List, length}
use Rattle.std.proofs.Common.{refl, sym, ap, subst, ◌∙◌, arith, set, get_or, get_or-set_same, get_or-set_other}
use Rattle.std.specs.Prelude.{◌==◌}
use Rattle.std.proofs.lemmas.List.{length-set}
use Rattle.std.proofs.lemmas.Bool.{eq-eqb, ltb-false, ltb-true, ne_eqb}
use Rattle.std.proofs.Math.Dec.{ltb}
use Rattle.khe_solution.proofs.Basics.{cases_eq}
use Rattle.followers.specs.Links.{IsRow, occurs, without}

abbrev one_if : Bool → ℕ
one_if b = cond b 1 0

pub occurs_here : (k x : ℕ) (xs : List ℕ) → x ≡ k → occurs k (x ∷ xs) ≡ 1 + occurs k xs
occurs_here k x xs e = ap (λ b. one_if b + occurs k xs) (eq-eqb x k e)

pub occurs_not : (k x : ℕ) (xs : List ℕ) → x ≢ k → occurs k (x ∷ xs) ≡ occurs k xs
occurs_not k x xs d = let e : occurs k (x ∷ xs) ≡ 0 + occurs k xs = ap (λ b. one_if b + occurs k xs) (ne_eqb x k d) in
    omega (arith, e)

-- a number that is in the rest is in the list
pub later_in : (k x : ℕ) (xs : List ℕ) → occurs k xs ≤ occurs k (x ∷ xs)
later_in k x xs = by (cases_eq x k)
  where
    by : (x ≡ k) ⊎ (x ≡ k → ⊥) → occurs k xs ≤ occurs k (x ∷ xs)
    by (inl e) = let h = occurs_here k x xs e in omega (arith, h)
    by (inr d) = let h = occurs_not k x xs d in omega (arith, h)

-- no number is there twice
abbrev pub AreApart : List ℕ → Type 0
AreApart xs = (k : ℕ) → occurs k xs ≤ 1

apart_later : (x : ℕ) (xs : List ℕ) → AreApart (x ∷ xs) → AreApart xs
apart_later x xs a k = let h = later_in k x xs in let i = a k in omega (arith, h, i)

pub apart_first : (x : ℕ) (xs : List ℕ) → AreApart (x ∷ xs) → occurs x xs ≡ 0
apart_first x xs a = let h = occurs_here x x xs refl in let i = a x in omega (arith, h, i)

-- a number that is in the rest is not the first
pub not_first : (k x : ℕ) (xs : List ℕ) → AreApart (x ∷ xs) → occurs k xs ≢ 0 → k ≢ x
not_first k x xs a o e = o (ap (λ n. occurs n xs) e ∙ apart_first x xs a)

-- a row whose numbers lead where they led
pub row_same : (next prev next2 prev2 : List ℕ) (n b at : ℕ) (xs : List ℕ)
    → ((k : ℕ) → occurs k xs ≢ 0 → get_or next2 k 0 ≡ get_or next k 0)
    → ((k : ℕ) → occurs k xs ≢ 0 → get_or prev2 k 0 ≡ get_or prev k 0) → IsRow next prev n b at xs
    → IsRow next2 prev2 n b at xs
row_same next prev next2 prev2 n b at [] f g r = r
row_same next prev next2 prev2 n b at (x ∷ xs) f g r = (
  r.0,
  r.1,
  g x here ∙ r.2,
  subst (λ y. IsRow next2 prev2 n x y xs) (sym (f x here))
      (row_same next prev next2 prev2 n x (get_or next x 0) xs (λ k o. f k (past k o)) (λ k o. g k (past k o)) r.3),
)
  where
    here : occurs x (x ∷ xs) ≢ 0
    here e = let h = occurs_here x x xs refl in omega (arith, h, e)

    past : (k : ℕ) → occurs k xs ≢ 0 → occurs k (x ∷ xs) ≢ 0
    past k o e = o (let h = later_in k x xs in omega (arith, h, e))

-- what stands in a row is below n
pub row_below : (next prev : List ℕ) (n b at : ℕ) (xs : List ℕ) (k : ℕ) → IsRow next prev n b at xs
    → occurs k xs ≢ 0 → k < n
row_below next prev n b at [] k r o = absurd (o refl)
row_below next prev n b at (x ∷ xs) k r o = by (row_below next prev n x (get_or next x 0) xs k r.3) (cases_eq x k)
  where
    by : (occurs k xs ≢ 0 → k < n) → (x ≡ k) ⊎ (x ≡ k → ⊥) → k < n
    by later (inl e) = subst (λ y. y < n) e r.1
    by later (inr d) = later (λ e. o (occurs_not k x xs d ∙ e))

-- the first number is n or in the row
pub row_first : (next prev : List ℕ) (n b at : ℕ) (xs : List ℕ) → IsRow next prev n b at xs
    → (at ≡ n) ⊎ (occurs at xs ≢ 0)
row_first next prev n b at [] r = inl r
row_first next prev n b at (x ∷ xs) r = inr (λ e. let h = occurs_here at x xs (sym r.0) in omega (arith, h, e))

-- so are the next of a number in it, and the one before it but for the first
pub next_in : (next prev : List ℕ) (n b at : ℕ) (xs : List ℕ) (f : ℕ) → IsRow next prev n b at xs → occurs f xs ≢ 0
    → (get_or next f 0 ≡ n) ⊎ (occurs (get_or next f 0) xs ≢ 0)
next_in next prev n b at [] f r o = absurd (o refl)
next_in next prev n b at (x ∷ xs) f r o = by (next_in next prev n x (get_or next x 0) xs f r.3) (cases_eq x f)
  where
    past : (k : ℕ) → (k ≡ n) ⊎ (occurs k xs ≢ 0) → (k ≡ n) ⊎ (occurs k (x ∷ xs) ≢ 0)
    past k (inl e) = inl e
    past k (inr o) = inr (λ e. o (let h = later_in k x xs in omega (arith, h, e)))

    by : (occurs f xs ≢ 0 → (get_or next f 0 ≡ n) ⊎ (occurs (get_or next f 0) xs ≢ 0)) → (x ≡ f) ⊎ (x ≡ f → ⊥)
        → (get_or next f 0 ≡ n) ⊎ (occurs (get_or next f 0) (x ∷ xs) ≢ 0)
    by later (inl e) = past (get_or next f 0)
        (subst (λ y. (get_or next y 0 ≡ n) ⊎ (occurs (get_or next y 0) xs ≢ 0)) e
        (row_first next prev n x (get_or next x 0) xs r.3))
    by later (inr d) = past (get_or next f 0) (later (λ e. o (occurs_not f x xs d ∙ e)))

prev_in : (next prev : List ℕ) (n b at : ℕ) (xs : List ℕ) (f : ℕ) → IsRow next prev n b at xs → occurs f xs ≢ 0
    → (at ≡ f) ⊎ (occurs (get_or prev f 0) xs ≢ 0)
prev_in next prev n b at [] f r o = absurd (o refl)
prev_in next prev n b at (x ∷ xs) f r o = by (prev_in next prev n x (get_or next x 0) xs f r.3) (cases_eq x f)
  where
    by : (occurs f xs ≢ 0 → (get_or next x 0 ≡ f) ⊎ (occurs (get_or prev f 0) xs ≢ 0)) → (x ≡ f) ⊎ (x ≡ f → ⊥)
        → (at ≡ f) ⊎ (occurs (get_or prev f 0) (x ∷ xs) ≢ 0)
    by later (inl e) = inl (r.0 ∙ e)
    by later (inr d) = way xs r.3 (λ e. o (occurs_not f x xs d ∙ e)) (later (λ e. o (occurs_not f x xs d ∙ e)))
      where
        way : (ys : List ℕ) → IsRow next prev n x (get_or next x 0) ys → occurs f ys ≢ 0
            → (get_or next x 0 ≡ f) ⊎ (occurs (get_or prev f 0) ys ≢ 0)
            → (at ≡ f) ⊎ (occurs (get_or prev f 0) (x ∷ ys) ≢ 0)
        way [] r o h = absurd (o refl)
        way (y ∷ ys) r o (inr h) = inr (λ z. h (let i = later_in (get_or prev f 0) x (y ∷ ys) in omega (arith, i, z)))
        way (y ∷ ys) r o (inl e) = inr (λ z.
            let p : get_or prev f 0 ≡ x = ap (λ k. get_or prev k 0) (sym e ∙ r.0) ∙ r.2 in
            let h = occurs_here (get_or prev f 0) x (y ∷ ys) (sym p) in omega (arith, h, z))

-- a number that is put before the first
pub row_pushed : (next prev : List ℕ) (n at f : ℕ) (xs : List ℕ) → f < n → length next ≡ n → length prev ≡ n
    → occurs f xs ≡ 0 → AreApart xs → IsRow next prev n n at xs
    → IsRow (set next f at) (set (set prev f n) at f) n n f (f ∷ xs)
row_pushed next prev n at f xs l ln lp o a r = (
  refl,
  l,
  get_or-set_other (set prev f n) at f f 0 (apart (row_first next prev n n at xs r))
      ∙ get_or-set_same prev f n 0 (omega (arith, l, lp)),
  subst (λ y. IsRow next2 prev2 n f y xs) (sym (get_or-set_same next f at 0 (omega (arith, l, ln)))) (by xs o a r),
)
  where
    next2 : List ℕ
    next2 = set next f at

    prev2 : List ℕ
    prev2 = set (set prev f n) at f

    apart : (at ≡ n) ⊎ (occurs at xs ≢ 0) → f ≢ at
    apart (inl e) z = omega (arith, l, e, z)
    apart (inr d) z = d (ap (λ k. occurs k xs) (sym z) ∙ o)

    not_f : (ys : List ℕ) → occurs f ys ≡ 0 → (k : ℕ) → occurs k ys ≢ 0 → k ≢ f
    not_f ys o k d z = d (ap (λ j. occurs j ys) z ∙ o)

    by : (ys : List ℕ) → occurs f ys ≡ 0 → AreApart ys → IsRow next prev n n at ys → IsRow next2 prev2 n f at ys
    by [] o a r = r
    by (y ∷ ys) o a r =
        let long : length (set prev f n) ≡ length prev = length-set prev f n in
        let e = r.0 in
        let m = r.1 in
        let own : y ≢ f = not_f (y ∷ ys) o y (λ z. let h = occurs_here y y ys refl in omega (arith, h, z)) in
        let rest : occurs f ys ≡ 0 = let h = later_in f y ys in omega (arith, h, o) in (
          r.0,
          r.1,
          ap (λ k. get_or prev2 k 0) (sym r.0) ∙ get_or-set_same (set prev f n) at f 0 (omega (arith, long, lp, e, m)),
          subst (λ z. IsRow next2 prev2 n y z ys) (sym (get_or-set_other next f y at 0 own))
              (row_same next prev next2 prev2 n y (get_or next y 0) ys
              (λ k d. get_or-set_other next f k at 0 (not_f ys rest k d))
              (λ k d. get_or-set_other (set prev f n) at k f 0 (λ z. not_first k y ys a d (z ∙ e))
              ∙ get_or-set_other prev f k n 0 (not_f ys rest k d)) r.3),
        )

-- a number that is taken out: those before and after it lead to one another
pub record IsTaken (next prev next2 prev2 : List ℕ) (n f : ℕ) : Type 0 where
  pub next_other : (k : ℕ) → k ≢ get_or prev f 0 → get_or next2 k 0 ≡ get_or next k 0
  pub next_here : get_or prev f 0 < n → get_or next2 (get_or prev f 0) 0 ≡ get_or next f 0
  pub prev_other : (k : ℕ) → k ≢ get_or next f 0 → get_or prev2 k 0 ≡ get_or prev k 0
  pub prev_here : get_or next f 0 < n → get_or prev2 (get_or next f 0) 0 ≡ get_or prev f 0

-- where a row begins without it
abbrev pub skip : List ℕ → ℕ → ℕ → ℕ
skip next f at = cond (at == f) (get_or next f 0) at

-- the rest after a number that is taken out
row_joined : (next prev next2 prev2 : List ℕ) (n f b : ℕ) (ys : List ℕ) → IsTaken next prev next2 prev2 n f
    → get_or prev f 0 ≡ b → AreApart ys → occurs b ys ≡ 0 → IsRow next prev n f (get_or next f 0) ys
    → IsRow next2 prev2 n b (get_or next f 0) ys
row_joined next prev next2 prev2 n f b [] t e a o r = r
row_joined next prev next2 prev2 n f b (y ∷ ys) t e a o r =
    let g = r.0 in
    let m = r.1 in
    let own : y ≢ get_or prev f 0 = λ z. let h = occurs_here b y ys (z ∙ e) in omega (arith, h, o) in
    let rest : occurs b ys ≡ 0 = let h = later_in b y ys in omega (arith, h, o) in (
      r.0,
      r.1,
      ap (λ k. get_or prev2 k 0) (sym g) ∙ t.prev_here (omega (arith, g, m)) ∙ e,
      subst (λ z. IsRow next2 prev2 n y z ys) (sym (t.next_other y own))
          (row_same next prev next2 prev2 n y (get_or next y 0) ys
          (λ k d. t.next_other k (λ z. d (ap (λ j. occurs j ys) (z ∙ e) ∙ rest)))
          (λ k d. t.prev_other k (λ z. not_first k y ys a d (z ∙ g))) r.3),
    )

pub row_taken : (next prev next2 prev2 : List ℕ) (n f b at : ℕ) (xs : List ℕ) → IsTaken next prev next2 prev2 n f
    → AreApart xs → occurs f xs ≢ 0 → occurs b xs ≡ 0 → IsRow next prev n b at xs
    → IsRow next2 prev2 n b (skip next f at) (without f xs)
row_taken next prev next2 prev2 n f b at [] t a o z r = absurd (o refl)
row_taken next prev next2 prev2 n f b at (x ∷ xs) t a o z r =
    by (λ i own. row_taken next prev next2 prev2 n f x (get_or next x 0) xs t (apart_later x xs a) i own r.3) (cases_eq x f)
  where
    rest : occurs b xs ≡ 0
    rest = let h = later_in b x xs in omega (arith, h, z)

    by : (occurs f xs ≢ 0 → occurs x xs ≡ 0 → IsRow next2 prev2 n x (skip next f (get_or next x 0)) (without f xs))
        → (x ≡ f) ⊎ (x ≡ f → ⊥) → IsRow next2 prev2 n b (skip next f at) (without f (x ∷ xs))
    by later (inl e) =
        let start : skip next f at ≡ get_or next f 0 = ap (λ c. cond c (get_or next f 0) at) (eq-eqb at f (r.0 ∙ e)) in
        let list : without f (x ∷ xs) ≡ xs = ap (λ c. cond c xs (x ∷ without f xs)) (eq-eqb x f e) in
        subst (λ y. IsRow next2 prev2 n b y (without f (x ∷ xs))) (sym start)
        (subst (λ ys. IsRow next2 prev2 n b (get_or next f 0) ys) (sym list)
        (row_joined next prev next2 prev2 n f b xs t (ap (λ k. get_or prev k 0) (sym e) ∙ r.2) (apart_later x xs a) rest
        (subst (λ y. IsRow next prev n y (get_or next y 0) xs) e r.3)))
    by later (inr d) =
        let start : skip next f at ≡ at
        = ap (λ c. cond c (get_or next f 0) at) (ne_eqb at f (λ e. d (sym r.0 ∙ e))) in
        let list : without f (x ∷ xs) ≡ x ∷ without f xs
        = ap (λ c. cond c xs (x ∷ without f xs)) (ne_eqb x f d) in
        subst (λ y. IsRow next2 prev2 n b y (without f (x ∷ xs))) (sym start)
        (subst (λ ys. IsRow next2 prev2 n b at ys) (sym list) (
          r.0,
          r.1,
          t.prev_other x (away (next_in next prev n x (get_or next x 0) xs f r.3 inside)) ∙ r.2,
          subst (λ y. IsRow next2 prev2 n x y (without f xs)) (leads_on xs r.3 inside own)
              (later inside own),
        ))
      where
        inside : occurs f xs ≢ 0
        inside e = o (occurs_not f x xs d ∙ e)

        own : occurs x xs ≡ 0
        own = apart_first x xs a

        away : (get_or next f 0 ≡ n) ⊎ (occurs (get_or next f 0) xs ≢ 0) → x ≢ get_or next f 0
        away (inl e) w = let m = r.1 in omega (arith, m, e, w)
        away (inr q) w = q (ap (λ k. occurs k xs) (sym w) ∙ own)

        leads_on : (ys : List ℕ) → IsRow next prev n x (get_or next x 0) ys → occurs f ys ≢ 0 → occurs x ys ≡ 0
            → skip next f (get_or next x 0) ≡ get_or next2 x 0
        leads_on [] q i w = absurd (i refl)
        leads_on (y ∷ ys) q i w = way (cases_eq (get_or next x 0) f)
          where
            way : (get_or next x 0 ≡ f) ⊎ (get_or next x 0 ≡ f → ⊥)
                → skip next f (get_or next x 0) ≡ get_or next2 x 0
            way (inl e) =
                let p : get_or prev f 0 ≡ x = ap (λ k. get_or prev k 0) (sym e ∙ q.0) ∙ q.2 in
                let m = r.1 in
                ap (λ c. cond c (get_or next f 0) (get_or next x 0)) (eq-eqb (get_or next x 0) f e)
                ∙ sym (t.next_here (omega (arith, p, m))) ∙ ap (λ k. get_or next2 k 0) p
            way (inr g) = ap (λ c. cond c (get_or next f 0) (get_or next x 0)) (ne_eqb (get_or next x 0) f g)
                ∙ sym (t.next_other x (apart (prev_in next prev n x (get_or next x 0) (y ∷ ys) f q i)))
              where
                apart : (get_or next x 0 ≡ f) ⊎ (occurs (get_or prev f 0) (y ∷ ys) ≢ 0) → x ≢ get_or prev f 0
                apart (inl e) h = g e
                apart (inr j) h = j (ap (λ k. occurs k (y ∷ ys)) (sym h) ∙ w)

-- the number before one in a row that n begins is n or in the row
pub before_in : (next prev : List ℕ) (n b at : ℕ) (xs : List ℕ) (f : ℕ) → IsRow next prev n b at xs → occurs f xs ≢ 0
    → (get_or prev f 0 ≡ b) ⊎ (occurs (get_or prev f 0) xs ≢ 0)
before_in next prev n b at xs f r o = by xs r o (prev_in next prev n b at xs f r o)
  where
    by : (ys : List ℕ) → IsRow next prev n b at ys → occurs f ys ≢ 0
        → (at ≡ f) ⊎ (occurs (get_or prev f 0) ys ≢ 0) → (get_or prev f 0 ≡ b) ⊎ (occurs (get_or prev f 0) ys ≢ 0)
    by ys r o (inr q) = inr q
    by [] r o (inl e) = absurd (o refl)
    by (y ∷ ys) r o (inl e) = inl (ap (λ k. get_or prev k 0) (sym e ∙ r.0) ∙ r.2)

-- where the row of a leader begins after one of its followers is taken out
pub taken_first : (next prev : List ℕ) (n m l : ℕ) (first xs : List ℕ) (b : Bool) → ltb (get_or prev m 0) n ≡ b
    → IsRow next prev n n (get_or first l 0) xs → occurs m xs ≢ 0 → l < length first
    → skip next m (get_or first l 0) ≡ get_or (cond b first (set first l (get_or next m 0))) l 0
taken_first next prev n m l first xs true e r o i = by (cases_eq (get_or first l 0) m)
  where
    by : (get_or first l 0 ≡ m) ⊎ (get_or first l 0 ≡ m → ⊥) → skip next m (get_or first l 0) ≡ get_or first l 0
    by (inr d) = ap (λ c. cond c (get_or next m 0) (get_or first l 0)) (ne_eqb (get_or first l 0) m d)
    by (inl z) = absurd (head xs r o)
      where
        head : (ys : List ℕ) → IsRow next prev n n (get_or first l 0) ys → occurs m ys ≢ 0 → ⊥
        head [] r o = o refl
        head (y ∷ ys) r o =
            let p : get_or prev m 0 ≡ n = ap (λ k. get_or prev k 0) (sym z ∙ r.0) ∙ r.2 in
            let h = ltb-true (get_or prev m 0) n e in omega (arith, p, h)
taken_first next prev n m l first xs false e r o i = by (prev_in next prev n n (get_or first l 0) xs m r o)
    ∙ sym (get_or-set_same first l (get_or next m 0) 0 i)
  where
    by : (get_or first l 0 ≡ m) ⊎ (occurs (get_or prev m 0) xs ≢ 0) → skip next m (get_or first l 0) ≡ get_or next m 0
    by (inl z) = ap (λ c. cond c (get_or next m 0) (get_or first l 0)) (eq-eqb (get_or first l 0) m z)
    by (inr q) =
        let h = row_below next prev n n (get_or first l 0) xs (get_or prev m 0) r q in
        let g = ltb-false (get_or prev m 0) n e in
        absurd (omega (arith, h, g))

-- what stands in a list without a number
pub without_other : (f k : ℕ) (xs : List ℕ) → k ≢ f → occurs k (without f xs) ≡ occurs k xs
without_other f k [] d = refl
without_other f k (x ∷ xs) d = by (without_other f k xs d) (cases_eq x f)
  where
    by : occurs k (without f xs) ≡ occurs k xs → (x ≡ f) ⊎ (x ≡ f → ⊥) → occurs k (without f (x ∷ xs)) ≡ occurs k (x ∷ xs)
    by later (inl e) = ap (λ c. occurs k (cond c xs (x ∷ without f xs))) (eq-eqb x f e)
        ∙ sym (occurs_not k x xs (λ z. d (sym z ∙ e)))
    by later (inr n) = ap (λ c. occurs k (cond c xs (x ∷ without f xs))) (ne_eqb x f n)
        ∙ ap (λ j. one_if (x == k) + j) later

pub without_own : (f : ℕ) (xs : List ℕ) → occurs f xs ≢ 0 → occurs f (without f xs) + 1 ≡ occurs f xs
without_own f [] o = absurd (o refl)
without_own f (x ∷ xs) o = by (without_own f xs) (cases_eq x f)
  where
    by : (occurs f xs ≢ 0 → occurs f (without f xs) + 1 ≡ occurs f xs) → (x ≡ f) ⊎ (x ≡ f → ⊥) → occurs f (without f (x ∷ xs)) + 1 ≡ occurs f (x ∷ xs)
    by later (inl e) = let h = occurs_here f x xs e in
        let i : occurs f (without f (x ∷ xs)) ≡ occurs f xs
        = ap (λ c. occurs f (cond c xs (x ∷ without f xs))) (eq-eqb x f e) in omega (arith, h, i)
    by later (inr n) =
        let h = occurs_not f x xs n in
        let i : occurs f (without f (x ∷ xs)) ≡ occurs f (x ∷ without f xs)
        = ap (λ c. occurs f (cond c xs (x ∷ without f xs))) (ne_eqb x f n) in
        let j = occurs_not f x (without f xs) n in
        let k = later (λ e. o (h ∙ e)) in
        omega (arith, h, i, j, k)

pub without_long : (f : ℕ) (xs : List ℕ) → occurs f xs ≢ 0 → length (without f xs) + 1 ≡ length xs
without_long f [] o = absurd (o refl)
without_long f (x ∷ xs) o = by (without_long f xs) (cases_eq x f)
  where
    by : (occurs f xs ≢ 0 → length (without f xs) + 1 ≡ length xs) → (x ≡ f) ⊎ (x ≡ f → ⊥) → length (without f (x ∷ xs)) + 1 ≡ length (x ∷ xs)
    by later (inl e) = let i : length (without f (x ∷ xs)) ≡ length xs
        = ap (λ c. length (cond c xs (x ∷ without f xs))) (eq-eqb x f e) in omega (arith, i)
    by later (inr n) =
        let i : length (without f (x ∷ xs)) ≡ length (x ∷ without f xs)
        = ap (λ c. length (cond c xs (x ∷ without f xs))) (ne_eqb x f n) in
        let k = later (λ e. o (occurs_not f x xs n ∙ e)) in
        omega (arith, i, k)
