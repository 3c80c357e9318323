-- Counts of the numbers below a bound that pass a test.
use Rattle.std.proofs.Common.{ℕ, zero, suc, ◌+◌, ◌<◌, ◌≤◌, ◌≡◌, Bool, true, false, ◌&&◌, not, eqb, refl, sym, ◌∙◌}
use Rattle.std.proofs.Common.{arith, inl, inr, ◌⊎◌}
use Rattle.std.proofs.lemmas.Bool.{cases_Bool, and_from, or_cases, or_left, or_right, eqb-true, eqb-false, eq-eqb}
use Rattle.std.proofs.lemmas.Bool.{ne_eqb, not_from_false, false≢true}
use Rattle.demand_matching.specs.Counts.{count_below, any_below}

pub cases_eqb : (k n : ℕ) → (k ≡ n) ⊎ (k ≡ n → ⊥)
cases_eqb k n = elim (cases_Bool (eqb k n)) [ inl t ↦ inl (eqb-true k n t) | inr f ↦ inr (eqb-false k n f) ]

pub cases_last : (k n : ℕ) → k < suc n → (k ≡ n) ⊎ (k < n)
cases_last k n l = elim (cases_eqb k n) [ inl e ↦ inl e | inr d ↦ inr (omega arith) ]

and_true : (b : Bool) → b ≡ b && not false
and_true b = elim b as (λ v. v ≡ v && not false) [ true ↦ refl | false ↦ refl ]

pub count-true : (n : ℕ) (p : ℕ → Bool) → p n ≡ true → count_below (suc n) p ≡ suc (count_below n p)
unfolding count_below
count-true n p h = rw h (omega arith)

pub count-false : (n : ℕ) (p : ℕ → Bool) → p n ≡ false → count_below (suc n) p ≡ count_below n p
unfolding count_below
count-false n p h = rw h (omega arith)

-- one number at a time
pub count_cases : (n : ℕ) (p : ℕ → Bool) → ((p n ≡ true) × (count_below (suc n) p ≡ suc (count_below n p)))
    ⊎ ((p n ≡ false) × (count_below (suc n) p ≡ count_below n p))
count_cases n p =
    elim (cases_Bool (p n)) [ inl t ↦ inl (t, count-true n p t) | inr f ↦ inr (f, count-false n p f) ]

pub count-zero : (p : ℕ → Bool) → count_below 0 p ≡ 0
unfolding count_below
count-zero p = refl

pub count_all : (n : ℕ) → count_below n (λ _. true) ≡ n
count_all zero = count-zero (λ _. true)
count_all (suc n) = omega (arith, count-true n (λ _. true) refl, count_all n)

pub count_subset : (n : ℕ) (p q : ℕ → Bool) → ((k : ℕ) → k < n → p k ≡ true → q k ≡ true)
    → count_below n p ≤ count_below n q
count_subset zero p q h = omega (arith, count-zero p)
count_subset (suc n) p q h =
    let rest : count_below n p ≤ count_below n q = count_subset n p q (λ k l. h k (omega arith)) in
    elim (count_cases n p) [
      | inl t ↦ omega (arith, t.1, rest, count-true n q (h n (omega arith) t.0))
      | inr f ↦ elim (count_cases n q) [ inl s ↦ omega (arith, f.1, s.1, rest) | inr s ↦ omega (arith, f.1, s.1, rest) ]
    ]

-- a subset with as many numbers has all of them
pub count_full : (n : ℕ) (p q : ℕ → Bool) → ((k : ℕ) → k < n → p k ≡ true → q k ≡ true)
    → count_below n q ≤ count_below n p → (k : ℕ) → k < n → q k ≡ true → p k ≡ true
count_full zero p q h c k l e = absurd (omega arith)
count_full (suc n) p q h c k l e =
    let below : (k : ℕ) → k < n → p k ≡ true → q k ≡ true = λ k l. h k (omega arith) in
    let rest : count_below n p ≤ count_below n q = count_subset n p q below in
    elim (count_cases n p) [
      | inl t ↦
          let s : count_below (suc n) q ≡ suc (count_below n q) = count-true n q (h n (omega arith) t.0) in
          elim (cases_last k n l) [
            | inl at ↦ rw at t.0
            | inr less ↦ count_full n p q below (omega (arith, t.1)) k less e
          ]
      | inr f ↦ elim (count_cases n q) [
        | inl s ↦ absurd (omega (arith, f.1, s.1, rest))
        | inr s ↦ elim (cases_last k n l) [
          | inl at ↦ absurd (false≢true (sym s.0 ∙ rw at at e))
          | inr less ↦ count_full n p q below (omega (arith, f.1, s.1)) k less e
        ]
      ]
    ]

pub count_same : (n : ℕ) (p q : ℕ → Bool) → ((k : ℕ) → k < n → p k ≡ q k) → count_below n p ≡ count_below n q
count_same n p q h =
    let one : count_below n p ≤ count_below n q = count_subset n p q (λ k l e. sym (h k l) ∙ e) in
    let two : count_below n q ≤ count_below n p = count_subset n q p (λ k l e. h k l ∙ e) in
    omega arith

-- those that pass a second test, and those that do not
pub count_split : (n : ℕ) (p q : ℕ → Bool) → count_below n p
    ≡ count_below n (λ k. p k && q k) + count_below n (λ k. p k && not (q k))
count_split zero p q = omega (arith, count-zero p, count-zero (λ k. p k && q k), count-zero (λ k. p k && not (q k)))
count_split (suc n) p q =
    let yes : ℕ → Bool = λ k. p k && q k in
    let no : ℕ → Bool = λ k. p k && not (q k) in
    elim (count_cases n p) [
      | inl t ↦ elim (cases_Bool (q n)) [
        | inl s ↦ omega (
          arith,
          t.1,
          count_split n p q,
          count-true n yes (rw (t.0, s) refl),
          count-false n no
              (rw (t.0, s) refl),
        )
        | inr s ↦ omega (
          arith,
          t.1,
          count_split n p q,
          count-false n yes (rw (t.0, s) refl),
          count-true n no
              (rw (t.0, s) refl),
        )
      ]
      | inr f ↦ omega (arith, f.1, count_split n p q, count-false n yes (rw f.0 refl), count-false n no (rw f.0 refl))
    ]

-- without one number that passes
pub count_without : (n : ℕ) (p : ℕ → Bool) (j : ℕ) → j < n → p j ≡ true
    → count_below n p ≡ suc (count_below n (λ k. p k && not (eqb k j)))
count_without zero p j l e = absurd (omega arith)
count_without (suc n) p j l e =
    let rest : ℕ → Bool = λ k. p k && not (eqb k j) in
    elim (cases_last j n l) [
      | inl at ↦
          let top : rest n ≡ false = rw (← at, e, eq-eqb j j refl) refl in
          let low : count_below n p ≡ count_below n rest =
          count_same n p rest (λ k m. rw (ne_eqb k j (λ x. absurd (omega arith))) (and_true (p k))) in
          omega (arith, count-true n p (rw (← at) e), count-false n rest top, low)
      | inr less ↦
          let same : rest n ≡ p n = rw (ne_eqb n j (λ x. absurd (omega arith))) (sym (and_true (p n))) in
          elim (count_cases n p) [
            | inl t ↦ omega (arith, t.1, count_without n p j less e, count-true n rest (same ∙ t.0))
            | inr f ↦ omega (arith, f.1, count_without n p j less e, count-false n rest (same ∙ f.0))
          ]
    ]

-- a relation that gives each number a partner, and no two the same, leads to no fewer partners
pub count_partners : (n m : ℕ) (p q : ℕ → Bool) (R : ℕ → ℕ → Type 0)
    → ((k : ℕ) → k < n → p k ≡ true → (s : ℕ) × (s < m) × (q s ≡ true) × R k s) → ((j k s : ℕ) → R j s → R k s → j ≡ k)
    → count_below n p ≤ count_below m q
count_partners zero m p q R h apart = omega (arith, count-zero p)
count_partners (suc n) m p q R h apart =
    elim (count_cases n p) [
      | inl t ↦
          let at = h n (omega arith) t.0 in
          let rest : ℕ → Bool = λ k. q k && not (eqb k at.0) in
          let low : count_below n p ≤ count_below m rest =
          count_partners n m p rest R (λ k l e. let it = h k (omega arith) e in (
            it.0,
            it.1,
            and_from (q it.0) (not (eqb it.0 at.0)) it.2
                (not_from_false (eqb it.0 at.0) (ne_eqb it.0 at.0
                (λ x. absurd (let clash : k ≡ n = apart k n at.0 (rw x at it.3) at.3 in omega arith)))),
            it.3,
          )) apart in
          omega (arith, t.1, low, count_without m q at.0 at.1 at.2)
      | inr f ↦ omega (arith, f.1, count_partners n m p q R (λ k l. h k (omega arith)) apart)
    ]

-- one number below n that passes
pub any_at : (n : ℕ) (p : ℕ → Bool) → any_below n p ≡ true → (k : ℕ) × (k < n) × (p k ≡ true)
unfolding any_below
any_at zero p h = absurd (false≢true h)
any_at (suc n) p h =
    elim (or_cases (p n) (any_below n p) h) [
      | inl t ↦ (n, omega arith, t)
      | inr r ↦ let it = any_at n p r in (it.0, omega arith, it.2)
    ]

pub any_from : (n : ℕ) (p : ℕ → Bool) (k : ℕ) → k < n → p k ≡ true → any_below n p ≡ true
unfolding any_below
any_from zero p k l h = absurd (omega arith)
any_from (suc n) p k l h =
    elim (cases_last k n l) [
      | inl at ↦ or_left (p n) (any_below n p) (rw (← at) h)
      | inr less ↦ or_right (p n) (any_below n p) (any_from n p k less h)
    ]
