-- A list of those that wait, each once, while one comes or goes.
use Rattle.std.proofs.Common.{◌≡◌, ◌≢◌, ◌∙◌, sym, ap, refl, ℕ, ◌+◌, ◌<◌, ◌≤◌, ◌⊎◌, inl, inr, Bool, true, false, cond}
use Rattle.std.proofs.Common.{List, [], ◌∷◌, ◌++◌, nat_eq, length, length-append, length-set, get_or, set, arith, zero-add}
use Rattle.std.proofs.lemmas.Bool.Decides.{nat_tests}
use Rattle.std.proofs.lemmas.Bool.{false≢true}
use Rattle.std.proofs.lemmas.List.{get_or-set_same, get_or-set_other, get_or_past}
use Rattle.std.proofs.lemmas.List.Sums.{sum_by-append, sum_by-set, count_by-le-length}
use Rattle.std.specs.List.{count_by}
use Rattle.khe_base.specs.declared.numbers.MonitorId.{MonitorId}
use Rattle.khe_told.specs.Waits.{AreListedOnce}

-- 1 for true, and 0 for false
abbrev one_if : Bool → ℕ
one_if b = cond {A = ℕ} b 1 0

-- how often a number is in a list
abbrev often : ℕ → List MonitorId → ℕ
often k xs = count_by (λ (n : MonitorId). nat_eq n.0 k) xs

same_number : (k : ℕ) → nat_eq k k ≡ true
same_number k = grind (arith, nat_tests)

is_same : (a b : ℕ) → nat_eq a b ≡ true → a ≡ b
is_same a b h = grind (arith, nat_tests, h)

is_other : (a b : ℕ) → nat_eq a b ≡ false → b ≢ a
is_other a b h e = false≢true (sym h ∙ ap (nat_eq a) e ∙ same_number a)

last_one : (k : ℕ) (xs : List MonitorId) (m : MonitorId) → often k (xs ++ m ∷ []) ≡ often k xs + one_if (nat_eq m.0 k)
last_one k xs m = sum_by-append (λ (n : MonitorId). one_if (nat_eq n.0 k)) xs (m ∷ [])
    ∙ ap (λ n. often k xs + n) (zero-add (one_if (nat_eq m.0 k)))

pub within : (flags : List Bool) (k : ℕ) → get_or flags k false ≡ true → k < length flags
within flags k h = by (grind arith)
  where
    by : (k < length flags) ⊎ (length flags ≤ k) → k < length flags
    by (inl l) = l
    by (inr l) = absurd (false≢true (sym (get_or_past flags k false l) ∙ h))

pub flagged : (xs : List MonitorId) (m : MonitorId) (flags : List Bool) → AreListedOnce (xs ++ m ∷ []) flags
    → get_or flags m.0 false ≡ true
flagged xs m flags h = by (get_or flags m.0 false) refl
  where
    by : (b : Bool) → get_or flags m.0 false ≡ b → get_or flags m.0 false ≡ true
    by true e = e
    by false e =
        let a = last_one m.0 xs m in
        let b : one_if (nat_eq m.0 m.0) ≡ 1 = ap one_if (same_number m.0) in
        let d : often m.0 (xs ++ m ∷ []) ≡ 0 = h.once m.0 ∙ ap one_if e in
        absurd (omega (arith, a, b, d))

-- without the last one
pub popped : (xs : List MonitorId) (m : MonitorId) (flags : List Bool) → AreListedOnce (xs ++ m ∷ []) flags
    → AreListedOnce xs (set flags m.0 false)
popped xs m flags h = record { once = once; amount = amount }
  where
    is : get_or flags m.0 false ≡ true
    is = flagged xs m flags h

    l : m.0 < length flags
    l = within flags m.0 is

    once : (k : ℕ) → often k xs ≡ one_if (get_or (set flags m.0 false) k false)
    once k = by (nat_eq m.0 k) refl
      where
        by : (b : Bool) → nat_eq m.0 k ≡ b → often k xs ≡ one_if (get_or (set flags m.0 false) k false)
        by true e =
            let a = last_one k xs m in
            let d : one_if (nat_eq m.0 k) ≡ 1 = ap one_if e in
            let f : often k (xs ++ m ∷ []) ≡ 1 = h.once k ∙ ap one_if (ap (λ n. get_or flags n false) (sym (is_same m.0 k e)) ∙ is) in
            let g : one_if (get_or (set flags m.0 false) k false) ≡ 0 = ap one_if
            (ap (λ n. get_or (set flags m.0 false) n false) (sym (is_same m.0 k e)) ∙ get_or-set_same flags m.0 false false l) in
            omega (arith, a, d, f, g)
        by false e =
            let a = last_one k xs m in
            let d : one_if (nat_eq m.0 k) ≡ 0 = ap one_if e in
            let f = h.once k in
            let g : one_if (get_or (set flags m.0 false) k false) ≡ one_if (get_or flags k false) = ap one_if
            (get_or-set_other flags m.0 k false false (is_other m.0 k e)) in
            omega (arith, a, d, f, g)

    amount : length xs ≡ count_by (λ (b : Bool). b) (set flags m.0 false)
    amount =
        let a : count_by (λ (b : Bool). b) (set flags m.0 false) + one_if (get_or flags m.0 false) ≡ count_by (λ (b : Bool). b) flags + 0 = sum_by-set one_if flags m.0 false false l in
        let b : one_if (get_or flags m.0 false) ≡ 1 = ap one_if is in
        let d : length xs + 1 ≡ count_by (λ (b : Bool). b) flags = sym (length-append xs (m ∷ [])) ∙ h.amount in
        omega (arith, a, b, d)

one_more : (m : ℕ) (flags : List Bool) → m < length flags → get_or flags m false ≡ false
    → count_by (λ (b : Bool). b) (set flags m true) ≡ count_by (λ (b : Bool). b) flags + 1
one_more m flags l is =
    let a : count_by (λ (b : Bool). b) (set flags m true) + one_if (get_or flags m false) ≡ count_by (λ (b : Bool). b) flags + 1 = sum_by-set one_if flags m true false l in
    let b : one_if (get_or flags m false) ≡ 0 = ap one_if is in
    omega (arith, a, b)

-- with one more that did not wait
pub pushed : (xs : List MonitorId) (m : MonitorId) (flags : List Bool) → m.0 < length flags
    → get_or flags m.0 false ≡ false → AreListedOnce xs flags → AreListedOnce (xs ++ m ∷ []) (set flags m.0 true)
pushed xs m flags l is h = record { once = once; amount = amount }
  where
    once : (k : ℕ) → often k (xs ++ m ∷ []) ≡ one_if (get_or (set flags m.0 true) k false)
    once k = by (nat_eq m.0 k) refl
      where
        by : (b : Bool) → nat_eq m.0 k ≡ b → often k (xs ++ m ∷ []) ≡ one_if (get_or (set flags m.0 true) k false)
        by true e =
            let a = last_one k xs m in
            let d : one_if (nat_eq m.0 k) ≡ 1 = ap one_if e in
            let f : often k xs ≡ 0 = h.once k ∙ ap one_if (ap (λ n. get_or flags n false) (sym (is_same m.0 k e)) ∙ is) in
            let g : one_if (get_or (set flags m.0 true) k false) ≡ 1 = ap one_if
            (ap (λ n. get_or (set flags m.0 true) n false) (sym (is_same m.0 k e)) ∙ get_or-set_same flags m.0 true false l) in
            omega (arith, a, d, f, g)
        by false e =
            let a = last_one k xs m in
            let d : one_if (nat_eq m.0 k) ≡ 0 = ap one_if e in
            let f = h.once k in
            let g : one_if (get_or (set flags m.0 true) k false) ≡ one_if (get_or flags k false) = ap one_if
            (get_or-set_other flags m.0 k true false (is_other m.0 k e)) in
            omega (arith, a, d, f, g)

    amount : length (xs ++ m ∷ []) ≡ count_by (λ (b : Bool). b) (set flags m.0 true)
    amount =
        let a = one_more m.0 flags l is in
        let d : length (xs ++ m ∷ []) ≡ length xs + 1 = length-append xs (m ∷ []) in
        let f = h.amount in
        omega (arith, a, d, f)

-- where one does not wait, fewer wait than there are
pub has_room : (xs : List MonitorId) (m : ℕ) (flags : List Bool) → m < length flags → get_or flags m false ≡ false
    → AreListedOnce xs flags → length xs < length flags
has_room xs m flags l is h =
    let a = one_more m flags l is in
    let b : count_by (λ (b : Bool). b) (set flags m true) ≤ length (set flags m true) = count_by-le-length (λ (b : Bool). b) (set flags m true) in
    let d : length (set flags m true) ≡ length flags = length-set flags m true in
    let f = h.amount in
    omega (arith, a, b, d, f)

pub nobody : (flags : List Bool) → AreListedOnce [] flags → (k : ℕ) → get_or flags k false ≡ false
nobody flags h k = by (get_or flags k false) refl
  where
    by : (b : Bool) → get_or flags k false ≡ b → get_or flags k false ≡ false
    by false e = e
    by true e =
        let a : 0 ≡ 1 = h.once k ∙ ap one_if e in
        absurd (omega (arith, a))
