-- The totals while a count is turned.
use Rattle.std.proofs.Common.{ℕ, ◌≡◌, ◌≤◌, ◌<◌, ◌+◌, ◌-◌, ◌*◌, ◌∙◌, zero, suc, List, [], ◌∷◌, set, take, get_or, length}
use Rattle.std.proofs.Common.{slice_index, refl, sym, ap, arith, sum_by, ◌⊎◌, inl, inr, get_or-set_same}
use Rattle.std.specs.List.{range_with_len}
use Rattle.std.proofs.lemmas.Bool.{cases_eq}
use Rattle.std.proofs.lemmas.List.{length-set, take_all, get_or-set_other}
use Rattle.std.proofs.lemmas.List.Sums.{sum_by-cons, sum_by-set, sum_by_more, get_or-le-sum_by}
use Rattle.std.proofs.lemmas.Option.{slice_get-get_or, get_or_from_slice_get}
use Rattle.khe_base.specs.declared.limits.TheConstants.{GREATEST_COUNT, TIMES}
use Rattle.khe_instance.proofs.SumsLemmas.{sum_by_range_more}
use Rattle.timetables.specs.Counts.{row_of, count_at, with_count}
use Rattle.resource_monitors.specs.Clashes.{HasClashes, clashes_of}

-- what is read at a place
pub read_at : (xs : List ℕ) (i v : ℕ) → i < length xs → v ≡ get_or xs i v → v ≡ slice_index xs i
read_at xs i v l is = is ∙ get_or_from_slice_get xs i (get_or xs i 0) v (slice_get-get_or xs i 0 l)

-- a sum over the times is one over the row
over_times : (row : List ℕ) (n : ℕ) → n ≤ length row
    → sum_by (λ k. k - 1) (take n row) ≡ sum_by (λ t. slice_index row t - 1) (range_with_len 0 n)
over_times row zero l = refl
over_times row (suc n) l =
    let e : suc n ≡ n + 1 = omega arith in
    ap (λ k. sum_by (λ m. m - 1) (take k row)) e
    ∙ sum_by_more (λ m. m - 1) row n 0 (omega (arith, l))
    ∙ ap (λ s. s + (slice_index row n - 1)) (over_times row n (omega (arith, l)))
    ∙ sym (ap (λ k. sum_by (λ t. slice_index row t - 1) (range_with_len 0 k)) e
    ∙ sum_by_range_more (λ t. slice_index row t - 1) n)

pub by_times : (row : List ℕ) → clashes_of row ≡ sum_by (λ t. slice_index row t - 1) (range_with_len 0 (length row))
by_times row = ap clashes_of (sym (take_all (length row) row (omega arith))) ∙ over_times row (length row) (omega arith)

few_in : (row : List ℕ) → ((t : ℕ) → slice_index row t ≤ GREATEST_COUNT) → clashes_of row ≤ length row * GREATEST_COUNT
few_in [] h = omega arith
few_in (n ∷ row) h =
    let a = sum_by-cons (λ (m : ℕ). m - 1) n row in
    let b = few_in row (λ t. h (suc t)) in
    let c = h 0 in
    omega (arith, a, b, c)

-- totals are small
pub total_small : (rows : List (List ℕ)) (totals : List ℕ) → HasClashes rows totals → (r : ℕ)
    → slice_index totals r ≤ TIMES * GREATEST_COUNT
total_small rows totals h r =
    let a = few_in (row_of rows r) (h.few r) in
    let b = h.short r in
    let c = h.each r in
    omega (arith, a, b, c)

module _ (rows : List (List ℕ)) (totals : List ℕ) (h : HasClashes rows totals) (r t : ℕ) (there : r < length rows)
    (time : t < length (row_of rows r)) where
  -- one count's part
  pub part : count_at rows r t - 1 ≤ slice_index totals r
  part =
      let a = get_or-le-sum_by (λ (m : ℕ). m - 1) (row_of rows r) t 0 time in
      let e = h.each r in
      omega (arith, a, e)

  -- another count
  pub total_turned : (n : ℕ) → n ≤ GREATEST_COUNT
      → HasClashes (with_count rows r t n) (set totals r (slice_index totals r + (n - 1) - (count_at rows r t - 1)))
  total_turned n l = record {
    amount = length-set totals r total ∙ h.amount ∙ sym (length-set rows r row);
    short = λ q. short q (cases_eq q r);
    few = λ q u. few q u (cases_eq q r) (cases_eq u t);
    each = λ q. each q (cases_eq q r);
  }
    where
      row : List ℕ
      row = set (row_of rows r) t n

      total : ℕ
      total = slice_index totals r + (n - 1) - (count_at rows r t - 1)

      here : (q : ℕ) → q ≡ r → row_of (set rows r row) q ≡ row
      here q e = ap (row_of (set rows r row)) e ∙ get_or-set_same rows r row [] there

      away : (q : ℕ) → (q ≡ r → ⊥) → row_of (set rows r row) q ≡ row_of rows q
      away q e = get_or-set_other rows r q row [] e

      short : (q : ℕ) → (q ≡ r) ⊎ (q ≡ r → ⊥) → length (row_of (set rows r row) q) ≤ TIMES
      short q (inl e) = let a = ap length (here q e) in let b = length-set (row_of rows r) t n in let c = h.short r in
          omega (arith, a, b, c)
      short q (inr e) = let a = ap length (away q e) in let c = h.short q in omega (arith, a, c)

      few : (q u : ℕ) → (q ≡ r) ⊎ (q ≡ r → ⊥) → (u ≡ t) ⊎ (u ≡ t → ⊥) → count_at (set rows r row) q u ≤ GREATEST_COUNT
      few q u (inl e) (inl f) = let a = ap (λ xs. slice_index xs u) (here q e) ∙ ap (slice_index row) f
          ∙ get_or-set_same (row_of rows r) t n 0 time in omega (arith, a, l)
      few q u (inl e) (inr f) = let a = ap (λ xs. slice_index xs u) (here q e)
          ∙ get_or-set_other (row_of rows r) t u n 0 f in let b = h.few r u in omega (arith, a, b)
      few q u (inr e) f = let a = ap (λ xs. slice_index xs u) (away q e) in let b = h.few q u in omega (arith, a, b)

      same : slice_index (set totals r total) r ≡ clashes_of row
      same =
          let a = get_or-set_same totals r total 0 (let z = h.amount in omega (arith, z, there)) in
          let b = sum_by-set (λ (m : ℕ). m - 1) (row_of rows r) t n 0 time in
          let c = h.each r in
          omega (arith, a, b, c)

      each : (q : ℕ) → (q ≡ r) ⊎ (q ≡ r → ⊥) → slice_index (set totals r total) q
          ≡ clashes_of (row_of (set rows r row) q)
      each q (inl e) = ap (slice_index (set totals r total)) e ∙ same ∙ sym (ap clashes_of (here q e))
      each q (inr e) = get_or-set_other totals r q total 0 e ∙ h.each q ∙ sym (ap clashes_of (away q e))
